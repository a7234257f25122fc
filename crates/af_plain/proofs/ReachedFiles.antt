-- A search from the tables along queues and backlogs ends at what is reached.
use Rattle.std.proofs.Common.{◌≡◌, ◌<◌, ℕ, ◌+◌, Bool, true, false, ◌⊎◌, inl, inr, List, [], ◌∷◌, ◌++◌, length, take, get_or, map, refl, sym, ap, ◌∙◌, subst, cond, nat_eq}
use Rattle.std.specs.Prelude.{Some, option_map, ◌↔◌, is_some, not}
use Rattle.std.specs.Option.{option_map_or}
use Rattle.std.specs.List.{Contains, flat_map, find, filter}
use Rattle.std.specs.Ordering.{nat_cmp}
use Rattle.std.specs.BTreeSet as tree
use Rattle.std.specs.BTreeSet.{BTreeSet}
use Rattle.std.specs.Cmp.{nat_cmp_total}
use Rattle.std.specs.FinMap as finmap
use Rattle.std.proofs.lemmas.Bool.{eq-eqb, false≢true, not-true}
use Rattle.std.proofs.lemmas.List.Elements.{All-contains, All-contains_itself, All-filter, filter_passes, filter-append, Contains-append_left, Contains-append_right, Contains-push, Contains-push_cases}
use Rattle.std.proofs.lemmas.List.{take_more, map-append}
use Rattle.std.proofs.lemmas.List.Kept.{IsStrictlyIncreasing-filter}
use Rattle.std.proofs.lemmas.Map.Keys.{IsStrictlyIncreasing-from_sorted}
use Rattle.std.proofs.lemmas.Map.Lookups.{exact_unsigned}
use Rattle.std.proofs.lemmas.Map.Views.{btree_set_contains_iff}
use Rattle.af_base.specs.World.{World, is_live}
use Rattle.af_base.specs.Places.{Holds, InTable, contents, held_by, held_in}
use Rattle.af_base.specs.Counts.{count_in, one, tabled, total_of}
use Rattle.af_base.specs.Listing.{AreFiles, AreTables, file_of, files_of, inos_of, processes_of}
use Rattle.af_base.specs.Reached.{BySocket, ByTable, Garbage, Reached}
use Rattle.af_base.specs.declared.listing.ListedFile.{ListedFile}
use Rattle.af_base.specs.declared.listing.ListedTable.{ListedTable}
use Rattle.af_base.proofs.Elements.{Contains-first, Contains-later, Contains-none, Contains-rest}
use Rattle.af_base.proofs.Lookups.{same_or_not}
use Rattle.af_base.proofs.PlacesAndCounts.{Contains-count, InTable-tabled, count-Contains, tabled-InTable}
use Rattle.af_base.proofs.MapsOfLists.{keyed-get}
use Rattle.af_base.proofs.PlaceLists.{count_tabled}
use Rattle.af_plain.specs.Marking.{IsListOf, Marks}
use Rattle.af_plain.specs.declared.reach.Marking.{Marking}

-- The files held by the tables of a list are those held by the tables of its world.
pub tabled_listed : (w : World) (tables : List ListedTable) → w.processes ≡ processes_of tables → AreTables tables → (f : ℕ) → Contains (flat_map inos_of tables) f ↔ InTable w f
tabled_listed w tables is ordered f =
    let counted : count_in f (flat_map inos_of tables) ≡ tabled w f = count_tabled tables [] ordered f ∙ sym (ap (total_of (λ p. total_of (λ g. one f g) p.table)) is) in
    (λ h. InTable-tabled w f (subst (λ n. 0 < n) counted (count-Contains f (flat_map inos_of tables) h)), λ t. Contains-count f (flat_map inos_of tables) (subst (λ n. 0 < n) (sym counted) (tabled-InTable w f t)))

-- All that the files of a list hold.
abbrev pub all_held : List ListedFile → List ℕ
all_held files = flat_map (λ x. contents (file_of x)) files

-- The files held by one of them, as a walk finds it.
pub held_found : (files : List ListedFile) (s : ℕ) → held_in (files_of files) s ≡ option_map_or contents (option_map file_of (find (λ x. nat_eq s x.ino) files)) []
held_found files s = ap (λ o. option_map_or contents o []) (keyed-get (λ x. x.ino) file_of files s)

-- It is among all.
pub held_listed : (files : List ListedFile) (s f : ℕ) → Contains (held_in (files_of files) s) f → Contains (all_held files) f
held_listed files s f h = walk files (subst (λ xs. Contains xs f) (held_found files s) h) where
  either : (b : Bool) (x : ListedFile) (xs : List ListedFile) → (Contains (option_map_or contents (option_map file_of (find (λ y. nat_eq s y.ino) xs)) []) f → Contains (all_held xs) f)
      → Contains (option_map_or contents (option_map file_of (cond b (Some x) (find (λ y. nat_eq s y.ino) xs))) []) f → Contains (all_held (x ∷ xs)) f
  either true x xs rest h = Contains-append_left (contents (file_of x)) (all_held xs) f h
  either false x xs rest h = Contains-append_right (contents (file_of x)) (all_held xs) f (rest h)

  walk : (xs : List ListedFile) → Contains (option_map_or contents (option_map file_of (find (λ y. nat_eq s y.ino) xs)) []) f → Contains (all_held xs) f
  walk [] h = absurd (Contains-none f h)
  walk (x ∷ xs) h = either (nat_eq s x.ino) x xs (walk xs) h

-- So far: what was found is reached, what tables hold was found, and what a found socket holds was
-- found or the socket is still to be looked at.
pub record Searches (w : World) (m : Marking) : Type 0 where
  pub sound : (f : ℕ) → tree.contains nat_cmp m.marked f ≡ true → Reached w f
  pub tables : (f : ℕ) → InTable w f → tree.contains nat_cmp m.marked f ≡ true
  pub closed : (s f : ℕ) → tree.contains nat_cmp m.marked s ≡ true → Holds w s f → (tree.contains nat_cmp m.marked f ≡ true) ⊎ Contains m.ahead.items s
  pub ahead : (s : ℕ) → Contains m.ahead.items s → tree.contains nat_cmp m.marked s ≡ true

-- It begins with what tables hold.
pub searches-begin : (w : World) (old new : Marking) (held : List ℕ) → old.marked.keys ≡ [] → old.ahead.items ≡ [] → ((f : ℕ) → Contains held f ↔ InTable w f) → Marks old new held → Searches w new
searches-begin w old new held none nothing tabled m = record {
  sound = λ f e. elim (m.only f e) [ inl e ↦ absurd (empty f e) | inr h ↦ ByTable f ((tabled f).0 h) ];
  tables = λ f t. m.marked f ((tabled f).1 t);
  closed = λ s f e h. elim (m.fresh s e) [ inl e ↦ absurd (empty s e) | inr a ↦ inr a ];
  ahead = λ s a. elim (m.ahead s a) [ inl a ↦ absurd (Contains-none s (subst (λ xs. Contains xs s) nothing a)) | inr h ↦ m.marked s h ];
} where
  empty : (f : ℕ) → tree.contains nat_cmp old.marked f ≡ true → ⊥
  empty f e = false≢true (sym (ap (λ ks. tree.contains nat_cmp (record { keys = ks }) f) none) ∙ e)

-- The search continues with the files that one file holds.
pub searches-step : (w : World) (old popped new : Marking) (s : ℕ) → popped.marked ≡ old.marked → old.ahead.items ≡ popped.ahead.items ++ s ∷ [] → Searches w old → Marks popped new (held_by w s) → Searches w new
searches-step w old popped new s same ahead h m = record {
  sound = λ f e. elim (m.only f e) [
    | inl e ↦ h.sound f (back f e)
    | inr e ↦ BySocket s f (h.sound s (h.ahead s (subst (λ xs. Contains xs s) (sym ahead) (Contains-push popped.ahead.items s)))) e
  ];
  tables = λ f t. m.kept f (forth f (h.tables f t));
  closed = λ t f e held. elim (m.fresh t e) [
    | inl e ↦ elim (h.closed t f (back t e) held) [
      | inl e ↦ inl (m.kept f (forth f e))
      | inr a ↦ elim (Contains-push_cases popped.ahead.items s t (subst (λ xs. Contains xs t) ahead a)) [
        | inl a ↦ inr (m.stays t a)
        | inr e ↦ inl (m.marked f (subst (λ q. Contains (held_by w q) f) (sym e) held))
      ]
    ]
    | inr a ↦ inr a
  ];
  ahead = λ t a. elim (m.ahead t a) [
    | inl a ↦ m.kept t (forth t (h.ahead t (subst (λ xs. Contains xs t) (sym ahead) (Contains-append_left popped.ahead.items (s ∷ []) t a))))
    | inr e ↦ m.marked t e
  ];
} where
  back : (f : ℕ) → tree.contains nat_cmp popped.marked f ≡ true → tree.contains nat_cmp old.marked f ≡ true
  back f e = sym (ap (λ k. tree.contains nat_cmp k f) same) ∙ e

  forth : (f : ℕ) → tree.contains nat_cmp old.marked f ≡ true → tree.contains nat_cmp popped.marked f ≡ true
  forth f e = ap (λ k. tree.contains nat_cmp k f) same ∙ e

-- It ends where none is left to look at.
pub searches-end : (w : World) (m : Marking) → m.ahead.items ≡ [] → Searches w m → (f : ℕ) → (tree.contains nat_cmp m.marked f ≡ true) ↔ Reached w f
searches-end w m none h f = (h.sound f, found f) where
  found : (f : ℕ) → Reached w f → tree.contains nat_cmp m.marked f ≡ true
  found _ (ByTable f t) = h.tables f t
  found _ (BySocket s f r held) = elim (h.closed s f (found s r) held) [
    | inl e ↦ e
    | inr a ↦ absurd (Contains-none s (subst (λ xs. Contains xs s) none a))
  ]

-- A set in order lists what it has.
pub set_lists : (P : ℕ → Type 0) (s : BTreeSet ℕ) → tree.IsOrdered nat_cmp s → ((f : ℕ) → (tree.contains nat_cmp s f ≡ true) ↔ P f) → IsListOf P s.keys
set_lists P s ordered h = (
  IsStrictlyIncreasing-from_sorted s.keys ordered,
  λ f.
      let has = btree_set_contains_iff nat_cmp_total exact_unsigned s f in
      (λ c. (h f).0 (has.1 c), λ p. has.0 ((h f).1 p)),
)

-- A number is among those of the files where a file has it.
listed-live : (files : List ListedFile) (f : ℕ) → Contains (map (λ x. x.ino) files) f ↔ (is_some (option_map file_of (find (λ x. nat_eq f x.ino) files)) ≡ true)
listed-live files f = (there files, found files) where
  there : (xs : List ListedFile) → Contains (map (λ x. x.ino) xs) f → is_some (option_map file_of (find (λ x. nat_eq f x.ino) xs)) ≡ true
  there [] h = absurd (Contains-none f h)
  there (x ∷ xs) h = elim (same_or_not f x.ino) [
    | inl e ↦ ap (λ b. is_some (option_map file_of (cond b (Some x) (find (λ y. nat_eq f y.ino) xs)))) (eq-eqb f x.ino e)
    | inr d ↦ ap (λ b. is_some (option_map file_of (cond b (Some x) (find (λ y. nat_eq f y.ino) xs)))) d ∙ there xs (Contains-rest x.ino (map (λ y. y.ino) xs) f h (λ e. false≢true (sym d ∙ eq-eqb f x.ino (sym e))))
  ]

  found : (xs : List ListedFile) → is_some (option_map file_of (find (λ x. nat_eq f x.ino) xs)) ≡ true → Contains (map (λ x. x.ino) xs) f
  found [] e = absurd (false≢true e)
  found (x ∷ xs) e = elim (same_or_not f x.ino) [
    | inl s ↦ subst (λ y. Contains (x.ino ∷ map (λ y. y.ino) xs) y) (sym s) (Contains-first x.ino (map (λ y. y.ino) xs))
    | inr d ↦ Contains-later x.ino (map (λ y. y.ino) xs) f (found xs (sym (ap (λ b. is_some (option_map file_of (cond b (Some x) (find (λ y. nat_eq f y.ino) xs)))) d) ∙ e))
  ]

-- An element of a list that passes a test is in the filtered list.
kept-passes : (test : ℕ → Bool) (xs : List ℕ) (f : ℕ) → test f ≡ true → Contains xs f → Contains (filter test xs) f
kept-passes test [] f t h = h
kept-passes test (x ∷ xs) f t h = elim (same_or_not x f) [
  | inl e ↦ subst (λ b. Contains (cond b (x ∷ filter test xs) (filter test xs)) f) (sym (ap test e ∙ t)) (subst (λ y. Contains (x ∷ filter test xs) y) e (Contains-first x (filter test xs)))
  | inr d ↦
      let rest = kept-passes test xs f t (Contains-rest x xs f h (λ e. false≢true (sym d ∙ eq-eqb x f e))) in
      either (test x) rest
] where
  either : (b : Bool) → Contains (filter test xs) f → Contains (cond b (x ∷ filter test xs) (filter test xs)) f
  either true h = Contains-later x (filter test xs) f h
  either false h = h

-- The filtered files, with one file more.
pub kept-more : (test : ℕ → Bool) (files : List ListedFile) (i : ℕ) (x : ListedFile) (old new : List ℕ) → i < length files → x ≡ get_or files i x
    → old ≡ filter test (map (λ y. y.ino) (take i files)) → new ≡ old ++ filter test (x.ino ∷ []) → new ≡ filter test (map (λ y. y.ino) (take (i + 1) files))
kept-more test files i x old new l is so_far one =
    one ∙ (λ j. so_far j ++ filter test ((is j).ino ∷ [])) ∙ sym (filter-append test (map (λ y. y.ino) (take i files)) ((get_or files i x).ino ∷ []))
    ∙ ap (filter test) (sym (map-append (λ y. y.ino) (take i files) (get_or files i x ∷ []))) ∙ ap (λ xs. filter test (map (λ y. y.ino) xs)) (sym (take_more files i x l))

module _ (w : World) (files : List ListedFile) (s : BTreeSet ℕ) (is : w.files ≡ files_of files) where
  -- The numbers of the files.
  abbrev inos : List ℕ
  inos = map (λ x. x.ino) files

  -- Whether the set lacks a number.
  abbrev unmarked : ℕ → Bool
  unmarked f = not (tree.contains nat_cmp s f)

  -- A number that the filter leaves was in the list.
  inside : (f : ℕ) → Contains (filter unmarked inos) f → Contains inos f
  inside f h = All-contains (Contains inos) (filter unmarked inos) f (All-filter unmarked (Contains inos) inos (All-contains_itself inos)) h

  -- A number that the filter leaves is unmarked.
  passed : (f : ℕ) → Contains (filter unmarked inos) f → unmarked f ≡ true
  passed f h = All-contains (λ x. unmarked x ≡ true) (filter unmarked inos) f (filter_passes unmarked inos) h

  -- A test that is not true has a true denial.
  passes : (b : Bool) → (¬ (b ≡ true)) → not b ≡ true
  passes true n = absurd (n refl)
  passes false n = refl

  -- A file is live exactly if the list has its number.
  at : (f : ℕ) → is_live w f ≡ is_some (option_map file_of (find (λ x. nat_eq f x.ino) files))
  at f = ap (λ m. is_some (finmap.get m f)) is ∙ ap is_some (keyed-get (λ x. x.ino) file_of files f)

  -- The files that are filtered as unreachable are the garbage.
  pub garbage_listed : AreFiles files → ((f : ℕ) → (tree.contains nat_cmp s f ≡ true) ↔ Reached w f) → IsListOf (Garbage w) (filter unmarked inos)
  garbage_listed ordered marked = (
    IsStrictlyIncreasing-filter unmarked inos ordered.inos,
    λ f. (
      λ h. (at f ∙ (listed-live files f).0 (inside f h), λ r. false≢true (sym (not-true (tree.contains nat_cmp s f) (passed f h)) ∙ (marked f).1 r)),
      λ g. kept-passes unmarked inos f (passes (tree.contains nat_cmp s f) (λ e. g.1 ((marked f).0 e))) ((listed-live files f).1 (sym (at f) ∙ g.0)),
    ),
  )
