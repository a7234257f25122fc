-- Names of sockets: who has one, who is found by one, and that no two have one name in one set.
use Rattle.std.proofs.Common.{◌≡◌, ℕ, Bool, true, false, T, inl, inr, ◌⊎◌, List, [], ◌∷◌, refl, sym, ap, ◌∙◌, subst, cond, nat_eq, Ordering, is_eq, ◌&&◌}
use Rattle.std.specs.Prelude.{Option, Some, None, option_map}
use Rattle.std.specs.Option.{option_and_then, option_map_or}
use Rattle.std.specs.List as list
use Rattle.std.specs.Ordering.{nat_cmp}
use Rattle.std.specs.declared.cmp.Ordering.TheVariants.{Less, Equal, Greater}
use Rattle.std.specs.Str.{bytes_eq}
use Rattle.std.specs.FinMap as map
use Rattle.std.specs.FinMap.{find, is_sorted, entries_sorted, get-entries}
use Rattle.std.proofs.lemmas.Bool.{eq-eqb, eqb-true, false≢true}
use Rattle.af_base.specs.World.{AsSocket, File, Plain, Socket, World}
use Rattle.af_base.specs.Unheld.{file_without, without}
use Rattle.af_base.specs.Changes.{file_with, with_name, with_socket}
use Rattle.af_base.specs.Names.{bound_to, has_name, named, set_of}
use Rattle.af_base.specs.Refusals.{socket_of}
use Rattle.af_base.specs.Whole.{bound_at}
use Rattle.af_base.proofs.FreedCounts.{without-was}
use Rattle.af_base.proofs.PlacesAndCounts.{here, later}
use Rattle.af_base.proofs.Lookups.{changed-was, none_some, some_same}
use Rattle.af_base.proofs.DerivedEquality.{both, list_itself, list_same}
use Rattle.af_base.proofs.Sums.{first, second}

-- The set and the name of a file, if it is a socket that has one.
abbrev pub bound_of : File → Option (ℕ × List ℕ)
bound_of x = option_and_then bound_to (socket_of x)

-- No two files have one name in one set.
abbrev pub AreNamedApart : World → Type 0
AreNamedApart w = (f g : ℕ) (name : ℕ × List ℕ) → bound_at w f ≡ Some name → bound_at w g ≡ Some name → f ≡ g

-- The name of what is there.
pub name-there : (w : World) (f : ℕ) (o : Option File) → map.get w.files f ≡ o
    → bound_at w f ≡ option_and_then bound_to (option_and_then socket_of o)
name-there w f o e = ap (λ o. option_and_then bound_to (option_and_then socket_of o)) e

-- A file with a name has that name among the files that are there.
pub named-there : (w : World) (f : ℕ) (name : ℕ × List ℕ) → bound_at w f ≡ Some name
    → (x : File) × (map.get w.files f ≡ Some x) × (bound_of x ≡ Some name)
named-there w f name = by (map.get w.files f) refl where
  by : (o : Option File) → map.get w.files f ≡ o
      → option_and_then bound_to (option_and_then socket_of o) ≡ Some name
      → (x : File) × (map.get w.files f ≡ Some x) × (bound_of x ≡ Some name)
  by None e is = absurd (none_some name is)
  by (Some x) e is = (x, e, is)

-- A socket that has a name afterwards had it before.
pub names-kept : (w new : World)
    → ((f : ℕ) (name : ℕ × List ℕ) → bound_at new f ≡ Some name → bound_at w f ≡ Some name)
    → AreNamedApart w → AreNamedApart new
names-kept w new was apart f g name e d = apart f g name (was f name e) (was g name d)

-- A socket's change that leaves its name and its type alone.
pub name-changed : (w : World) (s : ℕ) (g : Socket → Socket)
    → ((x : Socket) → bound_to (g x) ≡ bound_to x) → (f : ℕ) (name : ℕ × List ℕ)
    → bound_at (with_socket w s g) f ≡ Some name → bound_at w f ≡ Some name
name-changed w s g same f name e =
    let new = named-there (with_socket w s g) f name e in
    let was = changed-was (file_with g) w.files s f new.0 new.1 in
    name-there w f (Some was.0) was.1 ∙ elim was.2 [
      | inl y ↦ sym (each was.0) ∙ sym (ap bound_of y.1) ∙ new.2
      | inr y ↦ sym (ap bound_of y) ∙ new.2
    ] where
      each : (x : File) → bound_of (file_with g x) ≡ bound_of x
      each Plain = refl
      each (AsSocket x) = same x

-- No two have one name where a socket's change leaves its name and its type alone.
pub names-changed : (w : World) (s : ℕ) (g : Socket → Socket)
    → ((x : Socket) → bound_to (g x) ≡ bound_to x) → AreNamedApart w
    → AreNamedApart (with_socket w s g)
names-changed w s g same apart = names-kept w (with_socket w s g) (name-changed w s g same) apart

-- After a bind, a socket with a name had it before, or is the bound one.
name-bound : (w : World) (s : ℕ) (given : List ℕ) (x : Socket)
    → map.get w.files s ≡ Some (AsSocket x) → (f : ℕ) (name : ℕ × List ℕ)
    → bound_at (with_socket w s (with_name given)) f ≡ Some name
    → ((f ≡ s) × ((set_of x.kind, given) ≡ name)) ⊎ (bound_at w f ≡ Some name)
name-bound w s given x at f name e =
    let new = named-there (with_socket w s (with_name given)) f name e in
    let was = changed-was (file_with (with_name given)) w.files s f new.0 new.1 in
    elim was.2 [
      | inl y ↦
          let it = some_same was.0 (AsSocket x) (sym was.1 ∙ ap (map.get w.files) y.0 ∙ at) in
          inl (y.0, some_same (set_of x.kind, given) name (ap (λ z. bound_of (file_with (with_name given) z)) (sym it) ∙ sym (ap bound_of y.1) ∙ new.2))
      | inr y ↦ inr (name-there w f (Some was.0) was.1 ∙ sym (ap bound_of y) ∙ new.2)
    ]

-- No two have one name where a socket got one that nobody had in its set.
pub names-bound : (w : World) (s : ℕ) (given : List ℕ) (x : Socket)
    → map.get w.files s ≡ Some (AsSocket x)
    → ((f : ℕ) → ¬ (bound_at w f ≡ Some (set_of x.kind, given))) → AreNamedApart w
    → AreNamedApart (with_socket w s (with_name given))
names-bound w s given x at none apart f g name e d = elim (name-bound w s given x at f name e) [
  | inl a ↦ elim (name-bound w s given x at g name d) [
    | inl b ↦ a.0 ∙ sym b.0
    | inr b ↦ absurd (none g (b ∙ ap Some (sym a.1)))
  ]
  | inr a ↦ elim (name-bound w s given x at g name d) [
    | inl b ↦ absurd (none f (a ∙ ap Some (sym b.1)))
    | inr b ↦ apart f g name a b
  ]
]

-- No two have one name where some files are gone.
pub names-gone : (gone : ℕ → Bool) (w : World) → AreNamedApart w → AreNamedApart (without gone w)
names-gone gone w apart = names-kept w (without gone w) (λ f name e.
    let new = named-there (without gone w) f name e in
    let was = without-was gone w f new.0 new.1 in
    name-there w f (Some was.0) was.1 ∙ sym (each was.0) ∙ ap bound_of was.3 ∙ new.2) apart where
      each : (x : File) → bound_of (file_without gone x) ≡ bound_of x
      each Plain = refl
      each (AsSocket s) = refl

module _ {X : Type 0} (test : X → Bool) where
  -- The number of the first entry whose value passes the test.
  abbrev first_key : List (ℕ × X) → Option ℕ
  first_key es = option_map (λ e. e.0) (list.find (λ e. test e.1) es)

  -- Where no entry passes, no value does.
  none_passes : (es : List (ℕ × X)) → first_key es ≡ None → (k : ℕ) (x : X) → find nat_cmp k es ≡ Some x → test x ≡ false
  none_passes [] e k x is = absurd (none_some x is)
  none_passes (d ∷ es) e k x is = by (none_passes es) (test d.1) refl e where
    at : test d.1 ≡ false → (find nat_cmp k es ≡ Some x → test x ≡ false) → (o : Ordering) → cond (is_eq o) (Some d.1) (find nat_cmp k es) ≡ Some x → test x ≡ false
    at t rest Equal is = sym (ap test (some_same d.1 x is)) ∙ t
    at t rest Less is = rest is
    at t rest Greater is = rest is

    by : (first_key es ≡ None → (k : ℕ) (x : X) → find nat_cmp k es ≡ Some x → test x ≡ false) → (b : Bool) → test d.1 ≡ b → option_map (λ e. e.0) (cond b (Some d) (list.find (λ e. test e.1) es)) ≡ None → test x ≡ false
    by rest true t n = absurd (none_some d.0 (sym n))
    by rest false t n = at t (rest n k x) (nat_cmp k d.0) is

  -- The first element that passes a test.
  first_passes : (es : List (ℕ × X)) → T (is_sorted nat_cmp es) → (k : ℕ) → first_key es ≡ Some k → (x : X) × (find nat_cmp k es ≡ Some x) × (test x ≡ true)
  first_passes [] s k e = absurd (none_some k e)
  first_passes (d ∷ es) s k e = by (first_passes es (second _ _ s) k) (test d.1) refl e where
    by : (first_key es ≡ Some k → (x : X) × (find nat_cmp k es ≡ Some x) × (test x ≡ true)) → (b : Bool) → test d.1 ≡ b → option_map (λ e. e.0) (cond b (Some d) (list.find (λ e. test e.1) es)) ≡ Some k → (x : X) × (find nat_cmp k (d ∷ es) ≡ Some x) × (test x ≡ true)
    by rest true t is = (d.1, subst (λ q. find nat_cmp q (d ∷ es) ≡ Some d.1) (some_same d.0 k is) (here d es), t)
    by rest false t is = let at = rest is in (at.0, later d es k at.0 (first _ _ s) at.1 (nat_cmp k d.0) refl, at.2)

-- A file that has a name in a set passes the test of both.
has_name-of : (set : ℕ) (name : List ℕ) (x : File) → bound_of x ≡ Some (set, name)
    → has_name set name x ≡ true
has_name-of set name Plain e = absurd (none_some (set, name) e)
has_name-of set name (AsSocket s) e = by s.name e where
  by : (o : Option (List ℕ))
      → option_map {U = ℕ × List ℕ} (λ name. (set_of s.kind, name)) o ≡ Some (set, name)
      → (nat_eq set (set_of s.kind) && option_map_or (bytes_eq name) o false) ≡ true
  by None e = absurd (none_some (set, name) e)
  by (Some own) e =
      let same = some_same (set_of s.kind, own) (set, name) e in
      (λ i. eq-eqb set (set_of s.kind) (ap (λ k. k.0) (sym same)) i && bytes_eq name own) ∙ ap (bytes_eq name) (ap (λ k. k.1) same) ∙ list_itself name

-- A file that passes the test of a set and a name has that name in that set.
bound_of-has : (set : ℕ) (name : List ℕ) (x : File) → has_name set name x ≡ true
    → bound_of x ≡ Some (set, name)
bound_of-has set name Plain e = absurd (false≢true e)
bound_of-has set name (AsSocket s) e = by s.name (both (nat_eq set (set_of s.kind)) (option_map_or (bytes_eq name) s.name false) e) where
  by : (o : Option (List ℕ))
      → (nat_eq set (set_of s.kind) ≡ true) × (option_map_or (bytes_eq name) o false ≡ true)
      → option_map {U = ℕ × List ℕ} (λ name. (set_of s.kind, name)) o ≡ Some (set, name)
  by None e = absurd (false≢true e.1)
  by (Some own) e = λ i. Some (sym (eqb-true set (set_of s.kind) e.0) i, sym (list_same name own e.1) i)

-- A socket that a name finds in a set has this name there.
pub named-some : (w : World) (set : ℕ) (name : List ℕ) (f : ℕ) → named w.files set name ≡ Some f
    → bound_at w f ≡ Some (set, name)
named-some w set name f e =
    let at = first_passes (has_name set name) (map.entries w.files) (entries_sorted w.files) f e in
    name-there w f (Some at.0) (get-entries w.files f ∙ at.1) ∙ bound_of-has set name at.0 at.2

-- Where nobody is found by a name in a set, nobody has it there.
pub named-none : (w : World) (set : ℕ) (name : List ℕ) → named w.files set name ≡ None → (f : ℕ)
    → ¬ (bound_at w f ≡ Some (set, name))
named-none w set name none f e =
    let at = named-there w f (set, name) e in
    false≢true (sym (none_passes (has_name set name) (map.entries w.files) none f at.0 (sym (get-entries w.files f) ∙ at.1)) ∙ has_name-of set name at.0 at.2)
