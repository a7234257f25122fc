-- A file has a place exactly where its count is not zero.
use Rattle.std.proofs.Common.{◌≡◌, ◌<◌, ◌≤◌, ℕ, suc, zero, ◌+◌, true, false, T, ◌⊎◌, inl, inr, List, [], ◌∷◌, length, refl, sym, ap, ◌∙◌, subst, cond, arith, nat_eq, Ordering, is_eq}
use Rattle.std.specs.Prelude.{Option, Some, None}
use Rattle.std.specs.Option.{option_map_or}
use Rattle.std.specs.List.{Contains, sum_by, slice_index_or}
use Rattle.std.specs.Ordering.{nat_cmp}
use Rattle.std.specs.declared.cmp.Ordering.TheVariants.{Less, Equal, Greater}
use Rattle.std.specs.Cmp.{nat_cmp_total, tied_itself}
use Rattle.std.specs.FinMap as map
use Rattle.std.specs.FinMap.{find, is_sorted, entries_sorted, get-entries, nat_cmp-IsAntisymmetric}
use Rattle.std.specs.FinMap.Entries.{below_all}
use Rattle.std.proofs.lemmas.List.Sums.{sum_by-cons}
use Rattle.std.proofs.lemmas.Bool.{eqb-true, eq-eqb, false≢true, cases_lt}
use Rattle.af_base.specs.World.{File, Map, Process, World}
use Rattle.af_base.specs.Places.{Holds, InTable, contents}
use Rattle.af_base.specs.Counts.{count_in, one, refs, tabled, total_of}
use Rattle.af_base.proofs.Sums.{total-remove, first, less, second}

-- A file is in a list as often as it is the first, and then in the rest.
pub count-cons : (f x : ℕ) (xs : List ℕ) → count_in f (x ∷ xs) ≡ one f x + count_in f xs
count-cons f x xs = sum_by-cons _ x xs

-- A number is another at most once.
pub one-most : (f g : ℕ) → one f g ≤ 1
one-most f g = elim (nat_eq f g) as (λ b. cond b 1 0 ≤ 1) [ true ↦ omega arith | false ↦ omega arith ]

-- A list has a number at most as often as it is long.
pub count-length : (f : ℕ) (xs : List ℕ) → count_in f xs ≤ length xs
count-length f [] = omega arith
count-length f (x ∷ xs) = omega (arith, count-cons f x xs, one-most f x, count-length f xs)

-- A file counts once where it is that file.
one-same : (f x : ℕ) → f ≡ x → one f x ≡ 1
one-same f x e = ap {B = ℕ} (λ b. cond b 1 0) (eq-eqb f x e)

-- A file with a count above 0 is in the list.
pub Contains-count : (f : ℕ) (xs : List ℕ) → 0 < count_in f xs → Contains xs f
Contains-count f [] h = absurd (omega (arith, h))
Contains-count f (x ∷ xs) h =
    elim (nat_eq f x) as (λ b. nat_eq f x ≡ b → Contains (x ∷ xs) f) [
      | true ↦ λ e. (0, omega arith, sym (eqb-true f x e))
      | false ↦ λ e. let at = Contains-count f xs (omega (arith, h, count-cons f x xs, ap {B = ℕ} (λ b. cond b 1 0) e)) in (suc at.0, omega (arith, at.1), at.2)
    ] refl

-- A file in the list has a count above 0.
pub count-Contains : (f : ℕ) (xs : List ℕ) → Contains xs f → 0 < count_in f xs
count-Contains f xs h = at xs h.0 h.1 h.2 where
  at : (xs : List ℕ) (k : ℕ) → k < length xs → slice_index_or xs k f ≡ f → 0 < count_in f xs
  at [] k h e = absurd (omega (arith, h))
  at (x ∷ xs) zero h e = omega (arith, count-cons f x xs, one-same f x (sym e))
  at (x ∷ xs) (suc k) h e = omega (arith, count-cons f x xs, at xs k (omega (arith, h)) e)

-- A value's term is at most the sum.
pub total-has : {X : Type 0} (F : X → ℕ) (m : Map X) (k : ℕ) (x : X) → map.get m k ≡ Some x → F x ≤ total_of F m
total-has F m k x is = omega (arith, total-remove F m k x is)

module _ {X : Type 0} where
  -- A key below all others is not found among them.
  pub none_below : (k : ℕ) (es : List (ℕ × X)) → T (below_all nat_cmp k es) → find nat_cmp k es ≡ None
  none_below k [] h = refl
  none_below k (d ∷ es) h = ap (λ r. cond (is_eq r) (Some d.1) (find nat_cmp k es)) (less _ (first _ _ h)) ∙ none_below k es (second _ _ h)

  -- Nothing is no value.
  none_some : (x : X) → None ≡ Some x → ⊥
  none_some x e = false≢true (ap (λ o. option_map_or (λ _. true) o false) e)

  -- A value in a later entry is that of the map.
  pub later : (e : ℕ × X) (es : List (ℕ × X)) (k : ℕ) (x : X) → T (below_all nat_cmp e.0 es) → find nat_cmp k es ≡ Some x → (o : Ordering) → nat_cmp k e.0 ≡ o → cond (is_eq o) (Some e.1) (find nat_cmp k es) ≡ Some x
  later e es k x h is Equal p = absurd (none_some x (sym (ap (λ q. find nat_cmp q es) (nat_cmp-IsAntisymmetric _ _ p) ∙ none_below e.0 es h) ∙ is))
  later e es k x h is Less p = is
  later e es k x h is Greater p = is

  -- The first entry is found by its key.
  pub here : (e : ℕ × X) (es : List (ℕ × X)) → find nat_cmp e.0 (e ∷ es) ≡ Some e.1
  here e es = ap (λ o. cond (is_eq o) (Some e.1) (find nat_cmp e.0 es)) (tied_itself nat_cmp_total e.0)

  -- A sum of entries that is not zero has a term that is not.
  found : (F : X → ℕ) (es : List (ℕ × X)) → T (is_sorted nat_cmp es) → 0 < sum_by (λ e. F e.1) es → (k : ℕ) × (x : X) × (find nat_cmp k es ≡ Some x) × (0 < F x)
  found F [] s h = absurd (omega (arith, h))
  found F (e ∷ es) s h = elim (cases_lt 0 (F e.1)) [
    | inl p ↦ (e.0, e.1, here e es, p)
    | inr p ↦
        let rest = found F es (second _ _ s) (omega (arith, h, p, sum_by-cons (λ e. F e.1) e es)) in
        (rest.0, rest.1, later e es rest.0 rest.1 (first _ _ s) rest.2 (nat_cmp rest.0 e.0) refl, rest.3)
  ]

  -- A sum that is not zero has a term that is not.
  pub total-some : (F : X → ℕ) (m : Map X) → 0 < total_of F m → (k : ℕ) × (x : X) × (map.get m k ≡ Some x) × (0 < F x)
  total-some F m h =
      let at = found F (map.entries m) (entries_sorted m) h in
      (at.0, at.1, get-entries m at.0 ∙ at.2, at.3)

-- A file that counts is that file.
pub one-positive : (f g : ℕ) → 0 < one f g → f ≡ g
one-positive f g h = elim (nat_eq f g) as (λ b. nat_eq f g ≡ b → f ≡ g) [
  | true ↦ λ e. eqb-true f g e
  | false ↦ λ e. let none : one f g ≡ 0 = ap {B = ℕ} (λ b. cond b 1 0) e in absurd (omega (arith, h, none))
] refl

-- Counted in a table, so in a table.
pub InTable-tabled : (w : World) (f : ℕ) → 0 < tabled w f → InTable w f
InTable-tabled w f h =
    let p = total-some (λ q. total_of (one f) q.table) w.processes h in
    let n = total-some (one f) p.1.table p.3 in
    (p.0, n.0, ap (λ o. option_map_or (λ q. map.get q.table n.0) o None) p.2 ∙ n.2 ∙ ap Some (sym (one-positive f n.1 n.3)))

-- A file that a table has counts there.
pub tabled-InTable : (w : World) (f : ℕ) → InTable w f → 0 < tabled w f
tabled-InTable w f t = by (map.get w.processes t.0) refl t.2 where
  by : (o : Option Process) → map.get w.processes t.0 ≡ o → option_map_or (λ q. map.get q.table t.1) o None ≡ Some f → 0 < tabled w f
  by None e is = absurd (none_some f is)
  by (Some q) e is = omega (arith, one-same f f refl, total-has (one f) q.table t.1 f is, total-has (λ q. total_of (one f) q.table) w.processes t.0 q e)

-- Where the count is not zero, there is a holder.
pub held_by_some : (w : World) (f : ℕ) → 0 < refs w f → InTable w f ⊎ ((s : ℕ) × Holds w s f)
held_by_some w f h = elim (cases_lt 0 (tabled w f)) [
  | inl p ↦ inl (InTable-tabled w f p)
  | inr p ↦
      let at = total-some (λ x. count_in f (contents x)) w.files (omega (arith, h, p)) in
      inr (at.0, subst (λ o. Contains (option_map_or contents o []) f) (sym at.2) (Contains-count f (contents at.1) at.3))
]

-- Where the count is zero, there is none.
pub held_by_none : (w : World) (f : ℕ) → refs w f ≡ 0 → (¬ (InTable w f)) × ((s : ℕ) → ¬ (Holds w s f))
held_by_none w f z = (λ t. omega (arith, z, tabled-InTable w f t), λ s h. by s (map.get w.files s) refl h) where
  by : (s : ℕ) (o : Option File) → map.get w.files s ≡ o → Contains (option_map_or contents o []) f → ⊥
  by s None e h = omega (arith, h.1)
  by s (Some x) e h = omega (arith, z, total-has (λ x. count_in f (contents x)) w.files s x e, count-Contains f (contents x) h)
