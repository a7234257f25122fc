-- Reachability is decidable: a search from the tables adds one file at a time.
use Rattle.std.proofs.Common.{◌≡◌, ◌⊎◌, inl, inr, ◌<◌, ◌≤◌, ℕ, zero, suc, Bool, true, false, not, ◌&&◌, ◌||◌, List, [], ◌∷◌, refl, sym, ap, ◌∙◌, subst, arith, nat_eq}
use Rattle.std.specs.Prelude.{◌↔◌}
use Rattle.std.specs.List.{Contains, count_by}
use Rattle.std.specs.FinMap as map
use Rattle.std.proofs.lemmas.Bool.{cases_Bool, eq-eqb, eqb-true, false≢true, or_cases}
use Rattle.std.proofs.lemmas.List.Elements.{Contains-append_cases}
use Rattle.af_base.specs.World.{IsLive, World, is_live}
use Rattle.af_base.specs.Counts.{tabled}
use Rattle.af_base.specs.Places.{Holds, InTable, held_by}
use Rattle.af_base.specs.Reached.{BySocket, ByTable, Garbage, Reached}
use Rattle.af_base.specs.Whole.{IsWhole}
use Rattle.af_base.proofs.DerivedEquality.{both}
use Rattle.af_base.proofs.PlacesAndCounts.{InTable-tabled, tabled-InTable}
use Rattle.af_base.proofs.Lookups.{told_apart}
use Rattle.af_laws.proofs.PlaceCounts.{none_or_some}
use Rattle.af_laws.proofs.SettlingOutcome.{among_keys, fewer}

-- Only reached files pass the test, and all that tables hold do.
record IsFair (w : World) (t : ℕ → Bool) : Type 0 where
  reached : (f : ℕ) → t f ≡ true → Reached w f
  tables : (f : ℕ) → InTable w f → t f ≡ true

-- A file passes that holds one which does not.
abbrev Opens : World → (ℕ → Bool) → ℕ → ℕ → Type 0
Opens w t s f = (t s ≡ true) × Holds w s f × (t f ≡ false)

-- Among these files there is one that does not pass, or all do.
fails_or_not : (t : ℕ → Bool) (fs : List ℕ) → ((f : ℕ) × Contains fs f × (t f ≡ false)) ⊎ ((f : ℕ) → Contains fs f → t f ≡ true)
fails_or_not t [] = inr (λ f h. absurd (omega (arith, h.1)))
fails_or_not t (k ∷ fs) = by (cases_Bool (t k)) (fails_or_not t fs) where
  by : (t k ≡ true) ⊎ (t k ≡ false) → ((f : ℕ) × Contains fs f × (t f ≡ false)) ⊎ ((f : ℕ) → Contains fs f → t f ≡ true) → ((f : ℕ) × Contains (k ∷ fs) f × (t f ≡ false)) ⊎ ((f : ℕ) → Contains (k ∷ fs) f → t f ≡ true)
  by (inr miss) rest = inl (k, (zero, omega arith, refl), miss)
  by (inl hit) (inl found) = inl (found.0, (suc found.1.0, omega (arith, found.1.1), found.1.2), found.2)
  by (inl hit) (inr all) = inr (λ f h. elim (Contains-append_cases (k ∷ []) fs f h) [ inl a ↦ subst (λ x. t x ≡ true) (only f a) hit | inr a ↦ all f a ]) where
    only : (f : ℕ) → Contains (k ∷ []) f → k ≡ f
    only f (zero, l, e) = e
    only f (suc n, l, e) = absurd (omega (arith, l))

-- Among these there is a file that passes and holds one which does not, or none does.
opens_or_not : (w : World) (t : ℕ → Bool) (ks : List ℕ) → ((s : ℕ) × (f : ℕ) × Opens w t s f) ⊎ ((s f : ℕ) → Contains ks s → t s ≡ true → Holds w s f → t f ≡ true)
opens_or_not w t [] = inr (λ s f h. absurd (omega (arith, h.1)))
opens_or_not w t (k ∷ ks) = by (cases_Bool (t k)) (fails_or_not t (held_by w k)) (opens_or_not w t ks) where
  only : (s : ℕ) → Contains (k ∷ []) s → k ≡ s
  only s (zero, l, e) = e
  only s (suc n, l, e) = absurd (omega (arith, l))

  here : (s f : ℕ) → (t k ≡ true → Holds w k f → t f ≡ true) → (Contains ks s → t s ≡ true → Holds w s f → t f ≡ true) → Contains (k ∷ []) s ⊎ Contains ks s → t s ≡ true → Holds w s f → t f ≡ true
  here s f first rest (inl a) hit holds = first (subst (λ x. t x ≡ true) (sym (only s a)) hit) (subst (λ x. Holds w x f) (sym (only s a)) holds)
  here s f first rest (inr a) hit holds = rest a hit holds

  by : (t k ≡ true) ⊎ (t k ≡ false) → ((f : ℕ) × Contains (held_by w k) f × (t f ≡ false)) ⊎ ((f : ℕ) → Contains (held_by w k) f → t f ≡ true)
      → ((s : ℕ) × (f : ℕ) × Opens w t s f) ⊎ ((s f : ℕ) → Contains ks s → t s ≡ true → Holds w s f → t f ≡ true)
      → ((s : ℕ) × (f : ℕ) × Opens w t s f) ⊎ ((s f : ℕ) → Contains (k ∷ ks) s → t s ≡ true → Holds w s f → t f ≡ true)
  by (inl hit) (inl found) rest = inl (k, found.0, (hit, found.1, found.2))
  by b all (inl found) = inl found
  by (inl hit) (inr all) (inr rest) = inr (λ s f h. here s f (λ _. all f) (rest s f) (Contains-append_cases (k ∷ []) ks s h))
  by (inr miss) all (inr rest) = inr (λ s f h. here s f (λ hit. absurd (false≢true (sym miss ∙ hit))) (rest s f) (Contains-append_cases (k ∷ []) ks s h))

-- One file more passes.
abbrev grown : ℕ → (ℕ → Bool) → ℕ → Bool
grown f t x = t x || nat_eq f x

-- A fair test with one file more that it leads to is fair.
grown_fair : (w : World) (t : ℕ → Bool) (s f : ℕ) → IsFair w t → Opens w t s f → IsFair w (grown f t)
grown_fair w t s f fair edge = record {
  reached = λ x e. elim (or_cases (t x) (nat_eq f x) e) [ inl hit ↦ fair.reached x hit | inr same ↦ subst (Reached w) (eqb-true f x same) (BySocket s f (fair.reached s edge.0) edge.1) ];
  tables = λ x h. ap (λ b. b || nat_eq f x) (fair.tables x h);
}

-- A live file that does not pass.
abbrev left_out : World → (ℕ → Bool) → ℕ → Bool
left_out w t x = is_live w x && not (t x)

-- With one file more in the test, fewer are left out.
left_fewer : (w : World) (t : ℕ → Bool) (f : ℕ) (ks : List ℕ) → IsLive w f → t f ≡ false → Contains ks f → count_by (left_out w (grown f t)) ks < count_by (left_out w t) ks
left_fewer w t f ks live miss among = fewer (left_out w t) (left_out w (grown f t)) weaker f here gone ks among where
  turned : (a b c : Bool) → (a && not (b || c)) ≡ true → (a && not b) ≡ true
  turned true false c e = refl
  turned true true c e = absurd (false≢true e)
  turned false b c e = absurd (false≢true e)

  weaker : (x : ℕ) → left_out w (grown f t) x ≡ true → left_out w t x ≡ true
  weaker x e = turned (is_live w x) (t x) (nat_eq f x) e

  here : left_out w t f ≡ true
  here = ap (λ b. b && not (t f)) live ∙ ap not miss

  never : (a b : Bool) → (a && not (b || true)) ≡ false
  never true true = refl
  never true false = refl
  never false b = refl

  gone : left_out w (grown f t) f ≡ false
  gone = ap (λ b. is_live w f && not (t f || b)) (eq-eqb f f refl) ∙ never (is_live w f) (t f)

-- Where no file that passes holds one which does not, just the reached ones pass.
closed_decides : (w : World) (t : ℕ → Bool) (ks : List ℕ) → IsWhole w → ((f : ℕ) → IsLive w f → Contains ks f) → IsFair w t → ((s f : ℕ) → Contains ks s → t s ≡ true → Holds w s f → t f ≡ true) → (f : ℕ) → Reached w f → t f ≡ true
closed_decides w t ks whole among fair closed _ (ByTable f h) = fair.tables f h
closed_decides w t ks whole among fair closed _ (BySocket s f r h) = closed s f (among s (live s r)) (closed_decides w t ks whole among fair closed s r) h where
  live : (s : ℕ) → Reached w s → IsLive w s
  live _ (ByTable f h) = whole.tables_live f h
  live _ (BySocket s f r h) = whole.queues_live s f h

-- Where as many live files as n at most do not pass.
decides_within : (n : ℕ) (w : World) (t : ℕ → Bool) (ks : List ℕ) → IsWhole w → ((f : ℕ) → IsLive w f → Contains ks f) → IsFair w t → count_by (left_out w t) ks ≤ n → (r : ℕ → Bool) × ((f : ℕ) → (r f ≡ true) ↔ Reached w f)
decides_within zero w t ks whole among fair few = elim (opens_or_not w t ks) [
  | inr closed ↦ (t, λ f. (fair.reached f, closed_decides w t ks whole among fair closed f))
  | inl found ↦ let live = whole.queues_live found.0 found.1 found.2.1 in absurd (omega (arith, few, left_fewer w t found.1 ks live found.2.2 (among found.1 live)))
]
decides_within (suc n) w t ks whole among fair few = elim (opens_or_not w t ks) [
  | inr closed ↦ (t, λ f. (fair.reached f, closed_decides w t ks whole among fair closed f))
  | inl found ↦
      let live = whole.queues_live found.0 found.1 found.2.1 in
      let less = left_fewer w t found.1 ks live found.2.2 (among found.1 live) in
      decides_within n w (grown found.1 t) ks whole among (grown_fair w t found.0 found.1 fair found.2) (omega (arith, few, less))
]

-- The files that tables hold.
in_table : World → ℕ → Bool
in_table w f = not (nat_eq (tabled w f) 0)

-- The test for files in tables is fair.
in_table_fair : (w : World) → IsFair w (in_table w)
unfolding in_table
in_table_fair w = record {
  reached = λ f e. ByTable f (InTable-tabled w f (some f e));
  tables = λ f h. let held = tabled-InTable w f h in ap not (apart (tabled w f) held);
} where
  apart : (n : ℕ) → 0 < n → nat_eq n 0 ≡ false
  apart n h = told_apart n 0 (λ e. omega (arith, h, e))

  some : (f : ℕ) → not (nat_eq (tabled w f) 0) ≡ true → 0 < tabled w f
  some f e = elim (none_or_some (tabled w f)) [ inl none ↦ absurd (false≢true (sym (ap (λ n. not (nat_eq n 0)) none) ∙ e)) | inr held ↦ held ]

-- A file is reachable or not.
pub reached_decided : (w : World) → IsWhole w → (r : ℕ → Bool) × ((f : ℕ) → (r f ≡ true) ↔ Reached w f)
reached_decided w whole = decides_within (count_by (left_out w (in_table w)) (map.keys w.files)) w (in_table w) (map.keys w.files) whole (among_keys w) (in_table_fair w) (omega arith)

-- A live file that is not reachable is garbage.
told : (w : World) (r : ℕ → Bool) → ((f : ℕ) → (r f ≡ true) ↔ Reached w f) → (f : ℕ) → ((is_live w f && not (r f)) ≡ true) ↔ Garbage w f
told w r is f = (
  λ e. let parts = both _ _ e in (parts.0, λ g. absurd (false≢true (sym (ap not ((is f).1 g)) ∙ parts.1))),
  λ g. λ i. g.0 i && unturned (r f) (λ e. g.1 ((is f).0 e)) i,
) where
  unturned : (b : Bool) → (b ≡ true → ⊥) → not b ≡ true
  unturned true n = absurd (n refl)
  unturned false n = refl

-- And so can garbage.
pub garbage_decided : (w : World) → IsWhole w → (t : ℕ → Bool) × ((f : ℕ) → (t f ≡ true) ↔ Garbage w f)
garbage_decided w whole = let r = reached_decided w whole in ((λ f. is_live w f && not (r.0 f)), told w r.0 r.1)
