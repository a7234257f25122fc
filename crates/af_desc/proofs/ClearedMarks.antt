-- Marks that are cleared, one after the other.
use Rattle.std.proofs.Common.{◌≡◌, ◌≤◌, ◌<◌, ◌⊎◌, inl, inr, ℕ, false, sym, ap, ◌∙◌, subst, arith}
use Rattle.std.specs.Prelude.{IsTrue, Some, is_some}
use Rattle.std.specs.FinMap as map
use Rattle.std.proofs.lemmas.Bool.{cases_lt, false≢true}
use Rattle.af_base.specs.World.{Map}
use Rattle.af_base.proofs.Lookups.{insert-here, insert-other, not_same, same_or_not, some_same}
use Rattle.af_mark.specs.Grey.{unmarked, MarkView}

-- The files up to the last, but for a file 0, have a mark of no pass.
abbrev pub AreWashed : Map MarkView → ℕ → Type 0
AreWashed m last = (f : ℕ) (x : MarkView) → f ≤ last → map.get m f ≡ Some x → (f ≡ 0) ⊎ (x.epoch ≤ 0)

module _ (m : Map MarkView) (n : ℕ) where
  -- The mark of the next file is cleared too.
  pub washed_next : (last : ℕ) → ((q : ℕ) → last < q → q < n → map.contains_key m q ≡ false) → AreWashed m last → AreWashed (map.insert m n unmarked) n
  washed_next last least h f x low at = elim (same_or_not f n) [
    | inl e ↦ inr (subst (λ y. y.epoch ≤ 0) (some_same unmarked x (sym (ap (map.get (map.insert m n unmarked)) e ∙ insert-here m n unmarked) ∙ at)) (omega arith))
    | inr e ↦ let was = sym (insert-other m n unmarked f e) ∙ at in elim (cases_lt last f) [
      | inl over ↦ absurd (false≢true (sym (least f over (omega (arith, low, not_same f n e))) ∙ ap is_some was))
      | inr under ↦ h f x (omega (arith, under)) was
    ]
  ]

  -- A file with a mark keeps one.
  pub washed_known : IsTrue (map.contains_key m n) → (f : ℕ) → map.contains_key (map.insert m n unmarked) f ≡ map.contains_key m f
  washed_known there f = elim (same_or_not f n) [
    | inl e ↦ ap is_some (ap (map.get (map.insert m n unmarked)) e ∙ insert-here m n unmarked) ∙ sym (ap (map.contains_key m) e ∙ there)
    | inr e ↦ ap is_some (insert-other m n unmarked f e)
  ]
