-- That no file has the number 0.
use Rattle.std.proofs.Common.{◌≡◌, ◌<◌, ℕ, Bool, true, false, cond, refl, ap, ◌∙◌, arith, nat_eq}
use Rattle.std.specs.Prelude.{Some, None, is_some}
use Rattle.std.specs.Cmp.{nat_cmp_total, unsigned_tied}
use Rattle.std.specs.FinMap as map
use Rattle.std.specs.Ordering.{nat_cmp, eq_by_cmp}
use Rattle.std.proofs.lemmas.Bool.{eqb-true}
use Rattle.af_base.specs.World.{Map}

module _ {V : Type 0} where
  -- A key above 0 leaves 0 free.
  pub begun-made : (m : Map V) (n : ℕ) (v : V) → 0 < n → map.contains_key m 0 ≡ false → map.contains_key (map.insert m n v) 0 ≡ false
  begun-made m n v high none = ap is_some (map.get-insert nat_cmp_total m n v 0 ∙ ap (λ b. cond b (Some v) (map.get m 0)) (unsigned_tied 0 n)) ∙ by (nat_eq 0 n) refl where
    by : (b : Bool) → nat_eq 0 n ≡ b → is_some (cond b (Some v) (map.get m 0)) ≡ false
    by true e = let is = eqb-true 0 n e in absurd (omega arith)
    by false e = none

  -- A removed key leaves 0 free.
  pub begun-removed : (m : Map V) (n : ℕ) → map.contains_key m 0 ≡ false → map.contains_key (map.remove m n) 0 ≡ false
  begun-removed m n none = ap is_some (map.get-remove nat_cmp_total m n 0) ∙ by (eq_by_cmp nat_cmp 0 n) where
    by : (b : Bool) → is_some (cond b None (map.get m 0)) ≡ false
    by true = refl
    by false = none

pub ruleset begun = (begun-made, begun-removed)
