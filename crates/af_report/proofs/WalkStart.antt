-- Where a walk over all live files begins.
use Rattle.std.proofs.Common.{◌≡◌, Bool, true, false, refl, arith}
use Rattle.std.specs.FinMap as map
use Rattle.af_base.specs.Whole.{IsWhole}
use Rattle.af_base.specs.World.{World}

-- No file has the number 0.
pub none_at_zero : (w : World) → IsWhole w → map.contains_key w.files 0 ≡ false
none_at_zero w k = by (map.contains_key w.files 0) refl where
  by : (b : Bool) → map.contains_key w.files 0 ≡ b → b ≡ false
  by true live = let low = k.files_begin 0 live in absurd (omega (arith, low))
  by false gone = refl
