-- The state after a borrow of a value ends. Definitions that name no manual page are this project's
-- own.
use Rattle.std.specs.Prelude.{ℕ, Option}
use Rattle.std.specs.Borrow.{Fml, LendsIf, MutBor, RattleType}
use Rattle.std.specs.FinMap as map
use Rattle.af_base.specs.Refusals.{ino_on}
use Rattle.jaywardrobe.specs.OwnedView.{OwnedView}
use Rattle.jaywardrobe.specs.contracts.owned.Owned as owned

-- The view with this value behind the file of descriptor n of process p.
abbrev pub with_value_at : {T : Type 0} → OwnedView T → ℕ → ℕ → T → OwnedView T
with_value_at o p n w = record o { values = map.insert o.values (ino_on o.machine.world p n) w }

-- Once the borrow r ends, the file carries the last value written through r; at `None` all is as it
-- was.
abbrev pub lends_value_at : (T : RattleType) → MutBor (OwnedView T.Denot) → ℕ → ℕ
    → Option (MutBor T.Denot) → Fml
lends_value_at T o p n r = LendsIf (owned.the_row T) T o r (with_value_at o.now p n) o.now
