-- The state after a borrow ends. Definitions that name no manual page are this project's own.
use Rattle.std.specs.Prelude.{ℕ, Option}
use Rattle.std.specs.Borrow.{Fml, LendsIf, MutBor, RattleType}
use Rattle.ordered_slab.specs.OrderedSlabView.{OrderedSlabView, with_value}
use Rattle.ordered_slab.specs.contracts.numbered.OrderedSlab as keyed

-- Once the borrow r ends, f has the last value written through r; at `None` all is as it was.
abbrev pub lends_at : (T : RattleType) → MutBor (OrderedSlabView T.Denot) → ℕ
    → Option (MutBor T.Denot) → Fml
lends_at T s f r = LendsIf (keyed.the_row T) T s r (with_value s.now f) s.now
