-- Emptying some sockets and then others, and settling each time, equals emptying all at once.
use Rattle.std.proofs.Common.{◌||◌, subst}
use Rattle.std.proofs.Math.Bool.{or_comm}
use Rattle.af_base.specs.Pass.{Purges, emptied}
use Rattle.af_base.proofs.PurgeOrder.{purges_both as all_at_once}
use Rattle.af_base.proofs.SettledWorlds.{settles_once}
use Rattle.af_laws.specs.Purging.{PurgesBoth, PurgesInAnyOrder}

pub purges_both : PurgesBoth
purges_both some others w v new first second = all_at_once some others w v new first second

pub purges_in_any_order : PurgesInAnyOrder
purges_in_any_order some others w v x a b first second third fourth =
    settles_once (emptied (λ f. some f || others f) w) a b (all_at_once some others w v a first second) (subst (λ t. Purges t w b) (λ i f. or_comm (others f) (some f) i) (all_at_once others some w x b third fourth))
