-- The collector's share of a round.
use Rattle.std.specs.Prelude.{◌≡◌, Option, Some, None}
use Rattle.jaywardrobe.specs.Types.{Finished, Reply}
use Rattle.jaywardrobe.specs.Types.reply
use Rattle.jaywardrobe.specs.Outcome.{finished_reply}
use Rattle.jaywardrobe.specs.Pass.{Begins, GoesOn, Idle, Machine, Pass, Running, next_pass}
use Rattle.examples.specs.declared.broker.reclaim.TheConstants.{BUDGET}

-- The reply of a slice that comes to this.
abbrev pub reclaim_reply : Option Finished → Reply
reclaim_reply None = reply.Working
reclaim_reply (Some f) = finished_reply f

-- Without a running pass the next one begins, and reports nothing; else the running one continues
-- by a slice.
abbrev pub Reclaims : Pass → Machine → Option Finished → Machine → Type 0
Reclaims Idle old finished new = (finished ≡ None)
    × Begins Idle old (reply.Started (next_pass old.last_pass)) new
Reclaims (Running begun spent) old finished new = GoesOn (Running begun spent) old BUDGET
    (reclaim_reply finished) new
