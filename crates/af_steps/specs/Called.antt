-- The outcome of a call that does an event. Definitions that name no manual page are of this
-- project's profile (docs/PROFILE.md).
use Rattle.std.specs.Prelude.{◌≡◌, None}
use Rattle.af_base.specs.declared.errno.Errno.{Errno}
use Rattle.af_base.specs.declared.events.Event.{Event}
use Rattle.af_base.specs.declared.events.Event.TheVariants as event
use Rattle.af_base.specs.declared.events.Reply.{Reply}
use Rattle.af_base.specs.declared.events.Reply.TheVariants as reply
use Rattle.af_base.specs.Pass.{Machine, SamePass}
use Rattle.af_base.specs.Refusals.{spawn_refusal}
use Rattle.af_base.specs.Run as run
use Rattle.af_base.specs.Steps.{spawned}
use Rattle.af_base.specs.Unheld.{Settles}
use Rattle.af_base.specs.World.{World}
use Rattle.af_steps.specs.Outcome.{Does, Refuses, RefusesStart}
use Rattle.af_steps.specs.Rooms.{CannotFail}

-- The event was done, with this reply.
abbrev pub DoesEvent : Machine → Event → Reply → Machine → Type 0
DoesEvent old (event.Proc p s) r new = Does old p s r new
DoesEvent old (event.Spawn uid nofile privileged) r new =
    (spawn_refusal old.world nofile ≡ None) × (r ≡ reply.Pid old.world.next_pid)
    × Settles (spawned old.world uid nofile privileged) new.world × SamePass old new
DoesEvent old e r new = run.Step old e r new

-- The event was refused by this error.
abbrev pub RefusesEvent : Machine → Event → Errno → Machine → Type 0
RefusesEvent old (event.Proc p s) e new = Refuses old p s e new
RefusesEvent old (event.Spawn uid nofile privileged) e new = RefusesStart old nofile e new
RefusesEvent old event e new = run.Step old event (reply.Refused e) new

-- The event is a step that cannot fail.
abbrev pub EventCannotFail : World → Event → Type 0
EventCannotFail w (event.Proc p s) = CannotFail w p s
EventCannotFail w e = ⊥
