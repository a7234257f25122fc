-- The refusal of a call that does an event is a step of the machine.
use Rattle.std.proofs.Common.{false, refl, subst, sym}
use Rattle.af_base.specs.declared.errno.Errno.{Errno}
use Rattle.af_base.specs.declared.events.Event.{Event}
use Rattle.af_base.specs.declared.events.Event.TheVariants as event
use Rattle.af_base.specs.declared.events.Reply.TheVariants as reply
use Rattle.af_base.specs.Pass.{Machine, SamePass}
use Rattle.af_base.specs.Refusals.{spawn_refusal}
use Rattle.af_base.specs.Run as run
use Rattle.af_base.specs.Steps.{SpawnStep, spawned}
use Rattle.af_steps.specs.Called.{RefusesEvent}
use Rattle.af_steps.proofs.FoldedReplies.{refuses-step, stays}

-- Nothing changed.
pub refuses-event : (old new : Machine) (e : Event) (x : Errno) → RefusesEvent old e x new → run.Step old e (reply.Refused x) new
refuses-event old new (event.Proc p s) x d = refuses-step old p s new x d
refuses-event old new (event.Spawn uid nofile privileged) x d = subst (λ (m : Machine). SpawnStep old.world uid nofile privileged (reply.Refused x) m.world × SamePass old m) (sym d.1)
    (stays (spawn_refusal old.world nofile) false (reply.Pid old.world.next_pid) (spawned old.world uid nofile privileged) old.world x d.0, (refl, refl, refl))
refuses-event old new event.Begin x d = d
refuses-event old new (event.Slice budget) x d = d
refuses-event old new event.Pass x d = d
