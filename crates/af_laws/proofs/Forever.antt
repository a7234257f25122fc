-- Garbage is never reached again.
use Rattle.std.proofs.Common.{◌≡◌, inl, inr, ◌<◌, ◌≤◌, ℕ, Bool, false, List, [], ◌∷◌, ap, subst, arith}
use Rattle.std.specs.Prelude.{Option, None}
use Rattle.af_base.specs.declared.errno.Errno.{Errno}
use Rattle.af_base.specs.declared.events.Event.{Event}
use Rattle.af_base.specs.declared.events.Event.TheVariants as event
use Rattle.af_base.specs.declared.events.Reply.{Reply}
use Rattle.af_base.specs.declared.events.Reply.TheVariants as reply
use Rattle.af_base.specs.World.{World}
use Rattle.af_base.specs.Reached.{Reached}
use Rattle.af_base.specs.Refusals.{refusal, spawn_refusal}
use Rattle.af_base.specs.Steps.{Outcome, answer, effect, needs_no_memory, spawned}
use Rattle.af_base.specs.Pass.{Begins, GoesOn, Idle, Machine, Pass, PassesWhole, Running}
use Rattle.af_base.specs.Run.{Run, RunEntry, Step as MachineStep}
use Rattle.af_base.specs.Whole.{IsSound, IsWhole}
use Rattle.af_base.proofs.StepChanges.{Changed}
use Rattle.af_base.proofs.SoundSteps.{effect-changes, spawn-changes}
use Rattle.af_base.proofs.PurgedWorlds.{slice-by}
use Rattle.af_laws.proofs.Outcomes.{outcome_keeps}
use Rattle.af_laws.proofs.Reachability.{event_leads, from_places, numbered_leads}
use Rattle.af_laws.proofs.Logs.{events_keep_sound}
use Rattle.af_laws.specs.Reaching.{GarbageIsNeverReached}

-- Numbers are given in order.
outcome_next : (now old new : World) (o : Option Errno) → (o ≡ None → Changed old now)
    → (frugal : Bool) (answer r : Reply) → Outcome o frugal answer now old r new
    → old.next_ino ≤ new.next_ino
outcome_next now old new o leads frugal answer r = outcome_keeps (λ w. old.next_ino ≤ w.next_ino) o frugal answer now old r new (omega arith) (λ none t.
    let grows = (from_places old now (leads none).places).next in
    omega (arith, grows, ap (λ w. w.next_ino) t.2))

-- A whole pass lowers no next number.
pass_next : (p : Pass) (old new : Machine) (r : Reply) → PassesWhole p old r new
    → old.world.next_ino ≤ new.world.next_ino
pass_next Idle old new r h = omega (arith, ap (λ w. w.next_ino) h.0.purged.2)
pass_next (Running begun spent) old new r h = omega (arith, ap (λ m. m.world.next_ino) h.1)

-- A begin and a slice give no number.
begin_next : (p : Pass) (old new : Machine) (r : Reply) → Begins p old r new
    → old.world.next_ino ≤ new.world.next_ino
begin_next Idle old new r h = omega (arith, ap (λ m. m.world.next_ino) h.1)
begin_next (Running begun spent) old new r h = omega (arith, ap (λ m. m.world.next_ino) h.1)

-- A slice lowers none.
slice_next : (p : Pass) (old new : Machine) (b : ℕ) (r : Reply) → GoesOn p old b r new
    → old.world.next_ino ≤ new.world.next_ino
slice_next Idle old new b r h = omega (arith, ap (λ m. m.world.next_ino) h.1)
slice_next (Running begun spent) old new b r h = elim (slice-by begun spent b old new r h) [
  | inl refused ↦ omega (arith, ap (λ m. m.world.next_ino) refused.1)
  | inr made ↦ omega (arith, ap (λ w. w.next_ino) made.0.purged.2)
]

-- No event lowers it.
pub event_next : (old new : Machine) (e : Event) (r : Reply) → IsWhole old.world
    → MachineStep old e r new → old.world.next_ino ≤ new.world.next_ino
event_next old new (event.Spawn uid nofile privileged) r whole h =
    outcome_next (spawned old.world uid nofile privileged) old.world new.world (spawn_refusal old.world nofile) (spawn-changes old.world uid nofile privileged) false (reply.Pid old.world.next_pid) r h.0
event_next old new (event.Proc p s) r whole h =
    outcome_next (effect old.world p s) old.world new.world (refusal old.world p s) (effect-changes old.world p s whole) (needs_no_memory s) (answer old.world p s) r h.0
event_next old new event.Begin r whole h = begin_next old.pass old new r h
event_next old new (event.Slice b) r whole h = slice_next old.pass old new b r h
event_next old new event.Pass r whole h = pass_next old.pass old new r h

-- On no run is a given number reached that was not.
never : (old new : Machine) (log : List RunEntry) → IsSound old.world → Run old log new → (f : ℕ)
    → f < old.world.next_ino → ¬ (Reached old.world f) → ¬ (Reached new.world f)
never old new [] sound run f given out d = out (subst (λ m. Reached m.world f) run d)
never old new (e ∷ log) sound run f given out d =
    never run.0 new log (events_keep_sound old run.0 e.0 e.1 sound run.1) run.2 f (omega (arith, given, event_next old run.0 e.0 e.1 sound.whole run.1)) (λ r. out (numbered_leads old.world run.0.world (event_leads old run.0 e.0 e.1 sound.whole run.1) f given r)) d

pub garbage_is_never_reached : GarbageIsNeverReached
garbage_is_never_reached old new log sound run f g =
    never old new log sound run f (sound.whole.files_numbered f g.0) g.1
