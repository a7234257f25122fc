-- A file that is reachable after a step was reachable before, or is new.
use Rattle.std.proofs.Common.{◌≡◌, ◌⊎◌, inl, inr, ◌<◌, ◌≤◌, ℕ, Bool, true, false, refl, subst, arith}
use Rattle.std.specs.Prelude.{Option, Some, None}
use Rattle.af_base.specs.declared.errno.Errno.{Errno}
use Rattle.af_base.specs.declared.events.Event.{Event}
use Rattle.af_base.specs.declared.events.Event.TheVariants as event
use Rattle.af_base.specs.declared.events.Reply.{Reply}
use Rattle.af_base.specs.declared.events.Reply.TheVariants as reply
use Rattle.af_base.specs.declared.events.Step.{Step}
use Rattle.af_base.specs.World.{World}
use Rattle.af_base.specs.Places.{Holds, InTable}
use Rattle.af_base.specs.Unheld.{Settles}
use Rattle.af_base.specs.Reached.{ByTable, BySocket, Reached}
use Rattle.af_base.specs.Refusals.{refusal, spawn_refusal}
use Rattle.af_base.specs.Steps.{Outcome, ProcessStep, SpawnStep, answer, effect, needs_no_memory, spawned}
use Rattle.af_base.specs.Pass.{Begins, GoesOn, Idle, Machine, Pass, PassesWhole, Running}
use Rattle.af_base.specs.Run.{Step as MachineStep}
use Rattle.af_base.specs.Whole.{IsWhole}
use Rattle.af_base.proofs.StepChanges.{Adds, Changed, IsKnown, Places, Same, Sets, Tables}
use Rattle.af_base.proofs.BlankFiles.{held-blank}
use Rattle.af_base.proofs.PurgedWorlds.{slice-by}
use Rattle.af_base.proofs.SoundSteps.{effect-changes, spawn-changes}
use Rattle.af_laws.proofs.Chains.{holder_live, purging_keeps_reached, purging_reaches_nothing, reached_before}
use Rattle.af_laws.specs.Reaching.{GarbageStaysOutOfReach, SpawnReachesNoGarbage, StepReachesNoGarbage}

-- Where each place of a world is one of the old, or holds what was reached or is new, a chain leads
-- to what was reached or is new.
module _ (old now : World) (whole : IsWhole old) (tables : (f : ℕ) → InTable now f → IsKnown old f) (holders : (s f : ℕ) → Holds now s f → Holds old s f ⊎ IsKnown old f) where
  -- A file that is reachable now was reachable or is new.
  reached_or_new : (f : ℕ) → Reached now f → IsKnown old f
  reached_or_new _ (ByTable f t) = tables f t
  reached_or_new _ (BySocket s f r h) = elim (holders s f h) [
    | inr d ↦ d
    | inl g ↦ elim (reached_or_new s r) [
      | inl d ↦ inl (BySocket s f d g)
      | inr n ↦ absurd (omega (arith, n, whole.files_numbered s (holder_live old s f g)))
    ]
  ]

-- Each file that is reachable now was reachable or is new.
abbrev Leads : World → World → Type 0
Leads old now = (f : ℕ) → Reached now f → IsKnown old f

-- Where the places of a world are from: each is one of the old, or holds what was known; and
-- numbers are given in order.
pub record IsFrom (old now : World) : Type 0 where
  pub tables : (f : ℕ) → InTable now f → IsKnown old f
  pub holders : (s f : ℕ) → Holds now s f → Holds old s f ⊎ IsKnown old f
  pub next : old.next_ino ≤ now.next_ino

-- The places after each change.
pub from_places : (old now : World) → Places old now → IsFrom old now
from_places old _ Same = record { tables = λ f t. inl (ByTable f t); holders = λ s f h. inl h; next = omega arith }
from_places old _ (Tables w ps pid us c gain) = let k = from_places old w c in record { tables = λ f t. elim (gain f t) [ inl y ↦ k.tables f y | inr y ↦ y ]; holders = k.holders; next = k.next }
from_places old _ (Adds w x c blank) =
    let k = from_places old w c in
    let low = k.next in
    record { tables = k.tables; holders = λ q f h. k.holders q f (held-blank w x blank q f h); next = omega (arith, low) }
from_places old _ (Sets w s g c gain) = let k = from_places old w c in record { tables = k.tables; holders = λ q f h. elim (gain q f h) [ inl y ↦ k.holders q f y | inr y ↦ inr y ]; next = k.next }

-- A change of a whole world leads to the world after it.
changes_lead : (old now : World) → IsWhole old → Changed old now → Leads old now
changes_lead old now whole c = let k = from_places old now c.places in reached_or_new old now whole k.tables k.holders

-- Whatever the outcome.
module _ (old now new : World) where
  -- It is so after settling, if it was before.
  settled_leads : Leads old now → Settles now new → Leads old new
  settled_leads leads t f r = leads f (reached_before now new t f r)

  -- It is so where nothing changed.
  same_leads : new ≡ old → Leads old new
  same_leads e f r = inl (subst (λ x. Reached x f) e r)

  -- It is so of an outcome, if it is of the effect.
  outcome_leads : (o : Option Errno) → (o ≡ None → Leads old now) → (frugal : Bool) (answer r : Reply) → Outcome o frugal answer now old r new → Leads old new
  outcome_leads (Some e) leads frugal answer r h = same_leads h.1
  outcome_leads None leads true answer r h = settled_leads (leads refl) h.1
  outcome_leads None leads false answer r (inl h) = settled_leads (leads refl) h.1
  outcome_leads None leads false answer r (inr h) = same_leads h.1

-- Then a given number that is reachable was reachable.
pub numbered_leads : (old new : World) → Leads old new → (f : ℕ) → f < old.next_ino → Reached new f → Reached old f
numbered_leads old new leads f known r = elim (leads f r) [
  | inl d ↦ d
  | inr n ↦ absurd (omega (arith, n, known))
]

-- It is so of a process's start.
spawn_step_leads : (old new : World) (uid nofile : ℕ) (privileged : Bool) (r : Reply) → IsWhole old → SpawnStep old uid nofile privileged r new → Leads old new
spawn_step_leads old new uid nofile privileged r whole h =
    outcome_leads old (spawned old uid nofile privileged) new (spawn_refusal old nofile) (λ none. changes_lead old (spawned old uid nofile privileged) whole (spawn-changes old uid nofile privileged none)) false (reply.Pid old.next_pid) r h

-- It is so of a process's step.
process_step_leads : (old new : World) (p : ℕ) (s : Step) (r : Reply) → IsWhole old → ProcessStep old p s r new → Leads old new
process_step_leads old new p s r whole h =
    outcome_leads old (effect old p s) new (refusal old p s) (λ none. changes_lead old (effect old p s) whole (effect-changes old p s whole none)) (needs_no_memory s) (answer old p s) r h

pub spawn_reaches_no_garbage : SpawnReachesNoGarbage
spawn_reaches_no_garbage old new uid nofile privileged r whole h f live =
    numbered_leads old new (spawn_step_leads old new uid nofile privileged r whole h) f (whole.files_numbered f live)

pub step_reaches_no_garbage : StepReachesNoGarbage
step_reaches_no_garbage old new p s r whole h f live =
    numbered_leads old new (process_step_leads old new p s r whole h) f (whole.files_numbered f live)

-- It is so of a whole pass.
pass_leads : (p : Pass) (old new : Machine) (r : Reply) → PassesWhole p old r new → Leads old.world new.world
pass_leads Idle old new r h f d = inl ((purging_keeps_reached old.world new.world h.0.test (λ g e. (h.0.is_garbage g).0 e) h.0.purged f).1 d)
pass_leads (Running begun spent) old new r h f d = inl (subst (λ m. Reached m.world f) h.1 d)

-- A begin leaves the world.
begin_leads : (p : Pass) (old new : Machine) (r : Reply) → Begins p old r new → Leads old.world new.world
begin_leads Idle old new r h f d = inl (subst (λ m. Reached m.world f) h.1 d)
begin_leads (Running begun spent) old new r h f d = inl (subst (λ m. Reached m.world f) h.1 d)

-- A slice purges, which makes nothing reached.
slice_leads : (p : Pass) (old new : Machine) (b : ℕ) (r : Reply) → GoesOn p old b r new → Leads old.world new.world
slice_leads Idle old new b r h f d = inl (subst (λ m. Reached m.world f) h.1 d)
slice_leads (Running begun spent) old new b r h f d = elim (slice-by begun spent b old new r h) [
  | inl refused ↦ inl (subst (λ m. Reached m.world f) refused.1 d)
  | inr made ↦ inl (purging_reaches_nothing old.world new.world _ made.0.purged f d)
]

-- It is so of each event.
pub event_leads : (old new : Machine) (e : Event) (r : Reply) → IsWhole old.world → MachineStep old e r new → Leads old.world new.world
event_leads old new (event.Spawn uid nofile privileged) r whole h = spawn_step_leads old.world new.world uid nofile privileged r whole h.0
event_leads old new (event.Proc p s) r whole h = process_step_leads old.world new.world p s r whole h.0
event_leads old new event.Begin r whole h = begin_leads old.pass old new r h
event_leads old new (event.Slice b) r whole h = slice_leads old.pass old new b r h
event_leads old new event.Pass r whole h = pass_leads old.pass old new r h

pub garbage_stays_out_of_reach : GarbageStaysOutOfReach
garbage_stays_out_of_reach old new e r whole h f g d =
    g.1 (numbered_leads old.world new.world (event_leads old new e r whole h) f (whole.files_numbered f g.0) d)
