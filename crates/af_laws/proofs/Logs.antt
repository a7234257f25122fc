-- Each event has a reply, the reply tells the machine, and runs come apart as they were joined.
use Rattle.std.proofs.Common.{◌≡◌, inl, inr, ℕ, ◌+◌, ◌*◌, ◌≤◌, Bool, true, false, ◌&&◌, ◌||◌, List, [], ◌∷◌, ◌++◌, refl, sym, ap, ◌∙◌, subst, cond, arith}
use Rattle.std.specs.List.{count_by, list_any}
use Rattle.std.specs.FinMap as map
use Rattle.std.specs.Prelude.{Option, Some, None, MatchBool, nat_eq, nat_lt}
use Rattle.std.specs.Cmp.{both_ways}
use Rattle.std.proofs.lemmas.Bool.{false≢true}
use Rattle.std.proofs.lemmas.List.Elements.{All-head, All-nil, All-tail}
use Rattle.af_base.specs.declared.errno.Errno.{Errno}
use Rattle.af_base.specs.declared.errno.Errno.TheVariants.{EBUSY, EIDLE, EINVAL, ENOMEM}
use Rattle.af_base.specs.declared.events.Event.{Event}
use Rattle.af_base.specs.declared.events.Event.TheVariants as event
use Rattle.af_base.specs.declared.events.Reply.{Reply}
use Rattle.af_base.specs.declared.events.Reply.TheVariants as reply
use Rattle.af_base.specs.declared.events.Step.{Step as ProcStep}
use Rattle.af_base.specs.declared.events.Step.TheVariants as step
use Rattle.af_base.specs.declared.limits.TheConstants.{MAX_BUDGET}
use Rattle.af_base.specs.World.{World}
use Rattle.af_base.specs.Unheld.{Settles}
use Rattle.af_base.specs.Refusals.{refusal, spawn_refusal}
use Rattle.af_base.specs.Steps.{Outcome, answer, effect, needs_no_memory, spawned}
use Rattle.af_base.specs.Pass.{Begins, GoesOn, Idle, IsInTime, Machine, Pass, Passes, PassesWhole, Purges, Running, Slices, emptied, next_pass}
use Rattle.af_base.specs.Reached.{Garbage, is_socket}
use Rattle.af_base.specs.Run.{Run, RunEntry, Step, fresh}
use Rattle.af_base.proofs.Runs.{run-append}
use Rattle.af_base.specs.Whole.{IsSound, IsWhole}
use Rattle.af_base.proofs.PurgedWorlds.{slice-by, sound-begins, sound-pass, sound-slice}
use Rattle.af_base.proofs.SettledWorlds.{settles_once}
use Rattle.af_base.proofs.Soundness.{fresh_sound}
use Rattle.af_base.proofs.SoundSteps.{sound-spawn, sound-step}
use Rattle.af_laws.proofs.Decidability.{garbage_decided}
use Rattle.af_laws.proofs.SettlingOutcome.{settles_to_some}
use Rattle.af_laws.specs.Running.{EventsHaveReplies, EventsKeepSound, FreshIsSound, HasBudget, LeavesNoChoice, LogDetermines, RefusedChangesNothing, RepliesDetermine, RunsAreInTime, RunsAreSound, RunsJoin}

-- An outcome there is.
outcome_some : (o : Option Errno) (frugal : Bool) (answer : Reply) (now old : World) → (r : Reply) × (new : World) × Outcome o frugal answer now old r new
outcome_some (Some e) frugal answer now old = (reply.Refused e, old, (refl, refl))
outcome_some None true answer now old = let s = settles_to_some now in (answer, s.0, (refl, s.1))
outcome_some None false answer now old = let s = settles_to_some now in (answer, s.0, inl (refl, s.1))

-- A whole pass is refused, or done: its garbage can be told.
pass_some : (p : Pass) (old : Machine) → IsWhole old.world → (r : Reply) × (new : Machine) × PassesWhole p old r new
pass_some Idle old whole =
    let g = garbage_decided old.world whole in
    let s = settles_to_some (emptied g.0 old.world) in
    let count = count_by (λ e. is_socket e.1 && g.0 e.0) (map.entries old.world.files) in (
      reply.Done (next_pass old.last_pass) count,
      record { world = s.0; pass = Idle; last_pass = next_pass old.last_pass; since = old.since },
      (record { test = g.0; is_garbage = g.1; purged = s.1; count = count; counted = (g.0, g.1, refl); answered = refl }, refl, refl, refl),
    )
pass_some (Running begun spent) old whole = (reply.Refused EBUSY, old, (refl, refl))

-- A pass that is to begin begins, or is refused.
begin_some : (p : Pass) (old : Machine) → (r : Reply) × (new : Machine) × Begins p old r new
begin_some Idle old = (reply.Started (next_pass old.last_pass), record old { pass = Running old.world 0; last_pass = next_pass old.last_pass }, (refl, refl))
begin_some (Running begun spent) old = (reply.Refused EBUSY, old, (refl, refl))

-- A slice within the budgets may empty nothing, and go on.
slice_some : (p : Pass) (old : Machine) (b : ℕ) → HasBudget p b → (r : Reply) × (new : Machine) × GoesOn p old b r new
slice_some Idle old b has = (reply.Refused EIDLE, old, (refl, refl))
slice_some (Running begun spent) old b has = by (nat_eq b 0 || nat_lt MAX_BUDGET b) refl where
  s : (new : World) × Purges (λ f. list_any (nat_eq f) []) old.world new
  s = settles_to_some (emptied (λ f. list_any (nat_eq f) []) old.world)

  after : Machine
  after = record old { world = s.0; pass = Running begun (spent + b) }

  within : (nat_eq b 0 || nat_lt MAX_BUDGET b) ≡ false → spent + b ≤ 3 * map.len begun.files
  within e = elim has [
    | inl out ↦ absurd (false≢true (sym e ∙ out))
    | inr low ↦ low
  ]

  by : (c : Bool) → (nat_eq b 0 || nat_lt MAX_BUDGET b) ≡ c
      → (r : Reply) × (new : Machine) × MatchBool c ((r ≡ reply.Refused EINVAL) × (new ≡ old)) (Slices begun old.world spent b old.last_pass r new.world new.pass × (new.last_pass ≡ old.last_pass) × (new.since ≡ old.since))
  by true e = (reply.Refused EINVAL, old, (refl, refl))
  by false e = (reply.Working, after, (record { emptied_files = []; few = omega arith; of_garbage = All-nil (Garbage begun); purged = s.1; answered = inl (refl, refl, within e) }, refl, refl))

-- The machine with this world.
abbrev with_world : Machine → World → Machine
with_world m w = record m { world = w }

pub events_have_replies : EventsHaveReplies
events_have_replies old (event.Spawn uid nofile privileged) sound answered =
    let o = outcome_some (spawn_refusal old.world nofile) false (reply.Pid old.world.next_pid) (spawned old.world uid nofile privileged) old.world in
    (o.0, with_world old o.1, (o.2, (refl, refl, refl)))
events_have_replies old (event.Proc p s) sound answered =
    let o = outcome_some (refusal old.world p s) (needs_no_memory s) (answer old.world p s) (effect old.world p s) old.world in
    (o.0, with_world old o.1, (o.2, (refl, refl, refl)))
events_have_replies old event.Begin sound answered = begin_some old.pass old
events_have_replies old (event.Slice b) sound answered = slice_some old.pass old b answered
events_have_replies old event.Pass sound answered = pass_some old.pass old sound.whole

-- Whether the reply is a refusal.
pub is_refused : Reply → Bool
is_refused (reply.Refused e) = true
is_refused (reply.Pid p) = false
is_refused (reply.Fd n) = false
is_refused (reply.Fds n m) = false
is_refused reply.Ok = false
is_refused (reply.Sent n) = false
is_refused (reply.Got bytes fds trunc ctrunc) = false
is_refused reply.End = false
is_refused (reply.Started n) = false
is_refused reply.Working = false
is_refused (reply.Done n m) = false

-- The answer of a receive is no refusal.
either : (b : Bool) (bytes fds : List ℕ) (trunc ctrunc : Bool) → is_refused (cond b reply.End (reply.Got bytes fds trunc ctrunc)) ≡ false
unfolding is_refused
either true bytes fds trunc ctrunc = refl
either false bytes fds trunc ctrunc = refl

-- An answer is none.
answers : (w : World) (p : ℕ) (s : ProcStep) → is_refused (answer w p s) ≡ false
unfolding is_refused
answers w p (step.Recv n max_bytes max_fds) = either _ _ _ _ _
answers w p (step.Peek n max_bytes max_fds) = either _ _ _ _ _
answers w p s = refl

module _ (answer : Reply) (given : is_refused answer ≡ false) (now old a b : World) (r : Reply) where
  -- An answer that is no refusal differs from one.
  apart : (e : Errno) → r ≡ answer → r ≡ reply.Refused e → ⊥
  unfolding is_refused
  apart e x y = false≢true (sym given ∙ ap is_refused (sym x ∙ y))

  -- An outcome with its reply leads to one world.
  outcome_one : (o : Option Errno) (frugal : Bool) → Outcome o frugal answer now old r a → Outcome o frugal answer now old r b → a ≡ b
  outcome_one (Some e) frugal x y = x.1 ∙ sym y.1
  outcome_one None true x y = settles_once now a b x.1 y.1
  outcome_one None false (inl x) (inl y) = settles_once now a b x.1 y.1
  outcome_one None false (inl x) (inr y) = absurd (apart ENOMEM x.0 y.0)
  outcome_one None false (inr x) (inl y) = absurd (apart ENOMEM y.0 x.0)
  outcome_one None false (inr x) (inr y) = x.1 ∙ sym y.1

-- Machines with equal parts are equal.
same_machine : (a b : Machine) → a.world ≡ b.world → a.pass ≡ b.pass → a.last_pass ≡ b.last_pass → a.since ≡ b.since → a ≡ b
same_machine a b x y z s = λ i. record { world = x i; pass = y i; last_pass = z i; since = s i }

-- The garbage of a world determines what a whole pass leaves.
passes_one : (w a b : World) (n : ℕ) (r s : Reply) → Passes w n r a → Passes w n s b → a ≡ b
passes_one w a b n r s x y =
    let same : (f : ℕ) → x.test f ≡ y.test f = λ f. both_ways (x.test f) (y.test f) (λ e. (y.is_garbage f).1 ((x.is_garbage f).0 e)) (λ e. (x.is_garbage f).1 ((y.is_garbage f).0 e)) in
    settles_once (emptied y.test w) a b (subst (λ t. Purges t w a) (λ i f. same f i) x.purged) y.purged

-- A whole pass with its reply leads to one machine.
pass_one : (p : Pass) (old a b : Machine) (r : Reply) → PassesWhole p old r a → PassesWhole p old r b → a ≡ b
unfolding is_refused
pass_one Idle old a b r x y = same_machine a b (passes_one old.world a.world b.world _ r r x.0 y.0) (x.1 ∙ sym y.1) (x.2 ∙ sym y.2) (x.3 ∙ sym y.3)
pass_one (Running begun spent) old a b r x y = x.1 ∙ sym y.1

-- A begin, with its reply, leads to one machine.
begin_one : (p : Pass) (old a b : Machine) (r : Reply) → Begins p old r a → Begins p old r b → a ≡ b
begin_one Idle old a b r x y = x.1 ∙ sym y.1
begin_one (Running begun spent) old a b r x y = x.1 ∙ sym y.1

pub replies_determine : RepliesDetermine
unfolding is_refused
replies_determine old a b (event.Spawn uid nofile privileged) r none x y =
    same_machine a b (outcome_one (reply.Pid old.world.next_pid) refl (spawned old.world uid nofile privileged) old.world a.world b.world r (spawn_refusal old.world nofile) false x.0 y.0) (x.1.0 ∙ sym y.1.0) (x.1.1 ∙ sym y.1.1) (x.1.2 ∙ sym y.1.2)
replies_determine old a b (event.Proc p s) r none x y =
    same_machine a b (outcome_one (answer old.world p s) (answers old.world p s) (effect old.world p s) old.world a.world b.world r (refusal old.world p s) (needs_no_memory s) x.0 y.0) (x.1.0 ∙ sym y.1.0) (x.1.1 ∙ sym y.1.1) (x.1.2 ∙ sym y.1.2)
replies_determine old a b event.Begin r none x y = begin_one old.pass old a b r x y
replies_determine old a b (event.Slice n) r none x y = absurd none
replies_determine old a b event.Pass r none x y = pass_one old.pass old a b r x y

-- Ok is no refusal.
pub ok_is_done : is_refused reply.Ok ≡ false
unfolding is_refused
ok_is_done = refl

-- A sent message is no refusal.
pub sent_is_done : (n : ℕ) → is_refused (reply.Sent n) ≡ false
unfolding is_refused
sent_is_done n = refl

-- An end is no refusal.
pub end_is_done : is_refused reply.End ≡ false
unfolding is_refused
end_is_done = refl

-- A descriptor is no refusal.
pub number_is_done : (n : ℕ) → is_refused (reply.Fd n) ≡ false
unfolding is_refused
number_is_done n = refl

-- An event that is not refused has its answer, and the effect settles.
pub outcome_done : (o : Option Errno) (frugal : Bool) (answer : Reply) (now old : World) (r : Reply) (new : World) → is_refused r ≡ false → Outcome o frugal answer now old r new → (o ≡ None) × (r ≡ answer) × Settles now new
unfolding is_refused
outcome_done (Some e) frugal answer now old r new given h = absurd (false≢true (sym given ∙ ap is_refused h.0))
outcome_done None true answer now old r new given h = (refl, h.0, h.1)
outcome_done None false answer now old r new given (inl h) = (refl, h.0, h.1)
outcome_done None false answer now old r new given (inr h) = absurd (false≢true (sym given ∙ ap is_refused h.0))

-- A refused outcome changes nothing.
outcome_refused : (answer : Reply) → is_refused answer ≡ false → (now old new : World) (error : Errno) (o : Option Errno) (frugal : Bool) → Outcome o frugal answer now old (reply.Refused error) new → new ≡ old
unfolding is_refused
outcome_refused answer given now old new error (Some e) frugal h = h.1
outcome_refused answer given now old new error None true h = absurd (false≢true (sym given ∙ ap is_refused (sym h.0)))
outcome_refused answer given now old new error None false (inl h) = absurd (false≢true (sym given ∙ ap is_refused (sym h.0)))
outcome_refused answer given now old new error None false (inr h) = h.1

-- A refused pass changes nothing.
pass_refused : (p : Pass) (old new : Machine) (error : Errno) → PassesWhole p old (reply.Refused error) new → new ≡ old
unfolding is_refused
pass_refused Idle old new error h = absurd (false≢true (sym (ap is_refused h.0.answered)))
pass_refused (Running begun spent) old new error h = h.1

-- A begin that is refused changes nothing.
begin_refused : (p : Pass) (old new : Machine) (error : Errno) → Begins p old (reply.Refused error) new → new ≡ old
unfolding is_refused
begin_refused Idle old new error h = absurd (false≢true (sym (ap is_refused h.0)))
begin_refused (Running begun spent) old new error h = h.1

-- Nor does a slice that is.
slice_refused : (p : Pass) (old new : Machine) (b : ℕ) (error : Errno) → GoesOn p old b (reply.Refused error) new → new ≡ old
unfolding is_refused
slice_refused Idle old new b error h = h.1
slice_refused (Running begun spent) old new b error h = elim (slice-by begun spent b old new (reply.Refused error) h) [
  | inl refused ↦ refused.1
  | inr made ↦ elim made.0.answered [
    | inl works ↦ absurd (false≢true (sym (ap is_refused works.0)))
    | inr done ↦ absurd (false≢true (sym (ap is_refused done.2)))
  ]
]

pub refused_changes_nothing : RefusedChangesNothing
unfolding is_refused
refused_changes_nothing old new (event.Spawn uid nofile privileged) error h =
    same_machine new old (outcome_refused (reply.Pid old.world.next_pid) refl (spawned old.world uid nofile privileged) old.world new.world error (spawn_refusal old.world nofile) false h.0) h.1.0 h.1.1 h.1.2
refused_changes_nothing old new (event.Proc p s) error h =
    same_machine new old (outcome_refused (answer old.world p s) (answers old.world p s) (effect old.world p s) old.world new.world error (refusal old.world p s) (needs_no_memory s) h.0) h.1.0 h.1.1 h.1.2
refused_changes_nothing old new event.Begin error h = begin_refused old.pass old new error h
refused_changes_nothing old new (event.Slice b) error h = slice_refused old.pass old new b error h
refused_changes_nothing old new event.Pass error h = pass_refused old.pass old new error h

pub log_determines : LogDetermines
log_determines old a b [] none x y = x ∙ sym y
log_determines old a b (e ∷ log) none x y =
    let same : x.0 ≡ y.0 = replies_determine old x.0 y.0 e.0 e.1 (All-head (λ (x : RunEntry). LeavesNoChoice x.0) e log none) x.1 y.1 in
    log_determines y.0 a b log (All-tail (λ (x : RunEntry). LeavesNoChoice x.0) e log none) (subst (λ m. Run m log a) same x.2) y.2

-- A run of two lists joined is a run of the first and one of the second.
run_split : (old new : Machine) (first second : List RunEntry) → Run old (first ++ second) new → (mid : Machine) × Run old first mid × Run mid second new
run_split old new [] second run = (old, refl, run)
run_split old new (e ∷ first) second run =
    let rest = run_split run.0 new first second run.2 in
    (rest.0, (run.0, run.1, rest.1), rest.2)

pub runs_join : RunsJoin
runs_join old new first second = (run_split old new first second, λ run. run-append old run.0 new first second run.1 run.2)

pub fresh_is_sound : FreshIsSound
fresh_is_sound = fresh_sound

pub events_keep_sound : EventsKeepSound
events_keep_sound old new (event.Spawn uid nofile privileged) r sound h = sound-spawn old.world uid nofile privileged r new.world sound h.0
events_keep_sound old new (event.Proc p s) r sound h = sound-step old.world p s r new.world sound h.0
events_keep_sound old new event.Begin r sound h = sound-begins old.pass old new r sound h
events_keep_sound old new (event.Slice b) r sound h = sound-slice old.pass old new b r sound h
events_keep_sound old new event.Pass r sound h = sound-pass old.pass old new r sound h

-- A run from a sound world leads to a sound one.
run_sound : (old new : Machine) (log : List RunEntry) → IsSound old.world → Run old log new → IsSound new.world
run_sound old new [] sound run = subst (λ m. IsSound m.world) (sym run) sound
run_sound old new (e ∷ log) sound run = run_sound run.0 new log (events_keep_sound old run.0 e.0 e.1 sound run.1) run.2

pub runs_are_sound : RunsAreSound
runs_are_sound m log run = run_sound fresh m log fresh_sound run

-- A collector's event leaves the pass in time.
module _ (old new : Machine) (r : Reply) where
  -- So does what changes nothing.
  same_time : IsInTime old.pass → new ≡ old → IsInTime new.pass
  same_time t e = subst (λ m. IsInTime m.pass) (sym e) t

  begin_in_time : (p : Pass) → IsInTime old.pass → Begins p old r new → IsInTime new.pass
  begin_in_time Idle t h = subst (λ m. IsInTime m.pass) (sym h.1) (omega arith)
  begin_in_time (Running begun spent) t h = same_time t h.1

  slice_in_time : (p : Pass) (b : ℕ) → IsInTime old.pass → GoesOn p old b r new → IsInTime new.pass
  slice_in_time Idle b t h = same_time t h.1
  slice_in_time (Running begun spent) b t h = elim (slice-by begun spent b old new r h) [
    | inl refused ↦ same_time t refused.1
    | inr made ↦ elim made.0.answered [
      | inl works ↦ subst IsInTime (sym works.1) works.2
      | inr done ↦ subst IsInTime (sym done.3) tt
    ]
  ]

  pass_in_time : (p : Pass) → IsInTime old.pass → PassesWhole p old r new → IsInTime new.pass
  pass_in_time Idle t h = subst IsInTime (sym h.1) tt
  pass_in_time (Running begun spent) t h = same_time t h.1

-- So does each event.
event_in_time : (old new : Machine) (e : Event) (r : Reply) → IsInTime old.pass → Step old e r new → IsInTime new.pass
event_in_time old new (event.Spawn uid nofile privileged) r t h = subst IsInTime (sym h.1.0) t
event_in_time old new (event.Proc p s) r t h = subst IsInTime (sym h.1.0) t
event_in_time old new event.Begin r t h = begin_in_time old new r old.pass t h
event_in_time old new (event.Slice b) r t h = slice_in_time old new r old.pass b t h
event_in_time old new event.Pass r t h = pass_in_time old new r old.pass t h

-- A run from a machine in time leads to one.
run_in_time : (old new : Machine) (log : List RunEntry) → IsInTime old.pass → Run old log new → IsInTime new.pass
run_in_time old new [] t run = subst (λ m. IsInTime m.pass) (sym run) t
run_in_time old new (e ∷ log) t run = run_in_time run.0 new log (event_in_time old run.0 e.0 e.1 t run.1) run.2

pub runs_are_in_time : RunsAreInTime
runs_are_in_time m log run = run_in_time fresh m log tt run
