-- While a pass runs, no garbage of its begin is reached.
use Rattle.std.proofs.Common.{◌≡◌, ◌<◌, ◌⊎◌, inl, inr, ℕ, List, [], ◌∷◌, refl, sym, ap, ◌∙◌, subst, arith}
use Rattle.af_base.specs.declared.events.Event.{Event}
use Rattle.af_base.specs.declared.events.Event.TheVariants as event
use Rattle.af_base.specs.declared.events.Reply.{Reply}
use Rattle.af_base.specs.World.{World}
use Rattle.af_base.specs.Reached.{Garbage, Reached}
use Rattle.af_base.specs.Pass.{Begins, GoesOn, Idle, Machine, Pass, PassesWhole, Running}
use Rattle.af_base.specs.Run.{Run, RunEntry, Step, fresh}
use Rattle.af_base.specs.Whole.{IsSound}
use Rattle.af_base.proofs.PurgedWorlds.{slice-by}
use Rattle.af_base.proofs.Soundness.{fresh_sound}
use Rattle.af_laws.proofs.Forever.{event_next}
use Rattle.af_laws.proofs.Logs.{events_keep_sound}
use Rattle.af_laws.proofs.Reachability.{event_leads, numbered_leads}
use Rattle.af_laws.specs.Purging.{BegunGarbageIsNeverReached}

-- The world at the begin of a pass, if one runs.
begin_of : Pass → World → World
begin_of Idle w = w
begin_of (Running begun spent) w = begun

-- A pass that runs remembers one world.
one_begin : (v w : World) (n k : ℕ) → Running v n ≡ Running w k → v ≡ w
unfolding begin_of
one_begin v w n k e = ap (λ p. begin_of p v) e

-- No pass is no pass that runs.
idle_runs : (w : World) (n : ℕ) → Idle ≡ Running w n → ⊥
idle_runs w n e = cc

-- A pass that runs afterwards has just begun, or ran before.
abbrev Remembers : Machine → Machine → Type 0
Remembers old new = (begun : World) (spent : ℕ) → new.pass ≡ Running begun spent → (old.world ≡ begun) ⊎ ((n : ℕ) × (old.pass ≡ Running begun n))

-- Where nothing changes.
same_remembers : (old new : Machine) → new ≡ old → Remembers old new
same_remembers old new e begun spent runs = inr (spent, ap (λ m. m.pass) (sym e) ∙ runs)

-- A begin remembers the world.
begin_remembers : (p : Pass) (old new : Machine) (r : Reply) → Begins p old r new → Remembers old new
begin_remembers Idle old new r h begun spent runs = inl (one_begin old.world begun 0 spent (ap (λ m. m.pass) (sym h.1) ∙ runs))
begin_remembers (Running w n) old new r h begun spent runs = same_remembers old new h.1 begun spent runs

-- A slice remembers what the pass did.
slice_remembers : (p : Pass) (old new : Machine) (b : ℕ) (r : Reply) → old.pass ≡ p → GoesOn p old b r new → Remembers old new
slice_remembers Idle old new b r is h begun spent runs = same_remembers old new h.1 begun spent runs
slice_remembers (Running w n) old new b r is h begun spent runs = elim (slice-by w n b old new r h) [
  | inl refused ↦ same_remembers old new refused.1 begun spent runs
  | inr made ↦ elim made.0.answered [
    | inl works ↦ inr (n, is ∙ ap (λ x. Running x n) (one_begin w begun _ spent (sym works.1 ∙ runs)))
    | inr done ↦ absurd (idle_runs begun spent (sym done.3 ∙ runs))
  ]
]

-- After a whole pass none runs that did not before.
pass_remembers : (p : Pass) (old new : Machine) (r : Reply) → PassesWhole p old r new → Remembers old new
pass_remembers Idle old new r h begun spent runs = absurd (idle_runs begun spent (sym h.1 ∙ runs))
pass_remembers (Running w n) old new r h begun spent runs = same_remembers old new h.1 begun spent runs

-- So after any event.
event_remembers : (old new : Machine) (e : Event) (r : Reply) → Step old e r new → Remembers old new
event_remembers old new (event.Spawn uid nofile privileged) r h begun spent runs = inr (spent, sym h.1.0 ∙ runs)
event_remembers old new (event.Proc p s) r h begun spent runs = inr (spent, sym h.1.0 ∙ runs)
event_remembers old new event.Begin r h begun spent runs = begin_remembers old.pass old new r h begun spent runs
event_remembers old new (event.Slice b) r h begun spent runs = slice_remembers old.pass old new b r refl h begun spent runs
event_remembers old new event.Pass r h begun spent runs = pass_remembers old.pass old new r h begun spent runs

-- While a pass runs, the garbage of its begin is not reached, and its numbers were given.
abbrev KeepsApart : Machine → Type 0
KeepsApart m = (begun : World) (spent : ℕ) → m.pass ≡ Running begun spent → (f : ℕ) → Garbage begun f → (f < m.world.next_ino) × (¬ (Reached m.world f))

-- An event keeps it so.
event_apart : (old new : Machine) (e : Event) (r : Reply) → IsSound old.world → Step old e r new → KeepsApart old → KeepsApart new
event_apart old new e r sound h apart begun spent runs f g = after (elim (event_remembers old new e r h begun spent runs) [
  | inl is ↦ let now = subst (λ w. Garbage w f) (sym is) g in (sound.whole.files_numbered f now.0, now.1)
  | inr ran ↦ apart begun ran.0 ran.1 f g
]) where
  after : (f < old.world.next_ino) × (¬ (Reached old.world f)) → (f < new.world.next_ino) × (¬ (Reached new.world f))
  after before = (omega (arith, before.0, event_next old new e r sound.whole h), λ d. before.1 (numbered_leads old.world new.world (event_leads old new e r sound.whole h) f before.0 d))

-- And so does a run.
run_apart : (old new : Machine) (log : List RunEntry) → IsSound old.world → KeepsApart old → Run old log new → KeepsApart new
run_apart old new [] sound apart run = subst KeepsApart (sym run) apart
run_apart old new (e ∷ log) sound apart run = run_apart run.0 new log (events_keep_sound old run.0 e.0 e.1 sound run.1) (event_apart old run.0 e.0 e.1 sound run.1 apart) run.2

pub begun_garbage_is_never_reached : BegunGarbageIsNeverReached
begun_garbage_is_never_reached m log begun spent run runs f g = (run_apart fresh m log fresh_sound (λ w n e. absurd (idle_runs w n e)) run begun spent runs f g).1
