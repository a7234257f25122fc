-- Laws of purging: queues are emptied, and then files are freed.
use Rattle.std.specs.Prelude.{◌≡◌, ℕ, Bool, ◌||◌, List, [], ◌∷◌, ◌++◌}
use Rattle.std.specs.List.{All}
use Rattle.std.specs.Option.{option_map_or}
use Rattle.std.specs.FinMap as map
use Rattle.af_base.specs.declared.events.Event.{Event}
use Rattle.af_base.specs.declared.events.Event.TheVariants as event
use Rattle.af_base.specs.declared.events.Reply.{Reply}
use Rattle.af_base.specs.declared.events.Reply.TheVariants as reply
use Rattle.af_base.specs.declared.limits.TheConstants.{MAX_BUDGET}
use Rattle.af_base.specs.World.{World, IsLive}
use Rattle.af_base.specs.Places.{backlog_of, queue_at}
use Rattle.af_base.specs.Reached.{Garbage, Reached}
use Rattle.af_base.specs.Pass.{Machine, Purges, Running}
use Rattle.af_base.specs.Run.{Run, RunEntry, Step, fresh}
use Rattle.af_base.specs.Unheld.{IsSettled}
use Rattle.af_base.specs.Whole.{IsSound}

-- To purge some files and then others is to purge all of them at once.
abbrev pub PurgesBoth : Type 0
PurgesBoth = (some others : ℕ → Bool) (w v new : World) → Purges some w v → Purges others v new
    → Purges (λ f. some f || others f) w new

-- The order of two purges does not matter.
abbrev pub PurgesInAnyOrder : Type 0
PurgesInAnyOrder = (some others : ℕ → Bool) (w v x a b : World) → Purges some w v
    → Purges others v a → Purges others w x → Purges some x b → a ≡ b

-- No table is another, and what was reached is live, with the queue and the backlog that it had.
pub record SparesReached (old new : World) : Type 0 where
  pub tables : new.processes ≡ old.processes
  pub live : (f : ℕ) → Reached old f → IsLive old f → IsLive new f
  pub queues : (f : ℕ) → Reached old f → queue_at new f ≡ queue_at old f
  pub backlogs : (f : ℕ) → Reached old f → option_map_or backlog_of (map.get new.files f) []
      ≡ option_map_or backlog_of (map.get old.files f) []

-- A whole pass changes no table, and no queue or backlog of what is reached, whatever the answer.
abbrev pub PassSparesTheReached : Type 0
PassSparesTheReached = (old new : Machine) (r : Reply) → Step old event.Pass r new
    → SparesReached old.world new.world

-- A whole pass that is done leaves no garbage.
abbrev pub PassLeavesNoGarbage : Type 0
PassLeavesNoGarbage = (old new : Machine) (pass count : ℕ)
    → Step old event.Pass (reply.Done pass count) new → (f : ℕ) → ¬ (Garbage new.world f)

-- A whole pass that is done has released all that was garbage at its beginning: none of it is live.
abbrev pub PassReleasesItsGarbage : Type 0
PassReleasesItsGarbage = (old new : Machine) (pass count : ℕ)
    → Step old event.Pass (reply.Done pass count) new → (f : ℕ) → Garbage old.world f
    → ¬ (IsLive new.world f)

-- A whole pass that is done on a world without processes leaves no file.
abbrev pub PassWithoutProcessesLeavesNothing : Type 0
PassWithoutProcessesLeavesNothing = (old new : Machine) (pass count : ℕ)
    → map.len old.world.processes ≡ 0 → Step old event.Pass (reply.Done pass count) new
    → map.len new.world.files ≡ 0

-- A whole pass has one outcome: one reply, and one machine.
abbrev pub PassHasOneOutcome : Type 0
PassHasOneOutcome = (old new other : Machine) (r s : Reply) → Step old event.Pass r new
    → Step old event.Pass s other → (r ≡ s) × (new ≡ other)

-- The event is a slice.
abbrev pub IsSlice : Event → Type 0
IsSlice (event.Spawn uid nofile privileged) = ⊥
IsSlice (event.Proc p s) = ⊥
IsSlice event.Begin = ⊥
IsSlice (event.Slice b) = Unit {0}
IsSlice event.Pass = ⊥

-- A begin, and slices with no steps between them, the last of them done, are a whole pass, however
-- they are cut. It may have the same reply, and lead to the same machine.
abbrev pub SlicesAreAPass : Type 0
SlicesAreAPass = (old new : Machine) (slices : List RunEntry) (started b pass count : ℕ)
    → IsSettled old.world → All (λ e. IsSlice e.0) slices
    → Run old ((event.Begin, reply.Started started) ∷ slices
    ++ (event.Slice b, reply.Done pass count) ∷ []) new
    → Step old event.Pass (reply.Done pass count) new

-- A whole pass that is done is a begin and one slice of the largest budget.
abbrev pub PassIsOneSlice : Type 0
PassIsOneSlice = (old new : Machine) (pass count : ℕ) → IsSound old.world
    → Step old event.Pass (reply.Done pass count) new
    → Run old ((event.Begin, reply.Started pass)
    ∷ (event.Slice MAX_BUDGET, reply.Done pass count) ∷ []) new

-- While no garbage of the begin is reached, a slice changes no table, and no queue or backlog of
-- what is reached, whatever the answer.
abbrev pub SlicesSpareTheReached : Type 0
SlicesSpareTheReached = (old new : Machine) (begun : World) (spent b : ℕ) (r : Reply)
    → old.pass ≡ Running begun spent → ((f : ℕ) → Garbage begun f → ¬ (Reached old.world f))
    → Step old (event.Slice b) r new → SparesReached old.world new.world

-- While a pass runs, no garbage of its begin is reached, whatever processes do between its slices.
abbrev pub BegunGarbageIsNeverReached : Type 0
BegunGarbageIsNeverReached = (m : Machine) (log : List RunEntry) (begun : World) (spent : ℕ)
    → Run fresh log m → m.pass ≡ Running begun spent → (f : ℕ) → Garbage begun f
    → ¬ (Reached m.world f)
