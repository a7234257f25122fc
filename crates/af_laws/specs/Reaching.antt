-- Laws of reach: what a chain of places that begins in a table leads to.
use Rattle.std.specs.Prelude.{◌≡◌, ◌↔◌, ℕ, Bool, true, List, None}
use Rattle.af_base.specs.declared.events.Event.{Event}
use Rattle.af_base.specs.declared.events.Reply.{Reply}
use Rattle.af_base.specs.declared.events.Step.{Step}
use Rattle.af_base.specs.World.{World, Message, IsLive}
use Rattle.af_base.specs.Places.{table_at, InTable, Holds}
use Rattle.af_base.specs.Counts.{total, waiting}
use Rattle.af_base.specs.Unheld.{IsSettled, Unheld, Settles}
use Rattle.af_base.specs.Reached.{Reached, Garbage}
use Rattle.af_base.specs.Changes.{install, push_message}
use Rattle.af_base.specs.Steps.{ProcessStep, SpawnStep}
use Rattle.af_base.specs.Pass.{Machine, Purges}
use Rattle.af_base.specs.Run.{Run, RunEntry, Step as MachineStep}
use Rattle.af_base.specs.Whole.{IsSound, IsWhole}

-- Each place of the old world is one of the new.
abbrev pub HasPlacesOf : World → World → Type 0
HasPlacesOf new old =
    ((f : ℕ) → InTable old f → InTable new f) × ((s f : ℕ) → Holds old s f → Holds new s f)

-- A reachable file stays reachable if no place is lost.
abbrev pub PlacesKeepReached : Type 0
PlacesKeepReached =
    (old new : World) → HasPlacesOf new old → (f : ℕ) → Reached old f → Reached new f

-- A reached file stays reached where a free descriptor is opened.
abbrev pub InstallKeepsReached : Type 0
InstallKeepsReached = (w : World) (p n g f : ℕ) → table_at w p n ≡ None → Reached w f
    → Reached (install w p n g) f

-- A reached file stays reached where a message is sent.
abbrev pub SendKeepsReached : Type 0
SendKeepsReached =
    (w : World) (s : ℕ) (m : Message) (f : ℕ) → Reached w f → Reached (push_message w s m) f

-- A reachable file is never unheld.
abbrev pub ReachedIsHeld : Type 0
ReachedIsHeld = (w : World) (f : ℕ) → Reached w f → ¬ (Unheld w f)

-- Live files that no table holds, and that only they themselves hold, are garbage. An example is a
-- listener in the queue of its own embryo, with the embryo in its backlog (net/unix/garbage.c).
abbrev pub GroupsOfTheirOwnAreGarbage : Type 0
GroupsOfTheirOwnAreGarbage = (w : World) (group : ℕ → Bool)
    → ((f : ℕ) → group f ≡ true → IsLive w f × (¬ (InTable w f)))
    → ((s f : ℕ) → group f ≡ true → Holds w s f → group s ≡ true)
    → (f : ℕ) → group f ≡ true → Garbage w f

-- A settled world with nothing in flight, and no embryo in a backlog, has no garbage: a table holds
-- each live file.
abbrev pub NothingInFlightIsNoGarbage : Type 0
NothingInFlightIsNoGarbage = (w : World) → IsSettled w → total w ≡ 0 → ((f : ℕ) → waiting w f ≡ 0)
    → ((f : ℕ) → IsLive w f → InTable w f) × ((f : ℕ) → ¬ (Garbage w f))

-- The same files are reached before and after settling.
abbrev pub SettlingKeepsReached : Type 0
SettlingKeepsReached = (w new : World) → Settles w new → (f : ℕ) → Reached w f ↔ Reached new f

-- The same files are reached before and after garbage is purged.
abbrev pub PurgingKeepsReached : Type 0
PurgingKeepsReached = (w new : World) (test : ℕ → Bool) → ((f : ℕ) → test f ≡ true → Garbage w f)
    → Purges test w new → (f : ℕ) → Reached w f ↔ Reached new f

-- A process that starts reaches nothing of what was live, but what was reached before.
abbrev pub SpawnReachesNoGarbage : Type 0
SpawnReachesNoGarbage = (old new : World) (uid nofile : ℕ) (privileged : Bool) (r : Reply)
    → IsWhole old → SpawnStep old uid nofile privileged r new → (f : ℕ) → IsLive old f
    → Reached new f → Reached old f

-- No step of a process reaches any of what was live, but what was reached before.
abbrev pub StepReachesNoGarbage : Type 0
StepReachesNoGarbage = (old new : World) (p : ℕ) (s : Step) (r : Reply) → IsWhole old
    → ProcessStep old p s r new → (f : ℕ) → IsLive old f → Reached new f → Reached old f

-- Garbage is out of reach after any event, whatever the answer.
abbrev pub GarbageStaysOutOfReach : Type 0
GarbageStaysOutOfReach = (old new : Machine) (e : Event) (r : Reply) → IsWhole old.world
    → MachineStep old e r new → (f : ℕ) → Garbage old.world f → ¬ (Reached new.world f)

-- No run reaches a file that was garbage at its beginning, whatever files are freed or made.
abbrev pub GarbageIsNeverReached : Type 0
GarbageIsNeverReached =
    (old new : Machine) (log : List RunEntry) → IsSound old.world → Run old log new
    → (f : ℕ) → Garbage old.world f → ¬ (Reached new.world f)
