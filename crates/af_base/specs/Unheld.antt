-- The files that are freed once they are unreferenced, to the end.
use Rattle.std.specs.Prelude.{◌≡◌, ℕ, Bool, true, cond, not, List, [], ◌∷◌, ◌↔◌}
use Rattle.std.specs.FinMap as map
use Rattle.af_base.specs.declared.events.State.{State}
use Rattle.af_base.specs.declared.events.State.TheVariants as state
use Rattle.af_base.specs.World.{World, Map, File, Plain, AsSocket, IsLive}
use Rattle.af_base.specs.Places.{InTable, Holds}

-- The least set of live files such that f is in it if no table holds f and each socket that holds f
-- is in it (close(2): a description is freed with its last reference; a cycle is never in it).
pub data Unheld (w : World) : ℕ → Type 0 where
  Goes : (f : ℕ) → IsLive w f → ¬ (InTable w f) → ((s : ℕ) → Holds w s f → Unheld w s) → Unheld w f

-- A state after some files are freed: a socket that was connected to one of them has hung up
-- (unix(7), EPIPE).
abbrev pub state_without : (ℕ → Bool) → State → State
state_without gone state.Idle = state.Idle
state_without gone (state.Listening b) = state.Listening b
state_without gone (state.Connected peer) = cond (gone peer) state.HungUp (state.Connected peer)
state_without gone state.HungUp = state.HungUp
state_without gone (state.Sends to) = state.Sends to

-- A file after some others are freed.
abbrev pub file_without : (ℕ → Bool) → File → File
file_without gone Plain = Plain
file_without gone (AsSocket s) = AsSocket (record s { state = state_without gone s.state })

-- The map with each value changed, by its key.
abbrev pub map_entries : {X : Type 0} → (ℕ → X → X) → List (ℕ × X) → Map X
map_entries f [] = map.empty
map_entries f (e ∷ es) = map.insert (map_entries f es) e.0 (f e.0 e.1)

-- The world without the files that pass the test: their queues, backlogs and names go with them
-- (unix(7): an abstract name vanishes with the last reference).
abbrev pub without : (ℕ → Bool) → World → World
without gone w = record w {
  files = map.retain_keys (map_entries (λ _. file_without gone) (map.entries w.files))
      (λ f. not (gone f));
}

-- `new` is `old` settled: without exactly its unheld files (this project's profile: in the same
-- step).
abbrev pub Settles : World → World → Type 0
Settles old new =
    (gone : ℕ → Bool) × ((f : ℕ) → (gone f ≡ true) ↔ Unheld old f) × (new ≡ without gone old)

-- Nothing is to be freed.
abbrev pub IsSettled : World → Type 0
IsSettled w = (f : ℕ) → ¬ (Unheld w f)
