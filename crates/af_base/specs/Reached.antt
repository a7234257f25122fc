-- The files that a chain of places from a table reaches, and the garbage that no chain reaches.
use Rattle.std.specs.Prelude.{◌≡◌, ℕ, Bool, true, false, ◌↔◌, ◌&&◌}
use Rattle.std.specs.List.{count_by}
use Rattle.std.specs.FinMap as map
use Rattle.af_base.specs.World.{World, File, Plain, AsSocket, IsLive}
use Rattle.af_base.specs.Places.{InTable, Holds}

-- A finite chain of places, the first in a table, each later one in the queue or backlog of the
-- socket before, leads to f (net/unix/garbage.c: what a process can still come to).
pub data Reached (w : World) : ℕ → Type 0 where
  ByTable : (f : ℕ) → InTable w f → Reached w f
  BySocket : (s f : ℕ) → Reached w s → Holds w s f → Reached w f

-- A live file, plain ones too, that no chain leads to (net/unix/garbage.c: the cycles that nobody
-- can receive from).
abbrev pub Garbage : World → ℕ → Type 0
Garbage w f = IsLive w f × (¬ (Reached w f))

-- Whether the file is a socket.
abbrev pub is_socket : File → Bool
is_socket Plain = false
is_socket (AsSocket s) = true

-- This many sockets are garbage (this project's profile: what a pass reports; plain files do not
-- count).
abbrev pub IsGarbageCount : World → ℕ → Type 0
IsGarbageCount w n = (test : ℕ → Bool) × ((f : ℕ) → (test f ≡ true) ↔ Garbage w f)
    × (n ≡ count_by (λ e. is_socket e.1 && test e.0) (map.entries w.files))
