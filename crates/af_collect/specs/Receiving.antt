-- A receive from a queue of the world: its requirements, and its result.
use Rattle.std.specs.Prelude.{◌≡◌, ◌<◌, ℕ, IsTrue, List, false, is_none, unwrap_or}
use Rattle.std.specs.List.{All}
use Rattle.std.specs.FinMap as map
use Rattle.af_base.specs.World.{World}
use Rattle.af_base.specs.Refusals.{no_socket, process_at, socket_at}
use Rattle.af_base.specs.Table.{lowest_free}
use Rattle.af_base.specs.Take.{TakeResult, take_from}
use Rattle.af_collect.specs.Keeping.{NotBegunGarbage}
use Rattle.af_collect.specs.StoreView.{StoreView, room_at}

-- The result of a receive of at most n bytes from the queue of s, and the rest of the queue
-- (recvmsg(2)).
abbrev pub taken_at : World → ℕ → ℕ → TakeResult
taken_at w s n = let x = unwrap_or (socket_at w s) no_socket in take_from x.kind x.queue n

-- A receive of at most n bytes from socket s is possible, and can install the files at these
-- descriptors of process p, its lowest free ones, for which there is room.
pub record CanReceive (v : StoreView) (s n p : ℕ) (fds : List ℕ) : Type 0 where
  pub some : 0 < n
  pub spared : NotBegunGarbage v.pass s
  pub socket : is_none (socket_at v.world s) ≡ false
  pub there : IsTrue (map.contains_key v.world.processes p)
  pub free : (k : ℕ) × (fds ≡ lowest_free k (process_at v.world p))
  pub row : All (λ m. m < room_at v p) fds
