-- The message of a send, and the room that it needs in a queue.
use Rattle.std.specs.Prelude.{◌≡◌, ◌≤◌, ◌<◌, ◌+◌, ◌++◌, ℕ, List, length, is_none, false}
use Rattle.std.specs.List.{Contains}
use Rattle.af_base.specs.declared.limits.TheConstants.{MAX_INFLIGHT, MAX_MESSAGES}
use Rattle.af_base.specs.Counts.{charged, total}
use Rattle.af_base.specs.Places.{InTable, queue_at}
use Rattle.af_base.specs.Refusals.{RefusalRow, is_deaf, on_charge, on_input, on_peer, on_room, on_target, peer_of, socket_at}
use Rattle.af_base.specs.Whole.{IsMessageWithin}
use Rattle.af_base.specs.World.{Message, Process, Socket, World}
use Rattle.af_collect.specs.Limits.{IsOfProcess}
use Rattle.af_steps.specs.declared.messages.Envelope.{Envelope}

-- The message of these bytes in the envelope.
abbrev pub message_in : Envelope → List ℕ → Message
message_in e bytes = record { bytes = bytes; attached = e.attached.items; user = e.user }

-- This socket f must have somebody to send to, who takes from it: the middle parts of the row of a
-- send.
abbrev pub goal_row : World → ℕ → Socket → RefusalRow
goal_row w f s = on_peer s ++ on_target f (socket_at w (peer_of s.state))

-- The input of socket s must be open, and its queue have room: the last parts of the row of a send.
abbrev pub target_row : World → ℕ → RefusalRow
target_row w s = on_input (is_deaf w s) ++ on_room (queue_at w s)

-- Process q must be free to have this many descriptors more in flight, and socket s take a message
-- more: three parts of the row of a send.
abbrev pub room_row : World → Process → ℕ → ℕ → RefusalRow
room_row w q s count = on_charge (charged w q.user) (total w) q.limit q.privileged count
    ++ target_row w s

-- Socket s of this world has room for the message: its queue is not full, tables hold its files,
-- the user of a process is charged for them, and all limits are kept.
pub record HasRoomForMessage (w : World) (s : ℕ) (m : Message) : Type 0 where
  pub socket : is_none (socket_at w s) ≡ false
  pub queue : length (queue_at w s) < MAX_MESSAGES
  pub tabled : (f : ℕ) → Contains m.attached f → InTable w f
  pub user : IsOfProcess w m.user
  pub within : IsMessageWithin m
  pub flying : total w + length m.attached ≤ MAX_INFLIGHT
