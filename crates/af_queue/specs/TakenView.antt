-- The result of a receive, and the user charged for it. Definitions that name no manual page are of
-- this project's profile (docs/PROFILE.md).
use Rattle.std.specs.Prelude.{ℕ, ◌-◌, Bool, false, List, [], ◌∷◌, Option, Some, None, length, nat_le, if◌then◌else◌}
use Rattle.std.specs.Option.{option_map_or}
use Rattle.af_base.specs.declared.events.SockType.{SockType}
use Rattle.af_base.specs.World.{Message}
use Rattle.af_base.specs.Take.{take_from}

-- The bytes, the files, and who was charged for them, as a message; and whether bytes were dropped
-- (recvmsg(2), MSG_TRUNC).
pub record TakenView : Type 0 where
  pub message : Message
  pub trunc : Bool

-- Nothing at all.
abbrev pub nothing_received : TakenView
nothing_received = record {
  message = record { bytes = []; attached = []; user = 0 };
  trunc = false;
}

-- A result with the files of that message, and its sender as the user charged for them.
abbrev pub with_files_of : Message → TakenView → TakenView
with_files_of m t = record t { message = record t.message { attached = m.attached; user = m.user } }

-- The message that has the c-th byte of a queue, counted from 1.
abbrev pub message_at : ℕ → List Message → Option Message
message_at c [] = None
message_at c (m ∷ q) =
    if nat_le c (length m.bytes) then Some m else message_at (c - length m.bytes) q

-- The sender of the c-th byte of a queue.
abbrev pub sender_at : ℕ → List Message → ℕ
sender_at c q = option_map_or (λ m. m.user) (message_at c q) 0

-- The result of a receive of at most n bytes. Its files all come with its last byte, so the sender
-- of that byte was charged for them (recvmsg(2); whom it charges is this project's profile).
abbrev pub received : SockType → List Message → ℕ → TakenView
received kind q n = let taken = take_from kind q n in record {
  message = record {
    bytes = taken.bytes;
    attached = taken.attached;
    user = sender_at (length taken.bytes) q;
  };
  trunc = taken.trunc;
}
