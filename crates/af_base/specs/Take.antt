-- The part of a queue that a receive takes; the queue is not empty. The definition that names no
-- manual page is of this project's profile (docs/PROFILE.md).
use Rattle.std.specs.Prelude.{ℕ, ◌+◌, ◌-◌, Bool, true, false, not, List, [], ◌∷◌, take, drop, length, min, nat_lt, nat_le, if◌then◌else◌}
use Rattle.std.specs.List.{flat_map, take_while, find}
use Rattle.std.specs.Option.{option_map_or}
use Rattle.af_base.specs.World.{Message}
use Rattle.af_base.specs.declared.events.SockType.{SockType}
use Rattle.af_base.specs.declared.events.SockType.TheVariants.{Stream, Seqpacket, Dgram}

-- The result of taking: the messages, whether bytes were dropped (recvmsg(2), MSG_TRUNC), and the
-- rest of the queue.
pub record TakeResult : Type 0 where
  pub bytes : List ℕ
  pub attached : List ℕ
  pub trunc : Bool
  pub rest : List Message

-- The bytes of all messages, joined.
abbrev pub joined : List Message → List ℕ
joined q = flat_map (λ m. m.bytes) q

-- Nothing, of no message.
abbrev pub nothing_taken : TakeResult
nothing_taken = record { bytes = []; attached = []; trunc = false; rest = [] }

-- A packet: the first message's first n bytes and all its files; the rest of its bytes is dropped
-- (unix(7), SOCK_SEQPACKET).
abbrev pub take_seqpacket : List Message → ℕ → TakeResult
take_seqpacket [] n = nothing_taken
take_seqpacket (m ∷ q) n = record {
  bytes = take n m.bytes;
  attached = m.attached;
  trunc = nat_lt n (length m.bytes);
  rest = q;
}

-- The queue without its first c bytes: a message that keeps no byte is removed, and one that lost a
-- byte keeps no file.
abbrev pub cut : ℕ → List Message → List Message
cut c [] = []
cut c (m ∷ q) =
    if nat_le (length m.bytes) c
    then cut (c - length m.bytes) q
    else if nat_lt 0 c then record m { bytes = drop c m.bytes; attached = [] } ∷ q else m ∷ q

-- Whether the message has files.
abbrev pub has_files : Message → Bool
has_files m = nat_lt 0 (length m.attached)

-- Up to n bytes, and none past the end of the message that begins at `begin` and ends at `end`,
-- whose files are taken with its first byte (unix(7): ancillary data are a barrier).
abbrev pub take_to : List Message → ℕ → List ℕ → ℕ → ℕ → TakeResult
take_to q n attached begin end = let c = min n end in record {
  bytes = take c (joined q);
  attached = if nat_lt begin c then attached else [];
  trunc = false;
  rest = cut c q;
}

-- A stream: up to n bytes over the borders of messages, up to the end of the first message with
-- files (unix(7), SOCK_STREAM).
abbrev pub take_stream : List Message → ℕ → TakeResult
take_stream q n =
    let begin = length (joined (take_while (λ m. not (has_files m)) q)) in
    option_map_or (λ m. take_to q n m.attached begin (begin + length m.bytes)) (find has_files q)
    (take_to q n [] begin begin)

-- Whether sockets of this type keep the borders between messages, so that a receive takes one
-- (socket(2)).
abbrev pub keeps_borders : SockType → Bool
keeps_borders Stream = false
keeps_borders Seqpacket = true
keeps_borders Dgram = true

-- The result of a receive of at most n bytes, by the socket's type.
abbrev pub take_from : SockType → List Message → ℕ → TakeResult
take_from Stream q n = take_stream q n
take_from Seqpacket q n = take_seqpacket q n
take_from Dgram q n = take_seqpacket q n
