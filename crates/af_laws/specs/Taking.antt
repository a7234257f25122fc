-- Laws of taking: what a receive takes from a queue, and what it leaves.
use Rattle.std.specs.Prelude.{◌≡◌, ◌↔◌, ◌<◌, ◌≤◌, ℕ, ◌+◌, not, IsTrue, List, [], ◌∷◌, ◌++◌, drop, length, replicate, Some, None}
use Rattle.std.specs.List.{All, find, take_while}
use Rattle.af_base.specs.declared.events.SockType.{SockType}
use Rattle.af_base.specs.declared.events.SockType.TheVariants.{Stream}
use Rattle.af_base.specs.World.{Message}
use Rattle.af_base.specs.Places.{attached_in}
use Rattle.af_base.specs.Take.{has_files, joined, take_from, take_seqpacket, take_stream}

-- Each message has a byte, as a send sees to it (unix(7): files go with at least one byte).
abbrev pub HaveBytes : List Message → Type 0
HaveBytes q = All (λ m. 1 ≤ length m.bytes) q

-- The number of bytes before the first message with files.
abbrev pub bytes_before_files : List Message → ℕ
bytes_before_files q = length (joined (take_while (λ m. not (has_files m)) q))

-- A packet loses no byte but those that it drops, and leaves the messages behind it.
abbrev pub PacketKeepsBytes : Type 0
PacketKeepsBytes = (m : Message) (q : List Message) (n : ℕ) →
    let taken = take_seqpacket (m ∷ q) n in
    taken.bytes ++ drop n m.bytes ++ joined taken.rest ≡ joined (m ∷ q)

-- A packet loses no file: what is not taken is left.
abbrev pub PacketKeepsFiles : Type 0
PacketKeepsFiles = (q : List Message) (n : ℕ) →
    let taken = take_seqpacket q n in
    taken.attached ++ attached_in taken.rest ≡ attached_in q

-- A packet says that bytes were dropped exactly where some were (recvmsg(2), MSG_TRUNC).
abbrev pub PacketTellsOfDrops : Type 0
PacketTellsOfDrops = (m : Message) (q : List Message) (n : ℕ)
    → IsTrue (take_seqpacket (m ∷ q) n).trunc ↔ (0 < length (drop n m.bytes))

-- A stream loses no byte: what is not taken is left.
abbrev pub StreamKeepsBytes : Type 0
StreamKeepsBytes = (q : List Message) (n : ℕ) →
    let taken = take_stream q n in
    taken.bytes ++ joined taken.rest ≡ joined q

-- A stream loses no file, where each message has a byte.
abbrev pub StreamKeepsFiles : Type 0
StreamKeepsFiles = (q : List Message) (n : ℕ) → HaveBytes q →
    let taken = take_stream q n in
    taken.attached ++ attached_in taken.rest ≡ attached_in q

-- A receive from a stream takes at most as many bytes as it was asked for.
abbrev pub StreamTakesAtMost : Type 0
StreamTakesAtMost = (q : List Message) (n : ℕ) → length (take_stream q n).bytes ≤ n

-- A receive from a stream takes no byte past the first message with files (unix(7): ancillary data
-- are a barrier).
abbrev pub StreamStopsAtFiles : Type 0
StreamStopsAtFiles = (q : List Message) (n : ℕ) (m : Message) → find has_files q ≡ Some m
    → length (take_stream q n).bytes ≤ bytes_before_files q + length m.bytes

-- The files of that message come all at once, with its first byte, and not before it.
abbrev pub FilesComeWithFirstByte : Type 0
FilesComeWithFirstByte = (q : List Message) (n : ℕ) (m : Message) → find has_files q ≡ Some m →
    let taken = take_stream q n in
    (bytes_before_files q < length taken.bytes → taken.attached ≡ m.attached)
    × (length taken.bytes ≤ bytes_before_files q → taken.attached ≡ [])

-- Where no message has files, none come.
abbrev pub NoFilesFromNone : Type 0
NoFilesFromNone =
    (q : List Message) (n : ℕ) → find has_files q ≡ None → (take_stream q n).attached ≡ []

-- The result of several receives: all their bytes, all their files, and the queue that is left.
pub record Together : Type 0 where
  pub bytes : List ℕ
  pub attached : List ℕ
  pub rest : List Message

-- The joint result of receives of at most these numbers of bytes.
abbrev pub takes : SockType → List ℕ → List Message → Together
takes kind [] q = record { bytes = []; attached = []; rest = q }
takes kind (n ∷ ns) q = let first = take_from kind q n
    in let others = takes kind ns first.rest in record {
      bytes = first.bytes ++ others.bytes;
      attached = first.attached ++ others.attached;
      rest = others.rest;
    }

-- Receives from a stream lose no byte and give none twice, however many bytes each asks for. What
-- they took and what is left are what was there.
abbrev pub ReceivesKeepBytes : Type 0
ReceivesKeepBytes = (ns : List ℕ) (q : List Message) →
    let all = takes Stream ns q in
    all.bytes ++ joined all.rest ≡ joined q

-- Receives of either type lose no file and give none twice, where each message has a byte.
abbrev pub ReceivesKeepFiles : Type 0
ReceivesKeepFiles = (kind : SockType) (ns : List ℕ) (q : List Message) → HaveBytes q →
    let all = takes kind ns q in
    all.attached ++ attached_in all.rest ≡ attached_in q

-- If each message of a stream has a byte, one receive equals as many receives of one byte as it
-- took bytes. They give the same bytes and files, and leave the same queue.
abbrev pub OneByteAtATime : Type 0
OneByteAtATime = (q : List Message) (n : ℕ) → HaveBytes q →
    let taken = take_stream q n in
    takes Stream (replicate (length taken.bytes) 1) q
    ≡ record { bytes = taken.bytes; attached = taken.attached; rest = taken.rest }
