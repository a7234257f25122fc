-- The values that a call writes to the caller's places. Definitions that name no manual page are of
-- this project's profile (docs/PROFILE.md).
use Rattle.std.specs.Prelude.{◌≡◌, ◌⊎◌, ◌<◌, ℕ, ◌++◌, false, List, length, take, drop, min, Option, Some, None}
use Rattle.af_base.specs.World.{World, is_live, IsLive}
use Rattle.af_base.specs.declared.limits.TheConstants.{MAX_BYTES}
use Rattle.af_base.specs.declared.events.Reply.{Reply}
use Rattle.af_base.specs.declared.events.Reply.TheVariants as reply
use Rattle.af_base.specs.declared.events.SockType.{SockType}
use Rattle.af_base.specs.declared.events.SockType.TheVariants.{Dgram, Seqpacket, Stream}
use Rattle.af_base.specs.declared.events.State.{State}
use Rattle.af_base.specs.declared.events.State.TheVariants as state
use Rattle.af_report.specs.Table.{peer_number}
use Rattle.af_steps.specs.declared.views.FileInfo.{FileInfo}
use Rattle.af_steps.specs.declared.views.FileInfo.TheVariants as shown
use Rattle.scm_c.specs.declared.messages.CReceived.{CReceived}
use Rattle.scm_c.specs.declared.passes.CFinished.{CFinished}
use Rattle.scm_c.specs.declared.sockets.CPair.{CPair}
use Rattle.scm_c.specs.declared.views.CFile.{CFile}

-- The two numbers of a pair (socketpair(2)).
abbrev pub pair_written : Reply → CPair → CPair
pair_written (reply.Fds n m) old = record { first = n; second = m }
pair_written r old = old

-- The number of a pass that began.
abbrev pub begun_written : Reply → ℕ → ℕ
begun_written (reply.Started n) old = n
begun_written r old = old

-- The number of a pass that is over, and how many sockets it reclaimed.
abbrev pub finished_written : Reply → CFinished → CFinished
finished_written (reply.Done n k) old = record { pass = n; reclaimed = k }
finished_written r old = old

-- The items over the beginning of what was there, as many as fit.
abbrev pub over : List ℕ → List ℕ → List ℕ
over xs old = take (length old) xs ++ drop (length xs) old

-- How many bytes a receive asks for where there is room for n: no message has more (this project's
-- own; recvmsg(2) takes any room).
abbrev pub room : ℕ → ℕ
room n = min n MAX_BYTES

-- A length as a number of 32 bits: the largest is for all above it.
abbrev pub as_u32 : ℕ → ℕ
as_u32 n = min n 4294967295

-- Where a receive writes: the bytes, the numbers, and what it tells beside them.
abbrev pub Places : Type 0
Places = List ℕ × List ℕ × CReceived

-- The values that a receive writes: the bytes and numbers that it got, how many numbers, and
-- whether some bytes or descriptors were dropped; at the end of a connection, that there are no
-- numbers (recvmsg(2); cmsg(3)).
abbrev pub received_written : Reply → Places → Places
received_written (reply.Got bytes fds trunc ctrunc) (xs, ns, old) = (
  over bytes xs,
  over fds ns,
  record { fds = length fds; trunc = trunc; ctrunc = ctrunc },
)
received_written reply.End (xs, ns, old) =
    (xs, ns, record { fds = 0; trunc = false; ctrunc = false })
received_written r s = s

-- The least live file above f, or 0, which is no inode number, where none is above it.
abbrev pub IsNextLive : World → ℕ → ℕ → Type 0
IsNextLive w f n =
    ((n ≡ 0) × ((q : ℕ) → f < q → is_live w q ≡ false))
    ⊎ ((f < n) × IsLive w n × ((q : ℕ) → f < q → q < n → is_live w q ≡ false))

-- A socket's type as the header numbers it (JW_STREAM, JW_SEQPACKET, JW_DGRAM).
abbrev pub type_number : SockType → ℕ
type_number Stream = 1
type_number Seqpacket = 2
type_number Dgram = 4

-- A socket's state as the header numbers it (JW_IDLE, JW_LISTENING, JW_CONNECTED, JW_HUNG_UP); a
-- datagram socket with a target is connected.
abbrev pub state_number : State → ℕ
state_number state.Idle = 0
state_number (state.Listening b) = 1
state_number (state.Connected q) = 2
state_number state.HungUp = 3
state_number (state.Sends q) = 2

-- A file as C sees it: nothing live has kind 0, a plain file kind 3 (JW_NO_FILE, JW_PLAIN).
abbrev pub c_file : Option FileInfo → CFile
c_file None = record { kind = 0; state = 0; peer = 0; messages = 0; embryos = 0 }
c_file (Some shown.Plain) = record { kind = 3; state = 0; peer = 0; messages = 0; embryos = 0 }
c_file (Some (shown.Socket kind s messages embryos)) = record {
  kind = type_number kind;
  state = state_number s;
  peer = peer_number s;
  messages = messages;
  embryos = embryos;
}
