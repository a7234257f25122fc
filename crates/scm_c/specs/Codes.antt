-- The numbers that cross to C.
use Rattle.std.specs.Prelude.{ℕ, ℤ, pos, ◌+◌, ◌*◌, ◌-ℤ◌, length, Option, Some, None, nat_eq, if◌then◌else◌}
use Rattle.af_base.specs.Errno.{number_of}
use Rattle.af_base.specs.declared.errno.Errno.{Errno}
use Rattle.af_base.specs.declared.events.Reply.{Reply}
use Rattle.af_base.specs.declared.events.Reply.TheVariants as reply
use Rattle.af_base.specs.declared.events.Shutdown.{Shutdown}
use Rattle.af_base.specs.declared.events.Shutdown.TheVariants as how
use Rattle.af_base.specs.declared.events.SockType.{SockType}
use Rattle.af_base.specs.declared.events.SockType.TheVariants.{Dgram, Seqpacket, Stream}

-- An error as a call answers it: the negative of this project's number (the library's convention:
-- errors are below 0).
abbrev pub error_code : Errno → ℤ
error_code e = pos 0 -ℤ pos (number_of e)

-- The answer of a call on a handle without an engine (this project's own: no error number of the
-- engine).
abbrev pub no_engine : ℤ
no_engine = pos 0 -ℤ pos 100

-- A reply as the number that a call answers (the manual page of each call: a pid, a descriptor, how
-- many bytes; 0 at the end of a connection, and without a number to report; 1 for a pass with work
-- left).
abbrev pub code_of : Reply → ℤ
code_of (reply.Pid p) = pos p
code_of (reply.Fd n) = pos n
code_of (reply.Fds n m) = pos 0
code_of reply.Ok = pos 0
code_of (reply.Sent n) = pos n
code_of (reply.Got bytes fds trunc ctrunc) = pos (length bytes)
code_of reply.End = pos 0
code_of (reply.Started n) = pos 0
code_of reply.Working = pos 1
code_of (reply.Done n k) = pos 0
code_of (reply.Refused e) = error_code e

-- The type of a socket that C names by a number: 1 is a stream, 2 a seqpacket socket, 4 a datagram
-- socket (the header's JW_STREAM, JW_SEQPACKET, JW_DGRAM).
abbrev pub type_named : ℕ → Option SockType
type_named n = if nat_eq n 1 then Some Stream
    else (if nat_eq n 2 then Some Seqpacket else (if nat_eq n 4 then Some Dgram else None))

-- A version as one number: a later version has a larger one (the header's JW_VERSION).
abbrev pub version_number : ℕ → ℕ → ℕ → ℕ
version_number major minor patch = major * 1000000 + minor * 1000 + patch

-- What C means by this number of shutdown(2) (sys/socket.h: SHUT_RD, SHUT_WR, SHUT_RDWR).
abbrev pub how_named : ℕ → Option Shutdown
how_named n = if nat_eq n 0 then Some how.Read
    else (if nat_eq n 1 then Some how.Write else (if nat_eq n 2 then Some how.Both else None))
