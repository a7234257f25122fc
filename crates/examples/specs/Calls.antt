-- System calls: what each asks of the machine, and what it answers.
use Rattle.std.specs.Prelude.{◌≡◌, ◌⊎◌, ℕ, ℤ, pos, ◌-ℤ◌, length, Option, Some, None, Result, Ok, Err, nat_eq, if◌then◌else◌}
use Rattle.jaywardrobe.specs.Types.{Errno, Reply, SockType, Step}
use Rattle.jaywardrobe.specs.Types.errno
use Rattle.jaywardrobe.specs.Types.kind
use Rattle.jaywardrobe.specs.Types.reply
use Rattle.jaywardrobe.specs.Types.step
use Rattle.jaywardrobe.specs.Outcome.{Does, Refuses}
use Rattle.jaywardrobe.specs.Pass.{Machine}
use Rattle.examples.specs.declared.kernel.calls.Memory.{Memory}
use Rattle.examples.specs.declared.kernel.calls.Registers.{Registers}
use Rattle.examples.specs.declared.kernel.linux.TheConstants.{AF_UNIX, CLOSE, DUP2, SENDMSG, RECVMSG, SOCKETPAIR, FORK, EXIT}

-- The error's number on Linux (errno(3)).
abbrev pub error_number : Errno → ℕ
error_number errno.EPERM = 1
error_number errno.ESRCH = 3
error_number errno.EBADF = 9
error_number errno.EAGAIN = 11
error_number errno.ENOMEM = 12
error_number errno.EBUSY = 16
error_number errno.EINVAL = 22
error_number errno.EIDLE = 22
error_number errno.ENFILE = 23
error_number errno.EMFILE = 24
error_number errno.EPIPE = 32
error_number errno.ERANGE = 34
error_number errno.ENOTSOCK = 88
error_number errno.EMSGSIZE = 90
error_number errno.EPROTOTYPE = 91
error_number errno.EOPNOTSUPP = 95
error_number errno.EADDRINUSE = 98
error_number errno.ENOBUFS = 105
error_number errno.EISCONN = 106
error_number errno.ENOTCONN = 107
error_number errno.ETOOMANYREFS = 109
error_number errno.ECONNREFUSED = 111

-- An error as a call answers it: the negative of its number (syscall(2)).
abbrev pub negative : ℕ → ℤ
negative n = pos 0 -ℤ pos n

-- The answer of a call: its number, or the error.
abbrev pub answer_of : Result ℤ Errno → ℤ
answer_of (Ok value) = value
answer_of (Err e) = negative (error_number e)

-- The type of this number (socket(2): SOCK_STREAM is 1, SOCK_DGRAM 2, SOCK_SEQPACKET 5).
abbrev pub type_numbered : ℕ → Option SockType
type_numbered n =
    if nat_eq n 1 then Some kind.Stream
    else (if nat_eq n 2 then Some kind.Dgram else
    (if nat_eq n 5 then Some kind.Seqpacket else None))

-- A pair of sockets of this type, or that there is none (socketpair(2), ESOCKTNOSUPPORT).
abbrev pub pair_step : Option SockType → Result Step ℕ
pair_step (Some k) = Ok (step.Pair k)
pair_step None = Err 94

-- The step that a socketpair(2) asks for, or why there is none (EAFNOSUPPORT).
abbrev pub pair_asked : Registers → Result Step ℕ
pair_asked r = if nat_eq r.first AF_UNIX then pair_step (type_numbered r.second) else Err 97

-- The step that a sendmsg(2) asks for.
abbrev pub send_asked : Registers → Memory → Result Step ℕ
send_asked r m = Ok (step.Send r.first m.bytes m.fds)

-- The step that a recvmsg(2) asks for.
abbrev pub recv_asked : Registers → Result Step ℕ
recv_asked r = Ok (step.Recv r.first r.second r.third)

-- The step that a call asks for, by its number on x86-64 (syscalls(2)); or the error's number where
-- there is none (ENOSYS).
abbrev pub asked : Registers → Memory → Result Step ℕ
asked r m =
    if nat_eq r.number CLOSE then Ok (step.Close r.first)
    else if nat_eq r.number DUP2 then Ok (step.Dup2 r.first r.second)
    else if nat_eq r.number SENDMSG then send_asked r m
    else if nat_eq r.number RECVMSG then recv_asked r
    else if nat_eq r.number SOCKETPAIR then pair_asked r
    else if nat_eq r.number FORK then Ok step.Fork
    else if nat_eq r.number EXIT then Ok step.Exit
    else Err 38

-- A reply as the number that a call answers: a pid, a descriptor, how many bytes, or 0 (the manual
-- page of each call).
abbrev pub reply_number : Reply → ℤ
reply_number (reply.Pid p) = pos p
reply_number (reply.Fd n) = pos n
reply_number (reply.Sent count) = pos count
reply_number (reply.Got bytes fds trunc ctrunc) = pos (length bytes)
reply_number r = pos 0

-- The memory after a call with this reply (socketpair(2), recvmsg(2)).
abbrev pub written : Reply → Memory → Memory
written (reply.Fds n m) before = record before { pair = (n, m) }
written (reply.Got bytes fds trunc ctrunc) before = record before { bytes = bytes; fds = fds }
written r before = before

-- Process p did the step: one event of the machine, and its reply as a number and in memory.
abbrev pub Serves : Machine → ℕ → Step → Memory → ℤ → Machine → Memory → Type 0
Serves old p s before value new after =
    (r : Reply) × Does old p s r new × (value ≡ reply_number r) × (after ≡ written r before)

-- The step was refused: the negative of the error, and nothing changed.
abbrev pub Denies : Machine → ℕ → Step → Memory → ℤ → Machine → Memory → Type 0
Denies old p s before value new after =
    (e : Errno) × Refuses old p s e new × (value ≡ negative (error_number e)) × (after ≡ before)

-- The outcome of a call that asks for this.
abbrev pub AnswersCall : Machine → ℕ → Result Step ℕ → Memory → ℤ → Machine → Memory → Type 0
AnswersCall old p (Ok s) before value new after =
    Serves old p s before value new after ⊎ Denies old p s before value new after
AnswersCall old p (Err e) before value new after =
    (value ≡ negative e) × (new ≡ old) × (after ≡ before)
