-- The numbers and the names of the errors.
use Rattle.std.specs.Prelude.{ℕ, List, codes}
use Rattle.af_base.specs.declared.errno.Errno as declared
use Rattle.af_base.specs.declared.errno.Errno.TheVariants as errno

-- This project's numbers.
abbrev pub number_of : declared.Errno → ℕ
number_of errno.EBADF = 1
number_of errno.ENOTSOCK = 2
number_of errno.EINVAL = 3
number_of errno.EMFILE = 4
number_of errno.ENFILE = 5
number_of errno.EAGAIN = 6
number_of errno.EMSGSIZE = 7
number_of errno.ETOOMANYREFS = 8
number_of errno.ENOBUFS = 9
number_of errno.ENOTCONN = 10
number_of errno.EPIPE = 11
number_of errno.EISCONN = 12
number_of errno.EADDRINUSE = 13
number_of errno.ECONNREFUSED = 14
number_of errno.EPROTOTYPE = 15
number_of errno.ESRCH = 16
number_of errno.ENOMEM = 17
number_of errno.EBUSY = 18
number_of errno.EIDLE = 19
number_of errno.ERANGE = 20
number_of errno.EPERM = 21
number_of errno.EOPNOTSUPP = 22

-- Their names in capitals, as bytes (errno(3); EIDLE is this project's own).
abbrev pub name_of : declared.Errno → List ℕ
name_of errno.EBADF = codes "EBADF"
name_of errno.ENOTSOCK = codes "ENOTSOCK"
name_of errno.EINVAL = codes "EINVAL"
name_of errno.EMFILE = codes "EMFILE"
name_of errno.ENFILE = codes "ENFILE"
name_of errno.EAGAIN = codes "EAGAIN"
name_of errno.EMSGSIZE = codes "EMSGSIZE"
name_of errno.ETOOMANYREFS = codes "ETOOMANYREFS"
name_of errno.ENOBUFS = codes "ENOBUFS"
name_of errno.ENOTCONN = codes "ENOTCONN"
name_of errno.EPIPE = codes "EPIPE"
name_of errno.EISCONN = codes "EISCONN"
name_of errno.EADDRINUSE = codes "EADDRINUSE"
name_of errno.ECONNREFUSED = codes "ECONNREFUSED"
name_of errno.EPROTOTYPE = codes "EPROTOTYPE"
name_of errno.ESRCH = codes "ESRCH"
name_of errno.ENOMEM = codes "ENOMEM"
name_of errno.EBUSY = codes "EBUSY"
name_of errno.EIDLE = codes "EIDLE"
name_of errno.ERANGE = codes "ERANGE"
name_of errno.EPERM = codes "EPERM"
name_of errno.EOPNOTSUPP = codes "EOPNOTSUPP"
