-- The versions of the language: which lines a script may have, by the lines before. This project's
-- profile.
use Rattle.std.specs.Prelude.{Bool, true, false, nat_le, List, ℕ, if◌then◌else◌, Option, Some, None}
use Rattle.af_base.specs.declared.events.SockType.{SockType}
use Rattle.af_base.specs.declared.events.SockType.TheVariants.{Dgram, Seqpacket, Stream}
use Rattle.af_base.specs.declared.events.Step.{Step}
use Rattle.af_base.specs.declared.events.Step.TheVariants as step
use Rattle.af_base.specs.declared.events.Event.TheVariants as event
use Rattle.scm_lines.specs.Meaning.{line_of, ◌>>=◌}
use Rattle.scm_lines.specs.declared.line.Line.{Line}
use Rattle.scm_lines.specs.declared.line.Line.TheVariants as line
use Rattle.scm_lines.specs.declared.version.Version.{Version}
use Rattle.scm_lines.specs.declared.version.Version.TheVariants as version

-- Nothing was said of the version yet.
abbrev pub is_unknown : Version → Bool
is_unknown version.Unknown = true
is_unknown other = false

-- The number of the version by which the next line is read: 1 where nothing was said.
abbrev pub number_of : Version → ℕ
number_of version.Unknown = 1
number_of version.First = 1
number_of version.Second = 2
number_of version.Third = 3

-- The number of the first version that has sockets of this type.
abbrev pub first_number_of_type : SockType → ℕ
first_number_of_type Stream = 1
first_number_of_type Seqpacket = 1
first_number_of_type Dgram = 3

-- The script has sockets of this type.
abbrev pub has_type : Version → SockType → Bool
has_type v kind = nat_le (first_number_of_type kind) (number_of v)

-- The number of the first version that has the step.
abbrev pub first_number_of : Step → ℕ
first_number_of (step.Peek on max_bytes max_fds) = 2
first_number_of (step.Limit nofile) = 2
first_number_of (step.Shutdown on how) = 3
first_number_of (step.Unconnect on) = 3
first_number_of (step.Pair kind) = first_number_of_type kind
first_number_of (step.Socket kind) = first_number_of_type kind
first_number_of other = 1

-- The script has the step: its version is the first that has it, or a later one.
abbrev pub has_step : Version → Step → Bool
has_step v does = nat_le (first_number_of does) (number_of v)

-- A line of version 1: no version, and no step of a later version.
abbrev pub is_of_first : Line → Bool
is_of_first (line.Version named) = false
is_of_first (line.Event (event.Proc pid does)) = nat_le (first_number_of does) 1
is_of_first other = true

-- Whether such a line may come now: a version before all but silence, and a step where the script
-- has it.
abbrev pub has_line : Version → Line → Bool
has_line v (line.Version named) = is_unknown v
has_line v (line.Event (event.Proc pid does)) = has_step v does
has_line v other = true

-- The version after such a line: a silent line keeps it, a version sets itself, and any other first
-- line sets version 1.
abbrev pub version_after : Version → Line → Version
version_after v line.Silence = v
version_after v (line.Version named) = named
version_after v other = if is_unknown v then version.First else v

-- The meaning that was read, where the script may have such a line now.
abbrev pub allowed_in : Version → Option Line → Option Line
allowed_in v read = read >>= λ said. if has_line v said then Some said else None

-- The meaning of the next line, if it can be read.
abbrev pub read_in : Version → List ℕ → Option Line
read_in v bytes = allowed_in v (line_of bytes)
