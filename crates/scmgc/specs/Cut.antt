-- A line of a script that is read with its end.
use Rattle.std.specs.Prelude.{ℕ, ◌-◌, List, length, take, if◌then◌else◌}
use Rattle.std.specs.Io.BufRead.{ends_with_byte}
use Rattle.std.specs.Str.Lines.{strip_carriage_return}

-- The line that bytes are, without its end: one line feed, and one carriage return before it.
abbrev pub line_in : List ℕ → List ℕ
line_in bytes = if ends_with_byte 10 bytes
    then strip_carriage_return (take (length bytes - 1) bytes) else bytes
