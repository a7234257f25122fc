-- A stream's receive, message by message.
use Rattle.std.specs.Prelude.{ℕ, ◌+◌, ◌-◌, ◌||◌, List, [], ◌∷◌, length, min, nat_le, if◌then◌else◌}
use Rattle.af_base.specs.World.{Message}
use Rattle.af_base.specs.Take.{has_files}

-- How many bytes a receive of at most n takes: it ends with the first message that has files, or
-- that has as many bytes as are still asked for (unix(7), SOCK_STREAM).
abbrev pub stream_cut : ℕ → List Message → ℕ
stream_cut n [] = 0
stream_cut n (m ∷ q) =
    if has_files m || nat_le n (length m.bytes)
    then min n (length m.bytes)
    else length m.bytes + stream_cut (n - length m.bytes) q

-- The files of the message with which it ends (unix(7), SCM_RIGHTS).
abbrev pub files_in : ℕ → List Message → List ℕ
files_in n [] = []
files_in n (m ∷ q) =
    if has_files m || nat_le n (length m.bytes)
    then m.attached
    else files_in (n - length m.bytes) q
