-- When a call on a reader or a writer has failed, and what a failed one may have written.
use Rattle.std.specs.Prelude.{◌≡◌, ℕ, ◌==◌, List, Bool, true, false, ◌&&◌, Result, Ok, Err, not, length, Option, ◌++◌}
use Rattle.std.specs.Io.KnownBytes.{Appends}

-- A read fails where it answers an error (read(2)).
abbrev pub is_failed_read : {E : Type 0} → Result ℕ E → Bool
is_failed_read (Ok n) = false
is_failed_read (Err e) = true

-- A write fails where it answers an error, or takes no byte of some (write(2)).
abbrev pub is_failed_write : {E : Type 0} → Result ℕ E → List ℕ → Bool
is_failed_write (Ok n) bytes = (n == 0) && not (length bytes == 0)
is_failed_write (Err e) bytes = true

-- The bytes that the writer holds grew by a beginning of these.
abbrev pub AppendsFront : Option (List ℕ) → Option (List ℕ) → List ℕ → Type 0
AppendsFront old new bytes = (front rest : List ℕ) × (bytes ≡ front ++ rest) × Appends old new front
