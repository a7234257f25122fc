-- The text that is gathered, and written later. Definitions that name no manual page are this
-- project's own.
use Rattle.std.specs.Prelude.{◌≡◌, ◌⊎◌, ℕ, List, ◌++◌, Option}
use Rattle.std.specs.Io.KnownBytes.{Appends}
use Rattle.scm_run.specs.Watched.{AppendsFront}
use Rattle.scm_run.specs.declared.fault.RunFault.{RunFault}
use Rattle.scm_run.specs.declared.fault.RunFault.TheVariants as fault

-- A front of what was gathered was written, and the rest of it is gathered still.
pub record WritesFront (old new : List ℕ) (before after : Option (List ℕ)) : Type 0 where
  pub front : List ℕ
  pub split : old ≡ front ++ new
  pub wrote : Appends before after front

-- A fault where text was to be moved: of the writer, which holds a beginning of what was gathered,
-- or of memory.
abbrev pub MoveStops : List ℕ → List ℕ → Option (List ℕ) → Option (List ℕ) → RunFault → Type 0
MoveStops old new before after (fault.Unreadable n) = ⊥
MoveStops old new before after fault.Read = ⊥
MoveStops old new before after fault.Write = AppendsFront before after old
MoveStops old new before after fault.Memory = WritesFront old new before after

-- The answer is this fault once the gathered text is written, or the writer's fault where that
-- fails. After a fault of the writer nothing more is written.
abbrev pub WritesBeforeFault : RunFault → RunFault → List ℕ → Option (List ℕ) → Option (List ℕ)
    → Type 0
WritesBeforeFault fault.Write answer gathered before after =
    (answer ≡ fault.Write) × (after ≡ before)
WritesBeforeFault f answer gathered before after = ((answer ≡ f) × Appends before after gathered)
    ⊎ ((answer ≡ fault.Write) × AppendsFront before after gathered)
