-- The rest of a script that is made in parts.
use Rattle.std.specs.Prelude.{ℕ, zero, suc, Bool, List, [], ◌∷◌, ◌++◌, drop, map, if◌then◌else◌}
use Rattle.af_base.specs.declared.events.Event.{Event}
use Rattle.af_base.specs.declared.events.Event.TheVariants as event
use Rattle.af_base.specs.declared.events.Step.TheVariants as step
use Rattle.rand_core.specs.Stream.{Stream, next_u64}
use Rattle.scmgc.specs.Race.Scripts.{opening_of}
use Rattle.scmgc.specs.Race.Table.{event_of_word}

-- The next n words of a stream.
unfoldable pub words_in : ℕ → Stream → List ℕ
words_in zero s = []
words_in (suc n) s = (next_u64 s).0 ∷ words_in n (next_u64 s).1

-- The events that are left: what was not made of the opening, an event for each word that is still
-- to be drawn, and the exit.
abbrev pub rest_of : ℕ → ℕ → ℕ → ℕ → Bool → Stream → List Event
rest_of worker workers opened words ended stream =
    drop opened (opening_of worker)
    ++ map (event_of_word worker workers) (words_in words stream)
    ++ (if ended then [] else event.Proc worker step.Exit ∷ [])
