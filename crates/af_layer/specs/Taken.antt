-- Logs that were taken one after the other.
use Rattle.std.specs.Prelude.{◌≡◌, ◌≤◌, ◌∷◌, ℕ, List, []}
use Rattle.std.specs.List.{flat_map}
use Rattle.af_base.specs.declared.limits.TheConstants.{MAX_SEATS}
use Rattle.af_base.specs.Pass.{Machine}
use Rattle.af_layer.specs.Log.{Entry, IsLegalFrom, of_seat}

-- Logs follow one another from the first machine to the second: each is legal from the machine
-- where the one before it ended.
abbrev pub Follow : Machine → ℕ → Machine → List (List Entry) → Type 0
Follow start seats machine [] = start ≡ machine
Follow start seats machine (log ∷ logs) = (between : Machine) × IsLegalFrom start seats between log
    × Follow between seats machine logs

-- The logs put together, in order.
abbrev pub put_together : List (List Entry) → List Entry
put_together logs = flat_map (λ log. log) logs

-- Logs that follow one another, put together, are one legal log from the first machine to the
-- second.
abbrev pub TakenLogsAreOne : Type 0
TakenLogsAreOne =
    (start machine : Machine) (seats : ℕ) (logs : List (List Entry)) → 1 ≤ seats → seats ≤ MAX_SEATS
    → Follow start seats machine logs → IsLegalFrom start seats machine (put_together logs)

-- Each seat's part of the logs put together is its parts of them, put together.
abbrev pub TakenPartsAreOne : Type 0
TakenPartsAreOne = (k : ℕ) (logs : List (List Entry))
    → of_seat k (put_together logs) ≡ flat_map (of_seat k) logs
