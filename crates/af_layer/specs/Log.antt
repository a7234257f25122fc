-- A log of all that was done, and when it is legal. The definition that names no manual page is
-- this project's own.
use Rattle.std.specs.Prelude.{◌≤◌, ◌∷◌, ℕ, List, [], map, if◌then◌else◌, nat_eq}
use Rattle.std.specs.List.{All}
use Rattle.af_base.specs.declared.events.Event.{Event}
use Rattle.af_base.specs.declared.events.Reply.{Reply}
use Rattle.af_base.specs.declared.limits.TheConstants.{MAX_SEATS}
use Rattle.af_base.specs.Pass.{Machine}
use Rattle.af_base.specs.Run.{Run, fresh}

-- An event that was done, the seat that it was done from, and what was answered.
pub record Entry : Type 0 where
  pub seat : ℕ
  pub event : Event
  pub reply : Reply

-- An event and its reply.
abbrev pub Pair : Type 0
Pair = Event × Reply

-- The event and the reply of an entry.
abbrev pub pair_of : Entry → Pair
pair_of e = (e.event, e.reply)

-- The part of seat k in a log: the events and replies of its entries, in order.
abbrev pub of_seat : ℕ → List Entry → List Pair
of_seat k [] = []
of_seat k (e ∷ log) = if nat_eq e.seat k then pair_of e ∷ of_seat k log else of_seat k log

-- A log is legal from the first machine to the second: each entry is of a seat from 1 to the number
-- of seats, and the events with their replies are a run from one to the other.
pub record IsLegalFrom (start : Machine) (seats : ℕ) (machine : Machine)
    (log : List Entry) : Type 0 where
  pub some_seat : 1 ≤ seats
  pub few_seats : seats ≤ MAX_SEATS
  pub of_seats : All (λ e. (1 ≤ e.seat) × (e.seat ≤ seats)) log
  pub run : Run start (map pair_of log) machine

-- A log is legal: it is so from the fresh machine on.
abbrev pub IsLegal : ℕ → Machine → List Entry → Type 0
IsLegal = IsLegalFrom fresh

-- The machine is reached: a legal log leads to it from the fresh one.
abbrev pub IsReached : ℕ → Machine → Type 0
IsReached seats machine = (earlier : List Entry) × IsLegal seats machine earlier

-- The view of a book: the number of seats, the machine from which its log runs, the machine now,
-- and the log between them. Its room is how many more entries the log has memory for.
pub record BookView : Type 0 where
  pub seats : ℕ
  pub start : Machine
  pub machine : Machine
  pub log : List Entry
  pub room : ℕ

-- The log of a book is legal, from a machine that is reached.
pub record HasLegalLog (b : BookView) : Type 0 where
  pub reached : IsReached b.seats b.start
  pub legal : IsLegalFrom b.start b.seats b.machine b.log
