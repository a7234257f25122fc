-- The numbers of one file, and how a place more or less changes them. Definitions that name no
-- manual page are this project's own.
use Rattle.std.specs.Prelude.{ℕ, ◌+◌, ◌-◌, ◌<◌, ◌^◌}
use Rattle.af_ledger.specs.declared.place.Place.{Place}
use Rattle.af_ledger.specs.declared.place.Place.TheVariants.{Table, Queue, Backlog}

-- How many descriptors refer to a file, and how many places in queues and in backlogs hold it.
pub record CountView : Type 0 where
  pub tabled : ℕ
  pub inflight : ℕ
  pub waiting : ℕ

-- No place holds it.
abbrev pub uncounted : CountView
uncounted = record { tabled = 0; inflight = 0; waiting = 0 }

-- All places that hold it (close(2): a description is freed with its last reference).
abbrev pub places_in : CountView → ℕ
places_in c = c.tabled + c.inflight + c.waiting

-- One place more.
abbrev pub more : Place → CountView → CountView
more Table c = record c { tabled = c.tabled + 1 }
more (Queue u) c = record c { inflight = c.inflight + 1 }
more Backlog c = record c { waiting = c.waiting + 1 }

-- One place less.
abbrev pub fewer : Place → CountView → CountView
fewer Table c = record c { tabled = c.tabled - 1 }
fewer (Queue u) c = record c { inflight = c.inflight - 1 }
fewer Backlog c = record c { waiting = c.waiting - 1 }

-- There are few enough of the kind that one more can be counted.
abbrev pub IsCountable : Place → CountView → Type 0
IsCountable Table c = c.tabled + 1 < 2 ^ 21
IsCountable (Queue u) c = c.inflight + 1 < 2 ^ 21
IsCountable Backlog c = c.waiting + 1 < 2 ^ 21

-- There is one of the kind.
abbrev pub IsCounted : Place → CountView → Type 0
IsCounted Table c = 0 < c.tabled
IsCounted (Queue u) c = 0 < c.inflight
IsCounted Backlog c = 0 < c.waiting
