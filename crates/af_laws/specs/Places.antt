-- Laws of places and of their counts. The definition that names no manual page is of this project's
-- profile (docs/PROFILE.md).
use Rattle.std.specs.Prelude.{◌≡◌, ◌≢◌, ◌⊎◌, ◌↔◌, ℕ, ◌+◌, IsTrue, List, ◌∷◌, length, Some, None}
use Rattle.std.specs.FinMap as map
use Rattle.af_base.specs.World.{World, Process, Message, Socket, AsSocket}
use Rattle.af_base.specs.Places.{table_at, InTable, InQueue, InBacklog, Holds}
use Rattle.af_base.specs.Counts.{charged, count_in, inflight, one, refs, tabled, total, total_of, waiting}
use Rattle.af_base.specs.Reached.{IsGarbageCount}
use Rattle.af_base.specs.Changes.{install, uninstall, push_message, with_queue, add_process, remove_process}
use Rattle.af_base.specs.Whole.{IsWhole}
use Rattle.af_laws.specs.Settling.{IsHeld}

-- A file held by a socket is in its queue or in its backlog.
abbrev pub HoldsInQueueOrBacklog : Type 0
HoldsInQueueOrBacklog = (w : World) (s f : ℕ) → Holds w s f ↔ (InQueue w s f ⊎ InBacklog w s f)

-- The reference count is zero exactly where no place holds the file.
abbrev pub NoneWhereUnplaced : Type 0
NoneWhereUnplaced = (w : World) (f : ℕ) → (refs w f ≡ 0) ↔ (¬ (IsHeld w f))

-- The tables' part of it is zero exactly where no table holds the file.
abbrev pub NoneWhereUntabled : Type 0
NoneWhereUntabled = (w : World) (f : ℕ) → (tabled w f ≡ 0) ↔ (¬ (InTable w f))

-- The in-flight count is zero exactly where no queue holds the file.
abbrev pub NoneWhereNotInFlight : Type 0
NoneWhereNotInFlight = (w : World) (f : ℕ) → (inflight w f ≡ 0) ↔ ((s : ℕ) → ¬ (InQueue w s f))

-- The count of backlog places is zero exactly where no backlog holds the file.
abbrev pub NoneWhereNotWaiting : Type 0
NoneWhereNotWaiting = (w : World) (f : ℕ) → (waiting w f ≡ 0) ↔ ((s : ℕ) → ¬ (InBacklog w s f))

-- The reference count is what tables, queues and backlogs have of the file, each place counted
-- once.
abbrev pub ReferencesAddUp : Type 0
ReferencesAddUp = (w : World) (f : ℕ) → refs w f ≡ tabled w f + inflight w f + waiting w f

-- A descriptor that is opened is one reference more to its file, and none to any other.
abbrev pub InstallCounts : Type 0
InstallCounts = (w : World) (p n g f : ℕ) → IsTrue (map.contains_key w.processes p)
    → table_at w p n ≡ None → refs (install w p n g) f ≡ refs w f + one f g

-- A descriptor that is closed is one reference less to its file, and to no other.
abbrev pub UninstallCounts : Type 0
UninstallCounts = (w : World) (p n g f : ℕ) → table_at w p n ≡ Some g
    → refs (uninstall w p n) f + one f g ≡ refs w f

-- A dup2 to an open descriptor lowers the count of the old file by one, and raises that of the new
-- one by one. It keeps all others (dup2(2)).
abbrev pub ReplaceCounts : Type 0
ReplaceCounts = (w : World) (p n g h f : ℕ) → table_at w p n ≡ Some h
    → refs (install w p n g) f + one f h ≡ refs w f + one f g

-- A child is as many references more to a file as the table that it copies has descriptors for it
-- (fork(2)).
abbrev pub ForkCounts : Type 0
ForkCounts = (w : World) (f : ℕ) (q : Process) → IsWhole w
    → refs (add_process w q) f ≡ refs w f + total_of (one f) q.table

-- An exit takes from a file as many references as the process's table had descriptors for it
-- (_exit(2)).
abbrev pub ExitCounts : Type 0
ExitCounts = (w : World) (p f : ℕ) (q : Process) → map.get w.processes p ≡ Some q
    → refs (remove_process w p) f + total_of (one f) q.table ≡ refs w f

-- An exit keeps the charges of messages, as long as they wait: before files are freed.
abbrev pub ExitKeepsCharges : Type 0
ExitKeepsCharges = (w : World) (p u : ℕ) → charged (remove_process w p) u ≡ charged w u

-- A message that is sent is as many references more to a file, and as many more in flight, as it
-- carries the file.
abbrev pub SendCounts : Type 0
SendCounts =
    (w : World) (s f : ℕ) (m : Message) (x : Socket) → map.get w.files s ≡ Some (AsSocket x)
    → (refs (push_message w s m) f ≡ refs w f + count_in f m.attached)
    × (inflight (push_message w s m) f ≡ inflight w f + count_in f m.attached)

-- A message that is received whole gives back as many references as it carried, before they are
-- installed.
abbrev pub ReceiveCounts : Type 0
ReceiveCounts = (w : World) (s f : ℕ) (m : Message) (rest : List Message) (x : Socket)
    → map.get w.files s ≡ Some (AsSocket x) → x.queue ≡ m ∷ rest
    → (refs (with_queue w s rest) f + count_in f m.attached ≡ refs w f)
    × (inflight (with_queue w s rest) f + count_in f m.attached ≡ inflight w f)

-- A message that is sent is charged to the user that it names, a place for each file that it
-- carries, and to nobody else (unix(7), ETOOMANYREFS; whom it counts is this project's profile).
abbrev pub SendCharges : Type 0
SendCharges =
    (w : World) (s u : ℕ) (m : Message) (x : Socket) → map.get w.files s ≡ Some (AsSocket x)
    → (charged (push_message w s m) m.user ≡ charged w m.user + length m.attached)
    × (u ≢ m.user → charged (push_message w s m) u ≡ charged w u)
    × (total (push_message w s m) ≡ total w + length m.attached)

-- A whole receive ends the message's charge to the user that it names, whoever receives it, and
-- keeps all other charges.
abbrev pub ReceiveDischarges : Type 0
ReceiveDischarges = (w : World) (s u : ℕ) (m : Message) (rest : List Message) (x : Socket)
    → map.get w.files s ≡ Some (AsSocket x) → x.queue ≡ m ∷ rest
    → (charged (with_queue w s rest) m.user + length m.attached ≡ charged w m.user)
    × (u ≢ m.user → charged (with_queue w s rest) u ≡ charged w u)
    × (total (with_queue w s rest) + length m.attached ≡ total w)

-- There is one number of garbage sockets.
abbrev pub GarbageCountsOnce : Type 0
GarbageCountsOnce = (w : World) (n m : ℕ) → IsGarbageCount w n → IsGarbageCount w m → n ≡ m
