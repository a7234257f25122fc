-- Places: what keeps an open file description alive. A peer or a name does not.
use Rattle.std.specs.Prelude.{◌≡◌, ℕ, List, [], ◌++◌, Option, Some, None}
use Rattle.std.specs.List.{flat_map, Contains}
use Rattle.std.specs.Option.{option_map_or}
use Rattle.std.specs.FinMap as map
use Rattle.af_base.specs.World.{World, Map, Process, Message, File, Plain, AsSocket}

-- The file that descriptor n of process p refers to (open(2): a descriptor is an index into the
-- process's table).
abbrev pub number_in : Map Process → ℕ → ℕ → Option ℕ
number_in processes p n = option_map_or (λ q. map.get q.table n) (map.get processes p) None

-- The same of a world.
abbrev pub table_at : World → ℕ → ℕ → Option ℕ
table_at w p n = number_in w.processes p n

-- The messages that a file can receive: a plain file has none.
abbrev pub queue_of : File → List Message
queue_of Plain = []
queue_of (AsSocket s) = s.queue

-- The embryos that wait at a file: a plain file has none.
abbrev pub backlog_of : File → List ℕ
backlog_of Plain = []
backlog_of (AsSocket s) = s.backlog

-- The files attached to the messages of a queue, in order, repeats included.
abbrev pub attached_in : List Message → List ℕ
attached_in q = flat_map (λ m. m.attached) q

-- The files that a file holds: those in its queue, then those in its backlog.
abbrev pub contents : File → List ℕ
contents x = attached_in (queue_of x) ++ backlog_of x

-- The queue of the file s of these.
abbrev pub queue_in : Map File → ℕ → List Message
queue_in files s = option_map_or queue_of (map.get files s) []

-- The same of a world.
abbrev pub queue_at : World → ℕ → List Message
queue_at w s = queue_in w.files s

-- The backlog of the file s of these.
abbrev pub backlog_in : Map File → ℕ → List ℕ
backlog_in files s = option_map_or backlog_of (map.get files s) []

-- The same of a world.
abbrev pub backlog_at : World → ℕ → List ℕ
backlog_at w s = backlog_in w.files s

-- The files in the queue and the backlog of the file s of these.
abbrev pub held_in : Map File → ℕ → List ℕ
held_in files s = option_map_or contents (map.get files s) []

-- The same of a world.
abbrev pub held_by : World → ℕ → List ℕ
held_by w s = held_in w.files s

-- A table holds f (open(2), dup(2)).
abbrev pub InTable : World → ℕ → Type 0
InTable w f = (p : ℕ) × (n : ℕ) × (table_at w p n ≡ Some f)

-- A message in the queue of s holds f: f is in flight (unix(7), SCM_RIGHTS).
abbrev pub InQueue : World → ℕ → ℕ → Type 0
InQueue w s f = Contains (attached_in (queue_at w s)) f

-- The backlog of s holds f: f is an embryo, connected and not accepted yet (listen(2), accept(2)).
abbrev pub InBacklog : World → ℕ → ℕ → Type 0
InBacklog w s f = Contains (option_map_or backlog_of (map.get w.files s) []) f

-- The queue or the backlog of s holds f.
abbrev pub Holds : World → ℕ → ℕ → Type 0
Holds w s f = Contains (held_by w s) f
