-- Files under numbers that are never used again. Definitions that name no manual page are this
-- project's own.
use Rattle.std.specs.Prelude.{◌∷◌, ◌≡◌, ◌↔◌, ◌&&◌, ◌<◌, ◌≤◌, ℕ, ◌+◌, ◌-◌, ◌^◌, Bool, List, None, Option, Some, drop, false, is_some, nat_lt, unwrap_or, if◌then◌else◌}
use Rattle.std.specs.Option.{option_and_then}
use Rattle.std.specs.FinMap as map
use Rattle.af_base.specs.declared.events.SockType.{SockType}
use Rattle.af_base.specs.declared.events.State.{State}
use Rattle.af_base.specs.declared.events.State.TheVariants as state
use Rattle.af_base.specs.World.{AsSocket, File, Map, Message, Since, Socket}
use Rattle.af_base.specs.Changes.{change_socket_at, sending_to}
use Rattle.af_base.specs.Counts.{total_of}
use Rattle.af_base.specs.Names.{bound_to, set_of}
use Rattle.af_base.specs.Refusals.{is_full_of, no_socket, socket_of}
use Rattle.af_base.specs.Steps.{paired_socket, paired_state}
use Rattle.af_base.specs.Take.{take_from}
use Rattle.af_ledger.specs.Counted.{CountView, fewer, more, uncounted}
use Rattle.af_ledger.specs.Tally.{AreUnreferenced, count_in_map}
use Rattle.af_ledger.specs.declared.place.Place.{Place}
use Rattle.af_ledger.specs.declared.place.Place.TheVariants.{Backlog, Queue, Table}
use Rattle.af_listen.specs.NamesView.{NamesView}
use Rattle.af_listen.specs.NameSets.{names_in}
use Rattle.af_listen.specs.declared.name_sets.NameSets.{NameSets}
use Rattle.af_mark.specs.Grey.{IsGreyList, colors_in, MarkView}
use Rattle.af_mark.specs.MarksView.{MarksView, born, forgotten, is_unmarked, white_count}
use Rattle.af_queue.specs.TakenView.{TakenView, received}
use Rattle.af_desc.specs.FileTableView.{FileTableView}

-- The world's files, how many places hold each, what a pass knows of each, what there was when the
-- lists were emptied last, the number that the next one gets, and whether there is room for a
-- message more.
pub record FilesView : Type 0 where
  pub files : Map File
  pub counts : Map CountView
  pub marks : MarksView
  pub since : Since
  pub next : ℕ
  pub message_room : Bool

-- Whether k files more are too many, or have no inode numbers left (open(2), ENFILE).
abbrev pub is_full : FilesView → ℕ → Bool
is_full v k = is_full_of v.files v.next k

-- Whether the number has a file.
abbrev pub is_live : FilesView → ℕ → Bool
is_live v f = map.contains_key v.files f

-- One file more, under the next number, with this place as its first reference and unmarked.
abbrev pub entered : Place → File → FilesView → FilesView
entered p x v = record v {
  files = map.insert v.files v.next x;
  counts = map.insert v.counts v.next (more p uncounted);
  marks = born v.next v.marks;
  next = v.next + 1;
}

-- Two sockets more, connected to each other, each of which such a place holds (socketpair(2)).
abbrev pub paired : Place → SockType → FilesView → FilesView
paired p kind v = entered p (AsSocket (paired_socket kind v.next))
    (entered p (AsSocket (paired_socket kind (v.next + 1))) v)

-- Without this file.
abbrev pub without : ℕ → FilesView → FilesView
without f v = record v {
  files = map.remove v.files f;
  counts = map.remove v.counts f;
  marks = forgotten f v.marks;
}

-- A place of this kind more holds the file.
abbrev pub with_file_ref : Place → ℕ → FilesView → FilesView
with_file_ref p f v = record v { counts = map.insert v.counts f (more p (count_in_map v.counts f)) }

-- A place of this kind less holds the file.
abbrev pub without_file_ref : Place → ℕ → FilesView → FilesView
without_file_ref p f v =
    record v { counts = map.insert v.counts f (fewer p (count_in_map v.counts f)) }

-- A place of this kind is one in a table instead (accept(2), recvmsg(2)).
abbrev pub with_moved_ref : Place → ℕ → FilesView → FilesView
with_moved_ref p f v = record v {
  counts = map.insert v.counts f (fewer p (more Table (count_in_map v.counts f)));
}

-- The file f is changed, if it is a socket.
abbrev pub changed : (Socket → Socket) → ℕ → FilesView → FilesView
changed g f v = record v { files = change_socket_at g v.files f }

-- The same, with room for a message gained or lost.
abbrev pub changed_queue : (Socket → Socket) → ℕ → Bool → FilesView → FilesView
changed_queue g f room v = record (changed g f v) { message_room = room }

-- A socket whose peer was freed (unix(7)).
abbrev pub hung_up : Socket → Socket
hung_up s = record s { state = state.HungUp }

-- A socket of a pair with this one (socketpair(2)).
abbrev pub paired_with : ℕ → Socket → Socket
paired_with other s = record s { state = paired_state s.kind other }

-- A datagram socket that sends to f, or, of 0, has no target; its queue stays (connect(2)).
abbrev pub turned : ℕ → Socket → Socket
turned f s = record s { state = sending_to f }

-- A socket whose first message is out of its queue (recvmsg(2)).
abbrev pub popped : Socket → Socket
popped s = record s { queue = drop 1 s.queue }

-- These files and this user are those of the first message of a queue.
abbrev pub IsFirst : List ℕ → ℕ → List Message → Type 0
IsFirst files user queue = (bytes : List ℕ)
    × (queue ≡ record { bytes = bytes; attached = files; user = user } ∷ drop 1 queue)

-- The socket of this number among these files.
abbrev pub socket_in : Map File → ℕ → Option Socket
socket_in files f = option_and_then socket_of (map.get files f)

-- Whether the file f of these is a socket that a pass has still to mark.
abbrev pub is_unmarked_socket : Map File → MarksView → ℕ → Bool
is_unmarked_socket files m f = is_some (socket_in files f) && is_unmarked m f

-- These files after a socket of this state is freed: its peer has hung up (unix(7), EPIPE).
abbrev pub after_hangup : State → Map File → Map File
after_hangup state.Idle files = files
after_hangup (state.Listening b) files = files
after_hangup (state.Connected peer) files = change_socket_at hung_up files peer
after_hangup state.HungUp files = files
after_hangup (state.Sends to) files = files

-- These files after another is freed, which may be this socket.
abbrev pub after_end : Option Socket → Map File → Map File
after_end None files = files
after_end (Some s) files = after_hangup s.state files

-- Without this file, whose peer has hung up.
abbrev pub freed : ℕ → FilesView → FilesView
freed f v = record (without f v) { files = after_end (socket_in v.files f) (map.remove v.files f) }

-- The result of a receive of at most n bytes from a socket, if there is one (recvmsg(2)).
abbrev pub received_of : Option Socket → ℕ → TakenView
received_of o n = let s = unwrap_or o no_socket in received s.kind s.queue n

-- A socket after a receive of at most n bytes (recvmsg(2)).
abbrev pub received_from : ℕ → Socket → Socket
received_from n s = record s { queue = (take_from s.kind s.queue n).rest }

-- The abstract name of a file, if it is a socket that has one (unix(7)).
abbrev pub name_of : File → Option (List ℕ)
name_of x = option_and_then (λ s. s.name) (socket_of x)

-- The abstract name of the file f of these.
abbrev pub name_in : Map File → ℕ → Option (List ℕ)
name_in files f = option_and_then (λ s. s.name) (socket_in files f)

-- The set and the name that the file f of these is bound to (bind(2)).
abbrev pub bound_in : Map File → ℕ → Option (ℕ × List ℕ)
bound_in files f = option_and_then bound_to (socket_in files f)

-- The names are just those of these files in this set: a name leads to the one socket that has it
-- there (unix(7), abstract names).
pub record AreNamedIn (set : ℕ) (names : NamesView) (files : Map File) : Type 0 where
  pub each : (name : List ℕ) (f : ℕ)
      → (map.get names name ≡ Some f) ↔ (bound_in files f ≡ Some (set, name))

-- The same of the set of each type.
abbrev pub AreNamed : NameSets → Map File → Type 0
AreNamed names files = (kind : SockType) → AreNamedIn (set_of kind) (names_in names kind) files

-- No more places are in backlogs than this number, unless it is as large as it can get.
abbrev pub AreEmbryos : Map CountView → ℕ → Type 0
AreEmbryos counts n = n < 2 ^ 64 - 1 → total_of (λ c. c.waiting) counts ≤ n

-- How many embryos there are with a place of this kind more.
abbrev pub more_embryos : Place → ℕ → ℕ
more_embryos Table n = n
more_embryos (Queue u) n = n
more_embryos Backlog n = if nat_lt n (2 ^ 64 - 1) then n + 1 else n

-- How many there are with one less.
abbrev pub fewer_embryos : Place → ℕ → ℕ
fewer_embryos Table n = n
fewer_embryos (Queue u) n = n
fewer_embryos Backlog n = if nat_lt n (2 ^ 64 - 1) then n - 1 else n

-- At most this many files were there when the pass began and are not marked: those below the bound,
-- which is no later than the next number.
abbrev pub AreWhite : Map MarkView → ℕ → ℕ → ℕ → ℕ → Type 0
AreWhite marks epoch bound next n = (bound ≤ next)
    × (white_count (record { colors = colors_in epoch marks; bound = bound }) ≤ n)

-- Numbers begin at 1 and rise; the names are those of the files, in their sets; one list has just
-- the unreferenced files and one just the grey ones, with room for all, and for as many as the rows
-- say; the embryos and the files that a pass has still to mark are at most the numbers kept.
pub record FilesInvariant (rows : FileTableView) (unreferenced : List ℕ) (room : ℕ)
    (names : NameSets) (next epoch : ℕ) (grey : List ℕ)
    (most embryos bound white : ℕ) : Type 0 where
  pub last : rows.last + 1 ≡ next
  pub begins : map.contains_key rows.files 0 ≡ false
  pub named : AreNamed names rows.files
  pub unreferenced_listed : AreUnreferenced rows.counts unreferenced
  pub fits : map.len rows.counts ≤ room
  pub listed : IsGreyList rows.marks epoch grey most
  pub backlogged : AreEmbryos rows.counts embryos
  pub whites : AreWhite rows.marks epoch bound next white
  pub space : (rows.space ≤ room) × (rows.space ≤ most)
