-- One row for each file, and the messages of all, seen as three maps. Definitions that name no
-- manual page are this project's own.
use Rattle.std.specs.Prelude.{◌≡◌, ◌&&◌, ℕ, Bool, List, Option, Some, false, nat_eq, nat_lt, not, option_map}
use Rattle.std.specs.Option.{option_map_or}
use Rattle.std.specs.FinMap as map
use Rattle.slab.specs.Slab.{Slab}
use Rattle.af_base.specs.World.{AsSocket, File, Map, Message, Plain, Since, Socket}
use Rattle.af_base.specs.Changes.{change_socket_at}
use Rattle.af_ledger.specs.Counted.{CountView, more, uncounted}
use Rattle.af_ledger.specs.declared.place.Place.{Place}
use Rattle.af_ledger.specs.Tally.{count_in_map}
use Rattle.af_mark.specs.Grey.{color_in, unmarked, MarkView}
use Rattle.af_mark.specs.MarksView.{is_mark}
use Rattle.ordered_slab.specs.Parts.{part}
use Rattle.af_queue.specs.Chains.{messages_of, AreApart, IsChain}
use Rattle.af_queue.specs.declared.chain.Node.{Node}
use Rattle.af_desc.specs.declared.file_row.FileRow.{FileRow}

-- The files, how many places hold each, the mark of each, what there was when the lists were
-- emptied last, the last number that there was, for how many more there is room, for how many in
-- all each list of files has room, and whether there is room for a message more.
pub record FileTableView : Type 0 where
  pub files : Map File
  pub counts : Map CountView
  pub marks : Map MarkView
  pub since : Since
  pub last : ℕ
  pub room : ℕ
  pub space : ℕ
  pub message_room : Bool

-- One row more, of this file: this place is its first reference, and it is unmarked. This much room
-- is left then.
abbrev pub with_row : ℕ → File → Place → ℕ → FileTableView → FileTableView
with_row f x p room r = record r {
  files = map.insert r.files f x;
  counts = map.insert r.counts f (more p uncounted);
  marks = map.insert r.marks f unmarked;
  last = f;
  room = room;
}

-- Without this row, and with this much room and space.
abbrev pub without_row : ℕ → ℕ → ℕ → FileTableView → FileTableView
without_row f room space r = record r {
  files = map.remove r.files f;
  counts = map.remove r.counts f;
  marks = map.remove r.marks f;
  room = room;
  space = space;
}

-- The file f is changed so, if it is a socket.
abbrev pub with_socket : FileTableView → ℕ → (Socket → Socket) → FileTableView
with_socket r f g = record r { files = change_socket_at g r.files f }

-- The same, with this room for a message more.
abbrev pub with_socket_and_room : FileTableView → ℕ → (Socket → Socket) → Bool → FileTableView
with_socket_and_room r f g room = record r {
  files = change_socket_at g r.files f;
  message_room = room;
}

-- A plain file, or this socket.
abbrev pub file_of : Option Socket → File
file_of o = option_map_or AsSocket o Plain

-- A socket with these messages to receive.
abbrev pub refilled : List Message → Socket → Socket
refilled q s = record s { queue = q }

-- The socket of a row, with the messages of its chain; of a plain file none.
abbrev pub socket_of_row : Slab Node → FileRow → Option Socket
socket_of_row s r = option_map (refilled (messages_of s r.chain)) r.kind

-- The file of a row, with the messages of its chain.
abbrev pub file_in : Slab Node → FileRow → File
file_in s r = file_of (socket_of_row s r)

-- The files of these rows.
abbrev pub files_of : Slab Node → Map FileRow → Map File
files_of s m = part (file_in s) m

-- The counts of these rows.
abbrev pub counts_of : Map FileRow → Map CountView
counts_of m = part (λ r. r.count) m

-- The marks of these rows.
abbrev pub marks_of : Map FileRow → Map MarkView
marks_of m = part (λ r. r.mark) m

-- Each row has a chain, and no node is of two rows.
pub record AreChained (s : Slab Node) (m : Map FileRow) : Type 0 where
  pub each : (f : ℕ) (x : FileRow) → map.get m f ≡ Some x → IsChain s x.chain
  pub apart : (f g : ℕ) (x y : FileRow) → map.get m f ≡ Some x → map.get m g ≡ Some y
      → nat_eq f g ≡ false → AreApart s x.chain y.chain

-- Whether the file has a mark, and is not marked in this pass.
abbrev pub is_white_in : ℕ → Map MarkView → ℕ → Bool
is_white_in epoch marks f =
    option_map_or (λ x. not (is_mark (color_in epoch x))) (map.get marks f) false

-- Whether a pass has still to mark the file, and a table holds it.
abbrev pub is_due_row : ℕ → Map CountView → Map MarkView → ℕ → Bool
is_due_row epoch counts marks f =
    nat_lt 0 (count_in_map counts f).tabled && is_white_in epoch marks f
