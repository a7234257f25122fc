-- The text of a table: a header, and a line for each live file. Definitions that name no manual
-- page are of this project's profile (docs/PROFILE.md).
use Rattle.std.specs.Prelude.{ℕ, ◌-◌, List, [], ◌∷◌, ◌++◌, Option, Some, None, codes, length, replicate}
use Rattle.std.specs.List.{flat_map}
use Rattle.std.specs.FinMap as map
use Rattle.std.specs.Fmt.{char_count, decimal}
use Rattle.af_base.specs.Counts.{inflight, refs}
use Rattle.af_base.specs.Places.{backlog_of, queue_of}
use Rattle.af_base.specs.World.{AsSocket, File, Plain, World}
use Rattle.af_base.specs.declared.events.SockType.{SockType}
use Rattle.af_base.specs.declared.events.SockType.TheVariants.{Dgram, Seqpacket, Stream}
use Rattle.af_base.specs.declared.events.State.{State}
use Rattle.af_base.specs.declared.events.State.TheVariants as state

-- ---- columns

-- A number at the right of its column, in full where it is wider.
abbrev pub right : ℕ → ℕ → List ℕ
right width n = replicate (width - length (decimal n)) 32 ++ decimal n

-- A word at the left of its column, in full where it is wider.
abbrev pub left : ℕ → List ℕ → List ℕ
left width word = word ++ replicate (width - char_count word) 32

-- The cells of a line are joined by one space.
abbrev pub joined_cells : List (List ℕ) → List ℕ
joined_cells [] = []
joined_cells (cell ∷ []) = cell
joined_cells (cell ∷ next ∷ others) = cell ++ 32 ∷ joined_cells (next ∷ others)

-- ---- what they say of a file

-- The word for a type of sockets.
abbrev pub type_word : SockType → List ℕ
type_word Stream = codes "stream"
type_word Seqpacket = codes "seqpacket"
type_word Dgram = codes "dgram"

-- The word for the state of a socket; a datagram socket with a target is connected (connect(2)).
abbrev pub state_word : State → List ℕ
state_word state.Idle = codes "idle"
state_word (state.Listening most) = codes "listening"
state_word (state.Connected peer) = codes "connected"
state_word state.HungUp = codes "hungup"
state_word (state.Sends target) = codes "connected"

-- The live peer of a socket, or the target of a datagram socket, live or freed; or 0.
abbrev pub peer_number : State → ℕ
peer_number state.Idle = 0
peer_number (state.Listening most) = 0
peer_number (state.Connected peer) = peer
peer_number state.HungUp = 0
peer_number (state.Sends target) = target

-- The kind of a file.
abbrev pub kind_cell : File → List ℕ
kind_cell Plain = codes "plain"
kind_cell (AsSocket s) = type_word s.kind

-- The state of a file, if it is a socket.
abbrev pub state_cell : File → List ℕ
state_cell Plain = codes "-"
state_cell (AsSocket s) = state_word s.state

-- The number of a file's live peer or target, or 0.
abbrev pub peer_cell : File → ℕ
peer_cell Plain = 0
peer_cell (AsSocket s) = peer_number s.state

-- `@` and a name, or `-` where there is none.
abbrev pub name_text : Option (List ℕ) → List ℕ
name_text None = codes "-"
name_text (Some name) = 64 ∷ name

-- `@` and the abstract name of a file, or `-` where it has none (unix(7)).
abbrev pub name_cell : File → List ℕ
name_cell Plain = codes "-"
name_cell (AsSocket s) = name_text s.name

-- ---- lines

-- The cells of a file: its number, its two counts, its kind, its state, how many messages and
-- embryos wait, its peer and its name.
abbrev pub columns : World → ℕ → File → List (List ℕ)
columns w f x =
    right 8 f ∷ right 7 (refs w f) ∷ right 7 (inflight w f)
    ∷ left 9 (kind_cell x) ∷ left 9 (state_cell x)
    ∷ right 4 (length (queue_of x)) ∷ right 4 (length (backlog_of x))
    ∷ right 8 (peer_cell x) ∷ name_cell x ∷ []

-- The line of a file.
abbrev pub file_line : World → ℕ → File → List ℕ
file_line w f x = joined_cells (columns w f x) ++ 10 ∷ []

-- The line above all others.
abbrev pub header : List ℕ
header = codes "   inode    refs     fly kind      state     msgs wait     peer name" ++ 10 ∷ []

-- The header, and the line of each live file by rising number.
abbrev pub table_text : World → List ℕ
table_text w = header ++ flat_map (λ entry. file_line w entry.0 entry.1) (map.entries w.files)
