-- The bare world that plain lists of tables and files describe. Definitions that name no manual
-- page are of this project's profile (docs/PROFILE.md).
use Rattle.std.specs.Prelude.{◌≡◌, ℕ, ◌<◌, ◌^◌, List, [], false, map, length}
use Rattle.std.specs.List.{All, sum_by}
use Rattle.std.specs.List.Sorted.{IsNonDecreasing, IsStrictlyIncreasing}
use Rattle.std.specs.Option.{option_map_or}
use Rattle.std.specs.FinMap as finmap
use Rattle.af_base.specs.declared.listing.ListedFile.{ListedFile}
use Rattle.af_base.specs.declared.listing.ListedMessage.{ListedMessage}
use Rattle.af_base.specs.declared.listing.ListedSocket.{ListedSocket}
use Rattle.af_base.specs.declared.listing.ListedTable.{ListedTable}
use Rattle.af_base.specs.World.{World, Map, Process, File, Socket, Message, Plain, AsSocket}
use Rattle.af_base.specs.Refusals.{no_socket}
use Rattle.af_base.specs.Counts.{charged, count_in, inflight, refs, total}
use Rattle.af_base.specs.Places.{contents}

-- The map that a list describes, each item by its key.
abbrev pub keyed : {A X : Type 0} → (A → ℕ) → (A → X) → List A → Map X
keyed key value xs = finmap.from_entries (map (λ x. (key x, value x)) xs)

-- The message that is listed: its bytes are left out.
abbrev pub message_of : ListedMessage → Message
message_of m = record { bytes = []; attached = m.attached.items; user = m.user }

-- The socket that is listed: its queue and its backlog.
abbrev pub socket_of : ListedSocket → Socket
socket_of s = record no_socket { queue = map message_of s.queue.items; backlog = s.backlog.items }

-- The file that is listed: plain, or a socket.
abbrev pub file_of : ListedFile → File
file_of x = option_map_or (λ s. AsSocket (socket_of s)) x.socket Plain

-- The files of a listed table, by descriptor (open(2)).
abbrev pub table_of : ListedTable → Map ℕ
table_of t = keyed (λ n. n.fd) (λ n. n.ino) t.numbers.items

-- The files of a listed table in order of descriptors, repeats included (open(2)).
abbrev pub inos_of : ListedTable → List ℕ
inos_of t = map (λ n. n.ino) t.numbers.items

-- The user whom a message is charged to, once for each attached file.
abbrev pub payers_of : Message → List ℕ
payers_of m = map (λ _. m.user) m.attached

-- The process that is listed: its table.
abbrev pub process_of : ListedTable → Process
process_of t = record { user = 0; limit = 0; privileged = false; table = table_of t }

-- The processes that a list of tables describes.
abbrev pub processes_of : List ListedTable → Map Process
processes_of tables = keyed (λ t. t.pid) process_of tables

-- The files that a list of files describes.
abbrev pub files_of : List ListedFile → Map File
files_of files = keyed (λ x. x.ino) file_of files

-- The bare world that the lists describe.
abbrev pub listed : List ListedTable → List ListedFile → World
listed tables files = record {
  processes = processes_of tables;
  files = files_of files;
  next_ino = 0;
  next_pid = 0;
  users = [];
}

-- The numbers of a table rise, so that none is listed twice.
abbrev pub IsRisingTable : ListedTable → Type 0
IsRisingTable t = IsStrictlyIncreasing (map (λ n. n.fd) t.numbers.items)

-- Pids and numbers rise, and all numbers together are few enough to be counted.
pub record AreTables (tables : List ListedTable) : Type 0 where
  pub pids : IsStrictlyIncreasing (map (λ t. t.pid) tables)
  pub numbers : All IsRisingTable tables
  pub few : sum_by (λ t. length t.numbers.items) tables < 2 ^ 63

-- Inode numbers rise, and all that files hold together is little enough to be counted.
pub record AreFiles (files : List ListedFile) : Type 0 where
  pub inos : IsStrictlyIncreasing (map (λ x. x.ino) files)
  pub few : sum_by (λ x. length (contents (file_of x))) files < 2 ^ 63

-- A list that rises, and that has each number as often as it counts.
pub record IsTally (counts : ℕ → ℕ) (xs : List ℕ) : Type 0 where
  pub rising : IsNonDecreasing xs
  pub each : (f : ℕ) → count_in f xs ≡ counts f

-- The lists of a listing: its tables and files, the file of each place, the file of each place in a
-- queue, and the user whom each of these is charged to.
pub record IsListing (tables : List ListedTable) (files : List ListedFile)
    (held_files queued_files payers : List ℕ) : Type 0 where
  pub ordered_tables : AreTables tables
  pub ordered_files : AreFiles files
  pub each_held : IsTally (refs (listed tables files)) held_files
  pub each_queued : IsTally (inflight (listed tables files)) queued_files
  pub all_queued : length queued_files ≡ total (listed tables files)
  pub each_payer : IsTally (charged (listed tables files)) payers
