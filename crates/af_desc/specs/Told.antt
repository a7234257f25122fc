-- The lists of the files that were freed and of the sockets whose readiness may have changed,
-- beside the rows. Definitions that name no manual page are this project's own.
use Rattle.std.specs.Prelude.{◌≡◌, ◌≤◌, ◌<◌, ◌+◌, ◌&&◌, ◌||◌, ℕ, Bool, true, false, List, Some, IsTrue, is_some}
use Rattle.std.specs.FinMap as map
use Rattle.slab.specs.Slab.{Slab}
use Rattle.af_base.specs.Counts.{ListsExactly}
use Rattle.af_base.specs.Ready.{face_in, face_of}
use Rattle.af_base.specs.Told.{AreReleased}
use Rattle.af_base.specs.World.{File, Map, Since}
use Rattle.ordered_slab.specs.OrderedSlabView.{OrderedSlabView}
use Rattle.ordered_slab.specs.Parts.{part}
use Rattle.af_queue.specs.declared.chain.Node.{Node}
use Rattle.af_desc.specs.declared.file_row.FileRow.{FileRow}
use Rattle.af_desc.specs.declared.told_lists.ToldList.{ToldList}
use Rattle.af_desc.specs.declared.told_lists.ToldList.TheVariants.{Changed, Released}
use Rattle.af_desc.specs.FileTableView.{file_in, AreChained}

-- Which lists are kept, the changed sockets and the freed files, and for how many live files in all
-- each list has room.
pub record ToldListsView : Type 0 where
  pub tells_changed : Bool
  pub tells_released : Bool
  pub changed : List ℕ
  pub released : List ℕ
  pub space : ℕ

-- The period of these lists, since these were the files and this the next number.
abbrev pub since_of : ToldListsView → Map File → ℕ → Since
since_of told files next = record {
  changed = told.tells_changed;
  released = told.tells_released;
  files = files;
  next = next;
}

-- Whether the list is that of changed sockets.
abbrev pub is_changed : ToldList → Bool
is_changed Changed = true
is_changed Released = false

-- Whether the list is that of freed files.
abbrev pub is_released : ToldList → Bool
is_released Changed = false
is_released Released = true

-- The period that begins with these files and this next number, in which that list is kept too.
abbrev pub since_telling : ToldList → Since → Map File → ℕ → Since
since_telling list since files next = record {
  changed = is_changed list || since.changed;
  released = is_released list || since.released;
  files = files;
  next = next;
}

-- Whether the row is a dirty socket's.
abbrev pub is_listed : FileRow → Bool
is_listed r = r.dirty && is_some r.kind

-- The list has each dirty socket, once, and no other file.
abbrev pub IsDirtyList : Map FileRow → List ℕ → Type 0
IsDirtyList rows fs = ListsExactly is_listed rows fs

-- The rows as if none were dirty.
abbrev pub cleaned : Map FileRow → Map FileRow
cleaned rows = part {A = FileRow} (λ r. record r { dirty = false }) rows

-- One list has just the dirty sockets; if changed sockets are listed, a socket that is not dirty
-- has the face that it had among these files. Numbers rise; if freed files are listed, the other
-- list has those that are gone since the next number was this.
pub record AreTold (nodes : Slab Node) (rows : OrderedSlabView FileRow) (told : ToldListsView)
    (files : Map File) (next : ℕ) : Type 0 where
  pub listed : IsDirtyList rows.values told.changed
  pub same : told.tells_changed ≡ true → (f : ℕ) (x : FileRow) → map.get rows.values f ≡ Some x
      → IsTrue (is_some x.kind) → x.dirty ≡ false
      → Some (face_of (file_in nodes x)) ≡ face_in files f
  pub later : next ≤ rows.last + 1
  pub below : (f : ℕ) → rows.last < f → map.contains_key rows.values f ≡ false
  pub each : told.tells_released ≡ true
      → AreReleased rows.values (rows.last + 1) (since_of told files next) told.released

-- Each row has a chain of its own, and the lists are right. Rows and lists have this much room for
-- further files.
pub record FileTableInvariant (nodes : Slab Node) (rows : OrderedSlabView FileRow)
    (told : ToldListsView) (files : Map File) (next room : ℕ) : Type 0 where
  pub chained : AreChained nodes rows.values
  pub are_told : AreTold nodes rows told files next
  pub row_room : room ≤ rows.room
  pub list_room : room + map.len rows.values ≤ told.space
