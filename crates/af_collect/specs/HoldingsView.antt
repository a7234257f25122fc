-- The view of holdings. Definitions that name no manual page are of this project's profile
-- (docs/PROFILE.md).
use Rattle.std.specs.Prelude.{ℕ, Bool, List, [], ◌∷◌}
use Rattle.std.specs.Map.{keys_of}
use Rattle.af_base.specs.World.{World, Map, Process, Since}
use Rattle.af_desc.specs.FilesView.{FilesView}
use Rattle.af_ledger.specs.Tally.{LedgerView, kept_of}
use Rattle.af_mark.specs.MarksView.{MarksView}
use Rattle.af_base.specs.Changes.{change_at, installed}
use Rattle.af_table.specs.Procs.{Procs}
use Rattle.af_collect.specs.Agreement.{IsExact}

-- The world, the size of each table, whether there is room for a message more, the marks of a pass,
-- and the period of the lists.
pub record HoldingsView : Type 0 where
  pub world : World
  pub rows : Map ℕ
  pub message_room : Bool
  pub marks : MarksView
  pub since : Since

-- The world that processes, files and users make up.
abbrev pub world_of : Procs → FilesView → LedgerView → World
world_of procs filed charged = record {
  processes = procs.processes;
  files = filed.files;
  next_ino = filed.next;
  next_pid = procs.next_pid;
  users = keys_of charged.users;
}

-- The kept counts are a recount of their world.
abbrev pub AreExact : Procs → FilesView → LedgerView → Type 0
AreExact procs filed charged = IsExact (world_of procs filed charged) (kept_of filed.counts charged)

-- The processes with these descriptors of p set to these files, in order (cmsg(3), SCM_RIGHTS).
abbrev pub filled : Map Process → ℕ → List (ℕ × ℕ) → Map Process
filled m p [] = m
filled m p (e ∷ es) = filled (change_at (installed e.0 e.1) m p) p es
