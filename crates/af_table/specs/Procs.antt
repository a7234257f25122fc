-- The processes with their tables, and the room that was made for more. Definitions that name no
-- manual page are of this project's profile (docs/PROFILE.md).
use Rattle.std.specs.Prelude.{ℕ, Bool, List, Option, slice_get, unwrap_or}
use Rattle.std.specs.Option.{option_and_then, option_map}
use Rattle.std.specs.FinMap as map
use Rattle.af_base.specs.World.{Map, Process}
use Rattle.af_base.specs.Listing.{keyed}
use Rattle.af_base.specs.Table.{free_numbers}
use Rattle.af_table.specs.Slots.{ProcessView}

-- The processes as the world has them; below which number each has room to install; the next pid;
-- and for how many further processes there is room.
pub record Procs : Type 0 where
  pub processes : Map Process
  pub rows : Map ℕ
  pub next_pid : ℕ
  pub room : ℕ

-- Below which number process p has room to install by these rows: below none, where there is no
-- such process.
abbrev pub row_in : Map ℕ → ℕ → ℕ
row_in rows p = unwrap_or (map.get rows p) 0

-- The identity of process p of these, if it is known: its user, its limit, and whether it is
-- privileged (getrlimit(2), RLIMIT_NOFILE; unix(7), CAP_SYS_RESOURCE).
abbrev pub who_in : Map Process → ℕ → Option (ℕ × ℕ × Bool)
who_in processes p = option_map (λ q. (q.user, q.limit, q.privileged)) (map.get processes p)

-- The lowest free number of process p of these, if it is there and one is free (open(2)).
abbrev pub lowest_in : Map Process → ℕ → Option ℕ
lowest_in processes p = option_and_then (λ q. slice_get (free_numbers q) 0) (map.get processes p)

-- A process that has just started: its table is empty (fork(2); without a parent, as spawn has it,
-- this project's own).
abbrev pub started : ℕ → ℕ → Bool → Process
started user limit privileged = record {
  user = user;
  limit = limit;
  privileged = privileged;
  table = map.empty;
}

-- The processes of entries.
unfoldable pub processes_of : List (ℕ × ProcessView) → Map Process
processes_of es = keyed (λ e. e.0) (λ e. e.1.process) es

-- The rows of entries.
unfoldable pub rows_of : List (ℕ × ProcessView) → Map ℕ
rows_of es = keyed (λ e. e.0) (λ e. e.1.row) es
