-- A process, a file or two that are new.
use Rattle.std.proofs.Common.{◌≡◌, ◌≤◌, ℕ, ◌+◌, ◌*◌, Bool, true, false, inl, inr, [], ◌∷◌, ◌++◌, refl, sym, ap, ◌∙◌, nat_eq, arith}
use Rattle.std.specs.Prelude.{Option, Some, None, is_some, IsTrue, if◌then◌else◌}
use Rattle.std.specs.Option.{option_map_or}
use Rattle.std.specs.List.{list_any}
use Rattle.std.specs.Ordering.{nat_cmp}
use Rattle.std.specs.FinMap as map
use Rattle.af_base.specs.World.{IsLive, Process, World}
use Rattle.af_base.specs.Counts.{one, refs, total_of}
use Rattle.af_base.specs.Changes.{add_process, add_user}
use Rattle.af_base.specs.Steps.{spawned}
use Rattle.af_base.specs.Whole.{IsWhole}
use Rattle.af_base.proofs.Lookups.{insert-here, insert-other, none_some, same_or_not, some_same}
use Rattle.af_base.proofs.PlaceMoves.{table-there, there-table}
use Rattle.af_base.proofs.Sums.{total-insert}
use Rattle.af_base.proofs.Totals.{total-most}

-- An option that cannot be some value is empty.
nothing_there : {X : Type 0} (o : Option X) → ¬ (IsTrue (is_some o)) → o ≡ None
nothing_there None n = refl
nothing_there (Some x) n = absurd (n refl)

-- No file has the next number yet, nor a later one.
pub fresh_file : (w : World) (f : ℕ) → IsWhole w → w.next_ino ≤ f → map.get w.files f ≡ None
fresh_file w f k le = nothing_there (map.get w.files f) (λ l. let low = k.files_numbered f l in omega (arith, low, le))

-- No process has the next number yet.
pub fresh_process : (w : World) → IsWhole w → map.get w.processes w.next_pid ≡ None
fresh_process w k = nothing_there (map.get w.processes w.next_pid) (λ l. let low = k.processes_numbered w.next_pid l in omega (arith, low))

-- An empty map adds up to nothing.
pub total-empty : {X : Type 0} (F : X → ℕ) → total_of F map.empty ≡ 0
total-empty {X = X} F =
    let most : total_of F map.empty ≤ map.len {X = X} {R = nat_cmp} map.empty * 0 = total-most F 0 map.empty (λ k x is. absurd (none_some x (sym (map.get-empty nat_cmp k) ∙ is))) in
    omega (arith, most)

-- One user more in the list.
pub whole-add_user : (w : World) (u : ℕ) → IsWhole w → IsWhole (add_user w u)
whole-add_user w u k = by (list_any (nat_eq u) w.users) where
  by : (b : Bool) → IsWhole (if b then w else record w { users = w.users ++ u ∷ [] })
  by true = k
  by false = record {
    tables_live = k.tables_live;
    queues_live = k.queues_live;
    files_numbered = k.files_numbered;
    processes_numbered = k.processes_numbered;
    files_begin = k.files_begin;
    next_ino = k.next_ino;
    next_pid = k.next_pid;
    peers = k.peers;
    targets = k.targets;
    types = k.types;
    names = k.names;
    embryos = k.embryos;
  }

-- A process more, whose table has live files.
pub whole-add_process : (w : World) (q : Process) → IsWhole w → ((n f : ℕ) → map.get q.table n ≡ Some f → IsLive w f) → IsWhole (add_process w q)
whole-add_process w q k live = record {
  tables_live = λ f t.
      let at = table-there (add_process w q) t.0 t.1 f t.2 in
      elim (same_or_not t.0 w.next_pid) [
        | inl same ↦ live t.1 f (ap (λ r. map.get r.table t.1) (some_same q at.0 (sym (insert-here w.processes w.next_pid q) ∙ ap (map.get (map.insert w.processes w.next_pid q)) (sym same) ∙ at.1)) ∙ at.2)
        | inr apart ↦ k.tables_live f (t.0, t.1, there-table w t.0 t.1 at.0 (sym (insert-other w.processes w.next_pid q t.0 apart) ∙ at.1) ∙ at.2)
      ];
  queues_live = k.queues_live;
  files_numbered = k.files_numbered;
  processes_numbered = λ p l. elim (same_or_not p w.next_pid) [
    | inl same ↦ omega (arith, same)
    | inr apart ↦ let low = k.processes_numbered p (ap is_some (sym (insert-other w.processes w.next_pid q p apart)) ∙ l) in omega (arith, low)
  ];
  files_begin = k.files_begin;
  next_ino = k.next_ino;
  next_pid = omega arith;
  peers = k.peers;
  targets = k.targets;
  types = k.types;
  names = k.names;
  embryos = k.embryos;
}

-- With a process more come the places of its table.
pub refs-add_process : (w : World) (q : Process) (f : ℕ) → map.get w.processes w.next_pid ≡ None → refs (add_process w q) f ≡ refs w f + total_of (one f) q.table
refs-add_process w q f none =
    let before : option_map_or (λ r. total_of (one f) r.table) (map.get w.processes w.next_pid) 0 ≡ 0 = ap (λ o. option_map_or (λ r. total_of (one f) r.table) o 0) none in
    omega (arith, before, total-insert (λ r. total_of (one f) r.table) w.processes w.next_pid q)

-- A process started.
pub whole-spawned : (w : World) (uid nofile : ℕ) (privileged : Bool) → IsWhole w → IsWhole (spawned w uid nofile privileged)
whole-spawned w uid nofile privileged k = whole-add_user _ uid (whole-add_process w _ k (λ n f is. absurd (none_some f (sym (map.get-empty nat_cmp n) ∙ is))))
