-- A process that is gone, and its table with it.
use Rattle.std.proofs.Common.{◌≡◌, ◌<◌, ℕ, ◌+◌, true, inl, inr, refl, sym, ap, ◌∙◌, arith}
use Rattle.std.specs.Prelude.{Option, Some, None, is_some}
use Rattle.std.specs.FinMap as map
use Rattle.std.proofs.lemmas.Bool.{false≢true}
use Rattle.af_base.specs.World.{Process, World}
use Rattle.af_base.specs.Places.{InTable}
use Rattle.af_base.specs.Counts.{one, refs, total_of}
use Rattle.af_base.specs.Changes.{remove_process}
use Rattle.af_base.specs.Whole.{IsWhole, IsWithin}
use Rattle.af_base.proofs.Lookups.{none_some, remove-here, remove-other, same_or_not}
use Rattle.af_base.proofs.PlaceMoves.{table-there, there-table}
use Rattle.af_base.proofs.Sums.{total-remove}
use Rattle.af_base.proofs.Totals.{total-below, total-count}

module _ (w : World) (p : ℕ) where
  -- A process that is left was there before.
  left_was : (r : ℕ) (q : Process) → map.get (remove_process w p).processes r ≡ Some q → map.get w.processes r ≡ Some q
  left_was r q is = elim (same_or_not r p) [
    | inl same ↦ absurd (none_some q (sym (ap (map.get (map.remove w.processes p)) same ∙ remove-here w.processes p) ∙ is))
    | inr apart ↦ sym (remove-other w.processes p r apart) ∙ is
  ]

  -- A file in a table afterwards was in it before.
  pub tabled-remove : (f : ℕ) → InTable (remove_process w p) f → InTable w f
  tabled-remove f t =
      let at = table-there (remove_process w p) t.0 t.1 f t.2 in
      (t.0, t.1, there-table w t.0 t.1 at.0 (left_was t.0 at.0 at.1) ∙ at.2)

  -- A world stays whole without a process.
  pub whole-remove_process : IsWhole w → IsWhole (remove_process w p)
  whole-remove_process k = record {
    tables_live = λ f t. k.tables_live f (tabled-remove f t);
    queues_live = k.queues_live;
    files_numbered = k.files_numbered;
    processes_numbered = λ r l. numbered r (map.get (remove_process w p).processes r) refl l;
    files_begin = k.files_begin;
    next_ino = k.next_ino;
    next_pid = k.next_pid;
    peers = k.peers;
    targets = k.targets;
    types = k.types;
    names = k.names;
    embryos = k.embryos;
  } where
    numbered : (r : ℕ) (o : Option Process) → map.get (remove_process w p).processes r ≡ o → is_some o ≡ true → r < w.next_pid
    numbered r None e l = absurd (false≢true l)
    numbered r (Some q) e l = k.processes_numbered r (ap is_some (left_was r q e))

  -- A world stays within the limits without a process.
  pub within-remove_process : IsWithin w → IsWithin (remove_process w p)
  within-remove_process k = record {
    process_count =
        let less = total-below (λ q. 1) (λ q. 1) (remove_process w p).processes w.processes (λ r q is. (q, left_was r q is, omega arith)) in
        let most = k.process_count in
        omega (arith, less, most, total-count w.processes, total-count (remove_process w p).processes);
    file_count = k.file_count;
    flying = k.flying;
    pids = k.pids;
    inos = k.inos;
    processes = λ r q is. k.processes r q (left_was r q is);
    sockets = k.sockets;
  }

-- The places of its table go with it.
pub refs-remove_process : (w : World) (p f : ℕ) (q : Process) → map.get w.processes p ≡ Some q → refs (remove_process w p) f + total_of (λ g. one f g) q.table ≡ refs w f
refs-remove_process w p f q at = omega (arith, total-remove (λ r. total_of (λ g. one f g) r.table) w.processes p q at)
