-- The rest to install gives the same as all together.
use Rattle.std.proofs.Common.{◌≡◌, ◌<◌, ◌+◌, ◌^◌, ℕ, length, map}
use Rattle.std.specs.Prelude.{IsTrue, Some}
use Rattle.std.specs.List.{All, Contains, zip}
use Rattle.std.specs.FinMap as finmap
use Rattle.af_ledger.specs.Tally.{LedgerView, count_in_map, kept_of, with_refs}
use Rattle.af_ledger.specs.declared.place.Place.TheVariants.{Table}
use Rattle.af_collect.specs.HoldingsView.{filled}
use Rattle.af_collect.proofs.tables.table_in_all.Given as goal

abbrev pub invariant-loop-fd : goal.invariant-loop-fd
invariant-loop-fd l =
    let ns = l.fd-iterator.a.rest.now in
    let fs = l.fd-iterator.b.rest.now in
    record {
      processes : filled (finmap.insert l.fn.procs.processes l.fn.pid l.process.process) l.fn.pid (zip ns fs) ≡ filled l.fn.procs.processes l.fn.pid (zip l.fds l.attached);
      kept : (c : LedgerView) → with_refs Table (map (λ e. e.1) (zip ns fs)) (kept_of l.files.counts c) ≡ with_refs Table (map (λ e. e.1) (zip l.fds l.attached)) (kept_of l.initial.files.counts c);
      rest : l.files ≡ record l.initial.files { counts = l.files.counts };
      room : finmap.get l.fn.procs.rows l.fn.pid ≡ Some l.process.row;
      row : All (λ n. n < l.process.row) ns;
      known : (f : ℕ) → Contains fs f → IsTrue (finmap.contains_key l.files.counts f);
      fits : (f : ℕ) → (count_in_map l.files.counts f).tabled + length fs < 2 ^ 21;
    }
