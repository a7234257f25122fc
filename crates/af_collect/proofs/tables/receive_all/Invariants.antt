-- The rest to receive gives the same as all together.
use Rattle.std.proofs.Common.{◌≡◌, ◌<◌, ◌≤◌, ◌+◌, ◌^◌, ℕ, drop, length, map}
use Rattle.std.specs.Prelude.{Some}
use Rattle.std.specs.List.{All, zip}
use Rattle.std.specs.FinMap as finmap
use Rattle.af_base.specs.Counts.{count_in}
use Rattle.af_ledger.specs.Tally.{count_in_map, kept_of, with_refs, without_refs}
use Rattle.af_ledger.specs.declared.place.Place.TheVariants.{Queue, Table}
use Rattle.af_collect.specs.HoldingsView.{filled}
use Rattle.af_collect.proofs.tables.receive_all.Given as goal

abbrev pub invariant-loop-file : goal.invariant-loop-file
invariant-loop-file l =
    let ns = l.free.rest.now in
    let fs = drop l.file-index l.attached in
    let all = without_refs (Queue l.user) l.attached (with_refs Table (map (λ e. e.1) (zip l.fds l.attached)) (kept_of l.fn.files.counts l.fn.ledger)) in
    record {
      processes : filled (finmap.insert l.fn.procs.processes l.fn.pid l.process.process) l.fn.pid (zip ns fs) ≡ filled l.fn.procs.processes l.fn.pid (zip l.fds l.attached);
      counts : (without_refs (Queue l.user) fs (with_refs Table (map (λ e. e.1) (zip ns fs)) (kept_of l.files.counts l.fn.ledger))).counts ≡ all.counts;
      rest : l.files ≡ record l.fn.files { counts = l.files.counts };
      room : finmap.get l.fn.procs.rows l.fn.pid ≡ Some l.process.row;
      row : All (λ n. n < l.process.row) ns;
      queued : (f : ℕ) → count_in f fs ≤ (count_in_map l.files.counts f).inflight;
      fits : (f : ℕ) → (count_in_map l.files.counts f).tabled + length fs < 2 ^ 21;
    }
