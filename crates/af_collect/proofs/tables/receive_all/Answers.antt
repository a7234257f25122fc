use Rattle.std.proofs.Common.{rules, ◌≡◌, ◌<◌, ◌+◌, ◌∷◌, ℕ, List, [], add-one, arith, drop, length, map, refl, ap, sym, ◌∙◌, subst}
use Rattle.std.proofs.Math.Seq.{drop-cons}
use Rattle.std.proofs.lemmas.List.{drop_all}
use Rattle.std.specs.FinMap as finmap
use Rattle.std.specs.List.{All, zip}
use Rattle.std.specs.Prelude.{IfSome, Some, slice_index_or, unwrap_or}
use Rattle.std.proofs.lemmas.List.Elements.{All-rest}
use Rattle.af_base.specs.Changes.{installed}
use Rattle.af_base.specs.Counts.{count_in}
use Rattle.af_base.proofs.PlacesAndCounts.{count-cons, one-most}
use Rattle.af_base.proofs.Trees.{insert_same}
use Rattle.af_desc.specs.FilesView.{FilesView}
use Rattle.af_ledger.specs.Tally.{Tally, count_in_map, freed_by, kept_of, with_ref, with_refs, without_ref, without_refs}
use Rattle.af_ledger.specs.declared.place.Place.TheVariants.{Queue, Table}
use Rattle.af_ledger.proofs.Laws.{inflight-tabled, inflight-unqueued, tabled-tabled, tabled-unqueued}
use Rattle.af_ledger.proofs.ManyPlaces.{freed-dropped_all, one-itself}
use Rattle.af_ledger.proofs.MovedPlaces.{dropped-alike, moved-first}
use Rattle.af_table.specs.Procs.{row_in}
use Rattle.af_table.specs.Slots.{ProcessView}
use Rattle.af_collect.specs.HoldingsView.{filled}
use Rattle.af_collect.proofs.CountChanges.{counts-alone, moved-is, charges-filled, no-files, no-numbers}
use Rattle.af_collect.proofs.LentProcesses.{back-again}
use Rattle.af_collect.proofs.tables.receive_all.Goals as goal

-- The file that the loop is at, and those behind it.
files-left : (xs : List ℕ) (i x : ℕ) → i < length xs → x ≡ slice_index_or xs i x → drop i xs ≡ x ∷ drop (i + 1) xs
files-left xs i x low is = drop-cons xs i x low ∙ (λ j. sym is j ∷ drop (sym (add-one i) j) xs)

pub loop-file-init : goal.loop-file-init
loop-file-init c =
    let fds : c.iter-free.result.rest.now ≡ c.args.fds.now = search rules in
    let files = c.args.attached.now in
    let p = c.args.procs.now in
    let there = subst (λ o. IfSome o (λ q. finmap.get p.processes c.args.pid ≡ Some q.now.process)) c.unwrap-process.ensures c.find_mut.ensures.there in
    let room = subst (λ o. IfSome o (λ q. finmap.get p.rows c.args.pid ≡ Some q.now.row)) c.unwrap-process.ensures c.find_mut.ensures.row in
    record {
      processes = λ i. filled (insert_same p.processes c.args.pid c.unwrap-process.result.now.process there i) c.args.pid (zip (fds i) files);
      counts = λ i. (without_refs (Queue c.args.user) files (with_refs Table (map (λ e. e.1) (zip (fds i) files)) (kept_of c.args.files.now.counts c.args.ledger.now))).counts;
      rest = refl;
      room = room;
      row = subst (λ r. All (λ n. n < r) c.iter-free.result.rest.now) (ap (λ o. unwrap_or o 0) room) (subst (All (λ n. n < row_in p.rows c.args.pid)) (sym fds) c.requires.row);
      queued = c.requires.queued.counted;
      fits = c.requires.fits;
    }

pub loop-file-preserved-in_default : goal.loop-file-preserved-in_default
loop-file-preserved-in_default c =
    let u = c.args.user in
    let before = c.loop-file.invariant in
    let f = c.file-item.result in
    let fs = drop (c.loop-file.file-index + 1) c.args.attached.now in
    let all = drop c.loop-file.file-index c.args.attached.now in
    let ns = c.loop-file.free.rest.now in
    let k = kept_of c.loop-file.files.counts c.args.ledger.now in
    let whole : all ≡ f ∷ fs = files-left c.args.attached.now c.loop-file.file-index f c.loop-file-test.true c.file-item.is in
    let ended = c.in_default.ensures.steps in
    let none = no-numbers ns all ended.0 in
    let left : zip c.next.new.self.rest.now fs ≡ [] = no-numbers c.next.new.self.rest.now fs (ap (λ s. length s.rest.now) ended.1 ∙ ended.0) in
    let one = c.drop_one.ensures in
    let queued = before.queued f in
    let some : 0 < (count_in_map c.loop-file.files.counts f).inflight = omega (arith, queued, ap (count_in f) whole, count-cons f f fs, one-itself f) in
    record {
      processes = ap (filled (finmap.insert c.args.procs.now.processes c.args.pid c.loop-file.process.process) c.args.pid) (left ∙ sym none) ∙ before.processes;
      counts =
          ap (λ es. (without_refs (Queue u) fs (with_refs Table (map (λ e. e.1) es) (kept_of c.drop_one.new.self.counts c.args.ledger.now))).counts) left
          ∙ dropped-alike u fs (kept_of c.drop_one.new.self.counts c.args.ledger.now) (without_ref (Queue u) f k) (ap (λ (v : FilesView). v.counts) one)
          ∙ sym (λ j. (without_refs (Queue u) (whole j) (with_refs Table (map (λ e. e.1) (none j)) k)).counts) ∙ before.counts;
      rest = counts-alone c.args.files.now _ _ _ one before.rest;
      room = before.room;
      row = subst (λ s. All (λ n. n < c.loop-file.process.row) s.rest.now) (sym ended.1) before.row;
      queued = λ g. let was = before.queued g in omega (arith, was, ap (count_in g) whole, count-cons g f fs, inflight-unqueued u f g k some, ap (λ (v : FilesView). (count_in_map v.counts g).inflight) one);
      fits = λ g. let fits = before.fits g in omega (arith, fits, ap length whole, tabled-unqueued u f g k, ap (λ (v : FilesView). (count_in_map v.counts g).tabled) one);
    }

pub loop-file-preserved : goal.loop-file-preserved
loop-file-preserved c =
    let u = c.args.user in
    let before = c.loop-file.invariant in
    let n = c.in-Some.fd.now in
    let f = c.file-item.result in
    let ns = c.next.new.self.rest.now in
    let fs = drop (c.loop-file.file-index + 1) c.args.attached.now in
    let all = drop c.loop-file.file-index c.args.attached.now in
    let q = c.loop-file.process in
    let low = λ (m : ℕ). m < q.row in
    let k = kept_of c.loop-file.files.counts c.args.ledger.now in
    let next = c.in-Some.ensures.steps in
    let whole : all ≡ f ∷ fs = files-left c.args.attached.now c.loop-file.file-index f c.loop-file-test.true c.file-item.is in
    let one = c.move_to_table.ensures ∙ moved-is (Queue u) f c.loop-file.files in
    let queued = before.queued f in
    let some : 0 < (count_in_map c.loop-file.files.counts f).inflight = omega (arith, queued, ap (count_in f) whole, count-cons f f fs, one-itself f) in
    let tabled = inflight-tabled f f k in
    record {
      processes = ap (λ m. filled m c.args.pid (zip ns fs)) (back-again (installed n f) c.args.procs.now.processes c.args.pid q.process _ (ap (λ v. v.process) c.install.ensures ∙ ap (λ x. installed n x q.process) c.duplicate.ensures))
          ∙ sym (λ j. filled (finmap.insert c.args.procs.now.processes c.args.pid q.process) c.args.pid (zip (next j) (whole j))) ∙ before.processes;
      counts =
          moved-first u f fs (map (λ e. e.1) (zip ns fs)) k (kept_of c.move_to_table.new.self.counts c.args.ledger.now) (ap (λ (v : FilesView). v.counts) one)
          ∙ sym (λ j. (without_refs (Queue u) (whole j) (with_refs Table (map (λ e. e.1) (zip (next j) (whole j))) k)).counts) ∙ before.counts;
      rest = counts-alone c.args.files.now _ _ _ c.move_to_table.ensures before.rest;
      room = before.room ∙ ap (λ v. Some v.row) (sym c.install.ensures);
      row = subst (λ (v : ProcessView). All (λ m. m < v.row) ns) (sym c.install.ensures) (All-rest low n ns (n ∷ ns) refl (subst (All low) next before.row));
      queued = λ g. let was = before.queued g in omega (arith, was, ap (count_in g) whole, count-cons g f fs, inflight-unqueued u f g (with_ref Table f k) (omega (arith, some, tabled)), inflight-tabled f g k, ap (λ (v : FilesView). (count_in_map v.counts g).inflight) one);
      fits = λ g. let fits = before.fits g in omega (arith, fits, ap length whole, tabled-unqueued u f g (with_ref Table f k), tabled-tabled f g k, one-most g f, ap (λ (v : FilesView). (count_in_map v.counts g).tabled) one);
    }

pub returns : goal.returns
returns c =
    let u = c.args.user in
    let before = c.loop-file.invariant in
    let files = c.args.attached.now in
    let k = kept_of c.args.files.now.counts c.args.ledger.now in
    let gs = map (λ e. e.1) (zip c.args.fds.now files) in
    let end = kept_of c.loop-file.files.counts c.args.ledger.now in
    let last : drop c.loop-file.file-index files ≡ [] = drop_all c.loop-file.file-index files (omega (arith, c.loop-file-test.false)) in
    let none = no-files c.loop-file.free.rest.now (drop c.loop-file.file-index files) (ap length last) in
    let counts = sym (λ j. (without_refs (Queue u) (last j) (with_refs Table (map (λ e. e.1) (none j)) end)).counts) ∙ before.counts in
    record {
      processes = sym (ap (filled (finmap.insert c.args.procs.now.processes c.args.pid c.loop-file.process.process) c.args.pid) none) ∙ before.processes;
      rows = insert_same c.args.procs.now.rows c.args.pid c.loop-file.process.row before.room;
      next = refl;
      kept =
          (λ j. kept_of (counts j) (c.uncharge.ensures j))
          ∙ sym (ap (λ (t : Tally). record (freed_by (length files) u t) { counts = (without_refs (Queue u) files (with_refs Table gs k)).counts }) (charges-filled gs k))
          ∙ freed-dropped_all u files (with_refs Table gs k);
      rest = before.rest;
    }
