use Rattle.std.proofs.Common.{rules, ◌≡◌, ◌<◌, ◌+◌, ◌∷◌, ◌^◌, ℕ, [], length, map, arith, refl, ap, sym, ◌∙◌, subst, inl, inr}
use Rattle.std.specs.Prelude.{IfSome, IsTrue, Some, unwrap_or}
use Rattle.std.specs.List.{All, Contains, zip}
use Rattle.std.proofs.lemmas.List.Elements.{All-head, All-rest}
use Rattle.af_base.specs.Changes.{installed}
use Rattle.af_base.proofs.Elements.{Contains-first, Contains-later}
use Rattle.af_base.proofs.PlacesAndCounts.{one-most}
use Rattle.af_base.proofs.Trees.{insert_same}
use Rattle.std.specs.FinMap as finmap
use Rattle.af_desc.specs.FilesView.{FilesView}
use Rattle.af_ledger.specs.Tally.{LedgerView, count_in_map, kept_of, with_refs}
use Rattle.af_ledger.specs.declared.place.Place.TheVariants.{Table}
use Rattle.af_ledger.proofs.Laws.{has-held, tabled-tabled}
use Rattle.af_table.specs.Procs.{row_in}
use Rattle.af_table.specs.Slots.{ProcessView}
use Rattle.af_collect.specs.HoldingsView.{filled}
use Rattle.af_collect.proofs.CountChanges.{counts-alone, no-files, no-numbers}
use Rattle.af_collect.proofs.LentProcesses.{back-again}
use Rattle.af_collect.proofs.tables.table_in_all.Goals as goal

pub loop-fd-init : goal.loop-fd-init
loop-fd-init c =
    let fds : c.into_iter-fd-iterator.result.a.rest.now ≡ c.args.fds.now = search rules in
    let files : c.into_iter-fd-iterator.result.b.rest.now ≡ c.args.attached.now = search rules in
    let p = c.args.procs.now in
    let there = subst (λ o. IfSome o (λ q. finmap.get p.processes c.args.pid ≡ Some q.now.process)) c.unwrap-process.ensures c.find_mut.ensures.there in
    let room = subst (λ o. IfSome o (λ q. finmap.get p.rows c.args.pid ≡ Some q.now.row)) c.unwrap-process.ensures c.find_mut.ensures.row in
    record {
      processes = λ i. filled (insert_same p.processes c.args.pid c.unwrap-process.result.now.process there i) c.args.pid (zip (fds i) (files i));
      kept = λ ch i. with_refs Table (map (λ e. e.1) (zip (fds i) (files i))) (kept_of c.args.files.now.counts ch);
      rest = refl;
      room = room;
      row = subst (λ r. All (λ n. n < r) c.into_iter-fd-iterator.result.a.rest.now) (ap (λ o. unwrap_or o 0) room) (subst (All (λ n. n < row_in p.rows c.args.pid)) (sym fds) c.requires.row);
      known = λ f h. c.requires.known f (subst (λ l. Contains l f) files h);
      fits = λ f. subst (λ l. (count_in_map c.args.files.now.counts f).tabled + length l < 2 ^ 21) (sym files) (c.requires.fits f);
    }

pub hold-requires-clause-known : goal.hold-requires-clause-known
hold-requires-clause-known c = c.loop-fd.invariant.known c.in-Some.file.now (subst (λ l. Contains l c.in-Some.file.now) (sym c.in-Some.ensures.steps.1) (Contains-first c.in-Some.file.now c.next.new.self.b.rest.now))

pub hold-requires-clause-countable : goal.hold-requires-clause-countable
hold-requires-clause-countable c = let fits = c.loop-fd.invariant.fits c.in-Some.file.now in omega (arith, fits, ap length c.in-Some.ensures.steps.1)

pub install-requires : goal.install-requires
install-requires c =
    let low = λ (n : ℕ). n < c.loop-fd.process.row in
    All-head low _ _ (subst (All low) c.in-Some.ensures.steps.0 c.loop-fd.invariant.row)

pub loop-fd-preserved : goal.loop-fd-preserved
loop-fd-preserved c =
    let k = c.loop-fd.invariant in
    let n = c.in-Some.fd.now in
    let f = c.in-Some.file.now in
    let steps = c.in-Some.ensures.steps in
    let ns = c.next.new.self.a.rest.now in
    let fs = c.next.new.self.b.rest.now in
    let q = c.loop-fd.process in
    let low = λ (m : ℕ). m < q.row in
    let one = c.hold.ensures in
    let none : LedgerView = record { users = []; total = 0 } in
    let first = k.known f (subst (λ l. Contains l f) (sym steps.1) (Contains-first f fs)) in
    record {
      processes = ap (λ m. filled m c.args.pid (zip ns fs)) (back-again (installed n f) c.args.procs.now.processes c.args.pid q.process _ (ap (λ v. v.process) c.install.ensures ∙ ap (λ x. installed n x q.process) c.duplicate.ensures))
          ∙ sym (λ i. filled (finmap.insert c.args.procs.now.processes c.args.pid q.process) c.args.pid (zip (steps.0 i) (steps.1 i))) ∙ k.processes;
      kept = λ ch. ap (λ (v : FilesView). with_refs Table (map (λ e. e.1) (zip ns fs)) (kept_of v.counts ch)) one ∙ sym (λ i. with_refs Table (map (λ e. e.1) (zip (steps.0 i) (steps.1 i))) (kept_of c.loop-fd.files.counts ch)) ∙ k.kept ch;
      rest = counts-alone c.args.files.now _ _ _ one k.rest;
      room = k.room ∙ ap (λ v. Some v.row) (sym c.install.ensures);
      row = subst (λ (v : ProcessView). All (λ m. m < v.row) ns) (sym c.install.ensures) (All-rest low n ns (n ∷ ns) refl (subst (All low) steps.0 k.row));
      known = λ g h. subst (λ (v : FilesView). IsTrue (finmap.contains_key v.counts g)) (sym one) (has-held Table f g (kept_of c.loop-fd.files.counts none) first ∙ k.known g (subst (λ l. Contains l g) (sym steps.1) (Contains-later f fs g h)));
      fits = λ g. let fits = k.fits g in omega (arith, fits, ap (λ (v : FilesView). (count_in_map v.counts g).tabled) one, tabled-tabled f g (kept_of c.loop-fd.files.counts none), one-most g f, ap length steps.1);
    }

pub returns : goal.returns
returns c =
    let k = c.loop-fd.invariant in
    let none = elim c.in-None.ensures.steps as (λ _. zip c.loop-fd.fd-iterator.a.rest.now c.loop-fd.fd-iterator.b.rest.now ≡ []) [
      | inl h ↦ no-numbers _ c.loop-fd.fd-iterator.b.rest.now h.1.0
      | inr h ↦ no-files c.loop-fd.fd-iterator.a.rest.now _ h.1.0
    ] in
    record {
      processes = sym (ap (filled (finmap.insert c.args.procs.now.processes c.args.pid c.loop-fd.process.process) c.args.pid) none) ∙ k.processes;
      rows = insert_same c.args.procs.now.rows c.args.pid c.loop-fd.process.row k.room;
      next = refl;
      kept = λ ch. sym (ap (λ es. with_refs Table (map (λ e. e.1) es) (kept_of c.loop-fd.files.counts ch)) none) ∙ k.kept ch;
      rest = k.rest;
    }
