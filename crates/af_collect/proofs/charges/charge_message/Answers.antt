use Rattle.std.proofs.Common.{arith, sym, ap, ◌∙◌, subst}
use Rattle.std.specs.Prelude.{IsTrue}
use Rattle.std.specs.FinMap as map
use Rattle.af_ledger.specs.Counted.{IsCountable, more}
use Rattle.af_ledger.specs.Tally.{Tally, count_in_map, kept_of, with_refs}
use Rattle.af_ledger.specs.declared.place.Place.TheVariants.{Queue}
use Rattle.af_ledger.proofs.ManyPlaces.{charged-held_all, held-more, hold-next}
use Rattle.af_collect.proofs.CountChanges.{changed-all, counts-alone}
use Rattle.af_collect.proofs.charges.charge_message.Goals as goal

pub hold-requires-clause-known : goal.hold-requires-clause-known
hold-requires-clause-known c = subst (λ m. IsTrue (map.contains_key m c.file-item.result)) (sym c.loop-file.invariant.counts) (hold-next c.args.user c.args.attached.now c.loop-file.file-index c.file-item.result (kept_of c.args.files.now.counts c.args.ledger.now) c.requires c.loop-file-test.true c.file-item.is).0

pub hold-requires-clause-countable : goal.hold-requires-clause-countable
hold-requires-clause-countable c = subst (λ m. IsCountable (Queue c.args.user) (count_in_map m c.file-item.result)) (sym c.loop-file.invariant.counts) (hold-next c.args.user c.args.attached.now c.loop-file.file-index c.file-item.result (kept_of c.args.files.now.counts c.args.ledger.now) c.requires c.loop-file-test.true c.file-item.is).1.0

pub loop-file-preserved : goal.loop-file-preserved
loop-file-preserved c =
    let f = c.file-item.result in
    let before = c.loop-file.invariant in
    record {
      counts = ap (λ v. v.counts) c.hold.ensures ∙ ap (λ m. map.insert m f (more (Queue c.args.user) (count_in_map m f))) before.counts
          ∙ ap (λ (l : Tally). l.counts) (sym (held-more (Queue c.args.user) c.args.attached.now c.loop-file.file-index f (kept_of c.args.files.now.counts c.args.ledger.now) c.loop-file-test.true c.file-item.is));
      rest = counts-alone c.args.files.now _ _ _ c.hold.ensures before.rest;
    }

pub returns : goal.returns
returns c =
    let k = kept_of c.args.files.now.counts c.args.ledger.now in
    record {
      kept = changed-all (with_refs (Queue c.args.user)) c.args.attached.now c.loop-file.file-index k _ _ _ (omega (arith, c.loop-file-test.false)) c.loop-file.invariant.counts c.charge.ensures (charged-held_all c.args.user c.args.attached.now k);
      rest = c.loop-file.invariant.rest;
    }
