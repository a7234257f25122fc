use Rattle.std.proofs.Common.{arith, sym, ap, ◌∙◌, subst}
use Rattle.std.specs.FinMap as map
use Rattle.af_ledger.specs.Counted.{IsCounted, fewer}
use Rattle.af_ledger.specs.Tally.{Tally, count_in_map, kept_of, without_refs}
use Rattle.af_ledger.specs.declared.place.Place.TheVariants.{Queue}
use Rattle.af_ledger.proofs.ManyPlaces.{freed-dropped_all, dropped-more, drop-next}
use Rattle.af_collect.proofs.CountChanges.{changed-all, counts-alone}
use Rattle.af_collect.proofs.charges.uncharge_message.Goals as goal

pub drop_one-requires : goal.drop_one-requires
drop_one-requires c = subst (λ m. IsCounted (Queue c.args.user) (count_in_map m c.file-item.result)) (sym c.loop-file.invariant.counts) (drop-next c.args.user c.args.attached.now c.loop-file.file-index c.file-item.result (kept_of c.args.files.now.counts c.args.ledger.now) c.requires c.loop-file-test.true c.file-item.is).0

pub loop-file-preserved : goal.loop-file-preserved
loop-file-preserved c =
    let f = c.file-item.result in
    let before = c.loop-file.invariant in
    record {
      counts = ap (λ v. v.counts) c.drop_one.ensures ∙ ap (λ m. map.insert m f (fewer (Queue c.args.user) (count_in_map m f))) before.counts
          ∙ ap (λ (l : Tally). l.counts) (sym (dropped-more (Queue c.args.user) c.args.attached.now c.loop-file.file-index f (kept_of c.args.files.now.counts c.args.ledger.now) c.loop-file-test.true c.file-item.is));
      rest = counts-alone c.args.files.now _ _ _ c.drop_one.ensures before.rest;
    }

pub returns : goal.returns
returns c =
    let k = kept_of c.args.files.now.counts c.args.ledger.now in
    record {
      kept = changed-all (without_refs (Queue c.args.user)) c.args.attached.now c.loop-file.file-index k _ _ _ (omega (arith, c.loop-file-test.false)) c.loop-file.invariant.counts c.uncharge.ensures (freed-dropped_all c.args.user c.args.attached.now k);
      rest = c.loop-file.invariant.rest;
    }
