-- Of those before, the places are counted.
use Rattle.std.proofs.Common.{◌≡◌, take}
use Rattle.af_ledger.specs.Tally.{kept_of, with_refs}
use Rattle.af_ledger.specs.declared.place.Place.TheVariants.{Queue}
use Rattle.af_collect.proofs.charges.charge_message.Given as goal

abbrev pub invariant-loop-file : goal.invariant-loop-file
invariant-loop-file l = record {
  counts : l.files.counts ≡ (with_refs (Queue l.user) (take l.file-index l.attached) (kept_of l.fn.files.counts l.fn.ledger)).counts;
  rest : l.files ≡ record l.fn.files { counts = l.files.counts };
}
