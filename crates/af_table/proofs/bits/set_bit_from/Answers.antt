use Rattle.af_table.proofs.Words.{place_found}
use Rattle.af_table.proofs.bits.set_bit_from.Goals as goal

pub returns-clause-place : goal.returns-clause-place
returns-clause-place c = place_found c.args.word c.args.from c.requires c.ranges.word.fits c.if-high-eq0.false
