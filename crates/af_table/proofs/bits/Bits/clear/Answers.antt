use Rattle.std.proofs.Common.{rules}
use Rattle.af_table.proofs.Words.{clear_bit}
use Rattle.af_table.proofs.bits.Bits.clear.Goals as goal

pub returns : goal.returns
returns c = λ q. clear_bit c.args.self.now.words c.args.n q c.requires (search rules)
