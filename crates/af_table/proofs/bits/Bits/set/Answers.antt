use Rattle.std.proofs.Common.{rules}
use Rattle.af_table.proofs.Words.{set_bit}
use Rattle.af_table.proofs.bits.Bits.set.Goals as goal

pub returns : goal.returns
returns c = λ q. set_bit c.args.self.now.words c.args.n q c.requires (search rules)
