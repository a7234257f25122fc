use Rattle.std.proofs.Common.{rules}
use Rattle.af_collect.proofs.holdings.Holdings.socket.Goals as goal

pub returns : goal.returns
returns c = search rules
