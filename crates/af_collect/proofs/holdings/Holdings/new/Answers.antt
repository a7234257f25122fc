use Rattle.std.proofs.Common.{rules, refl}
use Rattle.af_ledger.specs.Tally.{kept_of}
use Rattle.af_collect.proofs.Exact.{exact-empty, exact-same}
use Rattle.af_collect.proofs.holdings.Holdings.new.Goals as goal

pub invariant_of-result : goal.invariant_of-result
invariant_of-result c = exact-same _ _ _ _ (search rules) refl (exact-empty (kept_of c.new-2.result.counts c.new-3.result) c.new-2.ensures.counts c.new-3.ensures.users c.new-3.ensures.total)
