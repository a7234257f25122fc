use Rattle.std.proofs.Common.{rules}
use Rattle.scm_lines.proofs.FittingLemmas.{spelled_few, spelled_over}
use Rattle.scm_lines.proofs.misfit.why_spelled.Goals as goal

pub returns-then-count-gt-MAX_PAYLOAD-clause-exact : goal.returns-then-count-gt-MAX_PAYLOAD-clause-exact
returns-then-count-gt-MAX_PAYLOAD-clause-exact c =
    spelled_over c.loop-rest.count c.loop-rest.rest.now c.args.word.now (search rules) c.loop-rest.invariant.0 c.if-count-gt-MAX_PAYLOAD.true

pub returns-clause-exact : goal.returns-clause-exact
returns-clause-exact c =
    spelled_few c.loop-rest.count c.loop-rest.rest.now c.args.word.now (search rules) c.loop-rest.invariant.0 c.if-count-gt-MAX_PAYLOAD.false
