use Rattle.std.proofs.Common.{sym, ap, ◌∙◌, is_some}
use Rattle.scm_lines.proofs.FittingLemmas.{unprintable_found}
use Rattle.scm_lines.proofs.misfit.first_unprintable.Goals as goal

pub returns-in_err-at-clause-exact : goal.returns-in_err-at-clause-exact
returns-in_err-at-clause-exact c =
    ap is_some c.from_residual.ensures ∙ ap is_some (sym c.in_err-at.was ∙ c.unprintable_at.ensures.value) ∙ unprintable_found c.args.bytes.now

pub returns-clause-exact : goal.returns-clause-exact
returns-clause-exact c = ap is_some (sym c.in_ok-at.was ∙ c.unprintable_at.ensures.value) ∙ unprintable_found c.args.bytes.now
