use Rattle.std.proofs.Common.{sym, ap, ◌∙◌, is_some}
use Rattle.scm_lines.proofs.FittingLemmas.{other_found, reason_digits, reason_other}
use Rattle.scm_lines.proofs.misfit.number_misfit.Goals as goal

pub returns-in-Some-clause-reason : goal.returns-in-Some-clause-reason
returns-in-Some-clause-reason c =
    c.at.ensures.reason ∙ sym (reason_other c.args.word.now (ap is_some (sym c.in-Some.is ∙ c.other_at.ensures.value) ∙ other_found c.args.word.now))

pub returns-clause-reason : goal.returns-clause-reason
returns-clause-reason c =
    c.at-2.ensures.reason ∙ c.digits_reason.ensures
    ∙ sym (reason_digits c.args.word.now (ap is_some (sym c.in_default.is ∙ c.other_at.ensures.value) ∙ other_found c.args.word.now))
