use Rattle.std.proofs.Common.{sym, ◌∙◌, inl, inr}
use Rattle.scm_lines.specs.Words.{words_of}
use Rattle.scm_lines.proofs.VersionsFit.{step_late, step_misfit}
use Rattle.scm_lines.proofs.explain.why_process.Goals.{then-is_some-via-else-is_some+then-has_verb, then-is_some-via-then-is_some}
use Rattle.scm_lines.proofs.explain.why_process.Goals as goal

pub returns-then-is_some-clause-exact : goal.returns-then-is_some-clause-exact
returns-then-is_some-clause-exact c =
    step_misfit c.args.version c.in-Some.word.now (words_of c.in-Some.rest.now) _ c.in-Some-verb_named.verb _ c.in-Some.ensures.some
    (sym c.in-Some-verb_named.is ∙ c.verb_named.ensures) c.why_step-misfit.ensures.exact
    (elim c.then-is_some.branch [
      | then-is_some-via-then-is_some w ↦ inl (sym c.is_some.ensures ∙ w.if-is_some.true)
      | then-is_some-via-else-is_some+then-has_verb w ↦ inr (sym w.has_verb.ensures ∙ w.if-has_verb.true)
    ])

pub returns-clause-exact : goal.returns-clause-exact
returns-clause-exact c =
    step_late c.args.version c.in-Some.word.now (words_of c.in-Some.rest.now) _ c.in-Some-verb_named.verb c.in-Some.ensures.some
    (sym c.in-Some-verb_named.is ∙ c.verb_named.ensures) (sym c.has_verb.ensures ∙ c.if-has_verb.false)
