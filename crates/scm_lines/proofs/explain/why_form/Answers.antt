use Rattle.std.proofs.Common.{sym, ◌∙◌, inl, inr}
use Rattle.scm_lines.specs.Words.{words_of}
use Rattle.scm_lines.proofs.VersionsFit.{form_late, form_misfit, none_of}
use Rattle.scm_lines.proofs.explain.why_form.Goals.{then-is_some-2-via-else-is_some-2+then-has_keyword, then-is_some-2-via-then-is_some-2}
use Rattle.scm_lines.proofs.explain.why_form.Goals as goal

pub returns-then-is_some-2-clause-exact : goal.returns-then-is_some-2-clause-exact
returns-then-is_some-2-clause-exact c =
    form_misfit c.args.version c.args.word.now (words_of c.args.rest.now) c.in-Some.keyword _
    (none_of _ (sym c.if-is_some.false ∙ c.is_some.ensures) ∙ c.number.ensures)
    (sym c.in-Some.is ∙ c.keyword_named.ensures) c.why_keyword-misfit.ensures.exact
    (elim c.then-is_some-2.branch [
      | then-is_some-2-via-then-is_some-2 w ↦ inl (sym c.is_some-2.ensures ∙ w.if-is_some-2.true)
      | then-is_some-2-via-else-is_some-2+then-has_keyword w ↦ inr (sym w.has_keyword.ensures ∙ w.if-has_keyword.true)
    ])

pub returns-clause-exact : goal.returns-clause-exact
returns-clause-exact c =
    form_late c.args.version c.args.word.now (words_of c.args.rest.now) c.in-Some.keyword
    (none_of _ (sym c.if-is_some.false ∙ c.is_some.ensures) ∙ c.number.ensures)
    (sym c.in-Some.is ∙ c.keyword_named.ensures) (sym c.has_keyword.ensures ∙ c.if-has_keyword.false)
