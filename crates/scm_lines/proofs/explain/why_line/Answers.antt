use Rattle.std.proofs.Common.{sym, ◌∙◌}
use Rattle.std.proofs.lemmas.Bool.{not-true}
use Rattle.scm_lines.specs.Words.{all_printable, words_of}
use Rattle.scm_lines.proofs.LinesFit.{not_printable}
use Rattle.scm_lines.proofs.explain.why_line.Goals as goal

pub returns-in-Some-clause-exact : goal.returns-in-Some-clause-exact
returns-in-Some-clause-exact c =
    not_printable c.args.version c.args.bytes.now c.in_ok-word.word.now (words_of c.in_ok-word.rest.now)
    c.requires c.in_ok-word.ensures.some (sym c.begins_comment.ensures ∙ c.if-begins_comment.false)
    (not-true (all_printable c.args.bytes.now) (sym c.in-Some.ensures.exact))
