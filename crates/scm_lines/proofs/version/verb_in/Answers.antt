use Rattle.std.proofs.Common.{sym, ◌∙◌}
use Rattle.scm_lines.specs.Words.{words_of}
use Rattle.scm_lines.proofs.VerbsRead.{read_by_verb}
use Rattle.scm_lines.proofs.version.verb_in.Goals as goal

pub returns-then-has_types : goal.returns-then-has_types
returns-then-has_types c =
    read_by_verb c.args.version c.args.bytes.now c.in_ok-word.word.now (words_of c.in_ok-pid.rest.now) (words_of c.in_ok-word.rest.now) c.in_ok-pid.pid c.in_ok-verb.verb
    c.if-bytes-gt-MAX_LINE.false c.in_ok-pid.ensures c.in_ok-word.ensures.some c.in_ok-verb.ensures
    (sym c.has_verb.ensures ∙ c.if-has_verb.true) (sym c.has_types.ensures ∙ c.if-has_types.true)
