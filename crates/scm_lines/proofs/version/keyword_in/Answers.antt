use Rattle.std.proofs.Common.{sym, ◌∙◌}
use Rattle.scm_lines.proofs.KeywordsRead.{read_by_keyword}
use Rattle.scm_lines.proofs.version.keyword_in.Goals as goal

pub returns-then-ends_word : goal.returns-then-ends_word
returns-then-ends_word c = λ v. read_by_keyword v c.args.bytes.now c.in_ok-keyword.rest.now c.in_ok-keyword.keyword c.if-bytes-gt-MAX_LINE.false c.in_ok-keyword.ensures (sym c.ends_word.ensures ∙ c.if-ends_word.true)
