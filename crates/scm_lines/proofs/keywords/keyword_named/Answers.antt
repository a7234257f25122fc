use Rattle.std.proofs.Common.{◌∙◌}
use Rattle.scm_lines.specs.Forms.{keywords, line_row}
use Rattle.scm_lines.proofs.KeywordLemmas.{meaning_named}
use Rattle.scm_lines.proofs.keywords.keyword_named.Goals as goal

pub returns : goal.returns
returns c = c.meaning.ensures ∙ meaning_named line_row keywords c.args.word.now
