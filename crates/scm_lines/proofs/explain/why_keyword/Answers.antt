use Rattle.std.proofs.Common.{◌∙◌}
use Rattle.scm_lines.specs.Words.{words_of}
use Rattle.scm_lines.proofs.FormsFit.{line_fits}
use Rattle.scm_lines.specs.declared.keywords.Keyword.TheVariants as keyword
use Rattle.scm_lines.proofs.explain.why_keyword.Goals as goal

pub returns-in-Spawn-clause-exact : goal.returns-in-Spawn-clause-exact
returns-in-Spawn-clause-exact c = rw c.in-Spawn.is (c.why_words.ensures.exact ∙ line_fits keyword.Spawn (words_of c.args.bytes.now))
