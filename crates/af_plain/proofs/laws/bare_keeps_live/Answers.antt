use Rattle.std.proofs.Common.{sym, ◌∙◌}
use Rattle.af_base.proofs.Bare.{live-bare}
use Rattle.af_plain.proofs.laws.bare_keeps_live.Goals as goal

pub returns : goal.returns
returns c = λ w f. (λ l. sym (live-bare w f) ∙ l, λ l. live-bare w f ∙ l)
