use Rattle.std.proofs.Common.{◌∙◌, take, take_all, ap}
use Rattle.std.proofs.lemmas.List.{take_min}
use Rattle.scm_c.proofs.messages.push_first.Goals as goal

pub returns : goal.returns
returns c = c.loop-fd.invariant ∙ take_all c.loop-fd.fd-index _ c.loop-fd-test.false ∙ ap (λ n. take n c.args.fds.now) c.min.ensures ∙ take_min 254 c.args.fds.now
