use Rattle.std.proofs.Common.{refl, sym}
use Rattle.scm_c.proofs.engine.reply_to.Goals as goal

pub returns-clause-done : goal.returns-clause-done
returns-clause-done g c = (c.in_ok-as_mut.field-0.now, c.reply_to.new.self, sym c.in_ok-as_mut.ensures.value, refl, c.reply_to.ensures.succeeds, c.reply_to.ensures.does)
