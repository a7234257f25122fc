use Rattle.af_steps.proofs.CalledSteps.{refuses-event}
use Rattle.af_steps.proofs.engine.Engine.reply_to.Goals as goal

pub returns-in-Err-clause-does : goal.returns-in-Err-clause-does
returns-in-Err-clause-does g c = refuses-event c.args.self.now c.call.new.engine (g.C.Call.event c.args.call) c.in-Err.error c.in-Err.ensures.refused
