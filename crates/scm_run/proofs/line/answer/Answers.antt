use Rattle.scm_run.proofs.ShortReplies.{step-short}
use Rattle.scm_run.proofs.line.answer.Goals as goal

-- The reply of a step is short.
pub push_reply-requires-clause-short : goal.push_reply-requires-clause-short
push_reply-requires-clause-short c = step-short c.args.engine.now c.step_owned.new.self c.in-Event.event c.step_owned.result c.lemma_is_sound.ensures.sound c.step_owned.ensures.does
