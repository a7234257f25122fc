use Rattle.std.proofs.Common.{refl}
use Rattle.scm_lines.specs.declared.keywords.Verb.TheVariants as verb
use Rattle.af_steps.specs.Outcome.{got_reply}
use Rattle.scm_run.proofs.StepLemmas.{got_short, step_done}
use Rattle.scm_run.proofs.steps.recv.Goals as goal

pub push_received-requires-clause-short : goal.push_received-requires-clause-short
push_received-requires-clause-short c = got_short c.args.engine.now c.recv-2.new.self c.args.pid _ c.recv-2.result _ c.in-Some.ensures c.lemma_is_sound.ensures.sound c.recv-2.ensures.done

pub returns : goal.returns
returns c = step_done verb.Recv verb.Recv _ _ _ c.args.rest.now _ _ _ c.recv-2.result got_reply refl c.in-Some.ensures c.recv-2.ensures.done c.recv-2.ensures.refused c.push_received.ensures
