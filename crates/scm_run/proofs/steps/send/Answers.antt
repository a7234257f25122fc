use Rattle.std.proofs.Common.{refl}
use Rattle.af_base.specs.declared.events.Reply.TheVariants as reply
use Rattle.scm_lines.specs.declared.keywords.Verb.TheVariants as verb
use Rattle.scm_run.proofs.StepLemmas.{send_renamed, step_done}
use Rattle.scm_run.proofs.steps.send.Goals as goal

pub returns : goal.returns
returns c =
    let read = send_renamed _ _ _ _ _ c.as_slice.ensures c.in_ok-on.ensures.ok in
    step_done verb.Send verb.Send _ _ _ c.args.rest.now _ _ _ c.send_owned.result reply.Sent refl read c.send_owned.ensures.done c.send_owned.ensures.refused c.push_sent.ensures
