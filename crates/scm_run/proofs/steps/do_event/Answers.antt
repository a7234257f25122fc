use Rattle.std.proofs.Common.{refl}
use Rattle.af_base.specs.declared.events.Event.TheVariants as event
use Rattle.af_steps.specs.Outcome.{progress_reply}
use Rattle.scm_run.proofs.StepLemmas.{call_done, event_done, spawn_done}
use Rattle.scm_run.proofs.steps.do_event.Goals as goal

pub returns-in-Some-clause-done : goal.returns-in-Some-clause-done
returns-in-Some-clause-done c =
    let call = c.spawn-in-Some-Spawn-default in
    let steps = spawn_done c.args.engine.now call.new.self _ _ _ call.result call.ensures.done call.ensures.refused in
    let line = c.in-Some-Spawn-default in
    event_done _ _ _ _ c.args.bytes.now line.rest.now _ _ _ _ line.ensures line.field-0-0-is (λ _. refl) c.in-Some.ensures steps c.push_pid.ensures

pub returns-in-Some-slice-clause-done : goal.returns-in-Some-slice-clause-done
returns-in-Some-slice-clause-done c =
    let call = c.slice-in-Some-Slice-default in
    let steps = call_done c.args.engine.now call.new.self (event.Slice _) call.result progress_reply call.ensures.done call.ensures.refused in
    let line = c.in-Some-Slice-default in
    event_done _ _ _ _ c.args.bytes.now line.rest.now _ _ _ _ line.ensures line.field-0-0-is (λ _. refl) c.in-Some-slice.ensures steps c.push_progress.ensures
