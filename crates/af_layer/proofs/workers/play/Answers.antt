use Rattle.std.proofs.Common.{◌∙◌, ap}
use Rattle.af_layer.proofs.Scripts.{progress-step}
use Rattle.af_layer.proofs.workers.play.Goals as goal

pub loop-event-preserved : goal.loop-event-preserved
loop-event-preserved g c =
    let done = c.in_ok-call_through.ensures.done in
    record {
      can_next = tt;
      is_finite = tt;
      number = ap (λ s. s.number) done.1 ∙ c.loop-event.invariant.number;
      progress = progress-step _ _ _ _ _ _ c.in-Some.event done.0 c.loop-event.invariant.progress c.in-Some.ensures.steps.0 (ap (λ s. s.list) done.1);
    }
