use Rattle.std.proofs.Common.{◌∙◌, ap, refl}
use Rattle.af_layer.specs.Drive.{NoTurn}
use Rattle.af_layer.proofs.Scripts.{one_more_turn}
use Rattle.af_layer.proofs.workers.collect.Goals as goal

pub loop-turn-init : goal.loop-turn-init
loop-turn-init g c = record { number = refl; turned = NoTurn }

pub loop-turn-preserved : goal.loop-turn-preserved
loop-turn-preserved g c =
    let done = c.in_ok-call_through.ensures.done in
    record {
      number = ap (λ s. s.number) done.1 ∙ c.loop-turn.invariant.number;
      turned = one_more_turn _ _ _ _ _ _ done.0 c.loop-turn.invariant.turned c.next_event-event.ensures (ap (λ s. s.list) done.1);
    }
