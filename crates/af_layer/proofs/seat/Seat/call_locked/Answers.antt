use Rattle.std.proofs.Common.{◌++◌, ◌∷◌, [], ◌∙◌}
use Rattle.af_layer.specs.Short.{event_of}
use Rattle.af_layer.proofs.seat.Seat.call_locked.Goals as goal

pub returns-clause-done : goal.returns-clause-done
returns-clause-done g c =
    let reply = c.in_ok-reply.reply in
    let kept = c.keep.ensures ∙ (λ i. c.reserve_one.ensures.list i ++ (event_of c.args.event.now, reply) ∷ []) in
    (reply, rw (← c.self.view_is) (λ i. record { number = c.self.inside.number; list = kept i }))
