use Rattle.std.proofs.Common.{◌++◌, ◌∷◌, [], ◌∙◌}
use Rattle.af_layer.specs.Short.{event_of, reply_of}
use Rattle.af_layer.proofs.seat.Seat.call_short.Goals as goal

pub returns-clause-done : goal.returns-clause-done
returns-clause-done c =
    let reply = reply_of c.in_ok-reply.reply in
    let kept = c.keep_short.ensures ∙ (λ i. c.reserve_one.ensures.list i ++ (event_of c.args.event.now, reply) ∷ []) in
    (reply, rw (← c.self.view_is) (λ i. record { number = c.self.inside.number; list = kept i }), rw (← c.self.view_is) c.in_ok-reply.ensures.done)
