use Rattle.std.proofs.Common.{◌≤◌, ◌++◌, ◌∷◌, [], ap, subst, sym, ◌∙◌}
use Rattle.af_layer.specs.Log.{BookView, Entry}
use Rattle.af_layer.specs.Short.{event_of, reply_of}
use Rattle.af_layer.proofs.Logs.{logged}
use Rattle.af_layer.proofs.book.Book.call_short.Goals as goal

pub invariant_of-self-2 : goal.invariant_of-self-2
invariant_of-self-2 c =
    let seat = c.in_ok-check.ensures.seat in
    logged c.self.inside.seats c.self.inside.start.value c.self.inside.engine c.step-reply.new.engine c.self.inside.log.items c.reserve.new.self.items c.push_reserved.new.self.items
    (record { seat = c.args.seat; event = event_of c.args.event.now; reply = reply_of c.step-reply.result }) c.reserve.ensures.items
    (c.push_reserved.ensures.items ∙ ap (λ (e : Entry). c.reserve.new.self.items ++ e ∷ []) c.short.ensures)
    seat.0 (subst (λ (b : BookView). c.args.seat ≤ b.seats) (sym c.self.view_is) seat.1) c.self.invariant c.step-reply.ensures
