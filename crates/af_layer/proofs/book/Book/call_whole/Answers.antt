use Rattle.std.proofs.Common.{arith, ◌≤◌, ◌++◌, ◌∷◌, [], ap, subst, sym, ◌∙◌}
use Rattle.af_base.specs.Run.{Step}
use Rattle.af_layer.specs.Log.{BookView, Entry}
use Rattle.af_layer.proofs.Fits.{replies_fit}
use Rattle.af_layer.proofs.Logs.{logged}
use Rattle.af_layer.proofs.book.Book.call_whole.Goals as goal

pub copy-logged-requires : goal.copy-logged-requires
copy-logged-requires c =
    replies_fit c.in-Ok.room c.self.inside.engine c.args.event c.step-reply.result c.step-reply.new.self c.lemma_is_sound.ensures.sound (omega (arith, c.in-Ok.ensures.bytes)) (omega (arith, c.in-Ok.ensures.fds)) c.step-reply.ensures.does

pub invariant_of-self-2 : goal.invariant_of-self-2
invariant_of-self-2 c =
    let seat = c.in_ok-check.ensures.seat in
    logged c.self.inside.seats c.self.inside.start.value c.self.inside.engine c.step-reply.new.self c.self.inside.log.items c.reserve.new.self.items c.push_reserved.new.self.items
    (record { seat = c.args.seat; event = c.args.event; reply = c.copy-logged.result }) c.reserve.ensures.items
    (c.push_reserved.ensures.items ∙ ap (λ (e : Entry). c.reserve.new.self.items ++ e ∷ []) c.of-entry.ensures)
    seat.0 (subst (λ (b : BookView). c.args.seat ≤ b.seats) (sym c.self.view_is) seat.1) c.self.invariant (subst (λ r. Step c.self.inside.engine c.args.event r c.step-reply.new.self) (sym c.copy-logged.ensures) c.step-reply.ensures.does)
