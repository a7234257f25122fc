use Rattle.std.proofs.Common.{◌≡◌, OnOk, subst}
use Rattle.std.proofs.lemmas.Result.{on_ok_weaker}
use Rattle.af_base.specs.declared.events.Reply.{Reply as Answer}
use Rattle.af_layer.specs.Seats.{grown}
use Rattle.af_layer.proofs.layer.Layer.call.Goals as goal

pub returns-in-Err-clause-done : goal.returns-in-Err-clause-done
returns-in-Err-clause-done g c =
    subst (λ e. OnOk c.call_whole_from.result ((x : Answer) × (c.call_whole_from.new.seat ≡ grown c.args.seat.now e x))) c.in-Err.ensures.other
    (on_ok_weaker c.call_whole_from.result (λ done. (done.0, done.1)) c.call_whole_from.ensures.done)
