use Rattle.std.proofs.Common.{rules, ◌≡◌, false, true, refl, sym, ap, ◌∙◌}
use Rattle.std.specs.Prelude.{None, Option, Result, Ok, Err, IfErr, OnOk, Some, is_none, is_ok, not}
use Rattle.af_base.specs.declared.errno.Errno.{Errno}
use Rattle.af_base.specs.declared.events.State.TheVariants as state
use Rattle.af_base.specs.Refusals.{first_fit}
use Rattle.af_steps.specs.MessageRoom.{target_row}
use Rattle.af_steps.proofs.Targets.{writes-closed, writes-to-peer}
use Rattle.af_steps.proofs.ready.is_writable.Goals as goal

-- A test answers whether a row fits.
answers : {A : Type 0} (o : Option Errno) (r : Result A Errno) → OnOk r (o ≡ None)
    → IfErr r (λ e. o ≡ Some e) → is_ok r ≡ is_none o
answers o (Ok a) ok err = sym (ap is_none ok)
answers o (Err e) ok err = sym (ap is_none err)

pub returns-then-not-ends : goal.returns-then-not-ends
returns-then-not-ends c =
    let s : c.args.socket.now.state ≡ state.Connected c.in-Some.peer = search rules in
    let opened : c.args.socket.now.ends.no_output ≡ false = search rules in
    c.is_ok.ensures.value
    ∙ answers (first_fit (target_row c.args.store.now.world c.in-Some.peer)) c.check_target.result
    c.check_target.ensures.ok c.check_target.ensures.err
    ∙ sym (writes-to-peer c.requires c.in-Some.peer s opened)

pub returns-else-not-ends : goal.returns-else-not-ends
returns-else-not-ends c =
    let s : c.args.socket.now.state ≡ state.Connected c.in-Some.peer = search rules in
    let closed : c.args.socket.now.ends.no_output ≡ true = search rules in
    let out : c.ends.result.no_output ≡ true = search rules in
    ap not out ∙ sym (writes-closed c.requires c.in-Some.peer s closed)
