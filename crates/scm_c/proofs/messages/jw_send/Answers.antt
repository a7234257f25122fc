use Rattle.std.proofs.Common.{rules, ◌≡◌, ℤ, List, ℕ, subst, take}
use mir.Syntax.{w64}
use mir.Val.{to_z, of_z}
use Rattle.af_base.specs.declared.events.Event.TheVariants as event
use Rattle.af_base.specs.declared.events.Step.TheVariants as step
use Rattle.scm_c.specs.Calls.{DoesEvent}
use Rattle.scm_c.proofs.LargeSends.{sends-all}
use Rattle.scm_c.proofs.messages.jw_send.Goals as goal

-- The first numbers suffice.
pub returns : goal.returns
returns c =
    let Sends : List ℕ × ℤ → Type 0 = λ p. DoesEvent c.args.engine.now.shown (event.Proc c.args.pid (step.Send c.args.fd c.args.bytes.now p.0)) p.1 c.call.new.engine.shown in
    let first : c.as_slice.result.now ≡ take 254 c.args.fds.now = search rules in
    let answer : c.call.result ≡ to_z w64 (of_z w64 c.call.result) = search rules in
    sends-all _ _ _ _ _ _ _ (subst Sends (λ i. (first i, answer i)) c.call.ensures)
