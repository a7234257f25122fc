use Rattle.std.proofs.Common.{rules, ◌≡◌, ℕ, ℤ, subst}
use mir.Syntax.{w64}
use mir.Val.{to_z, of_z}
use Rattle.af_base.specs.declared.events.Event.TheVariants as event
use Rattle.af_base.specs.declared.events.Step.TheVariants as step
use Rattle.scm_c.specs.Calls.{DoesAndWrites}
use Rattle.scm_c.specs.Written.{received_written}
use Rattle.scm_c.proofs.messages.jw_peek.Goals as goal

-- The request is the lengths of the caller's places.
pub returns : goal.returns
returns c =
    let Called : ℕ × ℕ × ℤ → Type 0 = λ p. DoesAndWrites c.args.engine.now.shown (event.Proc c.args.pid (step.Peek c.args.fd p.0 p.1)) received_written (c.args.bytes.now, c.args.fds.now, c.args.out.now) p.2 (c.receive.new.bytes, c.receive.new.fds, c.receive.new.out) c.receive.new.engine.shown in
    let answer : c.receive.result ≡ to_z w64 (of_z w64 c.receive.result) = search rules in
    subst Called (λ i. (c.room.ensures i, c.as_u32.ensures i, answer i)) c.receive.ensures
