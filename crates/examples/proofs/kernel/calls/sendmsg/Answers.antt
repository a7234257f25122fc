use Rattle.std.proofs.Common.{rules, ◌≡◌, ℕ, List, inl, refl, subst}
use Rattle.jaywardrobe.specs.Outcome.{Does}
use Rattle.jaywardrobe.specs.Types.reply
use Rattle.jaywardrobe.specs.Types.step
use Rattle.examples.proofs.kernel.calls.sendmsg.Goals as goal

-- The sent bytes are those in memory.
pub returns-in-Ok : goal.returns-in-Ok
returns-in-Ok c =
    let bytes : c.as_slice-bytes.result.now ≡ c.args.memory.now.bytes = search rules in
    let fds : c.as_slice-fds.result.now ≡ c.args.memory.now.fds = search rules in
    let Sends : List ℕ × List ℕ → Type 0 = λ m. Does c.args.engine.now c.args.pid (step.Send c.args.registers.first m.0 m.1) (reply.Sent c.in-Ok.count) c.send.new.self in
    inl (reply.Sent c.in-Ok.count, subst Sends (λ i. (bytes i, fds i)) c.in-Ok.ensures.done, search rules, refl)
