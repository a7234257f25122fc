use Rattle.std.proofs.Common.{rules, ◌≡◌, subst, sym, ap}
use Rattle.examples.specs.Calls.{AnswersCall, asked, send_asked}
use Rattle.examples.proofs.kernel.calls.system_call.Goals as goal

-- The number asks for a send.
pub returns-in-46 : goal.returns-in-46
returns-in-46 c =
    let registers = c.args.registers in
    let memory = c.args.memory.now in
    let asks : asked registers memory ≡ send_asked registers memory = ap (λ n. asked (record registers { number = n }) memory) c.in-46.is in
    let served = subst (λ s. AnswersCall c.args.engine.now c.args.pid s memory c.sendmsg.result c.sendmsg.new.engine memory) (sym asks) c.sendmsg.ensures in
    search rules
