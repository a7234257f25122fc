use Rattle.std.proofs.Common.{arith, ap, drop, sym, ◌∙◌, ◌-◌}
use Rattle.af_base.specs.Places.{attached_in}
use Rattle.af_queue.specs.Chains.{messages_from}
use Rattle.af_queue.proofs.Chains.{no_files_behind, pops}
use Rattle.af_queue.proofs.pool.pop.Goals as goal

pub returns-clause-chain : goal.returns-clause-chain
returns-clause-chain c =
    let chain = c.args.chain.now in
    let few = c.requires.chain.few in
    let popped = pops c.args.nodes.now c.remove-node.new.self chain.last chain.first chain.len c.remove-node.result c.if-chain-eq0.false c.remove-node.ensures.value c.remove-node.ensures.updates c.requires.chain.path in
    record { few = omega (arith, few); path = popped.0; no_files = λ e. no_files_behind c.remove-node.result.message (messages_from c.remove-node.new.self c.remove-node.result.next (chain.len - 1)) (ap attached_in (sym popped.1) ∙ c.requires.chain.no_files e) }

pub returns-clause-some : goal.returns-clause-some
returns-clause-some c =
    let chain = c.args.chain.now in
    (pops c.args.nodes.now c.remove-node.new.self chain.last chain.first chain.len c.remove-node.result c.if-chain-eq0.false c.remove-node.ensures.value c.remove-node.ensures.updates c.requires.chain.path).1

pub returns-clause-rest : goal.returns-clause-rest
returns-clause-rest c =
    let chain = c.args.chain.now in
    sym (ap (drop 1) (pops c.args.nodes.now c.remove-node.new.self chain.last chain.first chain.len c.remove-node.result c.if-chain-eq0.false c.remove-node.ensures.value c.remove-node.ensures.updates c.requires.chain.path).1)

pub returns-clause-others : goal.returns-clause-others
returns-clause-others c =
    let chain = c.args.chain.now in
    (pops c.args.nodes.now c.remove-node.new.self chain.last chain.first chain.len c.remove-node.result c.if-chain-eq0.false c.remove-node.ensures.value c.remove-node.ensures.updates c.requires.chain.path).2
