use Rattle.af_queue.proofs.Chains.{path_many, path_within}
use Rattle.af_queue.proofs.queue.Queue.of.Goals as goal

pub invariant_of-result : goal.invariant_of-result
invariant_of-result c =
    let chain = c.args.chain.now in
    let path = c.requires.chain.path in
    (path_many c.args.nodes.now chain.last chain.first chain.len path, c.requires.chain.few, path_within c.args.nodes.now chain.last chain.first chain.len path)
