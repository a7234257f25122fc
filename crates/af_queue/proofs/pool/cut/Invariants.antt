-- The rest to cut is cut to the same.
use Rattle.std.proofs.Common.{◌≡◌, ◌<◌, length}
use Rattle.af_base.specs.Take.{cut}
use Rattle.af_queue.specs.Chains.{messages_of, IsChain, KeepsNodes, SameElsewhere}
use Rattle.af_queue.specs.TakenView.{message_at}
use Rattle.af_queue.proofs.pool.cut.Given as goal

abbrev pub invariant-loop-rest : goal.invariant-loop-rest
invariant-loop-rest l = record {
  some : 0 < l.left;
  cut : cut l.left (messages_of l.nodes l.chain) ≡ cut l.fn.count (messages_of l.initial.nodes l.initial.chain);
  at : message_at l.left (messages_of l.nodes l.chain) ≡ message_at l.fn.count (messages_of l.initial.nodes l.initial.chain);
  chain : IsChain l.nodes l.chain;
  others : SameElsewhere l.initial.nodes l.initial.chain l.nodes l.chain;
  none_lost : KeepsNodes l.initial.nodes l.initial.chain l.nodes l.chain;
}

abbrev pub decreases-loop-rest : goal.decreases-loop-rest
decreases-loop-rest l = length (messages_of l.nodes l.chain)
