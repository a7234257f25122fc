use Rattle.std.proofs.Common.{ap}
use Rattle.af_base.specs.Changes.{pushed}
use Rattle.af_queue.specs.Chains.{messages_of}
use Rattle.af_desc.specs.FileTableView.{refilled}
use Rattle.af_desc.proofs.FileTableView.{queue_changed}
use Rattle.af_desc.proofs.file_row.FileRow.push.Goals as goal

pub returns-clause-file : goal.returns-clause-file
returns-clause-file c =
    let old = messages_of c.args.nodes.now c.args.self.now.chain in
    let new = messages_of c.push.new.nodes c.push.new.chain in
    queue_changed (pushed c.args.message) old new c.args.self.now.kind (λ e is. ap (λ q. refilled q e) c.push.ensures.messages)
