use Rattle.std.proofs.Common.{rules, ◌≡◌, [], ◌∙◌}
use Rattle.std.specs.Option.{option_map_or}
use Rattle.af_queue.specs.TakenView.{message_at, sender_at}
use Rattle.af_queue.proofs.Spans.{have-bytes, part-received}
use Rattle.af_queue.proofs.queue.Queue.peek_stream.Goals as goal
use Rattle.af_queue.proofs.queue.Queue.peek_stream.Goals.{in-Some+in_ok-copy_attached-in-Some, in-None}

pub returns : goal.returns
returns c =
    let q = c.args.self.now in
    let k = c.stream_cut-count.result.0 in
    let files : c.match-message_with.attached.0.items ≡ option_map_or (λ m. m.attached) (message_at k q) [] = elim c.match-message_with.branch [
      | in-Some+in_ok-copy_attached-in-Some w ↦ search rules
      | in-None w ↦ search rules
    ] in
    let user : c.match-message_with.attached.1 ≡ sender_at k q = elim c.match-message_with.branch [
      | in-Some+in_ok-copy_attached-in-Some w ↦ search rules
      | in-None w ↦ search rules
    ] in
    c.new-2.ensures
    ∙ part-received q c.args.max k _ _ _ c.requires (have-bytes q c.stream_cut-count.ensures.within) c.stream_cut-count.ensures.bytes (c.of.ensures ∙ c.in_ok-bytes.ensures) files user
