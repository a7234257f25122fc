use Rattle.std.proofs.Common.{ap, sym, length, ◌∙◌}
use Rattle.af_base.specs.Take.{take_from}
use Rattle.af_queue.proofs.Spans.{have-bytes, stream-files}
use Rattle.af_queue.proofs.queue.Queue.files_in_receive.Goals as goal

pub returns-in-Stream-clause-value : goal.returns-in-Stream-clause-value
returns-in-Stream-clause-value c =
    let q = c.args.self.now in
    c.stream_cut.ensures.files ∙ stream-files q c.args.max c.requires (have-bytes q c.stream_cut.ensures.within) ∙ ap (λ k. length (take_from k q c.args.max).attached) (sym c.in-Stream.is)
