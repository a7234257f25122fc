use Rattle.std.proofs.Common.{rules, ◌≡◌, ◌-◌, ◌++◌, length, take, min, sym, ap, ◌∙◌}
use Rattle.af_base.specs.Take.{joined}
use Rattle.af_queue.proofs.CopiedParts.{copied-more}
use Rattle.af_queue.proofs.queue.Queue.copy.Goals as goal

pub loop-queue-preserved : goal.loop-queue-preserved
loop-queue-preserved c =
    let bytes = c.loop-queue.bytes.items in
    let m = c.in-Some.message.now in
    let k : c.min.result ≡ min (c.args.count - length bytes) (length m.bytes) = search rules in
    let more : c.extend_from_slice.new.self.items ≡ bytes ++ take c.min.result m.bytes = search rules in
    let step : joined c.loop-queue.queue ≡ m.bytes ++ joined c.in-Some.rest = ap joined c.in-Some.ensures.some in
    let now = copied-more bytes c.extend_from_slice.new.self.items m.bytes (joined c.in-Some.rest) c.args.count c.min.result c.loop-queue.invariant.within k more in
    record { within = now.0; bytes = now.1 ∙ ap (λ zs. bytes ++ take (c.args.count - length bytes) zs) (sym step) ∙ c.loop-queue.invariant.bytes }
