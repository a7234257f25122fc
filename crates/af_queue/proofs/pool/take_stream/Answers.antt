use Rattle.std.proofs.Common.{◌≡◌, ◌<◌, ℕ, List, [], length, take, ap, sym, arith, subst, ◌++◌, ◌∙◌}
use Rattle.std.specs.Prelude.{Some, option_copied}
use Rattle.std.specs.List.{slice_get}
use Rattle.std.specs.Option.{option_map_or}
use Rattle.af_base.specs.Take.{cut, joined}
use Rattle.af_base.specs.World.{Message}
use Rattle.af_base.specs.declared.events.SockType.TheVariants.{Seqpacket}
use Rattle.af_queue.specs.Chains.{messages_of}
use Rattle.af_queue.specs.Queued.{AreWithin}
use Rattle.af_queue.specs.TakenView.{TakenView, received}
use Rattle.af_queue.specs.Streams.{stream_cut}
use Rattle.af_queue.proofs.Chains.{path_within}
use Rattle.af_queue.proofs.Spans.{front-cut, front-filled, have-bytes, part-filled, stream-is, whole-received, whole-rest}
use Rattle.af_queue.proofs.pool.take_stream.Goals as goal

-- How many bytes the first message has.
abbrev front : List Message → ℕ
front q = option_map_or (λ (m : Message). length m.bytes) (slice_get q 0) 0

pub returns-then-front_len-count-clause-taken : goal.returns-then-front_len-count-clause-taken
returns-then-front_len-count-clause-taken c =
    let q = messages_of c.args.nodes.now c.args.chain.now in
    let have = have-bytes q (subst AreWithin c.of-queue.ensures c.stream_cut-count.ensures.within) in
    let count = c.stream_cut-count.ensures.bytes ∙ ap (stream_cut c.args.max) c.of-queue.ensures in
    c.take_packet.ensures.taken ∙ ap (received Seqpacket q) count
    ∙ whole-received q c.args.max c.requires.some have (sym (ap front c.of-queue.ensures) ∙ sym c.front_len.ensures ∙ c.if-front_len-count.true ∙ count)

pub returns-then-front_len-count-clause-rest : goal.returns-then-front_len-count-clause-rest
returns-then-front_len-count-clause-rest c =
    let q = messages_of c.args.nodes.now c.args.chain.now in
    let have = have-bytes q (subst AreWithin c.of-queue.ensures c.stream_cut-count.ensures.within) in
    let count = c.stream_cut-count.ensures.bytes ∙ ap (stream_cut c.args.max) c.of-queue.ensures in
    c.take_packet.ensures.rest ∙ whole-rest q c.args.max c.requires.some have (sym (ap front c.of-queue.ensures) ∙ sym c.front_len.ensures ∙ c.if-front_len-count.true ∙ count)

pub returns-clause-taken : goal.returns-clause-taken
returns-clause-taken c =
    let chain = c.args.chain.now in
    let q = messages_of c.args.nodes.now chain in
    let have = have-bytes q (path_within c.args.nodes.now chain.last chain.first chain.len c.requires.chain.path) in
    let at : slice_get q 0 ≡ Some c.in-Some.first.now = sym (ap (λ q. slice_get q 0) c.of-queue.ensures) ∙ sym c.first.ensures ∙ ap option_copied c.in-Some.is in
    let part = subst (λ o. c.args.max < option_map_or (λ m. length m.bytes) o 0) (sym at) (omega (arith, c.if-max-len.true, c.len.ensures)) in
    let copied = ap (take c.args.max) c.bytes.ensures ∙ sym (ap (λ o. option_map_or (λ m. take c.args.max m.bytes) o []) at) in
    let filled = c.in_ok-copy_bytes.ensures.ok ∙ ap (λ (v : TakenView). record v { message = record v.message { bytes = v.message.bytes ++ take c.args.max c.bytes.result.now } }) c.requires.empty in
    front-filled q c.args.max _ _ _ c.requires.some have part copied filled c.shorten_first.ensures.taken

pub returns-clause-rest : goal.returns-clause-rest
returns-clause-rest c =
    let chain = c.args.chain.now in
    let q = messages_of c.args.nodes.now chain in
    let have = have-bytes q (path_within c.args.nodes.now chain.last chain.first chain.len c.requires.chain.path) in
    let at : slice_get q 0 ≡ Some c.in-Some.first.now = sym (ap (λ q. slice_get q 0) c.of-queue.ensures) ∙ sym c.first.ensures ∙ ap option_copied c.in-Some.is in
    let part = subst (λ o. c.args.max < option_map_or (λ m. length m.bytes) o 0) (sym at) (omega (arith, c.if-max-len.true, c.len.ensures)) in
    c.shorten_first.ensures.messages ∙ ap (λ k. cut k q) (front-cut q c.args.max part) ∙ sym (ap (λ t. t.rest) (stream-is q c.args.max c.requires.some have))

pub returns-2-clause-taken : goal.returns-2-clause-taken
returns-2-clause-taken c =
    let q = messages_of c.args.nodes.now c.args.chain.now in
    let have = have-bytes q (subst AreWithin c.of-queue.ensures c.stream_cut-count.ensures.within) in
    let count = c.stream_cut-count.ensures.bytes ∙ ap (stream_cut c.args.max) c.of-queue.ensures in
    let copied = c.of.ensures ∙ c.in_ok-bytes.ensures ∙ ap (λ q. take c.stream_cut-count.result.0 (joined q)) c.of-queue.ensures in
    let filled = c.set_bytes.ensures ∙ ap (λ (v : TakenView). record v { message = record v.message { bytes = c.of.result } }) c.requires.empty in
    part-filled q c.args.max c.stream_cut-count.result.0 _ _ _ c.requires.some have count copied filled c.cut.ensures.taken

pub returns-2-clause-rest : goal.returns-2-clause-rest
returns-2-clause-rest c =
    let q = messages_of c.args.nodes.now c.args.chain.now in
    let have = have-bytes q (subst AreWithin c.of-queue.ensures c.stream_cut-count.ensures.within) in
    let count = c.stream_cut-count.ensures.bytes ∙ ap (stream_cut c.args.max) c.of-queue.ensures in
    c.cut.ensures.messages ∙ ap (λ k. cut k q) count ∙ sym (ap (λ t. t.rest) (stream-is q c.args.max c.requires.some have))
