use Rattle.std.proofs.Common.{rules, ◌≡◌, [], ap, refl, length, ◌∙◌}
use Rattle.std.specs.List.{flat_map}
use Rattle.std.proofs.lemmas.List.Sorted.{length_permutation}
use Rattle.af_base.specs.Counts.{count_in, inflight}
use Rattle.af_base.specs.Listing.{file_of, listed}
use Rattle.af_base.specs.Places.{attached_in, queue_of}
use Rattle.af_base.proofs.PlaceLists.{count_queued, gathered, gathered_next, length_queued, tallied}
use Rattle.af_base.proofs.gathering.queued_files.Goals as goal

all : (c : goal.After-sort_unstable) → c.loop-file.queued_files.items ≡ flat_map (λ x. attached_in (queue_of (file_of x))) c.args.files.now
all c = gathered (λ x. attached_in (queue_of (file_of x))) c.args.files.now c.loop-file.file-index [] c.loop-file.queued_files.items (flat_map (λ x. attached_in (queue_of (file_of x))) c.args.files.now) c.loop-file-test.false c.loop-file.invariant refl

pub returns-clause-each : goal.returns-clause-each
returns-clause-each c =
    tallied (inflight (listed [] c.args.files.now)) c.loop-file.queued_files.items c.sort_unstable.new.self.items (λ f. ap (count_in f) (all c) ∙ count_queued [] c.args.files.now c.requires f) c.sort_unstable.ensures.permutation c.sort_unstable.ensures.sorted

pub returns-clause-all : goal.returns-clause-all
returns-clause-all c = length_permutation c.loop-file.queued_files.items c.sort_unstable.new.self.items c.sort_unstable.ensures.permutation ∙ ap length (all c) ∙ length_queued [] c.args.files.now c.requires

pub loop-file-preserved : goal.loop-file-preserved
loop-file-preserved c = gathered_next (λ x. attached_in (queue_of (file_of x))) c.args.files.now c.loop-file.file-index c.file-item.result [] c.loop-file.queued_files.items c.push_queued.new.inos.items c.loop-file-test.true c.file-item.is c.loop-file.invariant (search rules)
