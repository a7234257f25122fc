use Rattle.std.proofs.Common.{rules, [], ap, refl, ◌∙◌}
use Rattle.std.specs.List.{flat_map}
use Rattle.af_base.specs.Counts.{charged, count_in}
use Rattle.af_base.specs.Listing.{file_of, listed, payers_of}
use Rattle.af_base.specs.Places.{queue_of}
use Rattle.af_base.proofs.PlaceLists.{count_charged, gathered, gathered_next, tallied}
use Rattle.af_base.proofs.gathering.payers.Goals as goal

pub returns : goal.returns
returns c =
    let files = c.args.files.now in
    let payers = c.loop-file.payers.items in
    let all = gathered (λ x. flat_map payers_of (queue_of (file_of x))) files c.loop-file.file-index [] payers (flat_map (λ x. flat_map payers_of (queue_of (file_of x))) files) c.loop-file-test.false c.loop-file.invariant refl in
    tallied (charged (listed [] files)) payers c.sort_unstable.new.self.items (λ u. ap (count_in u) all ∙ count_charged [] files c.requires u) c.sort_unstable.ensures.permutation c.sort_unstable.ensures.sorted

pub loop-file-preserved : goal.loop-file-preserved
loop-file-preserved c = gathered_next (λ x. flat_map payers_of (queue_of (file_of x))) c.args.files.now c.loop-file.file-index c.file-item.result [] c.loop-file.payers.items c.push_payers.new.payers.items c.loop-file-test.true c.file-item.is c.loop-file.invariant (search rules)
