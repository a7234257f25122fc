use Rattle.std.proofs.Common.{◌∙◌, ap, cond, nat_eq, refl}
use Rattle.std.specs.List.{flat_map}
use Rattle.std.proofs.lemmas.List.Sorted.{IsPermutation-map, sum_by-IsPermutation}
use Rattle.jaywardrobe.specs.Counts.{count_in}
use Rattle.jaywardrobe.specs.Listing.{file_of, inos_of}
use Rattle.jaywardrobe.specs.Places.{contents}
use Rattle.jaywardrobe.proofs.PlaceLists.{count_held, gathered}
use Rattle.examples.specs.Places.{referred_files}
use Rattle.examples.proofs.audit.places.gather.Goals as goal

-- All places were put in, and sorting keeps how often each file occurs.
pub returns : goal.returns
returns c f =
    let tables = c.args.tables.now in
    let files = c.args.files.now in
    let places = c.loop-file.places.items in
    let sorted = c.sort_by_key.new.self.items in
    let all = gathered (λ x. contents (file_of x)) files c.loop-file.file-index (flat_map inos_of tables) (referred_files places) (flat_map (λ x. contents (file_of x)) files) c.loop-file-test.false c.loop-file.invariant refl in
    sum_by-IsPermutation (λ g. cond (nat_eq f g) 1 0) (referred_files places) (referred_files sorted) (IsPermutation-map (λ p. p.file) places sorted c.sort_by_key.ensures.permutation)
    ∙ ap (count_in f) all
    ∙ count_held tables files c.requires.tables c.requires.files f
