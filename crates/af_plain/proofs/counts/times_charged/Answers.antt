use Rattle.std.proofs.Common.{rules, ◌≡◌, ℕ, ◌+◌, subst, arith, leb}
use Rattle.std.proofs.lemmas.Fn.{always_returns_same}
use Rattle.std.proofs.lemmas.List.Sorted.{IsPartitionedBy-leb, IsPartitionedBy-ltb}
use lib.Dec.{ltb}
use Rattle.af_base.specs.Counts.{count_in}
use Rattle.af_plain.proofs.RisingCounts.{between}
use Rattle.af_plain.proofs.counts.times_charged.Goals as goal

-- The two ends are so far apart as the list has the number.
apart : (c : goal.After-partition_point-to) → c.partition_point-from.result + count_in c.args.user c.args.sorted.now ≡ c.partition_point-to.result
apart c =
    let n = c.user.inside.0 in
    let xs = c.args.sorted.now in
    let below = c.partition_point-from.ensures.partitioned (λ (y : ℕ). ltb y n) (always_returns_same _ _ _ (λ a r g called. (search rules, search rules))) (IsPartitionedBy-ltb (λ y. y) xs n c.requires) in
    let up_to = c.partition_point-to.ensures.partitioned (λ (y : ℕ). leb y n) (always_returns_same _ _ _ (λ a r g called. (search rules, search rules))) (IsPartitionedBy-leb (λ y. y) xs n c.requires) in
    subst (λ m. c.partition_point-from.result + count_in m xs ≡ c.partition_point-to.result) c.user.view_is
    (between n xs c.partition_point-from.result c.partition_point-to.result c.partition_point-from.ensures.bound c.partition_point-to.ensures.bound below up_to)

pub overflow_sub-result : goal.overflow_sub-result
overflow_sub-result c = let between = apart c in omega (arith, between)

pub returns : goal.returns
returns c = let between = apart c in omega (arith, between)
