use Rattle.std.proofs.Common.{rules, ◌≡◌, ◌<◌, ◌≤◌, true, false, subst}
use Rattle.std.proofs.lemmas.List.Sorted.{IsPartitionedBy-leb, IsPartitionPoint-from_clause}
use Rattle.std.specs.List.Sorted.{IsPartitionPoint}
use lib.Dec.{leb}
use Rattle.ordered_slab.specs.OrderView.{OrderRowView}
use Rattle.ordered_slab.specs.Rows.{row_at}
use Rattle.ordered_slab.proofs.Searches.{beyond, rising, up_to}
use Rattle.ordered_slab.proofs.order.rows_up_to.Goals as goal

-- Up to the partition the numbers are not above this one.
parted : (c : goal.After-partition_point) → IsPartitionPoint (λ (row : OrderRowView). leb row.ino c.ino.inside.0 ≡ true) (λ (row : OrderRowView). leb row.ino c.ino.inside.0 ≡ false) c.args.rows.now c.partition_point.result
parted c = IsPartitionPoint-from_clause (λ (row : OrderRowView). leb row.ino c.ino.inside.0) c.args.rows.now c.partition_point.result c.partition_point.ensures.partitioned
    (IsPartitionedBy-leb (λ (row : OrderRowView). row.ino) c.args.rows.now c.ino.inside.0 (rising c.args.rows.now c.requires c.ino.inside.0)) (λ a r g called. (search rules, search rules))

pub returns-clause-up_to : goal.returns-clause-up_to
returns-clause-up_to c = λ i low.
    subst (λ n. (row_at c.args.rows.now i).ino ≤ n) c.ino.view_is (up_to c.args.rows.now c.ino.inside.0 c.partition_point.result (parted c) c.partition_point.ensures.bound i low)

pub returns-clause-beyond : goal.returns-clause-beyond
returns-clause-beyond c = λ i from end.
    subst (λ n. n < (row_at c.args.rows.now i).ino) c.ino.view_is (beyond c.args.rows.now c.ino.inside.0 c.partition_point.result (parted c) c.partition_point.ensures.bound i from end)
