use Rattle.std.proofs.Common.{◌≤◌, count_by, sym, ap, subst, ◌∙◌, arith}
use Rattle.std.specs.Prelude.{is_some}
use Rattle.std.specs.FinMap as map
use Rattle.std.specs.FinMap.{get-empty}
use Rattle.std.specs.Ordering.{nat_cmp}
use Rattle.af_base.proofs.Lookups.{none_some}
use Rattle.ordered_slab.specs.SlabValues.{keys_of}
use Rattle.ordered_slab.proofs.SlabValues.{no_keys, no_values, none_in_place}
use Rattle.ordered_slab.proofs.numbered.OrderedSlab.new.Goals as goal

pub invariant_of-result : goal.invariant_of-result
invariant_of-result g c = (
  none_in_place (keys_of c.new-2.result) c.new-2.result (no_keys c.new-2.result c.new-2.ensures.empty) c.new-2.ensures.empty,
  (λ q k at. absurd (none_some k (sym (ap (λ m. map.get m q) (no_keys c.new-2.result c.new-2.ensures.empty) ∙ get-empty nat_cmp q) ∙ at))),
  subst (λ xs. count_by is_some xs ≤ c.new-2.result.capacity) (sym c.new-2.ensures.empty) (omega arith),
)

pub returns-clause-values : goal.returns-clause-values
returns-clause-values g c = no_values (keys_of c.new-2.result) c.new-2.result (no_keys c.new-2.result c.new-2.ensures.empty)
