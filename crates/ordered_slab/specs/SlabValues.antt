-- Values in a slab, under keys that are used again. Definitions that name no manual page are this
-- project's own.
use Rattle.std.specs.Prelude.{◌≡◌, ℕ, ◌+◌, List, [], ◌∷◌, Option, Some, None}
use Rattle.std.specs.Option.{option_map, option_map_or}
use Rattle.std.specs.FinMap as map
use Rattle.slab.specs.Slab as slab
use Rattle.slab.specs.Slab.{Slab}
use Rattle.af_base.specs.World.{Map}
use Rattle.ordered_slab.specs.declared.numbered_value.NumberedValue.{NumberedValue}

-- The keys of the numbers in these slots, the first of which has this key.
abbrev pub keys_from : {V : Type 0} → ℕ → List (Option (NumberedValue V)) → Map ℕ
keys_from key [] = map.empty
keys_from key (None ∷ slots) = keys_from (key + 1) slots
keys_from key (Some entry ∷ slots) = map.insert (keys_from (key + 1) slots) entry.file key

-- Each number with the key of its entry.
unfoldable pub keys_of : {V : Type 0} → Slab (NumberedValue V) → Map ℕ
keys_of s = keys_from 0 s.slots

-- The value at a key, if there is one.
abbrev pub value_at : {V : Type 0} → Slab (NumberedValue V) → ℕ → Option V
value_at s k = option_map (λ x. x.value) (slab.get s k)

-- The value of a number: the one at its key.
abbrev pub value_of : {V : Type 0} → Map ℕ → Slab (NumberedValue V) → ℕ → Option V
value_of m s q = option_map_or (value_at s) (map.get m q) None

-- The values of these numbers.
abbrev pub values_from : {V : Type 0} → Map ℕ → List ℕ → Slab (NumberedValue V) → Map V
values_from m [] s = map.empty
values_from m (q ∷ qs) s = option_map_or (map.insert (values_from m qs s) q) (value_of m s q)
    (values_from m qs s)

-- The values of all numbers that have a key.
unfoldable pub values_of : {V : Type 0} → Map ℕ → Slab (NumberedValue V) → Map V
values_of m s = values_from m (map.keys m) s

-- At the key of each number is this number's entry, and there are no other entries. So there are as
-- many values as entries, and no two numbers share a key.
pub record AreInPlace {V : Type 0} (m : Map ℕ) (s : Slab (NumberedValue V)) : Type 0 where
  pub kept : (q k : ℕ) → map.get m q ≡ Some k → option_map (λ x. x.file) (slab.get s k) ≡ Some q
  pub found : (k : ℕ) (x : NumberedValue V) → slab.get s k ≡ Some x → map.get m x.file ≡ Some k
  pub many : map.len (values_of m s) ≡ slab.slab_len s
