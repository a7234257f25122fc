-- The lowest free numbers of a process.
use Rattle.std.proofs.Common.{◌≡◌, ◌<◌, ◌≤◌, ℕ, true, false, refl, List, [], ◌∷◌, length, take, sym, ap, ◌∙◌, subst, arith}
use Rattle.std.specs.Prelude.{Some, None, nat_lt, slice_get, slice_index}
use Rattle.std.specs.FinMap as map
use Rattle.std.specs.List.{All}
use Rattle.std.proofs.lemmas.Bool.{le-ltb}
use Rattle.af_base.specs.Refusals.{is_short, process_at}
use Rattle.af_base.specs.Steps.{free_at}
use Rattle.af_base.specs.Table.{free_numbers, lowest_free}
use Rattle.af_base.specs.World.{Process, World}
use Rattle.af_base.proofs.Free.{AreFree, first-free, first-low, free-lowest_free}
use Rattle.af_base.proofs.Lookups.{none_some, some_same}
use Rattle.af_steps.specs.Found.{HasProcess}
use Rattle.af_table.specs.Rooms.{IsOpenFrom}
use Rattle.af_steps.proofs.LookupRows.{is_process}

-- This is the lowest free number of the process.
pub record IsLowest (q : Process) (n : ℕ) : Type 0 where
  pub read : slice_get (free_numbers q) 0 ≡ Some n

-- The first element of a list is at 0, and the list is not empty.
begins : (xs : List ℕ) (n : ℕ) → slice_get xs 0 ≡ Some n → (take 1 xs ≡ n ∷ []) × (slice_index xs 0 ≡ n) × (nat_lt (length xs) 1 ≡ false)
begins [] n e = absurd (none_some n e)
begins (x ∷ xs) n e = (ap (λ y. y ∷ []) (some_same x n e), some_same x n e, le-ltb (length (x ∷ xs)) 1 (omega arith))

-- Where none is the first of the free numbers, none is free.
pub none-free : (q : Process) → slice_get (free_numbers q) 0 ≡ None → is_short q 1 ≡ true
none-free q none = by (free_numbers q) none where
  by : (xs : List ℕ) → slice_get xs 0 ≡ None → nat_lt (length xs) 1 ≡ true
  by [] e = refl
  by (x ∷ xs) e = absurd (none_some x (sym e))

module _ {q : Process} {n : ℕ} (least : IsLowest q n) where
  -- As a list, it is free.
  free : AreFree q (n ∷ [])
  free = subst (AreFree q) (begins (free_numbers q) n least.read).0 (free-lowest_free 1 q)

  -- It is below the limit.
  pub least-low : n < q.limit
  least-low = first-low q n [] free

  -- It is not open.
  pub not-open : map.get q.table n ≡ None
  not-open = first-free q n [] free

  -- So a number is free.
  pub not-short : is_short q 1 ≡ false
  not-short = (begins (free_numbers q) n least.read).2

  -- It is the number that a step names.
  pub is-free_at : {w : World} {p : ℕ} → HasProcess w p q → free_at w p 0 ≡ n
  is-free_at has = ap (λ r. slice_index (free_numbers r) 0) (is_process has) ∙ (begins (free_numbers q) n least.read).1

-- Where a number at or above the lowest free one is open, the table of the process has it.
pub open-from-lowest : {w : World} {p : ℕ} {q : Process} {n : ℕ} → HasProcess w p q → IsLowest q n → IsOpenFrom (process_at w p).table (free_at w p 0) → IsOpenFrom q.table n
open-from-lowest {w} {p} {q} has least held = subst (IsOpenFrom q.table) (is-free_at least has) (subst (λ (r : Process). IsOpenFrom r.table (free_at w p 0)) (is_process has) held)

-- The lowest free numbers are below the room that was made for them.
pub numbers-below : (q : Process) (ns : List ℕ) (count room : ℕ) → ns ≡ lowest_free count q → (0 < length ns → q.limit ≤ room) → All (λ n. n < room) ns
numbers-below q ns count room is most k d within =
    let low = (subst (AreFree q) (sym is) (free-lowest_free count q)).low k d within in
    let enough = most (omega (arith, within)) in
    omega (arith, low, enough)
