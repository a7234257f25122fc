-- The lowest free numbers of a table.
use Rattle.std.proofs.Common.{◌≡◌, ◌<◌, ◌≤◌, ℕ, zero, suc, ◌+◌, Bool, true, not, List, [], ◌∷◌, take, refl, ◌∙◌, arith, get_or}
use Rattle.std.specs.Prelude.{Option, Some, None, is_some}
use Rattle.std.specs.List.{All, AllPairs, range_with_len}
use Rattle.std.specs.FinMap as map
use Rattle.std.proofs.lemmas.Bool.{false≢true}
use Rattle.std.proofs.lemmas.List.Kept.{AllPairs-cons, AllPairs-filter}
use Rattle.std.proofs.lemmas.List.Elements.{All-cons, All-filter, All-head, All-nil, All-tail, All-take, All-weaker, filter_passes}
use Rattle.af_base.specs.World.{Process}
use Rattle.af_base.specs.Table.{free_numbers, lowest_free}
use Rattle.af_base.proofs.Lookups.{insert-other, told_apart}

-- These numbers rise, are free in the process and below its limit.
pub record AreFree (q : Process) (ns : List ℕ) : Type 0 where
  pub rising : AllPairs (λ a b. a < b) ns
  pub free : All (λ n. map.get q.table n ≡ None) ns
  pub low : All (λ n. n < q.limit) ns

-- An empty list has no pair.
AllPairs-nil : {X : Type 0} (R : X → X → Type 0) → AllPairs R []
AllPairs-nil R i j d lt within = absurd (omega (arith, within))

-- The first of a list are paired as they were.
AllPairs-take : {X : Type 0} (R : X → X → Type 0) (k : ℕ) (xs : List X) → AllPairs R xs → AllPairs R (take k xs)
AllPairs-take R zero xs h = AllPairs-nil R
AllPairs-take R (suc k) [] h = AllPairs-nil R
AllPairs-take R (suc k) (x ∷ xs) h =
    AllPairs-cons R x (take k xs) (All-take (R x) k xs (λ j d within. h 0 (suc j) d (omega arith) (omega (arith, within)))) (AllPairs-take R k xs (λ i j d lt within. h (suc i) (suc j) d (omega (arith, lt)) (omega (arith, within))))

-- A range lies at its begin or above.
range_from : (a n : ℕ) → All (λ b. a ≤ b) (range_with_len a n)
range_from a zero = All-nil (λ b. a ≤ b)
range_from a (suc n) = All-cons (λ b. a ≤ b) a (range_with_len (a + 1) n) (omega arith) (All-weaker (λ b. a + 1 ≤ b) (λ b. a ≤ b) (λ b le. omega (arith, le)) (range_with_len (a + 1) n) (range_from (a + 1) n))

-- A range rises.
range_rises : (a n : ℕ) → AllPairs (λ b c. b < c) (range_with_len a n)
range_rises a zero = AllPairs-nil (λ b c. b < c)
range_rises a (suc n) = AllPairs-cons (λ b c. b < c) a (range_with_len (a + 1) n) (All-weaker (λ b. a + 1 ≤ b) (λ b. a < b) (λ b le. omega (arith, le)) (range_with_len (a + 1) n) (range_from (a + 1) n)) (range_rises (a + 1) n)

-- A range lies below its end.
range_below : (a n b : ℕ) → a + n ≤ b → All (λ c. c < b) (range_with_len a n)
range_below a zero b h = All-nil (λ c. c < b)
range_below a (suc n) b h = All-cons (λ c. c < b) a (range_with_len (a + 1) n) (omega (arith, h)) (range_below (a + 1) n b (omega (arith, h)))

-- An option that is not some value is empty.
none_there : {X : Type 0} (o : Option X) → not (is_some o) ≡ true → o ≡ None
none_there None e = refl
none_there (Some x) e = absurd (false≢true e)

-- The free numbers are what they are named.
pub free-free_numbers : (q : Process) → AreFree q (free_numbers q)
free-free_numbers q =
    let test : ℕ → Bool = λ n. not (map.contains_key q.table n) in
    record {
      rising = AllPairs-filter (λ a b. a < b) test (range_with_len 0 q.limit) (range_rises 0 q.limit);
      free = All-weaker (λ n. test n ≡ true) (λ n. map.get q.table n ≡ None) (λ n e. none_there (map.get q.table n) e) (free_numbers q) (filter_passes test (range_with_len 0 q.limit));
      low = All-filter test (λ n. n < q.limit) (range_with_len 0 q.limit) (range_below 0 q.limit q.limit (omega arith));
    }

-- So are the lowest of them.
pub free-lowest_free : (k : ℕ) (q : Process) → AreFree q (lowest_free k q)
free-lowest_free k q =
    let all = free-free_numbers q in
    record { rising = AllPairs-take (λ a b. a < b) k (free_numbers q) all.rising; free = All-take (λ n. map.get q.table n ≡ None) k (free_numbers q) all.free; low = All-take (λ n. n < q.limit) k (free_numbers q) all.low }

-- The first of free numbers is free.
pub first-free : (q : Process) (n : ℕ) (ns : List ℕ) → AreFree q (n ∷ ns) → map.get q.table n ≡ None
first-free q n ns h = All-head (λ m. map.get q.table m ≡ None) n ns h.free

-- The others are still free after the first was taken into use.
pub rest-free : (q : Process) (n : ℕ) (ns : List ℕ) (g : ℕ) → AreFree q (n ∷ ns) → AreFree (record q { table = map.insert q.table n g }) ns
rest-free q n ns g h = record {
  rising = λ i j d lt within. h.rising (suc i) (suc j) d (omega (arith, lt)) (omega (arith, within));
  free = λ k d within.
      let above = h.rising 0 (suc k) d (omega arith) (omega (arith, within)) in
      insert-other q.table n g (get_or ns k d) (told_apart (get_or ns k d) n (λ same. omega (arith, same, above))) ∙ All-tail (λ m. map.get q.table m ≡ None) n ns h.free k d within;
  low = All-tail (λ m. m < q.limit) n ns h.low;
}

-- The first of free numbers is below the limit.
pub first-low : (q : Process) (n : ℕ) (ns : List ℕ) → AreFree q (n ∷ ns) → n < q.limit
first-low q n ns h = All-head (λ m. m < q.limit) n ns h.low
