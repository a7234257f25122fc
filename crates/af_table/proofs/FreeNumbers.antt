-- The free numbers that are left from some number on.
use Rattle.std.proofs.Common.{◌≡◌, ℕ, ◌+◌, ◌-◌, ◌<◌, ◌≤◌, Bool, true, false, cond, zero, suc, take, take_all, List, [], ◌∷◌, ◌++◌, length, filter, sym, ap, ◌∙◌, arith}
use Rattle.std.specs.Prelude.{Option, Some, None, not, is_some, IfSome, IfNone, slice_get}
use Rattle.std.specs.List.{range_with_len}
use Rattle.std.specs.FinMap as map
use Rattle.std.proofs.lemmas.List.{append-nil, append_assoc, length-append, length-take, take-append-le}
use Rattle.af_base.specs.World.{Process}
use Rattle.af_base.specs.Table.{free_numbers, lowest_free}
use Rattle.af_table.specs.Bits.{is_taken}
use Rattle.af_table.specs.Slots.{table_of, NoneFrom}
use Rattle.af_table.specs.Free.{free_from}
use Rattle.af_table.proofs.Tables.{open_as_marked}

-- Those of len numbers from k on that do not pass the test.
abbrev left : ℕ → ℕ → (ℕ → Bool) → List ℕ
left k len s = filter (λ q. not (s q)) (range_with_len k len)

-- Numbers that pass are left out.
left_past : (d k len : ℕ) (s : ℕ → Bool) → ((q : ℕ) → k ≤ q → q < k + d → s q ≡ true) → d ≤ len → left k len s ≡ left (k + d) (len - d) s
left_past zero k len s h le = let same : k ≡ k + 0 = omega arith in let all : len ≡ len - 0 = omega arith in (λ i. left (same i) (all i) s)
left_past (suc d) k zero s h le = absurd (omega arith)
left_past (suc d) k (suc len) s h le =
    let next : k + 1 + d ≡ k + suc d = omega arith in
    let fewer : len - d ≡ suc len - suc d = omega arith in
    ap (λ b. cond (not b) (k ∷ left (k + 1) len s) (left (k + 1) len s)) (h k (omega arith) (omega arith))
    ∙ left_past d (k + 1) len s (λ q low high. h q (omega arith) (omega arith)) (omega arith)
    ∙ (λ i. left (next i) (fewer i) s)

-- The first that does not is the head.
left_first : (k n m len : ℕ) (s : ℕ → Bool) → k ≤ n → len ≡ (n - k) + suc m → s n ≡ false → ((q : ℕ) → k ≤ q → q < n → s q ≡ true) → left k len s ≡ n ∷ left (n + 1) m s
left_first k n m len s le e none below =
    let here : k + (n - k) ≡ n = omega arith in
    let rest : len - (n - k) ≡ suc m = omega arith in
    left_past (n - k) k len s (λ q low high. below q low (omega arith)) (omega arith)
    ∙ (λ i. left (here i) (rest i) s)
    ∙ ap (λ b. cond (not b) (n ∷ left (n + 1) m s) (left (n + 1) m s)) none

-- Where all of a stretch are taken, none is left.
left_none : (k len : ℕ) (s : ℕ → Bool) → ((q : ℕ) → k ≤ q → q < k + len → s q ≡ true) → left k len s ≡ []
left_none k len s h = left_past len k len s h (omega arith) ∙ (let no : len - len ≡ 0 = omega arith in ap (λ m. left (k + len) m s) no)

module _ (p : Process) (words slots : List ℕ) (e : p.table ≡ table_of words slots) (m : ℕ) (len : m ≡ length slots) (none : NoneFrom m words) where
  -- A number is open exactly if its bit is set.
  open_if_marked : (q : ℕ) → map.contains_key p.table q ≡ is_taken words q
  open_if_marked q = ap (λ m. is_some (map.get m q)) e ∙ open_as_marked words slots m q len none

  -- The first number from k on whose bit is clear is the first free one.
  pub free_some : (k n : ℕ) → k ≤ n → n < p.limit → is_taken words n ≡ false → ((q : ℕ) → k ≤ q → q < n → is_taken words q ≡ true) → free_from k p ≡ n ∷ free_from (n + 1) p
  unfolding free_from
  free_some k n le lt free below =
      left_first k n (p.limit - (n + 1)) (p.limit - k) (map.contains_key p.table) le (omega arith) (open_if_marked n ∙ free) (λ q low high. open_if_marked q ∙ below q low high)

  -- Where all bits from k up to the limit are set, no number from k on is free.
  pub free_none : (k : ℕ) → ((q : ℕ) → k ≤ q → q < p.limit → is_taken words q ≡ true) → free_from k p ≡ []
  unfolding free_from
  free_none k taken = left_none k (p.limit - k) (map.contains_key p.table) (λ q low high. open_if_marked q ∙ taken q low (omega arith))

pub ruleset free_changes = (free_some, free_none)

-- The free numbers from 0 on are all free numbers.
pub free_all : (p : Process) → free_from 0 p ≡ free_numbers p
unfolding free_from
free_all p = let all : p.limit - 0 ≡ p.limit = omega arith in ap (λ n. left 0 n (map.contains_key p.table)) all

-- The lowest free number.
pub free_head : (p : Process) (o : Option ℕ) → IfSome o (λ n. free_from 0 p ≡ n ∷ free_from (n + 1) p) → IfNone o (free_from 0 p ≡ []) → o ≡ slice_get (free_numbers p) 0
free_head p None some none = ap (λ l. slice_get l 0) (sym none ∙ free_all p)
free_head p (Some n) some none = ap (λ l. slice_get l 0) (sym some ∙ free_all p)

-- The two lowest.
pub free_two : (p : Process) (a b : ℕ) → free_from 0 p ≡ a ∷ free_from (a + 1) p → free_from (a + 1) p ≡ b ∷ free_from (b + 1) p → lowest_free 2 p ≡ a ∷ b ∷ []
free_two p a b first second = ap (take 2) (sym (free_all p) ∙ first ∙ ap (λ l. a ∷ l) second)

-- Where no number is free, no two are.
pub free_no_two : (p : Process) → free_from 0 p ≡ [] → length (free_numbers p) < 2
free_no_two p none = let few : length (free_numbers p) ≡ 0 = ap length (sym (free_all p) ∙ none) in omega arith

-- Where no number behind the first free one is free, no two are.
pub free_only_one : (p : Process) (a : ℕ) → free_from 0 p ≡ a ∷ free_from (a + 1) p → free_from (a + 1) p ≡ [] → length (free_numbers p) < 2
free_only_one p a first none = let few : length (free_numbers p) ≡ 1 = ap length (sym (free_all p) ∙ first ∙ ap (λ l. a ∷ l) none) in omega arith

-- One found more.
pub free_pushed : (p : Process) (ns : List ℕ) (k n : ℕ) → ns ++ free_from k p ≡ free_numbers p → free_from k p ≡ n ∷ free_from (n + 1) p → (ns ++ n ∷ []) ++ free_from (n + 1) p ≡ free_numbers p
free_pushed p ns k n all next = append_assoc ns (n ∷ []) (free_from (n + 1) p) ∙ ap (λ l. ns ++ l) (sym next) ∙ all

-- As many as are wanted.
pub free_enough : (p : Process) (ns : List ℕ) (k count : ℕ) → ns ++ free_from k p ≡ free_numbers p → length ns ≡ count → ns ≡ lowest_free count p
free_enough p ns k count all full = sym (ap (take count) (sym all) ∙ take-append-le count ns (free_from k p) (omega arith) ∙ take_all count ns (omega arith))

-- One found more is among them.
pub free_more : (p : Process) (ns : List ℕ) (k n count : ℕ) → ns ++ free_from k p ≡ free_numbers p → free_from k p ≡ n ∷ free_from (n + 1) p → length ns < count → length ns < length (lowest_free count p)
free_more p ns k n count all next less =
    let many = sym (length-append ns (free_from k p)) ∙ ap length all in
    let more = ap length next in
    let most = length-take count (free_numbers p) in
    omega (arith, many, more, most, less)

-- All, if there are no others.
pub free_short : (p : Process) (ns : List ℕ) (k count : ℕ) → ns ++ free_from k p ≡ free_numbers p → free_from k p ≡ [] → length ns ≤ count → ns ≡ lowest_free count p
free_short p ns k count all none fits = sym (ap (take count) (sym all ∙ ap (λ l. ns ++ l) none ∙ append-nil ns) ∙ take_all count ns fits)

pub ruleset free_lists = (free_all, free_head, free_two, free_no_two, free_only_one, free_pushed, free_enough, free_more, free_short)
