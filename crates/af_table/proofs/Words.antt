-- Setting, clearing and finding a bit in words of 64.
use Rattle.std.proofs.Common.{◌≡◌, ◌≢◌, ℕ, ◌+◌, ◌-◌, ◌*◌, ◌/◌, ◌%◌, ◌^◌, ◌<◌, ◌≤◌, zero, suc, min, Bool, true, false, cond, List, length, refl, sym, ap, subst, ◌∙◌, arith, bit_and, bit_or, w64}
use Rattle.std.specs.Prelude.{Option, Some, None, IfSome, nat_eq, nat_lt, not, slice_index, slice_index_or, slice_set}
use Rattle.std.specs.Int.{bit_at, trailing_zeros, leading_zeros}
use Rattle.std.proofs.lemmas.Bool.{eqb-true, eqb-false, ltb-true, ltb-false}
use Rattle.std.proofs.lemmas.List.{get_or-set_same, get_or-set_other, get_or_past}
use Rattle.std.proofs.lemmas.Grind.{get_or-set_at}
use Rattle.std.proofs.Math.Nat.{div-eq_of_lt-le, pow-suc}
use Rattle.std.proofs.lemmas.Nat.{and_le_l, leading_length, leading_top}
use Rattle.std.proofs.lemmas.Nat.Bits.{bit_at-zero, bit_at-lt, bit_at_and, bit_at_not, bit_at_set_same, bit_at_set_other, bit_at_clear_same, bit_at_clear_other, bit_at-trailing_zeros, bit_at_mask_inside, bit_at_mask_below, bit_at_above, ones_shl}
use Rattle.af_base.specs.declared.limits.TheConstants.{MAX_NOFILE}
use Rattle.af_table.specs.Bits.{is_set, is_taken, IsPlace, HasNoPlace}

-- Numbers with the same word and the same bit are equal.
same_number : (q n : ℕ) → q / 64 ≡ n / 64 → q % 64 ≡ n % 64 → q ≡ n
same_number q n e f = omega arith

-- Where two bits are the same, either both are set or none is.
same_bit : (a b : ℕ) → a ≡ b → nat_eq a 1 ≡ nat_eq b 1
same_bit a b e = ap (λ x. nat_eq x 1) e

module _ (ws : List ℕ) (n q x : ℕ) (long : n / 64 < length ws) where
  -- A word is changed so that its bit n % 64 is b, and its others stay.
  changed_bit : (b : Bool) → is_set x (n % 64) ≡ b → ((i : ℕ) → i < 64 → i ≢ n % 64 → is_set x i ≡ is_set (slice_index ws (n / 64)) i) → is_taken (slice_set ws (n / 64) x) q ≡ cond (nat_eq q n) b (is_taken ws q)
  changed_bit b here there = by (nat_eq q n) refl where
    other : (r : Bool) → nat_eq (q / 64) (n / 64) ≡ r → (q ≡ n → ⊥) → is_taken (slice_set ws (n / 64) x) q ≡ is_taken ws q
    other true e apart =
        let word = eqb-true _ _ e in
        ap (λ w. is_set w (q % 64)) (get_or-set_at ws (n / 64) (q / 64) x 0 word long)
        ∙ there (q % 64) (omega arith) (λ r. apart (same_number q n word r)) ∙ ap (λ i. is_set (slice_index ws i) (q % 64)) (sym word)
    other false e apart = ap (λ w. is_set w (q % 64)) (get_or-set_other ws (n / 64) (q / 64) x 0 (eqb-false _ _ e))

    by : (r : Bool) → nat_eq q n ≡ r → is_taken (slice_set ws (n / 64) x) q ≡ cond r b (is_taken ws q)
    by true e = ap (λ k. is_taken (slice_set ws (n / 64) x) k) (eqb-true q n e) ∙ ap (λ w. is_set w (n % 64)) (get_or-set_same ws (n / 64) x 0 long) ∙ here
    by false e = other _ refl (eqb-false q n e)

-- After a bit is set its number is taken, and the others are as they were.
pub set_bit : (ws : List ℕ) (n q : ℕ) → n < MAX_NOFILE → length ws ≡ MAX_NOFILE / 64 → is_taken (slice_set ws (n / 64) (bit_or (slice_index_or ws (n / 64) 0) (1 * 2 ^ (n % 64) % 18446744073709551616))) q ≡ cond (nat_eq q n) true (is_taken ws q)
set_bit ws n q h l =
    let low : n % 64 < 64 = omega arith in
    changed_bit ws n q _ (omega arith) true (same_bit _ 1 (bit_at_set_same w64 (slice_index ws (n / 64)) (n % 64) low)) (λ i _ apart. same_bit _ _ (bit_at_set_other w64 (slice_index ws (n / 64)) (n % 64) low i apart))

-- After a bit is cleared its number is free, and the others are as they were.
pub clear_bit : (ws : List ℕ) (n q : ℕ) → n < MAX_NOFILE → length ws ≡ MAX_NOFILE / 64 → is_taken (slice_set ws (n / 64) (bit_and (slice_index_or ws (n / 64) 0) (18446744073709551615 - 1 * 2 ^ (n % 64) % 18446744073709551616))) q ≡ cond (nat_eq q n) false (is_taken ws q)
clear_bit ws n q h l =
    let low : n % 64 < 64 = omega arith in
    changed_bit ws n q _ (omega arith) false (same_bit _ 0 (bit_at_clear_same w64 (slice_index ws (n / 64)) (n % 64) low)) (λ i small apart. same_bit _ _ (bit_at_clear_other w64 (slice_index ws (n / 64)) (n % 64) low i small apart))

-- The word with its bits below k cleared.
abbrev pub high_of : ℕ → ℕ → ℕ
high_of word k = bit_and word (18446744073709551615 * 2 ^ k % 18446744073709551616)

-- A bit of the word without its low bits is there if it is in the word and not among these.
high_bit : (word k i : ℕ) → k < 64 → bit_at (high_of word k) i ≡ min (bit_at word i) (bit_at (2 ^ 64 - 2 ^ k) i)
high_bit word k i h = ap (λ m. bit_at (bit_and word m) i) (ones_shl 64 k (omega arith)) ∙ bit_at_and word (2 ^ 64 - 2 ^ k) i

-- A bit masked by one is itself.
min_one : (b : ℕ) → b < 2 → min b 1 ≡ b
min_one b h = omega arith

-- A bit masked by zero is zero.
min_zero : (b : ℕ) → min b 0 ≡ 0
min_zero b = omega arith

-- From k on the bits are as in the word.
high_from : (word k i : ℕ) → k < 64 → k ≤ i → i < 64 → bit_at (high_of word k) i ≡ bit_at word i
high_from word k i h le lt = high_bit word k i h ∙ ap (min (bit_at word i)) (bit_at_mask_inside k 64 i le lt) ∙ min_one (bit_at word i) (bit_at-lt word i)

-- Below k no bit is set.
high_below : (word k i : ℕ) → k < 64 → i < k → bit_at (high_of word k) i ≡ 0
high_below word k i h lt = high_bit word k i h ∙ ap (min (bit_at word i)) (bit_at_mask_below k 64 i lt) ∙ min_zero (bit_at word i)

-- The lowest bit that is set there.
pub place_found : (word k : ℕ) → k < 64 → word < 2 ^ 64 → high_of word k ≢ 0 → IsPlace word k true (trailing_zeros w64 (high_of word k))
place_found word k h fits some =
    let b = bit_at-trailing_zeros w64 (high_of word k) (positive (high_of word k) some) (omega (arith, and_le_l word (18446744073709551615 * 2 ^ k % 18446744073709551616))) in
    let above : k ≤ trailing_zeros w64 (high_of word k) = reached (trailing_zeros w64 (high_of word k)) (nat_lt (trailing_zeros w64 (high_of word k)) k) refl b.1 in
    record {
      found = same_bit _ 1 (sym (high_from word k (trailing_zeros w64 (high_of word k)) h above b.0) ∙ b.1);
      low = b.0;
      reached = above;
      least = λ q le lt. same_bit _ 0 (sym (high_from word k q h le (let small = b.0 in omega arith)) ∙ b.2 q lt);
    } where
      positive : (n : ℕ) → n ≢ 0 → 0 < n
      positive zero apart = absurd (apart refl)
      positive (suc n) apart = omega arith

      reached : (t : ℕ) (r : Bool) → nat_lt t k ≡ r → bit_at (high_of word k) t ≡ 1 → k ≤ t
      reached t true e set = let no = sym set ∙ high_below word k t h (omega (arith, ltb-true t k e)) in absurd (omega arith)
      reached t false e set = omega (arith, ltb-false t k e)

-- Where no bit is left, no position from k on is set.
pub place_none : (word k : ℕ) → k < 64 → high_of word k ≡ 0 → HasNoPlace word k true
place_none word k h none = λ q le lt. same_bit (bit_at word q) 0 (sym (high_from word k q h le lt) ∙ ap (λ w. bit_at w q) none ∙ bit_at-zero q)

-- The complement of a bit is set exactly if the bit is not.
turned : (b : ℕ) → b < 2 → nat_eq (1 - b) 1 ≡ not (nat_eq b 1)
turned zero h = refl
turned (suc zero) h = refl
turned (suc (suc b)) h = absurd (omega arith)

-- The complement of a word.
pub set_of_not : (word q : ℕ) → word < 2 ^ 64 → q < 64 → is_set (18446744073709551615 - word) q ≡ not (is_set word q)
set_of_not word q fits h = same_bit _ _ (bit_at_not w64 word q fits h) ∙ turned (bit_at word q) (bit_at-lt word q)

-- To negate twice is to change nothing.
twice : (b : Bool) → not (not b) ≡ b
twice true = refl
twice false = refl

-- A position whose bit is set in the complement has a clear one in the word.
place_of_not : (word k n : ℕ) → word < 2 ^ 64 → IsPlace (18446744073709551615 - word) k true n → IsPlace word k false n
place_of_not word k n fits h = record {
  found = sym (twice (is_set word n)) ∙ ap not (sym (set_of_not word n fits h.low) ∙ h.found);
  low = h.low;
  reached = h.reached;
  least = λ q le lt. sym (twice (is_set word q)) ∙ ap not (sym (set_of_not word q fits (let low = h.low in omega arith)) ∙ h.least q le lt);
}

-- The same of a position that may be missing.
pub places_of_not : (word k : ℕ) (b : Bool) (o : Option ℕ) → b ≡ false → word < 2 ^ 64 → IfSome o (λ n. IsPlace (18446744073709551615 - word) k true n) → IfSome o (λ n. IsPlace word k b n)
places_of_not word k b None e fits h = h
places_of_not word k b (Some n) e fits h = subst (λ r. IsPlace word k r n) (sym e) (place_of_not word k n fits h)

-- Where the complement has no position that is set, the word has none that is clear.
pub no_place_of_not : (word k : ℕ) → word < 2 ^ 64 → HasNoPlace (18446744073709551615 - word) k true → HasNoPlace word k false
no_place_of_not word k fits h = λ q le lt. sym (twice (is_set word q)) ∙ ap not (sym (set_of_not word q fits lt) ∙ h q le lt)

-- A number below 2 ^ m has no bit from m on.
word_end : (word m q : ℕ) → word < 2 ^ m → m ≤ q → is_set word q ≡ false
word_end word m q fits le = same_bit (bit_at word q) 0 (bit_at_above word m q fits le)

-- Nothing is taken behind the highest bit of the last word that is not 0.
pub none_behind : (ws : List ℕ) (i q : ℕ) → slice_index ws i < 2 ^ 64 → (64 * (i + 1) ≤ q → is_taken ws q ≡ false) → 64 * (i + 1) - leading_zeros w64 (slice_index ws i) ≤ q → is_taken ws q ≡ false
none_behind ws i q fits above le =
    let l = leading_length 64 (slice_index ws i) fits in
    by l.0 l.1 l.2 (nat_lt q (64 * (i + 1))) refl where
      by : (m : ℕ) → leading_zeros w64 (slice_index ws i) + m ≡ 64 → slice_index ws i < 2 ^ m → (b : Bool) → nat_lt q (64 * (i + 1)) ≡ b → is_taken ws q ≡ false
      by m total low true e =
          let h : q < 64 * (i + 1) = ltb-true q (64 * (i + 1)) e in
          let word : q / 64 ≡ i = omega arith in
          ap (λ j. is_set (slice_index ws j) (q % 64)) word ∙ word_end (slice_index ws i) m (q % 64) low (omega arith)
      by m total low false e = above (omega (arith, ltb-false q (64 * (i + 1)) e))

-- That bit is set.
pub taken_before : (ws : List ℕ) (i : ℕ) → slice_index ws i < 2 ^ 64 → slice_index ws i ≢ 0 → is_taken ws (64 * (i + 1) - leading_zeros w64 (slice_index ws i) - 1) ≡ true
taken_before ws i fits some =
    let l = leading_top 64 (slice_index ws i) (positive (slice_index ws i) some) fits in
    by l.0 l.1 l.2 l.3 where
      positive : (n : ℕ) → n ≢ 0 → 0 < n
      positive zero apart = absurd (apart refl)
      positive (suc n) apart = omega arith

      by : (j : ℕ) → leading_zeros w64 (slice_index ws i) + suc j ≡ 64 → 2 ^ j ≤ slice_index ws i → slice_index ws i < 2 ^ suc j → is_taken ws (64 * (i + 1) - leading_zeros w64 (slice_index ws i) - 1) ≡ true
      by j total low high =
          let q = 64 * (i + 1) - leading_zeros w64 (slice_index ws i) - 1 in
          let word : q / 64 ≡ i = omega (arith, total) in
          let bit : q % 64 ≡ j = omega (arith, total) in
          let one : slice_index ws i / 2 ^ j ≡ 1 = div-eq_of_lt-le (2 ^ j) (omega (arith, low)) (omega (arith, high, pow-suc 2 j)) in
          (λ k. is_set (slice_index ws (word k)) (bit k)) ∙ same_bit _ 1 (ap (λ n. n % 2) one)

-- Nor in a word that is 0.
pub none_in_zero : (ws : List ℕ) (i q : ℕ) → slice_index ws i ≡ 0 → (64 * (i + 1) ≤ q → is_taken ws q ≡ false) → 64 * i ≤ q → is_taken ws q ≡ false
none_in_zero ws i q empty above le = by (nat_lt q (64 * (i + 1))) refl where
  by : (b : Bool) → nat_lt q (64 * (i + 1)) ≡ b → is_taken ws q ≡ false
  by true e =
      let h : q < 64 * (i + 1) = ltb-true q (64 * (i + 1)) e in
      let word : q / 64 ≡ i = omega arith in
      ap (λ j. is_set (slice_index ws j) (q % 64)) word ∙ same_bit _ 0 (ap (λ w. bit_at w (q % 64)) empty ∙ bit_at-zero (q % 64))
  by false e = above (omega (arith, ltb-false q (64 * (i + 1)) e))

pub ruleset places = (place_found, place_none, places_of_not, no_place_of_not)
