-- Which words fit, and how many bytes or descriptors they mean.
use Rattle.std.proofs.Common.{◌≡◌, ℕ, ◌+◌, ◌<◌, ◌≤◌, ◌&&◌, List, [], ◌∷◌, length, Bool, true, false, cond, not, Option, Some, None, is_none, is_some, position, refl, sym, ap, length-append, arith}
use Rattle.std.proofs.lemmas.Grind.{common_steps}
use Rattle.scm_lines.specs.Words.{all_printable, is_printable, unprintable_at}
use Rattle.scm_lines.specs.Numbers.{all_digits, is_digit}
use Rattle.scm_lines.specs.Payload.{at_most, byte_before, unescape}
use Rattle.scm_lines.specs.Fitting.{digits_reason, number_reason}
use Rattle.scm_lines.specs.declared.reason.Reason.TheVariants as reason
use Rattle.scm_lines.specs.Attached.{item_of, items_of, joined_items}

-- ---- bytes that fail a test

-- A position is found exactly if some item fails, for a test of all in order.
found_where_not : (test : ℕ → Bool) (all : List ℕ → Bool) → all [] ≡ true → ((b : ℕ) (bytes : List ℕ) → all (b ∷ bytes) ≡ (test b && all bytes))
    → (bytes : List ℕ) → is_some (position (λ b. not (test b)) bytes) ≡ not (all bytes)
found_where_not test all none more [] = rw none refl
found_where_not test all none more (b ∷ bytes) = rw (more b bytes) (by (test b) refl (found_where_not test all none more bytes))
  where
    by : (passes : Bool) → test b ≡ passes → is_some (position (λ b. not (test b)) bytes) ≡ not (all bytes)
        → is_some (position (λ b. not (test b)) (b ∷ bytes)) ≡ not (test b && all bytes)
    by true e before = rw e (grind (arith, common_steps, before))
    by false e before = rw e (grind (arith, common_steps))

-- A byte is found that is not printable exactly where not all are.
pub unprintable_found : (bytes : List ℕ) → is_some (unprintable_at bytes) ≡ not (all_printable bytes)
unprintable_found = found_where_not is_printable all_printable refl (λ b bytes. refl)

-- A byte is found that is no digit exactly where not all are.
pub other_found : (word : List ℕ) → is_some (position (λ b. not (is_digit b)) word) ≡ not (all_digits word)
other_found = found_where_not is_digit all_digits refl (λ b bytes. refl)

-- A word with another byte than digits is no number for that.
pub reason_other : (word : List ℕ) → true ≡ not (all_digits word) → number_reason word ≡ reason.NotANumber
reason_other word h = by (all_digits word) h
  where
    by : (digits : Bool) → true ≡ not digits → cond digits (digits_reason word) reason.NotANumber ≡ reason.NotANumber
    by true e = cc
    by false e = refl

-- A word of digits is no number for its zero in front or its value.
pub reason_digits : (word : List ℕ) → false ≡ not (all_digits word) → number_reason word ≡ digits_reason word
reason_digits word h = by (all_digits word) h
  where
    by : (digits : Bool) → false ≡ not digits → cond digits (digits_reason word) reason.NotANumber ≡ digits_reason word
    by true e = refl
    by false e = cc

-- ---- how many

-- The length of a list plus a number.
abbrev pub counted : ℕ → Option (List ℕ) → Option ℕ
counted n None = None
counted n (Some items) = Some (n + length items)

-- One more byte.
pub counted_byte : (n b : ℕ) (rest : Option (List ℕ)) → counted n (byte_before (Some b) rest) ≡ counted (n + 1) rest
counted_byte n b None = refl
counted_byte n b (Some bytes) = ap Some (grind arith)

-- The items of one more word.
pub counted_item : (n : ℕ) (word : List ℕ) (words : List (List ℕ)) (item : List ℕ) → item_of word ≡ Some item
    → counted n (items_of (word ∷ words)) ≡ counted (n + length item) (items_of words)
counted_item n word words item h = rw h (by_rest (items_of words))
  where
    by_rest : (rest : Option (List ℕ)) → counted n (joined_items (Some item) rest) ≡ counted (n + length item) rest
    by_rest None = refl
    by_rest (Some items) = ap Some (grind (arith, length-append))

-- A list that is too long, by a count of its front.
counted_over_most : (most n : ℕ) (rest whole : Option (List ℕ)) → counted n rest ≡ counted 0 whole → most < n → at_most most whole ≡ None
counted_over_most most n rest None e h = refl
counted_over_most most n None (Some items) e h = cc
counted_over_most most n (Some others) (Some items) e h = grind (arith, common_steps)

-- A list that is not too long.
counted_few : (most n : ℕ) (whole : Option (List ℕ)) → counted n (Some []) ≡ counted 0 whole → n ≤ most → false ≡ is_none (at_most most whole)
counted_few most n None e h = cc
counted_few most n (Some items) e h = grind (arith, common_steps)

-- Too many items.
pub counted_over : (n : ℕ) (rest whole : Option (List ℕ)) → counted n rest ≡ counted 0 whole → 1024 < n → at_most 1024 whole ≡ None
counted_over = counted_over_most 1024

-- A word for too many bytes, by a count of all of them.
pub spelled_over : (n : ℕ) (rest word : List ℕ) → length rest ≡ 0 → counted n (unescape rest) ≡ counted 0 (unescape word) → 65537 < n
    → true ≡ is_none (at_most 65537 (unescape word))
spelled_over n [] word empty e over = ap is_none (sym (counted_over_most 65537 n (Some []) (unescape word) e over))
spelled_over n (b ∷ rest) word empty e over = absurd (omega arith)

-- A word for few enough bytes.
pub spelled_few : (n : ℕ) (rest word : List ℕ) → length rest ≡ 0 → counted n (unescape rest) ≡ counted 0 (unescape word) → n ≤ 65537
    → false ≡ is_none (at_most 65537 (unescape word))
spelled_few n [] word empty e few = counted_few 65537 n (unescape word) e few
spelled_few n (b ∷ rest) word empty e few = absurd (omega arith)
