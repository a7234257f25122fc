-- Items are read as the descriptors that they mean.
use Rattle.std.proofs.Common.{◌≡◌, ℕ, ◌+◌, ◌≤◌, ◌==◌, ◌&&◌, List, [], ◌∷◌, ◌++◌, Bool, true, false, length, nat_le, nat_lt, replicate, take, drop, get_or, Option, Some, None, refl, sym, ap, ◌∙◌, inl, inr, arith, length-append}
use Rattle.std.specs.List.{position, position_or_len}
use Rattle.std.proofs.Math.Seq.{take-append_seam, drop-append-add}
use Rattle.std.proofs.lemmas.Grind.{common_steps}
use Rattle.std.proofs.lemmas.List.{drop_more, take-append-drop}
use Rattle.std.proofs.lemmas.List.Quantifiers.{position-Some}
use Rattle.scm_lines.specs.Numbers.{all_digits, is_digit, word_number}
use Rattle.scm_lines.specs.Attached.{attached_of, copies_of, item_at, item_of, items_of, joined_items}
use Rattle.scm_lines.specs.Spelling.{AreItems, IsAttached, IsItem, IsNumber}
use Rattle.af_base.proofs.DerivedEquality.{both}
use Rattle.scm_lines.proofs.Choices.{at_most-few, chained, few, guarded, mapped}
use Rattle.scm_lines.proofs.NumberLemmas.{number_digits, number_read, number_said}

-- Whether a byte is a star.
abbrev is_star : ℕ → Bool
is_star b = b == 42

-- ---- items that are read

-- Joined numbers come from the first and from the others.
joined_parts : (o r : Option (List ℕ)) (y : List ℕ) → joined_items o r ≡ Some y → (first others : List ℕ) × ((o ≡ Some first) × (r ≡ Some others) × (first ++ others ≡ y))
joined_parts None r y e = cc
joined_parts (Some first) None y e = cc
joined_parts (Some first) (Some others) y e = (first, others, (refl, refl, cc))

-- A word with a star is what is before it, the star, and what is behind.
around_star : (word : List ℕ) (i : ℕ) → position is_star word ≡ Some i → word ≡ take i word ++ 42 ∷ drop (i + 1) word
around_star word i e =
    let (within, test, first) = position-Some is_star word i 0 e in
    let star : get_or word i 0 ≡ 42 = same (get_or word i 0) test in
    sym (take-append-drop i word) ∙ ap (λ l. take i word ++ l) (drop_more word i 0 within ∙ ap (λ (b : ℕ). b ∷ drop (i + 1) word) star)
  where
    same : (b : ℕ) → (b == 42) ≡ true → b ≡ 42
    same b h = grind (arith, common_steps)

-- Copies that are read are 1 to 1,024 of one number.
copies_said : (n k : ℕ) (fds : List ℕ) → copies_of n k ≡ Some fds → (1 ≤ k) × (k ≤ 1024) × (fds ≡ replicate k n)
copies_said n k fds e =
    let (test, same) = guarded (nat_le 1 k && nat_le k 1024) (replicate k n) fds e in
    let (some, few) = both (nat_le 1 k) (nat_le k 1024) test in
    (grind (arith, common_steps), grind (arith, common_steps), sym same)

-- An item that is read is one of the table.
item_said : (word fds : List ℕ) → item_of word ≡ Some fds → IsItem word fds
item_said word fds e = by_star (position is_star word) refl e
  where
    by_star : (at : Option ℕ) → position is_star word ≡ at → item_at word at ≡ Some fds → IsItem word fds
    by_star None p e = let (n, (found, same)) = mapped _ (word_number word) fds e in inl (n, (number_said word n found, sym same))
    by_star (Some i) p e =
        let (n, (e1, f1)) = chained _ (word_number (take i word)) fds e in
        let (k, (e2, f2)) = chained _ (word_number (drop (i + 1) word)) fds f1 in
        let (some, few, same) = copies_said n k fds f2 in
        inr (take i word, drop (i + 1) word, (n, k, around_star word i p, number_said _ n e1, number_said _ k e2, some, few, same))

-- Items that are read are those of the table.
items_said : (words : List (List ℕ)) (fds : List ℕ) → items_of words ≡ Some fds → AreItems words fds
items_said [] fds e = cc
items_said (word ∷ words) fds e =
    let (first, others, (e1, e2, e3)) = joined_parts (item_of word) (items_of words) fds e in
    (first, others, (item_said word first e1, items_said words others e2, sym e3))

-- Attached numbers that are read are those of the table.
pub attached_said : (words : List (List ℕ)) (fds : List ℕ) → attached_of words ≡ Some fds → IsAttached words fds
attached_said words fds e = let (read, short) = few 1024 (items_of words) fds e in (short, items_said words fds read)

-- ---- items that are said

-- A digit is no star.
digit_no_star : (b : ℕ) → is_digit b ≡ true → is_star b ≡ false
digit_no_star b h = grind (arith, common_steps)

-- The first star is right behind the digits.
star_after : (front back : List ℕ) → all_digits front ≡ true → position_or_len is_star (front ++ 42 ∷ back) ≡ length front
star_after [] back h = refl
star_after (b ∷ front) back h =
    let (digit, digits) = both (is_digit b) (all_digits front) h in
    rw (digit_no_star b digit, star_after front back digits) (omega arith)

-- Digits have no star.
no_star_in : (word : List ℕ) → all_digits word ≡ true → position_or_len is_star word ≡ length word
no_star_in [] h = refl
no_star_in (b ∷ word) h =
    let (digit, digits) = both (is_digit b) (all_digits word) h in
    rw (digit_no_star b digit, no_star_in word digits) (omega arith)

-- The first star is found right behind the digits.
position_after : (front back : List ℕ) → all_digits front ≡ true → position is_star (front ++ 42 ∷ back) ≡ Some (length front)
position_after front back h =
    let within : nat_lt (length front) (length (front ++ 42 ∷ back)) ≡ true = grind (arith, common_steps, length-append) in
    rw (star_after front back h, within) refl

-- No star is found in digits.
position_none : (word : List ℕ) → all_digits word ≡ true → position is_star word ≡ None
position_none word h =
    let past : nat_lt (length word) (length word) ≡ false = grind (arith, common_steps) in
    rw (no_star_in word h, past) refl

-- 1 to 1,024 copies of a number are read.
copies_read : (n k : ℕ) → 1 ≤ k → k ≤ 1024 → copies_of n k ≡ Some (replicate k n)
copies_read n k some few = grind (arith, common_steps)

-- A number, a star and a number of copies are read so.
starred_read : (front back : List ℕ) (n k : ℕ) → IsNumber front n → IsNumber back k → 1 ≤ k → k ≤ 1024 → item_of (front ++ 42 ∷ back) ≡ Some (replicate k n)
starred_read front back n k m l some few =
    rw (
      position_after front back (number_digits front n m),
      take-append_seam front (42 ∷ back),
      drop-append-add front (42 ∷ back) 1,
      number_read front n m,
      number_read back k l,
      copies_read n k some few,
    ) refl

-- An item of the table is read so.
item_read : (word fds : List ℕ) → IsItem word fds → item_of word ≡ Some fds
item_read word fds (inl (n, (number, e))) = rw (position_none word (number_digits word n number), number_read word n number, e) refl
item_read word fds (inr (front, back, (n, k, w, m, l, some, few, e))) = rw (w, e) (starred_read front back n k m l some few)

-- A number alone is one descriptor.
pub number_item : (word : List ℕ) (n : ℕ) → word_number word ≡ Some n → item_of word ≡ Some (n ∷ [])
number_item word n read = item_read word (n ∷ []) (inl (n, (number_said word n read, refl)))

-- Items of the table are read so.
items_read : (words : List (List ℕ)) (fds : List ℕ) → AreItems words fds → items_of words ≡ Some fds
items_read [] fds e = rw e refl
items_read (word ∷ words) fds (first, others, (item, items, e)) = rw (item_read word first item, items_read words others items, e) refl

-- Attached numbers of the table are read so.
pub attached_read : (words : List (List ℕ)) (fds : List ℕ) → IsAttached words fds → attached_of words ≡ Some fds
attached_read words fds (short, items) = rw (items_read words fds items) (at_most-few 1024 fds short)
