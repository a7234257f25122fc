-- The bytes that a word is read as are those that it spells.
use Rattle.std.proofs.Common.{◌≡◌, ℕ, ◌<◌, ◌≤◌, ◌==◌, List, [], ◌∷◌, true, false, length, nat_le, replicate, Option, Some, None, refl, sym, ap, ◌∙◌, inl, inr, arith, subst, cond, option_and_then}
use Rattle.std.proofs.lemmas.List.{length-replicate}
use Rattle.std.proofs.lemmas.Grind.{common_steps}
use Rattle.scm_lines.specs.Numbers.{word_number}
use Rattle.scm_lines.specs.Payload.{byte_before, hex_pair, hex_value, is_plain, payload_of, plain_byte, unescape}
use Rattle.scm_lines.specs.Spelling.{IsPayload, Spells, SpellsByte}
use Rattle.scm_lines.proofs.Choices.{at_most-few, chained, chosen, few, guarded, mapped}
use Rattle.scm_lines.proofs.NumberLemmas.{number_read, number_said}

-- ---- bytes that are read

-- A byte before others comes of both.
before_parts : (o : Option ℕ) (r : Option (List ℕ)) (y : List ℕ) → byte_before o r ≡ Some y → (b : ℕ) × ((rest : List ℕ) × (o ≡ Some b) × (r ≡ Some rest) × (b ∷ rest ≡ y))
before_parts None r y e = cc
before_parts (Some b) None y e = cc
before_parts (Some b) (Some rest) y e = (b, (rest, refl, refl, cc))

-- A plain byte that is read spells itself.
spells_plain : (a : ℕ) (tail y : List ℕ) → ((z : List ℕ) → unescape tail ≡ Some z → Spells tail z) → byte_before (plain_byte a) (unescape tail) ≡ Some y → Spells (a ∷ tail) y
spells_plain a tail y more e =
    let (b, (rest, e1, e2, e3)) = before_parts (plain_byte a) (unescape tail) y e in
    let (plain, same) = guarded (is_plain a) a b e1 in
    subst (λ (z : List ℕ). Spells (a ∷ tail) z) (ap (λ (c : ℕ). c ∷ rest) same ∙ e3) (tail, (inl (plain, refl), more rest e2))

-- Two hexadecimal digits that are read spell their byte.
spells_escaped : (high low : ℕ) (tail y : List ℕ) → ((z : List ℕ) → unescape tail ≡ Some z → Spells tail z) → byte_before (hex_pair high low) (unescape tail) ≡ Some y
    → Spells (37 ∷ high ∷ low ∷ tail) y
spells_escaped high low tail y more e =
    let (b, (rest, e1, e2, e3)) = before_parts (hex_pair high low) (unescape tail) y e in
    let (h, (f1, g1)) = chained _ (hex_value high) b e1 in
    let (l, (f2, g2)) = mapped _ (hex_value low) b g1 in
    subst (λ (z : List ℕ). Spells (37 ∷ high ∷ low ∷ tail) z) e3 (tail, (inr (high, low, h, l, refl, f1, f2, sym g2), more rest e2))

-- A word that is read spells its bytes.
spells_read : (word bytes : List ℕ) → unescape word ≡ Some bytes → Spells word bytes
spells_read [] [] e = refl
spells_read [] (b ∷ bytes) e = cc
spells_read (a ∷ []) bytes e = spells_plain a [] bytes (spells_read []) e
spells_read (a ∷ b ∷ []) bytes e = spells_plain a (b ∷ []) bytes (spells_read (b ∷ [])) e
spells_read (a ∷ b ∷ c ∷ rest) bytes e = elim (chosen (a == 37) _ _ _ e) [
  | inl (t, e1) ↦ let percent : a ≡ 37 = grind (arith, common_steps) in
      subst (λ (x : ℕ). Spells (x ∷ b ∷ c ∷ rest) bytes) (sym percent) (spells_escaped b c rest bytes (spells_read rest) e1)
  | inr (f, e2) ↦ spells_plain a (b ∷ c ∷ rest) bytes (spells_read (b ∷ c ∷ rest)) e2
]

-- A word that is not empty spells some byte.
some_bytes : (a : ℕ) (word bytes : List ℕ) → Spells (a ∷ word) bytes → 0 < length bytes
some_bytes a word [] e = cc
some_bytes a word (b ∷ bytes) e = omega arith

-- A payload that is read is spelt as one.
pub payload_said : (word bytes : List ℕ) → payload_of word ≡ Some bytes → IsPayload word bytes
payload_said [] bytes e = cc
payload_said (a ∷ word) bytes e = elim (chosen (a == 42) _ _ _ e) [
  | inl (t, e1) ↦ starred t e1
  | inr (f, e2) ↦ let (e3, short) = few 65537 (unescape (a ∷ word)) bytes e2 in
      let spelt = spells_read (a ∷ word) bytes e3 in
      (short, inr (some_bytes a word bytes spelt, spelt))
]
  where
    starred : (a == 42) ≡ true → option_and_then (λ n. cond (nat_le n 65537) (Some (replicate n 120)) None) (word_number word) ≡ Some bytes → IsPayload (a ∷ word) bytes
    starred t e1 =
        let star : a ≡ 42 = grind (arith, common_steps) in
        let (n, (e2, e3)) = chained _ (word_number word) bytes e1 in
        let (small, same) = guarded (nat_le n 65537) (replicate n 120) bytes e3 in
        let short : length bytes ≤ 65537 = subst (λ (l : List ℕ). length l ≤ 65537) same (grind (arith, common_steps, length-replicate)) in
        (short, inl (word, (n, ap (λ (x : ℕ). x ∷ word) star, number_said word n e2, sym same)))

-- ---- bytes that are said

-- A plain byte is read as itself.
plain_byte-read : (b : ℕ) (rest : List ℕ) → is_plain b ≡ true → unescape (b ∷ rest) ≡ byte_before (Some b) (unescape rest)
plain_byte-read b [] h = rw h refl
plain_byte-read b (c ∷ []) h = rw h refl
plain_byte-read b (c ∷ d ∷ rest) h = let no_percent : (b == 37) ≡ false = plain_no_percent b h in rw (no_percent, h) refl
  where
    plain_no_percent : (b : ℕ) → is_plain b ≡ true → (b == 37) ≡ false
    plain_no_percent b h = grind (arith, common_steps)

-- A word that spells bytes is read so.
spelt_is_read : (word bytes : List ℕ) → Spells word bytes → unescape word ≡ Some bytes
spelt_is_read word [] e = rw e refl
spelt_is_read word (b ∷ bytes) (rest, (byte, more)) = elim byte [
  | inl (plain, e) ↦ rw (e, plain_byte-read b rest plain, spelt_is_read rest bytes more) refl
  | inr (high, low, h, l, e, e1, e2, e3) ↦ rw (e, e1, e2, e3, spelt_is_read rest bytes more) refl
]

-- No spelt byte begins with a star.
no_star : (a : ℕ) (word : List ℕ) (b : ℕ) (rest : List ℕ) → SpellsByte (a ∷ word) b rest → (a == 42) ≡ false
no_star a word b rest byte = elim byte [
  | inl (plain, e) ↦ plain_no_star a b plain cc
  | inr (high, low, h, l, e, e1, e2, e3) ↦ let percent : a ≡ 37 = cc in rw percent refl
]
  where
    plain_no_star : (a b : ℕ) → is_plain b ≡ true → a ≡ b → (a == 42) ≡ false
    plain_no_star a b plain same = grind (arith, common_steps)

-- A payload spelt as one is read so.
pub payload_read : (word bytes : List ℕ) → IsPayload word bytes → payload_of word ≡ Some bytes
payload_read word bytes (short, inl (digits, (n, e, number, copies))) =
    let few_copies : length {A = ℕ} (replicate n 120) ≤ 65537 = subst (λ (l : List ℕ). length l ≤ 65537) copies short in
    let small : nat_le n 65537 ≡ true = grind (arith, common_steps, length-replicate) in
    rw (e, number_read digits n number, small, copies) refl
payload_read word [] (short, inr (some, spelt)) = absurd (omega arith)
payload_read [] (b ∷ bytes) (short, inr (some, spelt)) = let none : unescape [] ≡ Some (b ∷ bytes) = spelt_is_read [] (b ∷ bytes) spelt in cc
payload_read (a ∷ word) (b ∷ bytes) (short, inr (some, (rest, (byte, more)))) =
    let plain = no_star a word b rest byte in
    let read : unescape (a ∷ word) ≡ Some (b ∷ bytes) = spelt_is_read (a ∷ word) (b ∷ bytes) (rest, (byte, more)) in
    rw (plain, read, at_most-few 65537 (b ∷ bytes) short) refl
