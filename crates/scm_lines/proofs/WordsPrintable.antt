-- Numbers, the bytes of a message, items and names of types and of ends are words of printable bytes.
use Rattle.std.proofs.Common.{◌≡◌, ℕ, ◌≤◌, ◌==◌, ◌&&◌, ◌||◌, List, [], ◌∷◌, ◌++◌, Bool, true, false, cond, nat_le, Some, refl, sym, ap, ◌∙◌, inl, inr, arith}
use Rattle.std.specs.Cmp.Derive.{both_true}
use Rattle.std.proofs.Math.Bool.{and_assoc}
use Rattle.std.proofs.lemmas.Grind.{common_steps}
use Rattle.af_base.specs.declared.events.Shutdown.{Shutdown}
use Rattle.af_base.specs.declared.events.Shutdown.TheVariants as shutdown
use Rattle.af_base.specs.declared.events.SockType.{SockType}
use Rattle.af_base.specs.declared.events.SockType.TheVariants.{Dgram, Seqpacket, Stream}
use Rattle.scm_lines.specs.Words.{all_printable, ends_word, is_blank, onto_word, words_of}
use Rattle.scm_lines.specs.Numbers.{all_digits, is_digit}
use Rattle.scm_lines.specs.Payload.{hex_value, is_plain}
use Rattle.scm_lines.specs.Spelling.{AreItems, IsItem, IsNumber, IsPayload, Spells, how_name, type_name}
use Rattle.af_base.proofs.DerivedEquality.{both}
use Rattle.scm_lines.proofs.Choices.{chosen, guarded}
use Rattle.scm_lines.proofs.NumberLemmas.{number_digits}

-- A byte that a line may have.
abbrev pub byte_printable : ℕ → Bool
byte_printable b = (nat_le 32 b && nat_le b 126) || (b == 9)

-- Words of printable bytes.
abbrev pub words_printable : List (List ℕ) → Bool
words_printable [] = true
words_printable (word ∷ words) = all_printable word && words_printable words

-- ---- a line and its words

-- A space and a tab are printable.
blank_printable : (b : ℕ) → is_blank b ≡ true → byte_printable b ≡ true
blank_printable b h = grind (arith, common_steps)

-- A byte in front of the first word.
onto_printable : (b : ℕ) (words : List (List ℕ)) → words_printable (onto_word b words) ≡ (byte_printable b && words_printable words)
onto_printable b [] = and_assoc (byte_printable b) true true
onto_printable b (word ∷ words) = and_assoc (byte_printable b) (all_printable word) (words_printable words)

-- The bytes of a line are printable where its words are.
pub line_printable : (bytes : List ℕ) → all_printable bytes ≡ words_printable (words_of bytes)
line_printable [] = refl
line_printable (b ∷ bytes) = by_blank (is_blank b) refl (line_printable bytes)
  where
    by_end : (ends : Bool) → all_printable bytes ≡ words_printable (words_of bytes)
        → (byte_printable b && all_printable bytes) ≡ words_printable (cond ends ((b ∷ []) ∷ words_of bytes) (onto_word b (words_of bytes)))
    by_end true rest = ap (λ p. byte_printable b && p) rest ∙ sym (and_assoc (byte_printable b) true (words_printable (words_of bytes)))
    by_end false rest = ap (λ p. byte_printable b && p) rest ∙ sym (onto_printable b (words_of bytes))

    by_blank : (blank : Bool) → is_blank b ≡ blank → all_printable bytes ≡ words_printable (words_of bytes)
        → (byte_printable b && all_printable bytes) ≡ words_printable (cond blank (words_of bytes) (cond (ends_word bytes) ((b ∷ []) ∷ words_of bytes) (onto_word b (words_of bytes))))
    by_blank true h rest = ap (λ p. p && all_printable bytes) (blank_printable b h) ∙ rest
    by_blank false h rest = by_end (ends_word bytes) rest

-- ---- the words that are no names

-- A byte of a range of printable ones.
between_printable : (low high b : ℕ) → 32 ≤ low → high ≤ 126 → (nat_le low b && nat_le b high) ≡ true → byte_printable b ≡ true
between_printable low high b h k within = grind (arith, common_steps)

-- Digits are printable.
digits_printable : (word : List ℕ) → all_digits word ≡ true → all_printable word ≡ true
digits_printable [] h = refl
digits_printable (b ∷ word) h =
    let (digit, digits) = both (is_digit b) (all_digits word) h in
    both_true (between_printable 48 57 b (omega arith) (omega arith) digit) (digits_printable word digits)

-- So are the digits of a number.
pub number_printable : (word : List ℕ) (n : ℕ) → IsNumber word n → all_printable word ≡ true
number_printable word n number = digits_printable word (number_digits word n number)

-- So is a character that means itself.
plain_printable : (b : ℕ) → is_plain b ≡ true → byte_printable b ≡ true
plain_printable b h = grind (arith, common_steps)

-- So is a hexadecimal digit.
hex_printable : (b v : ℕ) → hex_value b ≡ Some v → byte_printable b ≡ true
hex_printable b v e = elim (chosen (is_digit b) _ _ _ e) [
  | inl (digit, e1) ↦ between_printable 48 57 b (omega arith) (omega arith) digit
  | inr (f, e2) ↦ elim (chosen (nat_le 65 b && nat_le b 70) _ _ _ e2) [
    | inl (capital, e3) ↦ between_printable 65 70 b (omega arith) (omega arith) capital
    | inr (g, e4) ↦ let (small, same) = guarded (nat_le 97 b && nat_le b 102) _ v e4 in between_printable 97 102 b (omega arith) (omega arith) small
  ]
]

-- So is a word that spells bytes.
spelt_printable : (word bytes : List ℕ) → Spells word bytes → all_printable word ≡ true
spelt_printable word [] e = rw e refl
spelt_printable word (b ∷ bytes) (rest, (byte, more)) = elim byte [
  | inl (plain, e) ↦ rw e (both_true (plain_printable b plain) (spelt_printable rest bytes more))
  | inr (high, low, h, l, e, e1, e2, e3) ↦
      let digits : all_printable (high ∷ low ∷ rest) ≡ true = both_true (hex_printable high h e1) (both_true (hex_printable low l e2) (spelt_printable rest bytes more)) in
      rw e digits
]

-- So is a word for the bytes of a message.
pub payload_printable : (word bytes : List ℕ) → IsPayload word bytes → all_printable word ≡ true
payload_printable word bytes (short, inl (digits, (n, e, number, copies))) = rw e (number_printable digits n number)
payload_printable word bytes (short, inr (some, spelt)) = spelt_printable word bytes spelt

-- So are two printable parts together.
joined_printable : (front back : List ℕ) → all_printable front ≡ true → all_printable back ≡ true → all_printable (front ++ back) ≡ true
joined_printable [] back h k = k
joined_printable (b ∷ front) back h k =
    let (byte, bytes) = both (byte_printable b) (all_printable front) h in
    both_true byte (joined_printable front back bytes k)

-- So is an item.
item_printable : (word fds : List ℕ) → IsItem word fds → all_printable word ≡ true
item_printable word fds (inl (n, (number, e))) = number_printable word n number
item_printable word fds (inr (front, back, (n, k, w, m, l, some, few, e))) =
    rw w (joined_printable front (42 ∷ back) (number_printable front n m) (number_printable back k l))

-- So are items.
pub items_printable : (words : List (List ℕ)) (fds : List ℕ) → AreItems words fds → words_printable words ≡ true
items_printable [] fds e = refl
items_printable (word ∷ words) fds (first, others, (item, items, e)) =
    both_true (item_printable word first item) (items_printable words others items)

-- So is the name of a type.
pub type_printable : (kind : SockType) → all_printable (type_name kind) ≡ true
type_printable Stream = refl
type_printable Seqpacket = refl
type_printable Dgram = refl

-- So is the name of ends.
pub how_printable : (ends : Shutdown) → all_printable (how_name ends) ≡ true
how_printable shutdown.Read = refl
how_printable shutdown.Write = refl
how_printable shutdown.Both = refl
