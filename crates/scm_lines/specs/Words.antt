-- Words, which spaces and tabs part. This project's profile.
use Rattle.std.specs.Prelude.{◌≡◌, ℕ, ◌==◌, ◌&&◌, ◌||◌, nat_le, List, [], ◌∷◌, Bool, true, false, if◌then◌else◌, Option, Some, None, not, position}
use Rattle.std.specs.Option.{option_map}

-- A space or a tab.
abbrev pub is_blank : ℕ → Bool
is_blank b = (b == 32) || (b == 9)

-- The bytes end here, or a blank comes.
abbrev pub ends_word : List ℕ → Bool
ends_word [] = true
ends_word (b ∷ bytes) = is_blank b

-- A byte before the first letter of the first word.
abbrev pub onto_word : ℕ → List (List ℕ) → List (List ℕ)
onto_word b [] = (b ∷ []) ∷ []
onto_word b (word ∷ words) = (b ∷ word) ∷ words

-- The words of a line, in order, with no blanks.
abbrev pub words_of : List ℕ → List (List ℕ)
words_of [] = []
words_of (b ∷ bytes) =
    if is_blank b then words_of bytes
    else if ends_word bytes then (b ∷ []) ∷ words_of bytes
    else onto_word b (words_of bytes)

-- No bytes, or a word at the front.
abbrev pub StartsWord : List ℕ → Type 0
StartsWord [] = Unit {0}
StartsWord (b ∷ bytes) = is_blank b ≡ false

-- The first word, and the words after it.
abbrev pub word_in : List (List ℕ) → Option (List ℕ × List (List ℕ))
word_in [] = None
word_in (word ∷ words) = Some (word, words)

-- A comment begins with this word.
abbrev pub begins_comment : List ℕ → Bool
begins_comment [] = false
begins_comment (b ∷ bytes) = b == 35

-- No word is left.
abbrev pub no_words : List (List ℕ) → Bool
no_words [] = true
no_words (word ∷ words) = false

-- The word, where there is just one.
abbrev pub only_of : List (List ℕ) → Option (List ℕ)
only_of [] = None
only_of (word ∷ words) = if no_words words then Some word else None

-- The meaning of a line if no word is left over.
abbrev pub at_end : {A : Type 0} → A → List (List ℕ) → Option A
at_end said words = if no_words words then Some said else None

-- A consequence of a reading, if there is one.
infixl 10 ◌>>=◌
abbrev pub ◌>>=◌ : {A B : Type 0} → Option A → (A → Option B) → Option B
None >>= next = None
(Some x) >>= next = next x

-- The reading of the first word, and the words after it.
abbrev pub word_as : {A : Type 0} → (List ℕ → Option A) → List (List ℕ) → Option (A × List (List ℕ))
word_as read [] = None
word_as read (word ∷ words) = option_map (λ found. (found, words)) (read word)

-- A byte from 0x20 to 0x7E, or a tab.
abbrev pub is_printable : ℕ → Bool
is_printable b = (nat_le 32 b && nat_le b 126) || (b == 9)

-- No byte but those from 0x20 to 0x7E and the tab.
abbrev pub all_printable : List ℕ → Bool
all_printable [] = true
all_printable (b ∷ bytes) = is_printable b && all_printable bytes

-- The position of the first byte that is not printable, if there is one.
abbrev pub unprintable_at : List ℕ → Option ℕ
unprintable_at = position (λ b. not (is_printable b))

-- The first word begins with #.
abbrev pub is_comment : List ℕ → Bool
is_comment [] = false
is_comment (b ∷ bytes) = if is_blank b then is_comment bytes else b == 35
