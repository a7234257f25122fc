-- Words that are found from their front.
use Rattle.std.proofs.Common.{◌≡◌, ℕ, List, [], ◌∷◌, ◌++◌, Bool, true, false, cond, refl, sym, ap, append_assoc}
use Rattle.scm_lines.specs.Words.{is_blank, ends_word, onto_word, words_of}

-- The front of a word before the words of the rest.
abbrev pub front_of_word : List ℕ → List (List ℕ) → List (List ℕ)
front_of_word front [] = front ∷ []
front_of_word front (word ∷ words) = (front ++ word) ∷ words

-- The words where a word has begun with this front.
abbrev pub words_after : List ℕ → List ℕ → List (List ℕ)
words_after front rest = cond (ends_word rest) (front ∷ words_of rest) (front_of_word front (words_of rest))

-- A byte onto the first word may as well end what is in front.
front-onto : (front : List ℕ) (b : ℕ) (words : List (List ℕ)) → front_of_word front (onto_word b words) ≡ front_of_word (front ++ b ∷ []) words
front-onto front b [] = refl
front-onto front b (word ∷ words) = ap (λ w. w ∷ words) (sym (append_assoc front (b ∷ []) word))

-- A byte that is no blank belongs to the word in front.
pub words_after-more : (front : List ℕ) (b : ℕ) (rest : List ℕ) → is_blank b ≡ false → words_after front (b ∷ rest) ≡ words_after (front ++ b ∷ []) rest
words_after-more front b [] h = rw h refl
words_after-more front b (c ∷ rest) h = rw h (by_end (is_blank c))
  where
    by_end : (ends : Bool) → front_of_word front (cond ends ((b ∷ []) ∷ words_of (c ∷ rest)) (onto_word b (words_of (c ∷ rest))))
        ≡ cond ends ((front ++ b ∷ []) ∷ words_of (c ∷ rest)) (front_of_word (front ++ b ∷ []) (words_of (c ∷ rest)))
    by_end true = refl
    by_end false = front-onto front b (words_of (c ∷ rest))
