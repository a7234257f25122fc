-- The keywords of the tables.
use Rattle.std.proofs.Common.{◌≡◌, ℕ, ◌≤◌, ◌==◌, ◌||◌, List, [], ◌∷◌, Bool, true, false, cond, find, map, not, length, get_or, nat_lt, Some, None, refl, sym, arith}
use Rattle.std.proofs.lemmas.Grind.{common_steps}
use Rattle.std.proofs.lemmas.Bool.Decides.{nat_tests}
use Rattle.std.specs.List.{list_any}
use Rattle.std.specs.Option.{option_map}
use Rattle.std.specs.Str.{bytes_eq}
use Rattle.scm_lines.specs.Words.{all_printable, begins_comment}
use Rattle.scm_lines.specs.Numbers.{word_number}
use Rattle.scm_lines.specs.Keywords.{meaning}
use Rattle.scm_lines.specs.Forms.{FormRow, keywords, line_row, row_named, verb_row, verbs}
use Rattle.scm_lines.specs.declared.keywords.Keyword.{Keyword}
use Rattle.scm_lines.specs.declared.keywords.Keyword.TheVariants as keyword
use Rattle.scm_lines.specs.declared.keywords.Verb.{Verb}
use Rattle.scm_lines.specs.declared.keywords.Verb.TheVariants as verb
use Rattle.scm_lines.proofs.FormLemmas.{keys_pass, no_key}

-- Each is found by its keyword: the second clause covers all others.
pub verb_found : (v : Verb) → row_named verb_row verbs (verb_row v).0 ≡ Some v
verb_found verb.Open = refl
verb_found other = refl

-- Each keyword is found by its name.
pub keyword_found : (k : Keyword) → row_named line_row keywords (line_row k).0 ≡ Some k
keyword_found keyword.Spawn = refl
keyword_found other = refl

-- Each keyword is printable.
pub verb_printable : (v : Verb) → all_printable (verb_row v).0 ≡ true
verb_printable verb.Open = refl
verb_printable other = refl

-- The name of each keyword is printable.
pub keyword_printable : (k : Keyword) → all_printable (line_row k).0 ≡ true
keyword_printable keyword.Spawn = refl
keyword_printable other = refl

-- No keyword is a number.
pub keyword_letters : (k : Keyword) → word_number (line_row k).0 ≡ None
keyword_letters keyword.Spawn = refl
keyword_letters other = refl

-- No keyword begins a comment.
pub keyword_plain : (k : Keyword) → begins_comment (line_row k).0 ≡ false
keyword_plain keyword.Spawn = refl
keyword_plain other = refl

-- A table that has each key with its word finds the key that the rows find.
pub meaning_named : {K A : Type 0} (row : K → FormRow A) (keys : List K) (word : List ℕ) → meaning (map (λ k. ((row k).0, k)) keys) word ≡ row_named row keys word
meaning_named row [] word = refl
meaning_named {K} row (key ∷ keys) word = by_test (bytes_eq (row key).0 word) (meaning_named row keys word)
  where
    by_test : (b : Bool) → meaning (map (λ k. ((row k).0, k)) keys) word ≡ row_named row keys word
        → option_map (λ (e : List ℕ × K). e.1) (cond b (Some ((row key).0, key)) (find (λ (e : List ℕ × K). bytes_eq e.0 word) (map (λ k. ((row k).0, k)) keys)))
        ≡ cond b (Some key) (row_named row keys word)
    by_test true later = refl
    by_test false later = later

-- Where all words of this length begin with one of these bytes, no other word of this length is
-- one.
pub no_other : {K A : Type 0} (row : K → FormRow A) (keys : List K) (n : ℕ) (firsts : List ℕ) → keys_pass (λ text. not (length text == n) || list_any (λ b. b == get_or text 0 0) firsts) row keys ≡ true → (word : List ℕ) → length word ≡ n → list_any (λ b. b == get_or word 0 0) firsts ≡ false → None ≡ row_named row keys word
no_other row keys n firsts pass word long other = sym (no_key (λ text. not (length text == n) || list_any (λ b. b == get_or text 0 0) firsts) row keys word pass (rw (long, other) (grind (arith, nat_tests))))

-- Where no word has ten or more, a longer word is none.
pub no_ten : {K A : Type 0} (row : K → FormRow A) (keys : List K)
    → keys_pass (λ text. nat_lt (length text) 10) row keys ≡ true → (word : List ℕ)
    → 10 ≤ length word → None ≡ row_named row keys word
no_ten row keys pass word long =
    sym (no_key (λ text. nat_lt (length text) 10) row keys word pass (grind (arith, common_steps)))
