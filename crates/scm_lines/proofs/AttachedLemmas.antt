-- Items in front of the meaning of the other words.
use Rattle.std.proofs.Common.{◌≡◌, ℕ, ◌<◌, List, ◌∷◌, ◌++◌, length, Option, Some, None, refl, sym, ap, append_assoc, length-append, arith}
use Rattle.std.proofs.lemmas.Grind.{common_steps}
use Rattle.scm_lines.specs.Payload.{at_most}
use Rattle.scm_lines.specs.Attached.{item_of, items_of, joined_items}

-- These items, and then those of the other words.
abbrev pub items_before : List ℕ → Option (List ℕ) → Option (List ℕ)
items_before front None = None
items_before front (Some items) = Some (front ++ items)

-- One more item.
pub items_before_more : (front : List ℕ) (word : List ℕ) (words : List (List ℕ)) (item : List ℕ) → item_of word ≡ Some item
    → items_before front (items_of (word ∷ words)) ≡ items_before (front ++ item) (items_of words)
items_before_more front word words item h = rw h (by_rest (items_of words))
  where
    by_rest : (rest : Option (List ℕ)) → items_before front (joined_items (Some item) rest) ≡ items_before (front ++ item) rest
    by_rest None = refl
    by_rest (Some items) = ap Some (sym (append_assoc front item items))

-- Too many items.
pub items_before_over : (front : List ℕ) (rest : Option (List ℕ)) → 1024 < length front → at_most 1024 (items_before front rest) ≡ None
items_before_over front None h = refl
items_before_over front (Some items) h = grind (arith, common_steps, length-append)
