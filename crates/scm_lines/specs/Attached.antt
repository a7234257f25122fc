-- The descriptors that go with a message, as words list them. This project's profile.
use Rattle.std.specs.Prelude.{ℕ, ◌+◌, ◌==◌, ◌&&◌, nat_le, List, [], ◌∷◌, ◌++◌, take, drop, replicate, if◌then◌else◌, Option, Some, None, position, option_and_then}
use Rattle.std.specs.Option.{option_map}
use Rattle.scm_lines.specs.Numbers.{word_number}
use Rattle.scm_lines.specs.Payload.{at_most}

-- N, k times, for k from 1 to 1024.
abbrev pub copies_of : ℕ → ℕ → Option (List ℕ)
copies_of n k = if nat_le 1 k && nat_le k 1024 then Some (replicate k n) else None

-- The meaning of an item whose first * is here, or nowhere.
abbrev pub item_at : List ℕ → Option ℕ → Option (List ℕ)
item_at word None = option_map (λ n. n ∷ []) (word_number word)
item_at word (Some i) = option_and_then (λ n. option_and_then (λ k. copies_of n k)
    (word_number (drop (i + 1) word))) (word_number (take i word))

-- The meaning of an item: a number, or a number, * and how many copies of it.
abbrev pub item_of : List ℕ → Option (List ℕ)
item_of word = item_at word (position (λ b. b == 42) word)

-- The meaning of an item and the items after it.
abbrev pub joined_items : Option (List ℕ) → Option (List ℕ) → Option (List ℕ)
joined_items None rest = None
joined_items (Some item) None = None
joined_items (Some item) (Some items) = Some (item ++ items)

-- The meaning of all items.
abbrev pub items_of : List (List ℕ) → Option (List ℕ)
items_of [] = Some []
items_of (word ∷ words) = joined_items (item_of word) (items_of words)

-- The descriptors of all items, at most 1024.
abbrev pub attached_of : List (List ℕ) → Option (List ℕ)
attached_of words = at_most 1024 (items_of words)
