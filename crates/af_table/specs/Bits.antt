-- Bits in words of 64. Definitions that name no manual page are of this project's profile
-- (docs/PROFILE.md).
use Rattle.std.specs.Prelude.{◌≡◌, ℕ, ◌/◌, ◌%◌, ◌≤◌, ◌<◌, Bool, not, List, slice_index, nat_eq}
use Rattle.std.specs.Int.{bit_at}

-- Whether the bit n of a word is set.
abbrev pub is_set : ℕ → ℕ → Bool
is_set word n = nat_eq (bit_at word n) 1

-- Whether the number n is marked as taken.
abbrev pub is_taken : List ℕ → ℕ → Bool
is_taken words n = is_set (slice_index words (n / 64)) (n % 64)

-- n is the least position of a word from k on whose bit is as wanted.
pub record IsPlace (word k : ℕ) (b : Bool) (n : ℕ) : Type 0 where
  pub found : is_set word n ≡ b
  pub low : n < 64
  pub reached : k ≤ n
  pub least : (q : ℕ) → k ≤ q → q < n → is_set word q ≡ not b

-- No position of a word from k on has a bit as wanted.
abbrev pub HasNoPlace : ℕ → ℕ → Bool → Type 0
HasNoPlace word k b = (q : ℕ) → k ≤ q → q < 64 → is_set word q ≡ not b
