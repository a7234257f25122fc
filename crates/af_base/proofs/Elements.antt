-- Membership in lists.
use Rattle.std.proofs.Common.{◌≡◌, ◌<◌, ℕ, zero, suc, List, [], ◌∷◌, length, refl, arith}
use Rattle.std.specs.List.{Contains, slice_index_or}

module _ {X : Type 0} where
  -- An element of a list that begins with another element is in the rest.
  pub Contains-rest : (x : X) (xs : List X) (y : X) → Contains (x ∷ xs) y → ¬ (x ≡ y) → Contains xs y
  Contains-rest x xs y h n = at h.0 h.1 h.2 where
    at : (k : ℕ) → k < length (x ∷ xs) → slice_index_or (x ∷ xs) k y ≡ y → Contains xs y
    at zero l e = absurd (n e)
    at (suc k) l e = (k, omega (arith, l), e)

  -- The first of a list is in it.
  pub Contains-first : (x : X) (xs : List X) → Contains (x ∷ xs) x
  Contains-first x xs = (0, omega arith, refl)

  -- An element of the rest of a list is in the list.
  pub Contains-later : (x : X) (xs : List X) (y : X) → Contains xs y → Contains (x ∷ xs) y
  Contains-later x xs y h = (suc h.0, omega (arith, h.1), h.2)

  -- Nothing is in an empty list.
  pub Contains-none : (x : X) → ¬ (Contains [] x)
  Contains-none x h = omega (arith, h.1)
