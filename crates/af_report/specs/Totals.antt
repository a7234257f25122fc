-- The text of totals: a line for each user. Definitions that name no manual page are of this
-- project's profile (docs/PROFILE.md).
use Rattle.std.specs.Prelude.{ℕ, List, [], ◌∷◌, ◌++◌, codes}
use Rattle.std.specs.List.{flat_map}
use Rattle.std.specs.Fmt.{decimal}
use Rattle.af_base.specs.Counts.{charged}
use Rattle.af_base.specs.World.{World}

-- The line of a user: how many queue places are charged to it.
abbrev pub user_line : ℕ → ℕ → List ℕ
user_line u n = codes "user " ++ decimal u ++ codes " inflight " ++ decimal n ++ 10 ∷ []

-- The line of each user, in the order of their first process.
abbrev pub totals_text : World → List ℕ
totals_text w = flat_map (λ u. user_line u (charged w u)) w.users
