-- A backlog.
use Rattle.std.specs.Prelude.{ℕ, List}

-- The embryos that wait to be accepted, in the order in which they came, and how many there may be
-- (listen(2), accept(2)).
pub record BacklogView : Type 0 where
  pub waiting : List ℕ
  pub most : ℕ
