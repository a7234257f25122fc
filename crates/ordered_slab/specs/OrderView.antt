-- Numbers that only rise. Definitions that name no manual page are this project's own.
use Rattle.std.specs.Prelude.{ℕ, List}

-- A row of the order: a number, and the key of its value.
pub record OrderRowView : Type 0 where
  pub ino : ℕ
  pub key : ℕ

-- The rows, the last number that there was, and for how many more there is room.
pub record OrderView : Type 0 where
  pub rows : List OrderRowView
  pub last : ℕ
  pub room : ℕ
