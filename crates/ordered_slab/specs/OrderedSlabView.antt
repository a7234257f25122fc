-- Values under numbers that only rise. Definitions that name no manual page are this project's own.
use Rattle.std.specs.Prelude.{ℕ, refl}
use Rattle.std.specs.FinMap as map
use Rattle.std.specs.Coded.{Coded, code_by, coded×, coded_ℕ}
use Rattle.af_base.specs.World.{Map}

-- The value of each number, the last number that was used, and the room for more.
pub record OrderedSlabView (T : Type 0) : Type 0 where
  pub values : Map T
  pub last : ℕ
  pub room : ℕ

-- It is stored as the tuple of its fields.
abbrev pub numbered_code : {T : Type 0} → Coded T → Coded (OrderedSlabView T)
numbered_code {T} code =
    code_by
    (Map T × (ℕ × ℕ))
    (coded× (map.code coded_ℕ code) (coded× coded_ℕ coded_ℕ))
    (λ s. (s.values, (s.last, s.room)))
    (λ p. record { values = p.0; last = p.1.0; room = p.1.1 })
    (λ _. refl)

-- The same with another value under f.
abbrev pub with_value : {T : Type 0} → OrderedSlabView T → ℕ → T → OrderedSlabView T
with_value s f w = record s { values = map.insert s.values f w }
