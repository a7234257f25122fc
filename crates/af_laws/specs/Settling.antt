-- Laws of settling: unheld files are freed.
use Rattle.std.specs.Prelude.{◌≡◌, ◌⊎◌, ◌↔◌, ℕ, Bool, true, nat_eq}
use Rattle.af_base.specs.World.{World, IsLive}
use Rattle.af_base.specs.Places.{InTable, Holds}
use Rattle.af_base.specs.Unheld.{Unheld, Settles, IsSettled, without}

-- Settling has at most one outcome.
abbrev pub SettlesToOne : Type 0
SettlesToOne = (w a b : World) → Settles w a → Settles w b → a ≡ b

-- Settling has an outcome.
abbrev pub SettlesToSome : Type 0
SettlesToSome = (w : World) → (new : World) × Settles w new

-- A settled world settles to itself, and to nothing else.
abbrev pub SettledStays : Type 0
SettledStays = (w new : World) → IsSettled w → Settles w new ↔ (new ≡ w)

-- The settled world is settled.
abbrev pub SettlingSettles : Type 0
SettlingSettles = (w v : World) → Settles w v → IsSettled v

-- To settle twice is to settle once.
abbrev pub SettlingTwiceIsOnce : Type 0
SettlingTwiceIsOnce = (w v new : World) → Settles w v → Settles v new ↔ (new ≡ v)

-- Some place holds the file.
abbrev pub IsHeld : World → ℕ → Type 0
IsHeld w f = InTable w f ⊎ ((s : ℕ) × Holds w s f)

-- Where some place holds each live file, nothing is to be freed.
abbrev pub HeldWorldIsSettled : Type 0
HeldWorldIsSettled = (w : World) → ((f : ℕ) → IsLive w f → IsHeld w f) → IsSettled w

-- Settling never frees files that hold one another: of any files of which each is held by one of
-- them, none is unheld.
abbrev pub CyclesStay : Type 0
CyclesStay = (w : World) (cycle : ℕ → Bool)
    → ((f : ℕ) → cycle f ≡ true → (s : ℕ) × (cycle s ≡ true) × Holds w s f)
    → (f : ℕ) → cycle f ≡ true → ¬ (Unheld w f)

-- A live file that no place holds is unheld.
abbrev pub UnplacedIsUnheld : Type 0
UnplacedIsUnheld = (w : World) (f : ℕ) → IsLive w f → ¬ (IsHeld w f) → Unheld w f

-- To free first a live file that no place holds leaves the outcome of settling as it was.
abbrev pub UnplacedGoesFirst : Type 0
UnplacedGoesFirst = (w new : World) (f : ℕ) → IsLive w f → ¬ (IsHeld w f)
    → Settles w new ↔ Settles (without (nat_eq f) w) new
