-- Settled worlds, and the places of live files.
use Rattle.std.proofs.Common.{◌≡◌, ◌<◌, ℕ, inl, inr, nat_eq, arith}
use Rattle.std.proofs.lemmas.Bool.{cases_lt}
use Rattle.af_base.specs.World.{IsLive, World}
use Rattle.af_base.specs.Counts.{refs}
use Rattle.af_base.specs.Unheld.{Goes, IsSettled, Settles, without}
use Rattle.af_base.proofs.PlacesAndCounts.{held_by_none, held_by_some}
use Rattle.af_base.proofs.SettledWorlds.{settled_by, settles_first}

-- In a settled world each live file has a place.
pub settled-held : (w : World) (f : ℕ) → IsSettled w → IsLive w f → 0 < refs w f
settled-held w f s l = elim (cases_lt 0 (refs w f)) [
  | inl y ↦ y
  | inr y ↦
      let none = held_by_none w f (omega (arith, y)) in
      absurd (s f (Goes f l none.0 (λ q h. absurd (none.1 q h))))
]

-- Nothing is to be freed where each live file has a place.
pub settled-counted : (w : World) → ((f : ℕ) → IsLive w f → 0 < refs w f) → IsSettled w
settled-counted w h = settled_by w (λ f l. held_by_some w f (h f l))

-- Freeing an unheld live file first and settling the rest equals settling the whole.
pub settles-without : (w : World) (f : ℕ) → IsLive w f → refs w f ≡ 0 → (new : World) → Settles (without (nat_eq f) w) new → Settles w new
settles-without w f l z new = let none = held_by_none w f z in settles_first w f l none.0 none.1 new
