-- With nothing in flight and no pending embryo, each file is in some table.
use Rattle.std.proofs.Common.{◌≡◌, ℕ, inl, inr, arith}
use Rattle.std.proofs.lemmas.Bool.{cases_lt}
use Rattle.af_base.specs.World.{IsLive, World}
use Rattle.af_base.specs.Counts.{refs, tabled, total, waiting}
use Rattle.af_base.specs.Places.{InTable}
use Rattle.af_base.specs.Unheld.{Goes, IsSettled}
use Rattle.af_base.proofs.CountSums.{inflight-total, refs-add_up}
use Rattle.af_base.proofs.PlacesAndCounts.{InTable-tabled, held_by_none}

-- Where nothing is in flight and no embryo waits, a table holds each file of a settled world: so
-- nothing is garbage.
pub all_tabled : (w : World) → IsSettled w → total w ≡ 0 → ((f : ℕ) → waiting w f ≡ 0) → (f : ℕ) → IsLive w f → InTable w f
all_tabled w settled none nobody f l = elim (cases_lt 0 (tabled w f)) [
  | inl some ↦ InTable-tabled w f some
  | inr untabled ↦
      let bare : refs w f ≡ 0 = omega (arith, refs-add_up w f, inflight-total w f, none, nobody f, untabled) in
      let held = held_by_none w f bare in
      absurd (settled f (Goes f l held.0 (λ s h. absurd (held.1 s h))))
]
