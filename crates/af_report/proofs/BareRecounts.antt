-- A recount of the bare world is one of the whole world.
use Rattle.std.proofs.Common.{ℕ, List, sym, ◌∙◌}
use Rattle.af_base.specs.World.{World}
use Rattle.af_base.specs.Bare.{bare}
use Rattle.af_base.specs.Reached.{Garbage}
use Rattle.af_base.proofs.Bare.{charged-bare, garbage-bare, inflight-bare, refs-bare, total-bare}
use Rattle.af_plain.specs.Agreement.{AreRecounts}
use Rattle.af_plain.specs.Marking.{IsListOf}
use Rattle.af_plain.specs.declared.agreement.Kept.{Kept}

-- The recounts of a world are those of the bare one.
pub recounts-bare : (w : World) (k : Kept) → AreRecounts w k → AreRecounts (bare w) k
recounts-bare w k r = record {
  files = λ i d low. let at = r.files i d low in (at.0 ∙ sym (refs-bare w _), at.1 ∙ sym (inflight-bare w _));
  users = λ i d low. r.users i d low ∙ sym (charged-bare w _);
  total = r.total ∙ sym (total-bare w);
}

-- The garbage of the bare world is that of the whole one.
pub garbage-listed : (w : World) (xs : List ℕ) → IsListOf (Garbage (bare w)) xs → IsListOf (Garbage w) xs
garbage-listed w xs (rising, has) = (rising, λ f. (λ h. (garbage-bare w f).0 ((has f).0 h), λ g. (has f).1 ((garbage-bare w f).1 g)))
