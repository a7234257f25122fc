-- Bytes that are printed as themselves.
use Rattle.std.proofs.Common.{◌≡◌, ℕ, true, List, [], ◌∷◌, refl, ap}
use Rattle.std.proofs.lemmas.Bool.{and_parts}
use Rattle.std.specs.List.{flat_map}
use Rattle.af_base.specs.Names.{is_name_byte}
use Rattle.af_report.specs.Texts.{escaped}
use Rattle.scm_run.specs.Text.{all_plain}

-- The text of plain bytes is the bytes.
pub plain-escaped : (bytes : List ℕ) → all_plain bytes ≡ true → flat_map escaped bytes ≡ bytes
plain-escaped [] h = refl
plain-escaped (b ∷ bytes) h =
    let (one, others) = and_parts (is_name_byte b) (all_plain bytes) h in
    rw one (ap (λ l. b ∷ l) (plain-escaped bytes others))
