-- Bytes in front of the meaning of the rest of a word.
use Rattle.std.proofs.Common.{◌≡◌, ℕ, List, [], ◌∷◌, ◌++◌, Option, Some, None, refl, sym, ap, append_assoc}
use Rattle.scm_lines.specs.Payload.{byte_before}

-- These bytes, and then those of the rest.
abbrev pub bytes_before : List ℕ → Option (List ℕ) → Option (List ℕ)
bytes_before front None = None
bytes_before front (Some bytes) = Some (front ++ bytes)

-- A byte before the rest may as well end what is in front.
pub bytes_before_more : (front : List ℕ) (b : ℕ) (rest : Option (List ℕ)) → bytes_before front (byte_before (Some b) rest) ≡ bytes_before (front ++ b ∷ []) rest
bytes_before_more front b None = refl
bytes_before_more front b (Some bytes) = ap Some (sym (append_assoc front (b ∷ []) bytes))
