-- Texts that are made of pieces, one behind the other.
use Rattle.std.proofs.Common.{◌≡◌, ◌<◌, ◌+◌, ℕ, List, [], ◌∷◌, ◌++◌, length, take, get_or, sym, ap, ◌∙◌, append_assoc, append-nil}
use Rattle.std.specs.List.{flat_map}
use Rattle.std.proofs.lemmas.List.{take_more}
use Rattle.std.proofs.lemmas.Grind.{flat_map-append}

-- One piece more.
pub piece_more : {A : Type 0} (F : A → List ℕ) (xs : List A) (i : ℕ) (x : A) (old text new : List ℕ) → i < length xs → x ≡ get_or xs i x
    → text ≡ old ++ flat_map F (take i xs) → new ≡ text ++ F x → new ≡ old ++ flat_map F (take (i + 1) xs)
piece_more F xs i x old text new low is so more =
    more ∙ ap (λ t. t ++ F x) so ∙ append_assoc old (flat_map F (take i xs)) (F x)
    ∙ ap (λ t. old ++ t) (ap (λ t. flat_map F (take i xs) ++ t) (sym (append-nil (F x))) ∙ sym (flat_map-append F (take i xs) (x ∷ [])) ∙ ap (flat_map F) (sym (take_more xs i x low ∙ ap (λ y. take i xs ++ y ∷ []) (sym is))))

-- Two pieces, one behind the other.
pub both : (a b old mid new : List ℕ) → mid ≡ old ++ a → new ≡ mid ++ b → new ≡ old ++ (a ++ b)
both a b old mid new first then = then ∙ ap (λ t. t ++ b) first ∙ append_assoc old a b

-- Of the pieces that are left the first was taken.
pub piece_taken : {A : Type 0} (F : A → List ℕ) (x : A) (old rest : List A) (text more whole : List ℕ) → old ≡ x ∷ rest → more ≡ text ++ F x
    → text ++ flat_map F old ≡ whole → more ++ flat_map F rest ≡ whole
piece_taken F x old rest text more whole next is so =
    ap (λ t. t ++ flat_map F rest) is ∙ append_assoc text (F x) (flat_map F rest) ∙ ap (λ xs. text ++ flat_map F xs) (sym next) ∙ so

-- None is left.
pub none_left : {A : Type 0} (F : A → List ℕ) (left : List A) (text whole : List ℕ) → left ≡ [] → text ++ flat_map F left ≡ whole → text ≡ whole
none_left F left text whole none so = sym (append-nil text) ∙ ap (λ xs. text ++ flat_map F xs) (sym none) ∙ so
