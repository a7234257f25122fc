-- A list that is made item by item.
use Rattle.std.proofs.Common.{◌≡◌, List, [], ◌∷◌, ◌++◌, map, sym, ap, ◌∙◌, append_assoc, append-nil}
use Rattle.std.proofs.lemmas.List.{map-append}

module _ {A B C : Type 0} (f : A → B) (g : C → B) where
  -- One item more, for the first that was left.
  pub made_more : (xs : List A) (x : A) (c : C) (cs : List C) (all : List B) → f x ≡ g c → map f xs ++ map g (c ∷ cs) ≡ all → map f (xs ++ x ∷ []) ++ map g cs ≡ all
  made_more xs x c cs all same so_far =
      ap (λ ys. ys ++ map g cs) (map-append f xs (x ∷ []))
      ∙ append_assoc (map f xs) (f x ∷ []) (map g cs)
      ∙ ap (λ y. map f xs ++ y ∷ map g cs) same
      ∙ so_far

  -- Nothing is left.
  pub made_all : (xs : List A) (cs : List C) (all : List B) → cs ≡ [] → map f xs ++ map g cs ≡ all → map f xs ≡ all
  made_all xs cs all none so_far = sym (append-nil (map f xs)) ∙ ap (λ ds. map f xs ++ map g ds) (sym none) ∙ so_far
