-- A walk that tests each item and stops at the first that fails.
use Rattle.std.proofs.Common.{◌≡◌, ◌<◌, ◌≤◌, ℕ, ◌+◌, Bool, true, false, List, length, take, get_or, refl, sym, ◌∙◌, subst}
use Rattle.std.specs.Prelude.{IsTrue, ◌↔◌}
use Rattle.std.specs.List.{All}
use Rattle.std.proofs.lemmas.Bool.{false≢true}
use Rattle.std.proofs.lemmas.List.{take_all}
use Rattle.std.proofs.lemmas.List.Elements.{All-get_or, All-more}

module _ {X : Type 0} (P : X → Type 0) (xs : List X) (i : ℕ) where
  -- The item x at position i passes.
  pub one_more : (x : X) (b : Bool) → i < length xs → x ≡ get_or xs i x → b ≡ true → IsTrue b ↔ P x → All P (take i xs) → All P (take (i + 1) xs)
  one_more x b l is passed says so_far = All-more P xs i x l so_far (subst P is (says.0 passed))

  -- It fails.
  pub one_fails : (x : X) (b : Bool) → i < length xs → x ≡ get_or xs i x → b ≡ false → IsTrue b ↔ P x → IsTrue false ↔ All P xs
  one_fails x b l is failed says = (λ e. absurd (false≢true e), λ all. sym failed ∙ says.1 (subst P (sym is) (All-get_or P xs i x l all)))

  -- None failed.
  pub none_fails : length xs ≤ i → All P (take i xs) → IsTrue true ↔ All P xs
  none_fails end so_far = (λ e. subst (All P) (take_all i xs end) so_far, λ all. refl)
