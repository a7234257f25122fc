-- The files that a file holds, one after the other.
use Rattle.std.proofs.Common.{◌≡◌, ◌+◌, ◌<◌, ◌≤◌, ℕ, List, [], ◌∷◌, ◌++◌, zero, suc, drop, length, take_all, refl, sym, ap, ◌∙◌, arith}
use Rattle.std.specs.Prelude.{None, Some, slice_get, take}
use Rattle.std.specs.Option.{option_map_or}
use Rattle.std.proofs.Math.Seq.{drop-nil}
use Rattle.std.proofs.lemmas.List.{append-nil, drop-drop, length-drop, length-take, take-append-drop}
use Rattle.af_base.specs.Places.{attached_in}
use Rattle.af_base.specs.World.{Message}
use Rattle.af_base.proofs.Lookups.{none_some, some_same}
use Rattle.af_mark.specs.MarksView.{MarksView}
use Rattle.af_collect.specs.Keeping.{shaded_all}
use Rattle.af_collect.proofs.ShadedMarks.{shaded_append}
use Rattle.af_queue.specs.declared.queue.TheConstants.{BATCH}

-- One after the next.
one_more : (i : ℕ) → suc i + 1 ≡ suc (i + 1)
one_more i = omega arith

-- The rest of a list is its first element, if it has one, and then the rest.
pub rest_next : {X : Type 0} (xs : List X) (i : ℕ) → drop i xs ≡ take 1 (drop i xs) ++ drop (i + 1) xs
rest_next [] zero = refl
rest_next [] (suc i) = sym (drop-nil (suc i + 1))
rest_next (x ∷ xs) zero = refl
rest_next (x ∷ xs) (suc i) = rest_next xs i ∙ ap (λ n. take 1 (drop i xs) ++ drop n (x ∷ xs)) (sym (one_more i))

-- The element at a position is the first of the rest.
pub first_left : {X : Type 0} (xs : List X) (i : ℕ) (x : X) → slice_get xs i ≡ Some x → take 1 (drop i xs) ≡ x ∷ []
first_left [] i x e = absurd (none_some x e)
first_left (y ∷ xs) zero x e = ap (λ z. z ∷ []) (some_same y x e)
first_left (y ∷ xs) (suc i) x e = first_left xs i x e

-- At the end nothing is left.
pub none_left : {X : Type 0} (xs : List X) (i : ℕ) → slice_get xs i ≡ None → take 1 (drop i xs) ≡ []
none_left [] zero e = refl
none_left [] (suc i) e = refl
none_left (y ∷ xs) zero e = absurd (none_some y (sym e))
none_left (y ∷ xs) (suc i) e = none_left xs i e

-- Files that are marked some at a time.
module _ (all : List ℕ) (from : ℕ) (m : MarksView) where
  -- This many of them, and then those behind them.
  pub shaded_on : shaded_all (drop (from + BATCH) all) (shaded_all (take BATCH (drop from all)) m) ≡ shaded_all (drop from all) m
  shaded_on =
      ap (λ xs. shaded_all xs (shaded_all (take BATCH (drop from all)) m)) (ap (λ n. drop n all) (omega arith) ∙ sym (drop-drop BATCH from all))
      ∙ sym (shaded_append (take BATCH (drop from all)) (drop BATCH (drop from all)) m)
      ∙ ap (λ xs. shaded_all xs m) (take-append-drop BATCH (drop from all))

  -- There are as many of them as reported.
  pub shaded_within : BATCH ≤ length (take BATCH (drop from all)) → from ≤ length all → from + BATCH ≤ length all
  shaded_within full within = omega (arith, full, within, length-take BATCH (drop from all), length-drop from all)

  -- Where they are fewer, they are the last.
  pub shaded_last : length (take BATCH (drop from all)) < BATCH → shaded_all (take BATCH (drop from all)) m ≡ shaded_all (drop from all) m
  shaded_last few = ap (λ xs. shaded_all xs m) (take_all BATCH (drop from all) (omega (arith, few, length-take BATCH (drop from all))))

-- The files attached to the first message.
pub carried_first : (q : List Message) → option_map_or (λ m. m.attached) (slice_get q 0) [] ≡ attached_in (take 1 q)
carried_first [] = refl
carried_first (m ∷ q) = sym (append-nil m.attached)

-- One message carries at most as many as all together.
pub carried_one : (q : List Message) → length q ≤ 1 → option_map_or (λ m. m.attached) (slice_get q 0) [] ≡ attached_in q
carried_one q few = carried_first q ∙ ap attached_in (take_all 1 q few)
