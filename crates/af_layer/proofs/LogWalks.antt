-- One entry of a walk over a log, and its end.
use Rattle.std.proofs.Common.{◌≡◌, true, not, ◌<◌, ◌+◌, ℕ, suc, List, [], ◌∷◌, length, drop, inl, inr, slice_index, slice_index_or, slice_set, get_or, drop-cons, refl, sym, ap, ◌∙◌, subst, arith, length-drop}
use Rattle.std.specs.Prelude.{Option, Some, None, nat_eq}
use Rattle.std.specs.Option.{option_eq}
use Rattle.std.proofs.lemmas.Bool.{cases_eq}
use Rattle.std.proofs.lemmas.List.{get_or-set_other, get_or-set_same}
use Rattle.af_base.proofs.Lookups.{none_some}
use Rattle.af_layer.specs.Audit.{list_at}
use Rattle.af_layer.specs.Log.{Entry, Pair, of_seat}
use Rattle.af_layer.specs.Seats.{SeatView}
use Rattle.af_layer.specs.Walk.{AllTrack, Tracks}

-- The part of another seat does not have it.
of-other : (e : Entry) (log : List Entry) (k : ℕ) → (e.seat ≡ k → ⊥) → of_seat k (e ∷ log) ≡ of_seat k log
of-other e log k apart = grind arith

module _ (log : List Entry) (list : List Pair) (e : Entry) (i : ℕ) (turn : drop i log ≡ e ∷ drop (i + 1) log) where
  -- The cursor of another seat stays.
  pub tracks-other : (k : ℕ) (c : Option ℕ) → (e.seat ≡ k → ⊥) → Tracks log list k i c → Tracks log list k (i + 1) c
  tracks-other k None apart t = t
  tracks-other k (Some c) apart t =
      let same : of_seat k (drop i log) ≡ of_seat k (drop (i + 1) log) = ap (of_seat k) turn ∙ of-other e (drop (i + 1) log) k apart in
      (t.0, (λ whole. t.1.0 whole ∙ same, λ rest. t.1.1 (rest ∙ sym same)))

-- At the end of a log nothing is left of it.
none_left : (log : List Entry) (k : ℕ) → of_seat k (drop (length log) log) ≡ []
none_left [] k = refl
none_left (e ∷ log) k = none_left log k

-- No cursor there: it is another.
pub tracks-wrong : (log : List Entry) (list : List Pair) (k : ℕ) (c : Option ℕ) → (c ≡ Some (length list) → ⊥) → Tracks log list k (length log) c → list ≡ of_seat k log → ⊥
tracks-wrong log list k None apart t whole = t whole
tracks-wrong log list k (Some c) apart t whole =
    let none : drop c list ≡ [] = t.1.0 whole ∙ none_left log k in
    let len : length (drop c list) ≡ 0 = ap length none in
    let end : c ≡ length list = omega (arith, length-drop c list, len, t.0) in
    apart (ap Some end)

-- A cursor that differs from a position is another.
pub another : (c : Option ℕ) (n : ℕ) → true ≡ not (option_eq nat_eq c (Some n)) → c ≡ Some n → ⊥
another None n told same = none_some n same
another (Some m) n told same = grind (arith, told, same)

-- Each cursor at the begin of its list.
pub tracks-start : (log : List Entry) (list : List Pair) (k : ℕ) → Tracks log list k 0 (Some 0)
tracks-start log list k = (omega arith, (λ whole. whole, λ whole. whole))

-- The entry at a position is the first that is left there.
pub entry-at : (log : List Entry) (i : ℕ) (e : Entry) → i < length log → e ≡ get_or log i e → drop i log ≡ e ∷ drop (i + 1) log
entry-at log i e here is = let next : suc i ≡ i + 1 = omega arith in drop-cons log i e here ∙ (λ j. sym is j ∷ drop (next j) log)

module _ (log : List Entry) (seats : List SeatView) (positions : List ℕ) (cursors : List (Option ℕ)) (i : ℕ) where
  -- One entry moves the cursor of its seat alone.
  pub tracks-next : (e : Entry) (r : Option ℕ) → drop i log ≡ e ∷ drop (i + 1) log → e.seat < length cursors → AllTrack log seats positions i cursors
      → Tracks log (list_at seats (slice_index positions e.seat)) e.seat (i + 1) r → AllTrack log seats positions (i + 1) (slice_set cursors e.seat r)
  tracks-next e r turn fits all mine k lt = elim (cases_eq k e.seat) [
    | inl same ↦ subst (λ n. Tracks log (list_at seats (slice_index positions n)) n (i + 1) (slice_index_or (slice_set cursors e.seat r) n None)) (sym same)
        (subst (Tracks log (list_at seats (slice_index positions e.seat)) e.seat (i + 1)) (sym (get_or-set_same cursors e.seat r None fits)) mine)
    | inr other ↦ subst (Tracks log (list_at seats (slice_index positions k)) k (i + 1)) (sym (get_or-set_other cursors e.seat k r None other))
        (tracks-other log (list_at seats (slice_index positions k)) e i turn k (slice_index_or cursors k None) (λ same. other (sym same)) (all k lt))
  ]
