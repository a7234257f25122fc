-- Logs that were taken one after the other, put together.
use Rattle.std.proofs.Common.{◌≡◌, ◌≤◌, ◌∷◌, ◌++◌, Bool, true, false, if◌then◌else◌, ℕ, List, [], map, ap, refl, sym, subst, ◌∙◌}
use Rattle.std.specs.Prelude.{nat_eq}
use Rattle.std.proofs.lemmas.List.Elements.{All-append, All-nil}
use Rattle.std.proofs.lemmas.List.{map-append}
use Rattle.af_base.specs.declared.limits.TheConstants.{MAX_SEATS}
use Rattle.af_base.specs.Pass.{Machine}
use Rattle.af_base.specs.Run.{Run}
use Rattle.af_base.proofs.Runs.{run-append}
use Rattle.af_layer.specs.Log.{Entry, IsLegalFrom, Pair, of_seat, pair_of}
use Rattle.af_layer.specs.Taken.{TakenLogsAreOne, TakenPartsAreOne, put_together}

-- A log that is empty is legal from its machine on.
pub legal-empty : (a : Machine) (n : ℕ) → 1 ≤ n → n ≤ MAX_SEATS → IsLegalFrom a n a []
legal-empty a n some few = record { some_seat = some; few_seats = few; of_seats = All-nil (λ e. (1 ≤ e.seat) × (e.seat ≤ n)); run = refl }

-- Two legal logs, one after the other, are one.
pub legal-append : (a b c : Machine) (n : ℕ) (xs ys : List Entry) → IsLegalFrom a n b xs → IsLegalFrom b n c ys → IsLegalFrom a n c (xs ++ ys)
legal-append a b c n xs ys first second = record {
  some_seat = first.some_seat;
  few_seats = first.few_seats;
  of_seats = All-append (λ e. (1 ≤ e.seat) × (e.seat ≤ n)) xs ys first.of_seats second.of_seats;
  run = subst (λ l. Run a l c) (sym (map-append pair_of xs ys)) (run-append a b c (map pair_of xs) (map pair_of ys) first.run second.run);
}

-- So are all logs that follow one another.
pub taken_logs_are_one : TakenLogsAreOne
taken_logs_are_one a c n [] some few same = subst (λ m. IsLegalFrom a n m []) same (legal-empty a n some few)
taken_logs_are_one a c n (log ∷ logs) some few follow =
    legal-append a follow.0 c n log (put_together logs) follow.1 (taken_logs_are_one follow.0 c n logs some few follow.2)

-- A seat's part of two logs, one after the other, is its two parts.
pub part-append : (k : ℕ) (xs ys : List Entry) → of_seat k (xs ++ ys) ≡ of_seat k xs ++ of_seat k ys
part-append k [] ys = refl
part-append k (e ∷ xs) ys = by (nat_eq e.seat k) (part-append k xs ys) where
  by : (b : Bool) → of_seat k (xs ++ ys) ≡ of_seat k xs ++ of_seat k ys → (if b then pair_of e ∷ of_seat k (xs ++ ys) else of_seat k (xs ++ ys)) ≡ (if b then pair_of e ∷ of_seat k xs else of_seat k xs) ++ of_seat k ys
  by true rest = ap (λ (l : List Pair). pair_of e ∷ l) rest
  by false rest = rest

-- So it is with all logs.
pub taken_parts_are_one : TakenPartsAreOne
taken_parts_are_one k [] = refl
taken_parts_are_one k (log ∷ logs) = part-append k log (put_together logs) ∙ ap (λ (l : List Pair). of_seat k log ++ l) (taken_parts_are_one k logs)
