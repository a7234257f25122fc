-- A log grows by one entry as its machine makes one step.
use Rattle.std.proofs.Common.{◌≡◌, ◌≤◌, ℕ, List, [], ◌∷◌, ◌++◌, map, sym, subst}
use Rattle.std.proofs.lemmas.List.Elements.{All-push}
use Rattle.std.proofs.lemmas.List.{map-append}
use Rattle.af_base.specs.Pass.{Machine}
use Rattle.af_base.specs.Run.{Run, Step}
use Rattle.af_base.proofs.Runs.{run-push}
use Rattle.af_layer.specs.Log.{Entry, IsLegalFrom, pair_of}

-- An entry whose event and reply are one step is appended.
pub logged : (n : ℕ) (a b c : Machine) (log room more : List Entry) (e : Entry) → room ≡ log → more ≡ room ++ e ∷ [] → 1 ≤ e.seat → e.seat ≤ n → IsLegalFrom a n b log → Step b e.event e.reply c → IsLegalFrom a n c more
logged n a b c log room more e same is low high legal step =
    subst (λ l. IsLegalFrom a n c l) (sym is) (subst (λ l. IsLegalFrom a n c (l ++ e ∷ [])) (sym same) (record {
      some_seat = legal.some_seat;
      few_seats = legal.few_seats;
      of_seats = All-push (λ x. (1 ≤ x.seat) × (x.seat ≤ n)) log e legal.of_seats (low, high);
      run = subst (λ l. Run a l c) (sym (map-append pair_of log (e ∷ []))) (run-push a b c (map pair_of log) e.event e.reply legal.run step);
    }))
