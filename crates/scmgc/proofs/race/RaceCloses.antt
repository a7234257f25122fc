-- The closing of a layer, for a race.
use Rattle.std.proofs.Common.{◌≡◌, ◌<◌, ◌≤◌, ◌+◌, ◌++◌, ℕ, zero, suc, true, List, [], ◌∷◌, ap, append-nil, arith, length, refl, sym, ◌∙◌, subst, slice_index_or, take}
use Rattle.std.proofs.lemmas.Grind.{flat_map-append}
use Rattle.std.proofs.lemmas.List.{take_more}
use Rattle.af_base.specs.declared.events.Event.{Event}
use Rattle.af_layer.specs.Audit.{IsWholeBook, list_at, nobody, number_at}
use Rattle.af_layer.specs.Calls.{is_seat}
use Rattle.af_layer.specs.Drive.{WentOn, events_of}
use Rattle.af_layer.specs.Log.{BookView, Entry, Pair, of_seat}
use Rattle.af_layer.specs.Seats.{SeatView}
use Rattle.af_layer.proofs.SeatPositions.{known_number}
use Rattle.scmgc.specs.Race.{all_exits_of, exits_in, exits_of}

-- The number of a seat that is known is not 0.
known_some : (n k : ℕ) → is_seat n k ≡ true → 1 ≤ k
known_some n k e = grind arith

-- Each seat of a layer that was closed holds its part of the log.
pub part-at : (b : BookView) → (seats : List SeatView) → IsWholeBook b seats → (i : ℕ) → i < length seats → list_at seats i ≡ of_seat (number_at seats i) b.log
part-at b seats whole i lt =
    let k = number_at seats i in
    let known = (whole.known i lt).0 in
    whole.audited k (known_some b.seats k known) (known_number b.seats k known) i lt refl

-- A list that began empty has just the events that extended it.
pub all_new : (events : List Event) → (list : List Pair) → WentOn [] events list → events_of list ≡ events
all_new events list went = ap events_of went.1 ∙ went.2

-- The exits of the first seats' children, by the log.
pub exits-by-log : (log : List Entry) (seats : List SeatView) (n : ℕ) → n ≤ length seats → ((i : ℕ) → i < n → of_seat (i + 1) log ≡ list_at seats i) → all_exits_of (take n seats) ≡ exits_in n log
unfolding exits_in
exits-by-log log seats zero le part = refl
exits-by-log log seats (suc n) le part =
    let next : n + 1 ≡ suc n = omega arith in
    let more : all_exits_of (take (n + 1) seats) ≡ exits_in n log ++ exits_of (of_seat (n + 1) log) =
    ap all_exits_of (take_more seats n nobody (omega (arith, le)))
    ∙ flat_map-append (λ s. exits_of s.list) (take n seats) (slice_index_or seats n nobody ∷ [])
    ∙ ap (λ l. l ++ all_exits_of (slice_index_or seats n nobody ∷ [])) (exits-by-log log seats n (omega (arith, le)) (λ i lt. part i (omega (arith, lt))))
    ∙ ap (λ l. exits_in n log ++ l) (append-nil (exits_of (list_at seats n)) ∙ ap exits_of (sym (part n (omega (arith, le))))) in
    subst (λ k. all_exits_of (take k seats) ≡ exits_in n log ++ exits_of (of_seat k log)) next more
