-- How many entries of a log the first seats have.
use Rattle.std.proofs.Common.{◌≡◌, ◌≤◌, ◌+◌, ◌*◌, ℕ, zero, suc, Bool, true, false, List, [], ◌∷◌, ap, arith, cond, inl, inr, length, refl, sym, ◌∙◌}
use Rattle.std.specs.Prelude.{if◌then◌else◌, nat_eq, nat_le}
use Rattle.std.specs.List.{All}
use Rattle.std.proofs.lemmas.Bool.Decides.{eqb_tells, leb_tells}
use Rattle.std.proofs.lemmas.List.Elements.{All-head, All-tail}
use Rattle.std.proofs.lemmas.List.Sums.{sum_by-cons}
use Rattle.std.proofs.lemmas.List.{length-map}
use Rattle.af_layer.specs.Log.{BookView, Entry, of_seat, pair_of}
use Rattle.scmgc.specs.Race.{DidScripts, worker_steps}
use Rattle.scmgc.proofs.race.ScriptLength.{script-count}

-- The entry is of a seat that has a number.
abbrev IsNumbered : Entry → Type 0
IsNumbered e = 1 ≤ e.seat

-- One entry of one of the first n + 1 seats is of one of the first n, or of the next.
one_entry : (k n : ℕ) → cond (nat_le k (suc n)) 1 0 ≡ cond (nat_le k n) 1 0 + cond (nat_eq k (suc n)) 1 0
one_entry k n = elim (leb_tells k (suc n)) [
  | inl a ↦ elim (leb_tells k n) [
    | inl b ↦ elim (eqb_tells k (suc n)) [
      | inl c ↦ absurd (omega (arith, b.1, c.1))
      | inr c ↦ rw (a.0, b.0, c.0) refl
    ]
    | inr b ↦ elim (eqb_tells k (suc n)) [
      | inl c ↦ rw (a.0, b.0, c.0) refl
      | inr c ↦ absurd (c.1 (omega (arith, a.1, b.1)))
    ]
  ]
  | inr a ↦ elim (leb_tells k n) [
    | inl b ↦ absurd (omega (arith, a.1, b.1))
    | inr b ↦ elim (eqb_tells k (suc n)) [
      | inl c ↦ absurd (omega (arith, a.1, c.1))
      | inr c ↦ rw (a.0, b.0, c.0) refl
    ]
  ]
]

-- The part of a seat has one pair more where the entry is of the seat.
one_more : (k : ℕ) → (e : Entry) → (log : List Entry) → length (of_seat k (e ∷ log)) ≡ cond (nat_eq e.seat k) 1 0 + length (of_seat k log)
one_more k e log = by (nat_eq e.seat k) where
  by : (b : Bool) → length (if b then pair_of e ∷ of_seat k log else of_seat k log) ≡ cond b 1 0 + length (of_seat k log)
  by true = omega arith
  by false = omega arith

-- The first n + 1 seats have what the first n have, and what the next has.
one_seat_more : (n : ℕ) → (log : List Entry) → worker_steps (suc n) log ≡ worker_steps n log + length (of_seat (suc n) log)
one_seat_more n [] = refl
one_seat_more n (e ∷ log) =
    let all = sum_by-cons (λ (x : Entry). cond (nat_le x.seat (suc n)) 1 0) e log in
    let first = sum_by-cons (λ (x : Entry). cond (nat_le x.seat n) 1 0) e log in
    omega (arith, all, first, one_entry e.seat n, one_more (suc n) e log, one_seat_more n log)

-- No entry is of the first 0 seats.
no_seat : (log : List Entry) → All IsNumbered log → worker_steps 0 log ≡ 0
no_seat [] numbered = refl
no_seat (e ∷ log) numbered =
    let all = sum_by-cons (λ (x : Entry). cond (nat_le x.seat 0) 1 0) e log in
    let first : 1 ≤ e.seat = All-head IsNumbered e log numbered in
    let rest = no_seat log (All-tail IsNumbered e log numbered) in
    elim (leb_tells e.seat 0) [
      | inl b ↦ absurd (omega (arith, b.1, first))
      | inr b ↦ let none : cond {A = ℕ} (nat_le e.seat 0) 1 0 ≡ 0 = rw b.0 refl in omega (arith, all, none, rest)
    ]

-- If each of the first n seats has a number of pairs, together they have n times as many.
pub counted : (n steps : ℕ) → (log : List Entry) → All IsNumbered log → ((k : ℕ) → 1 ≤ k → k ≤ n → length (of_seat k log) ≡ steps) → worker_steps n log ≡ n * steps
counted zero steps log numbered each = omega (arith, no_seat log numbered)
counted (suc n) steps log numbered each =
    let before = counted n steps log numbered (λ k low high. each k low (omega (arith, high))) in
    let here = each (suc n) (omega arith) (omega arith) in
    one_seat_more n log ∙ ap (λ x. x + length (of_seat (suc n) log)) before ∙ ap (λ x. n * steps + x) here ∙ sum where
      sum : n * steps + steps ≡ suc n * steps
      sum = omega arith

-- Workers that did their scripts have all their steps in the log.
pub all-steps : (workers steps seed : ℕ) (b : BookView) → 5 ≤ steps → DidScripts workers steps seed b → worker_steps workers b.log ≡ workers * steps
all-steps workers steps seed b some did =
    counted workers steps b.log (λ i d lt. (did.legal.of_seats i d lt).0) (λ k low high.
    sym (length-map (of_seat k b.log) (λ p. p.0)) ∙ ap length (did.scripts k low high) ∙ script-count k workers steps seed some)
