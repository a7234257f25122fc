-- That what two periods tell of freed files accounts for both.
use Rattle.std.proofs.Common.{◌≡◌, ◌≤◌, ◌<◌, ℕ, inl, inr, sym, ap, ◌∙◌, cond, arith}
use Rattle.std.specs.Prelude.{nat_lt}
use Rattle.std.specs.FinMap as map
use Rattle.std.proofs.lemmas.Bool.{cases_Bool, le-ltb, lt-ltb, ltb-false, ltb-true}
use Rattle.std.proofs.lemmas.List.Sums.{sum_by-append}
use Rattle.af_base.specs.Counts.{one}
use Rattle.af_base.specs.Told.{was_given}
use Rattle.af_base.specs.World.{Since}
use Rattle.af_laws.specs.Telling.{PeriodsJoin}

-- A number that was given out in the first period was given out in both.
given-before : (since : Since) (mid new f : ℕ) → f < mid → mid ≤ new → was_given since new f ≡ was_given since mid f
given-before since mid new f low more = ap (cond (nat_lt f since.next) (map.contains_key since.files f)) (lt-ltb f new (omega (arith, low, more)) ∙ sym (lt-ltb f mid low))

-- And one from the second on is as the second has it.
given-later : (since : Since) (n f : ℕ) → since.next ≤ f → was_given since n f ≡ nat_lt f n
given-later since n f high = ap (λ b. cond b (map.contains_key since.files f) (nat_lt f n)) (le-ltb f since.next high)

pub periods_join : PeriodsJoin
periods_join since mid new first second low high one_by two_by f =
    let all = sum_by-append (one f) first second in
    let before = one_by f in
    let after = two_by f in
    let next = record since { files = mid.files; next = mid.next_ino } in
    elim (cases_Bool (nat_lt f mid.next_ino)) [
      | inl e ↦
          let same : cond (was_given since new.next_ino f) 1 0 ≡ cond (was_given since mid.next_ino f) 1 0 = ap {B = ℕ} (λ b. cond b 1 0) (given-before since mid.next_ino new.next_ino f (ltb-true f mid.next_ino e) high) in
          let there : cond (was_given next new.next_ino f) 1 0 ≡ cond (map.contains_key mid.files f) 1 0 = ap {B = ℕ} (λ b. cond (cond b (map.contains_key mid.files f) (nat_lt f new.next_ino)) 1 0) e in
          omega (arith, all, before, after, same, there)
      | inr e ↦
          let past = ltb-false f mid.next_ino e in
          let same : cond (was_given since new.next_ino f) 1 0 ≡ cond (was_given next new.next_ino f) 1 0 = ap {B = ℕ} (λ b. cond b 1 0) (given-later since new.next_ino f (omega (arith, low, past)) ∙ sym (given-later next new.next_ino f past)) in
          let none : cond (was_given since mid.next_ino f) 1 0 ≡ 0 = ap {B = ℕ} (λ b. cond b 1 0) (given-later since mid.next_ino f (omega (arith, low, past)) ∙ e) in
          omega (arith, all, before, after, same, none)
    ]
