-- The list of the unreferenced files, as places come and go.
use Rattle.std.proofs.Common.{◌≡◌, ◌<◌, ℕ, ◌+◌, ◌-◌, true, false, List, [], ◌∷◌, ◌++◌, length, refl, sym, ap, ◌∙◌, nat_eq, arith}
use Rattle.std.specs.Prelude.{Option, Some, None, IsSome, unwrap_or}
use Rattle.std.specs.FinMap as map
use Rattle.std.specs.Option.{option_map_or}
use Rattle.std.proofs.lemmas.Bool.{eq-eqb, eqb-true}
use Rattle.af_base.specs.Counts.{count_in, one}
use Rattle.af_base.specs.World.{Map}
use Rattle.af_base.proofs.ExactLists.{just-pushed, just-same, just-struck}
use Rattle.af_base.proofs.Lookups.{not_same, told_apart}
use Rattle.af_ledger.specs.Counted.{CountView, IsCounted, fewer, more, places_in, uncounted}
use Rattle.af_ledger.specs.Tally.{AreUnreferenced, count_in_map, is_unreferenced}
use Rattle.af_ledger.specs.declared.place.Place.{Place}
use Rattle.af_ledger.specs.declared.place.Place.TheVariants.{Backlog, Queue, Table}

-- A file with a place is not unreferenced.
pub not-unreferenced : (m : Map CountView) (k : ℕ) → nat_eq (places_in (count_in_map m k)) 0 ≡ false → is_unreferenced m k ≡ false
not-unreferenced m k = by (map.get m k) where
  by : (o : Option CountView) → nat_eq (places_in (unwrap_or o uncounted)) 0 ≡ false → option_map_or (λ c. nat_eq (places_in c) 0) o false ≡ false
  by (Some c) e = e
  by None e = refl

-- A file with one place more has a place.
more-some : (p : Place) (c : CountView) → nat_eq (places_in (more p c)) 0 ≡ false
more-some Table c = told_apart (c.tabled + 1 + c.inflight + c.waiting) 0 (λ e. omega (arith, e))
more-some (Queue u) c = told_apart (c.tabled + (c.inflight + 1) + c.waiting) 0 (λ e. omega (arith, e))
more-some Backlog c = told_apart (c.tabled + c.inflight + (c.waiting + 1)) 0 (λ e. omega (arith, e))

-- A place less is one fewer.
fewer-one : (p : Place) (c : CountView) → IsCounted p c → places_in (fewer p c) + 1 ≡ places_in c
fewer-one Table c h = omega arith
fewer-one (Queue u) c h = omega arith
fewer-one Backlog c h = omega arith

-- A place that is there still is with one more in a table.
pub counted-tabled : (p : Place) (c : CountView) → IsCounted p c → IsCounted p (more Table c)
counted-tabled Table c h = omega arith
counted-tabled (Queue u) c h = h
counted-tabled Backlog c h = h

module _ (m n : Map CountView) (fs : List ℕ) (k : ℕ) (h : AreUnreferenced m fs) where
  module _ (p : Place) where
    module _ (is : n ≡ map.insert m k (more p (count_in_map m k))) where
      -- With its first place a file is no longer unreferenced.
      pub raised-off : (gs : List ℕ) → ((f : ℕ) → count_in f gs ≡ count_in f fs - one f k) → AreUnreferenced n gs
      raised-off gs = just-struck (λ c. nat_eq (places_in c) 0) m n fs k h (more p (count_in_map m k)) is gs (more-some p (count_in_map m k))

      -- With a further place the list of unreferenced files stays.
      pub raised-kept : nat_eq (places_in (count_in_map m k)) 0 ≡ false → AreUnreferenced n fs
      raised-kept some = just-same (λ c. nat_eq (places_in c) 0) m n fs k h (more p (count_in_map m k)) is (more-some p (count_in_map m k) ∙ sym (not-unreferenced m k some))

    module _ (is : n ≡ map.insert m k (fewer p (count_in_map m k))) (counted : IsCounted p (count_in_map m k)) where
      one-less : places_in (fewer p (count_in_map m k)) + 1 ≡ places_in (count_in_map m k)
      one-less = fewer-one p (count_in_map m k) counted

      had : is_unreferenced m k ≡ false
      had = not-unreferenced m k (told_apart (places_in (count_in_map m k)) 0 (λ e. omega (arith, e, one-less)))

      -- Where others are left the list of unreferenced files stays.
      pub lowered-kept : nat_eq (places_in (count_in_map m k)) 1 ≡ false → AreUnreferenced n fs
      lowered-kept others = just-same (λ c. nat_eq (places_in c) 0) m n fs k h (fewer p (count_in_map m k)) is
          (told_apart (places_in (fewer p (count_in_map m k))) 0 (λ e. not_same (places_in (count_in_map m k)) 1 others (omega (arith, e, one-less))) ∙ sym had)

      -- Without its last place a file is unreferenced, and there is room for it.
      pub lowered-pushed : nat_eq (places_in (count_in_map m k)) 1 ≡ true → AreUnreferenced n (fs ++ k ∷ []) × (length fs < map.len n)
      lowered-pushed last = just-pushed (λ c. nat_eq (places_in c) 0) m n fs k h (fewer p (count_in_map m k)) is
          (eq-eqb (places_in (fewer p (count_in_map m k))) 0 (omega (arith, one-less, eqb-true (places_in (count_in_map m k)) 1 last))) had

    -- Where a place becomes one in a table the list of unreferenced files stays.
    pub moved-kept : n ≡ map.insert m k (fewer p (more Table (count_in_map m k))) → IsCounted p (count_in_map m k) → AreUnreferenced n fs
    moved-kept is counted =
        let c = count_in_map m k in
        let moved = fewer p (more Table c) in
        let as_many : places_in moved + 1 ≡ places_in c + 1 = fewer-one p (more Table c) (counted-tabled p c counted) ∙ omega arith in
        just-same (λ d. nat_eq (places_in d) 0) m n fs k h moved is
        (told_apart (places_in moved) 0 (λ e. omega (arith, e, as_many, fewer-one p c counted))
        ∙ sym (not-unreferenced m k (told_apart (places_in c) 0 (λ e. omega (arith, e, fewer-one p c counted)))))

-- The counts of a file of the map.
pub counted-here : (m : Map CountView) (f : ℕ) (c : CountView) → map.get m f ≡ Some c → count_in_map m f ≡ c
counted-here m f c at = ap (λ o. unwrap_or o uncounted) at

-- A file with a place has counts.
pub counted-known : (p : Place) (m : Map CountView) (f : ℕ) → IsCounted p (count_in_map m f) → IsSome (map.get m f)
counted-known p m f = by p (map.get m f) where
  by : (p : Place) (o : Option CountView) → IsCounted p (unwrap_or o uncounted) → IsSome o
  by p (Some c) h = refl
  by Table None h = absurd (omega (arith, h))
  by (Queue u) None h = absurd (omega (arith, h))
  by Backlog None h = absurd (omega (arith, h))

-- Numbers that are there.
pub ruleset counted = (counted-here, counted-known, counted-tabled)
