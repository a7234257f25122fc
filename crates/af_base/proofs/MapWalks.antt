-- A walk over a map by rising number: the keys above the last one, and the least of them.
use Rattle.std.proofs.Common.{◌≡◌, ℕ, ◌<◌, ◌≤◌, true, false, T, cond, inl, inr, List, [], ◌∷◌, filter, length, refl, sym, ap, ◌∙◌, subst, arith}
use Rattle.std.specs.Prelude.{Some, None, IsTrue, is_some, nat_lt}
use Rattle.std.specs.Ordering.{nat_cmp, is_lt}
use Rattle.std.specs.declared.cmp.Ordering.{Ordering}
use Rattle.std.specs.declared.cmp.Ordering.TheVariants.{Less, Equal, Greater}
use Rattle.std.specs.Cmp.{ranked, unsigned_tied}
use Rattle.std.specs.FinMap as map
use Rattle.std.specs.FinMap.{find, is_sorted, entries_sorted, get-entries}
use Rattle.std.specs.FinMap.Entries.{below_all}
use Rattle.std.proofs.lemmas.Bool.{cases_lt, cases_order, false≢true, le-ltb, lt-ltb, ne_eqb}
use Rattle.af_base.specs.World.{Map}
use Rattle.af_base.proofs.PlacesAndCounts.{here}
use Rattle.af_base.proofs.Lookups.{none_some, some_same, there}
use Rattle.af_base.proofs.Sums.{first, second}

-- A key that compares less is less.
less : (k j : ℕ) (o : Ordering) → o ≡ nat_cmp k j → T (is_lt o) → k < j
less k j Less e p = ranked k j Less e
less k j Equal e p = absurd p
less k j Greater e p = absurd p

module _ {X : Type 0} where
  -- The entries above a number.
  abbrev pub above : ℕ → List (ℕ × X) → List (ℕ × X)
  above k es = filter (λ e. nat_lt k e.0) es

  -- A part of the entries is no larger than the whole.
  pub above-le : (k : ℕ) (es : List (ℕ × X)) → length (above k es) ≤ length es
  above-le k [] = omega arith
  above-le k (e ∷ es) = elim (nat_lt k e.0) as (λ b. length (cond b (e ∷ above k es) (above k es)) ≤ length (e ∷ es)) [ true ↦ omega (arith, above-le k es) | false ↦ omega (arith, above-le k es) ]

  -- All entries are above a number.
  abbrev AreAbove : ℕ → List (ℕ × X) → Type 0
  AreAbove k [] = Unit {0}
  AreAbove k (e ∷ es) = (k < e.0) × AreAbove k es

  -- The entries behind one whose key is below all theirs are above it.
  are_above : (k : ℕ) (es : List (ℕ × X)) → T (below_all nat_cmp k es) → AreAbove k es
  are_above k [] h = tt
  are_above k (e ∷ es) h = (less k e.0 (nat_cmp k e.0) refl (first _ _ h), are_above k es (second _ _ h))

  -- A key above a number is above each lower one.
  above_all : (j k : ℕ) → j ≤ k → (es : List (ℕ × X)) → AreAbove k es → above j es ≡ es
  above_all j k le [] h = refl
  above_all j k le (e ∷ es) h = ap (λ b. cond b (e ∷ above j es) (above j es)) (lt-ltb j e.0 (omega (arith, h.0))) ∙ ap (λ ds. e ∷ ds) (above_all j k le es h.1)

  -- An entry is passed over.
  passed : (j : ℕ) (e : ℕ × X) (es : List (ℕ × X)) → e.0 ≤ j → above j (e ∷ es) ≡ above j es
  passed j e es le = ap (λ b. cond b (e ∷ above j es) (above j es)) (le-ltb j e.0 le)

  -- The key that is looked for is not the first.
  later : (q : ℕ) (e : ℕ × X) (es : List (ℕ × X)) → (q ≡ e.0 → ⊥) → find nat_cmp q (e ∷ es) ≡ find nat_cmp q es
  later q e es n = ap (λ b. cond b (Some e.1) (find nat_cmp q es)) (unsigned_tied q e.0 ∙ ne_eqb q e.0 n)

  -- There is nothing below the first.
  absent : (j k : ℕ) → j ≤ k → (es : List (ℕ × X)) → AreAbove k es → find nat_cmp j es ≡ None
  absent j k le [] h = refl
  absent j k le (e ∷ es) h = later j e es (λ s. omega (arith, s, h.0)) ∙ absent j k le es h.1

  -- The first is there.
  not_absent : (e : ℕ × X) (es : List (ℕ × X)) → is_some (find nat_cmp e.0 (e ∷ es)) ≡ false → ⊥
  not_absent e es none = false≢true (sym none ∙ ap is_some (here e es))

  -- If n is the least key above a number, the entries above it begin with n's.
  next_in : (es : List (ℕ × X)) → T (is_sorted nat_cmp es) → (last n : ℕ) (x : X) → last < n → find nat_cmp n es ≡ Some x → ((q : ℕ) → last < q → q < n → is_some (find nat_cmp q es) ≡ false) → above last es ≡ (n, x) ∷ above n es
  next_in [] s last n x lt at least = absurd (none_some x at)
  next_in (e ∷ es) s last n x lt at least = elim (cases_order e.0 n) [
    | inl same ↦
        let value : e.1 ≡ x = some_same e.1 x (sym (here e es) ∙ subst (λ k. find nat_cmp k (e ∷ es) ≡ Some x) (sym same) at) in
        let entry : e ≡ (n, x) = λ i. (same i, value i) in
        ap (λ b. cond b (e ∷ above last es) (above last es)) (lt-ltb last e.0 (omega (arith, lt, same)))
        ∙ ap (λ ds. e ∷ ds) (above_all last e.0 (omega (arith, lt, same)) es rest ∙ sym (passed n e es (omega (arith, same)) ∙ above_all n e.0 (omega (arith, same)) es rest))
        ∙ ap (λ d. d ∷ above n (e ∷ es)) entry
    | inr apart ↦ elim apart [
      | inl low ↦ elim (cases_lt last e.0) [
        | inl high ↦ absurd (not_absent e es (least e.0 high low))
        | inr le ↦
            passed last e es le
            ∙ next_in es (second _ _ s) last n x lt (sym (later n e es (λ q. omega (arith, q, low))) ∙ at) (λ q over under. sym (ap is_some (later q e es (λ d. omega (arith, d, over, le)))) ∙ least q over under)
            ∙ ap (λ ds. (n, x) ∷ ds) (sym (passed n e es (omega (arith, low))))
      ]
      | inr high ↦ absurd (none_some x (sym (later n e es (λ q. omega (arith, q, high)) ∙ absent n e.0 (omega (arith, high)) es rest) ∙ at))
    ]
  ] where
    rest : AreAbove e.0 es
    rest = are_above e.0 es (first _ _ s)

  -- If no key is above a number, no entry is.
  none_in : (es : List (ℕ × X)) (last : ℕ) → ((q : ℕ) → last < q → is_some (find nat_cmp q es) ≡ false) → above last es ≡ []
  none_in [] last none = refl
  none_in (e ∷ es) last none = elim (cases_lt last e.0) [
    | inl high ↦ absurd (not_absent e es (none e.0 high))
    | inr le ↦ passed last e es le ∙ none_in es last (λ q over. sym (ap is_some (later q e es (λ d. omega (arith, d, over, le)))) ∙ none q over)
  ]

  -- If 0 is no key, all entries are above 0.
  all_in : (es : List (ℕ × X)) → T (is_sorted nat_cmp es) → is_some (find nat_cmp 0 es) ≡ false → above 0 es ≡ es
  all_in [] s none = refl
  all_in (e ∷ es) s none = elim (cases_lt 0 e.0) [
    | inl high ↦ ap (λ b. cond b (e ∷ above 0 es) (above 0 es)) (lt-ltb 0 e.0 high) ∙ ap (λ ds. e ∷ ds) (above_all 0 e.0 (omega arith) es (are_above e.0 es (first _ _ s)))
    | inr zero ↦ absurd (not_absent e es (subst (λ k. is_some (find nat_cmp k (e ∷ es)) ≡ false) (omega (arith, zero)) none))
  ]

  -- The answer of a walk at each number, for a map m.
  module _ (seen m : Map X) (same : seen ≡ m) (last n : ℕ) (over : last < n) (live : IsTrue (map.contains_key seen n)) (least : (q : ℕ) → last < q → q < n → map.contains_key seen q ≡ false) where
    -- It has a value, and the keys above the last are this one and those above it.
    pub next_entry : (x : X) × (map.get m n ≡ Some x) × (above last (map.entries m) ≡ (n, x) ∷ above n (map.entries m))
    next_entry =
        let at = there (map.get seen n) live in
        let value : map.get m n ≡ Some at.0 = sym (ap (λ d. map.get d n) same) ∙ at.1 in
        (at.0, value, next_in (map.entries m) (entries_sorted m) last n at.0 over (sym (get-entries m n) ∙ value) (λ q high low. sym (ap is_some (ap (λ d. map.get d q) same ∙ get-entries m q)) ∙ least q high low))

    -- So there are fewer above it.
    pub fewer_above : length (above n (map.entries m)) < length (above last (map.entries m))
    fewer_above = omega (arith, ap length next_entry.2)

  -- The answer at the end: no key is above the last.
  pub no_entry : (seen m : Map X) → seen ≡ m → (last : ℕ) → ((q : ℕ) → last < q → map.contains_key seen q ≡ false) → above last (map.entries m) ≡ []
  no_entry seen m same last none = none_in (map.entries m) last (λ q high. sym (ap is_some (ap (λ d. map.get d q) same ∙ get-entries m q)) ∙ none q high)

  -- If 0 has no value, all keys are above it.
  pub all_entries : (seen m : Map X) → seen ≡ m → map.contains_key seen 0 ≡ false → above 0 (map.entries m) ≡ map.entries m
  all_entries seen m same none = all_in (map.entries m) (entries_sorted m) (sym (ap is_some (ap (λ d. map.get d 0) same ∙ get-entries m 0)) ∙ none)
