-- How many entries of a map pass a test, where the test is changed.
use Rattle.std.proofs.Common.{◌≡◌, ◌≤◌, ℕ, ◌+◌, Bool, true, false, T, not, ◌&&◌, inl, inr, List, [], ◌∷◌, refl, sym, ap, ◌∙◌, cond, arith, nat_eq}
use Rattle.std.specs.Prelude.{Some}
use Rattle.std.specs.List.{count_by}
use Rattle.std.specs.Ordering.{nat_cmp}
use Rattle.std.specs.Cmp.{unsigned_tied}
use Rattle.std.specs.FinMap as map
use Rattle.std.specs.FinMap.{find, is_sorted, entries_sorted, get-entries}
use Rattle.std.specs.FinMap.Entries.{below_all}
use Rattle.std.proofs.lemmas.List.Sums.{sum_by-cons}
use Rattle.af_base.specs.World.{World, Map, IsLive, is_live}
use Rattle.af_base.proofs.Sums.{first, second}
use Rattle.af_base.proofs.PlacesAndCounts.{here, later, none_below}
use Rattle.af_base.proofs.Lookups.{none_some, same_or_not, some_same, there, told_apart}
use Rattle.af_collect.specs.Since.{live_count}

module _ {X : Type 0} where
  -- The entries that pass are the first one, if it does, and the later ones.
  count-cons : (p : ℕ × X → Bool) (e : ℕ × X) (es : List (ℕ × X)) → count_by p (e ∷ es) ≡ cond (p e) 1 0 + count_by p es
  count-cons p e es = sum_by-cons (λ x. cond (p x) 1 0) e es

  -- Tests that agree on each sorted entry are passed by as many.
  same_in : (p q : ℕ × X → Bool) (es : List (ℕ × X)) → T (is_sorted nat_cmp es) → ((k : ℕ) (v : X) → find nat_cmp k es ≡ Some v → p (k, v) ≡ q (k, v)) → count_by p es ≡ count_by q es
  same_in p q [] s h = refl
  same_in p q (e ∷ es) s h =
      let head : cond (p e) 1 0 ≡ cond (q e) 1 0 = ap {B = ℕ} (λ b. cond b 1 0) (h e.0 e.1 (here e es)) in
      let rest = same_in p q es (second (below_all nat_cmp e.0 es) (is_sorted nat_cmp es) s) (λ k v is. h k v (later e es k v (first (below_all nat_cmp e.0 es) (is_sorted nat_cmp es) s) is (nat_cmp k e.0) refl)) in
      omega (arith, count-cons p e es, count-cons q e es, head, rest)

  -- Tests that agree on each entry of a map are passed by as many.
  pub count_same : (m : Map X) (p q : ℕ × X → Bool) → ((k : ℕ) (v : X) → map.get m k ≡ Some v → p (k, v) ≡ q (k, v)) → count_by p (map.entries m) ≡ count_by q (map.entries m)
  count_same m p q h = same_in p q (map.entries m) (entries_sorted m) (λ k v is. h k v (get-entries m k ∙ is))

  -- A test that passes whatever another passes is passed by as many or more.
  pub count_le : (p q : ℕ × X → Bool) (es : List (ℕ × X)) → ((e : ℕ × X) → p e ≡ true → q e ≡ true) → count_by p es ≤ count_by q es
  count_le p q [] h = omega arith
  count_le p q (e ∷ es) h =
      let each : cond (p e) 1 0 ≤ cond (q e) 1 0 = elim (p e) as (λ b. p e ≡ b → cond b 1 0 ≤ cond (q e) 1 0) [
        | true ↦ λ y. let to : cond (q e) 1 0 ≡ 1 = ap {B = ℕ} (λ b. cond b 1 0) (h e y) in omega (arith, to)
        | false ↦ λ _. omega arith
      ] refl in
      omega (arith, count-cons p e es, count-cons q e es, each, count_le p q es h)

  -- A test that passes one entry more, and agrees elsewhere, is passed by one more.
  one_in : (x : ℕ) (v : X) (p q : ℕ × X → Bool) → p (x, v) ≡ false → q (x, v) ≡ true → (es : List (ℕ × X)) → T (is_sorted nat_cmp es) → find nat_cmp x es ≡ Some v
      → ((k : ℕ) (w : X) → find nat_cmp k es ≡ Some w → nat_eq x k ≡ false → p (k, w) ≡ q (k, w)) → count_by q es ≡ count_by p es + 1
  one_in x v p q miss hit [] s is h = absurd (none_some v is)
  one_in x v p q miss hit (e ∷ es) s is h = elim (same_or_not x e.0) [
    | inl at ↦
        let value : v ≡ e.1 = some_same v e.1 (sym is ∙ ap (λ k. find nat_cmp k (e ∷ es)) at ∙ here e es) in
        let no_more : cond (p e) 1 0 ≡ 0 = ap {B = ℕ} (λ b. cond b 1 0) (sym (λ i. p (at i, value i)) ∙ miss) in
        let one_more : cond (q e) 1 0 ≡ 1 = ap {B = ℕ} (λ b. cond b 1 0) (sym (λ i. q (at i, value i)) ∙ hit) in
        let rest = same_in p q es sorted (λ k w found. h k w (up k w found) (told_apart x k (λ same. none_some w (sym (none_below e.0 es low) ∙ ap (λ n. find nat_cmp n es) (sym at ∙ same) ∙ found)))) in
        omega (arith, count-cons p e es, count-cons q e es, no_more, one_more, rest)
    | inr apart ↦
        let head : cond (p e) 1 0 ≡ cond (q e) 1 0 = ap {B = ℕ} (λ b. cond b 1 0) (h e.0 e.1 (here e es) apart) in
        let rest = one_in x v p q miss hit es sorted (sym (ap (λ b. cond b (Some e.1) (find nat_cmp x es)) (unsigned_tied x e.0 ∙ apart)) ∙ is) (λ k w found. h k w (up k w found)) in
        omega (arith, count-cons p e es, count-cons q e es, head, rest)
  ] where
    low : T (below_all nat_cmp e.0 es)
    low = first _ _ s

    sorted : T (is_sorted nat_cmp es)
    sorted = second (below_all nat_cmp e.0 es) (is_sorted nat_cmp es) s

    up : (k : ℕ) (w : X) → find nat_cmp k es ≡ Some w → find nat_cmp k (e ∷ es) ≡ Some w
    up k w found = later e es k w low found (nat_cmp k e.0) refl

  -- A test that also passes the value at x, and else agrees with another, passes one more.
  pub count_one : (m : Map X) (x : ℕ) (v : X) (p q : ℕ × X → Bool) → map.get m x ≡ Some v → p (x, v) ≡ false → q (x, v) ≡ true
      → ((k : ℕ) (w : X) → map.get m k ≡ Some w → nat_eq x k ≡ false → p (k, w) ≡ q (k, w)) → count_by q (map.entries m) ≡ count_by p (map.entries m) + 1
  count_one m x v p q is miss hit same = one_in x v p q miss hit (map.entries m) (entries_sorted m) (sym (get-entries m x) ∙ is) (λ k w found. same k w (get-entries m k ∙ found))

module _ (begun now : World) where
  -- Tests that agree on live files agree on what is live and passes.
  agree : (p q : ℕ → Bool) (f : ℕ) → (IsLive now f → p f ≡ q f) → (is_live now f && p f) ≡ (is_live now f && q f)
  agree p q f h = by (is_live now f) refl where
    by : (b : Bool) → is_live now f ≡ b → (b && p f) ≡ (b && q f)
    by true e = h e
    by false e = refl

  -- Tests that agree on the live files count as many files of the begin.
  pub live_agree : (p q : ℕ → Bool) → ((f : ℕ) → IsLive now f → p f ≡ q f) → live_count begun now p ≡ live_count begun now q
  live_agree p q h = λ i. count_by (λ e. agree p q e.0 (h e.0) i) (map.entries begun.files)

  -- A test that passes x too, a live file of the begin, counts one more.
  pub live_more : (p q : ℕ → Bool) (x : ℕ) → IsLive begun x → IsLive now x → p x ≡ false → q x ≡ true → ((f : ℕ) → IsLive now f → nat_eq x f ≡ false → p f ≡ q f) → live_count begun now q ≡ live_count begun now p + 1
  live_more p q x b l miss hit h =
      let v = there (map.get begun.files x) b in
      count_one begun.files x v.0 (λ e. is_live now e.0 && p e.0) (λ e. is_live now e.0 && q e.0) v.1 (ap (λ c. c && p x) l ∙ miss) (ap (λ c. c && q x) l ∙ hit) (λ k w i d. agree p q k (λ c. h k c d))

  -- The same where what the tests miss is counted: one less is missed.
  pub live_less : (p q : ℕ → Bool) (x : ℕ) → IsLive begun x → IsLive now x → p x ≡ false → q x ≡ true → ((f : ℕ) → IsLive now f → nat_eq x f ≡ false → p f ≡ q f)
      → live_count begun now (λ f. not (p f)) ≡ live_count begun now (λ f. not (q f)) + 1
  live_less p q x b l miss hit h = live_more (λ f. not (q f)) (λ f. not (p f)) x b l (ap not hit) (ap not miss) (λ f c d. ap not (sym (h f c d)))
