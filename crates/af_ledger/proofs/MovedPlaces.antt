-- The numbers kept where files move from a queue to tables.
use Rattle.std.proofs.Common.{◌≡◌, ℕ, Bool, true, false, List, [], ◌∷◌, refl, sym, ap, ◌∙◌, cond, nat_eq}
use Rattle.std.specs.Prelude.{Option, Some, unwrap_or}
use Rattle.std.specs.Cmp.{nat_cmp_total, unsigned_tied}
use Rattle.std.specs.FinMap as map
use Rattle.std.specs.FinMap.{get-insert, nat_cmp-IsAntisymmetric, same_map}
use Rattle.std.proofs.lemmas.Bool.{eqb-true}
use Rattle.af_base.specs.World.{Map}
use Rattle.af_ledger.specs.Counted.{CountView, fewer, more, uncounted}
use Rattle.af_ledger.specs.Tally.{Tally, count_in_map, freed_by, with_ref, with_refs, without_ref, without_refs}
use Rattle.af_ledger.specs.declared.place.Place.TheVariants.{Queue, Table}

-- A changed count is seen at its file, and no other count changes.
get-changed : (m : Map CountView) (f g : ℕ) (a : CountView → CountView) → map.get (map.insert m f (a (count_in_map m f))) g ≡ cond (nat_eq g f) (Some (a (count_in_map m g))) (map.get m g)
get-changed m f g a = get-insert nat_cmp_total m f (a (count_in_map m f)) g ∙ ap (λ b. cond b (Some (a (count_in_map m f))) (map.get m g)) (unsigned_tied g f) ∙ by (nat_eq g f) refl where
  by : (b : Bool) → nat_eq g f ≡ b → cond b (Some (a (count_in_map m f))) (map.get m g) ≡ cond b (Some (a (count_in_map m g))) (map.get m g)
  by true e = ap (λ x. Some (a (count_in_map m x))) (sym (eqb-true g f e))
  by false e = refl

-- Changes of two counts, by functions that commute, give the same in any order.
changes-swap : (m : Map CountView) (f g : ℕ) (a b : CountView → CountView) → ((c : CountView) → b (a c) ≡ a (b c)) → (let n = map.insert m f (a (count_in_map m f)) in map.insert n g (b (count_in_map n g))) ≡ (let n = map.insert m g (b (count_in_map m g)) in map.insert n f (a (count_in_map n f)))
changes-swap m f g a b swap = same_map nat_cmp_total nat_cmp-IsAntisymmetric _ _ (λ q.
    get-changed (map.insert m f (a (count_in_map m f))) g q b ∙ ap (λ o. cond (nat_eq q g) (Some (b (unwrap_or o uncounted))) o) (get-changed m f q a)
    ∙ by (nat_eq q f) (nat_eq q g) (map.get m q)
    ∙ sym (get-changed (map.insert m g (b (count_in_map m g))) f q a ∙ ap (λ o. cond (nat_eq q f) (Some (a (unwrap_or o uncounted))) o) (get-changed m g q b))) where
      by : (x y : Bool) (o : Option CountView) → (let n = cond x (Some (a (unwrap_or o uncounted))) o in cond y (Some (b (unwrap_or n uncounted))) n) ≡ (let n = cond y (Some (b (unwrap_or o uncounted))) o in cond x (Some (a (unwrap_or n uncounted))) n)
      by true true o = ap Some (swap (unwrap_or o uncounted))
      by true false o = refl
      by false true o = refl
      by false false o = refl

-- Places in tables more give the same counts, whatever is charged.
tabled-alike : (gs : List ℕ) (k n : Tally) → k.counts ≡ n.counts → (with_refs Table gs k).counts ≡ (with_refs Table gs n).counts
tabled-alike [] k n same = same
tabled-alike (g ∷ gs) k n same = tabled-alike gs (with_ref Table g k) (with_ref Table g n) (ap (λ m. map.insert m g (more Table (count_in_map m g))) same)

module _ (u : ℕ) where
  -- So do places in queues less.
  pub dropped-alike : (fs : List ℕ) (k n : Tally) → k.counts ≡ n.counts → (without_refs (Queue u) fs k).counts ≡ (without_refs (Queue u) fs n).counts
  dropped-alike [] k n same = same
  dropped-alike (f ∷ fs) k n same = dropped-alike fs (without_ref (Queue u) f k) (without_ref (Queue u) f n) (ap (λ m. map.insert m f (fewer (Queue u) (count_in_map m f))) same)

  -- A place in a queue less, and places in tables more, give the same in any order.
  dropped-tabled : (f : ℕ) (gs : List ℕ) (k : Tally) → without_ref (Queue u) f (with_refs Table gs k) ≡ with_refs Table gs (without_ref (Queue u) f k)
  dropped-tabled f [] k = refl
  dropped-tabled f (g ∷ gs) k =
      dropped-tabled f gs (with_ref Table g k)
      ∙ ap (λ m. with_refs Table gs (record (freed_by 1 u k) { counts = m })) (changes-swap k.counts g f (more Table) (fewer (Queue u)) (λ c. refl))

  -- To move the first file first gives the counts of all that come into tables before any is dropped.
  pub moved-first : (f : ℕ) (fs gs : List ℕ) (k n : Tally) → n.counts ≡ (without_ref (Queue u) f (with_ref Table f k)).counts → (without_refs (Queue u) fs (with_refs Table gs n)).counts ≡ (without_refs (Queue u) (f ∷ fs) (with_refs Table (f ∷ gs) k)).counts
  moved-first f fs gs k n same =
      dropped-alike fs (with_refs Table gs n) (without_ref (Queue u) f (with_refs Table gs (with_ref Table f k)))
      (tabled-alike gs n (without_ref (Queue u) f (with_ref Table f k)) same ∙ ap (λ (t : Tally). t.counts) (sym (dropped-tabled f gs (with_ref Table f k))))
