-- A part of each value, as values come, change and go.
use Rattle.std.proofs.Common.{◌≡◌, ℕ, Bool, true, false, ◌&&◌, T, List, [], ◌∷◌, length, refl, sym, ap, ◌∙◌, subst, cond, map}
use Rattle.std.specs.Prelude.{Option, Some, None, is_some, option_map}
use Rattle.std.specs.FinMap.Entries.{below_all}
use Rattle.std.specs.Ordering.{eq_by_cmp, is_lt, nat_cmp}
use Rattle.std.specs.Cmp.{nat_cmp_total, unsigned_tied}
use Rattle.std.specs.FinMap as finmap
use Rattle.std.specs.FinMap.{entries-from_sorted, entries_sorted, get-empty, get-from_entries, get-from_sorted, get-insert, get-remove, is_sorted, nat_cmp-IsAntisymmetric, same_map}
use Rattle.std.proofs.lemmas.List.{length-map}
use Rattle.std.proofs.lemmas.Bool.{eqb-true}
use Rattle.af_base.specs.World.{Map}
use Rattle.ordered_slab.specs.Parts.{part}

module _ {A B : Type 0} (g : A → B) where
  -- Two maps that have the same at each number are equal.
  same : (m n : Map B) → ((q : ℕ) → finmap.get m q ≡ finmap.get n q) → m ≡ n
  same m n h = same_map nat_cmp_total nat_cmp-IsAntisymmetric m n h

  -- A look-up among the parts finds the part of the value that one among the values finds.
  found : (es : List (ℕ × A)) (q : ℕ) → finmap.find nat_cmp q (map (λ (x : ℕ × A). (x.0, g x.1)) es) ≡ option_map g (finmap.find nat_cmp q es)
  found [] q = refl
  found (x ∷ es) q = ap (cond (eq_by_cmp nat_cmp q x.0) (Some (g x.1))) (found es q) ∙ by (eq_by_cmp nat_cmp q x.0) where
    by : (b : Bool) → cond b (Some (g x.1)) (option_map g (finmap.find nat_cmp q es)) ≡ option_map g (cond b (Some x.1) (finmap.find nat_cmp q es))
    by true = refl
    by false = refl

  -- The part of a number is that of its value.
  pub part_get : (m : Map A) (q : ℕ) → finmap.get (part g m) q ≡ option_map g (finmap.get m q)
  part_get m q = finmap.get-from_entries nat_cmp_total (map (λ (x : ℕ × A). (x.0, g x.1)) (finmap.entries m)) q ∙ found (finmap.entries m) q ∙ ap (option_map g) (sym (finmap.get-entries m q))

  -- A number with a value has a part.
  pub part_known : (m : Map A) (q : ℕ) → finmap.contains_key (part g m) q ≡ finmap.contains_key m q
  part_known m q = ap is_some (part_get m q) ∙ by (finmap.get m q) where
    by : (o : Option A) → is_some (option_map g o) ≡ is_some o
    by None = refl
    by (Some x) = refl

  -- The parts are in the order of their values.
  ordered : (es : List (ℕ × A)) → is_sorted nat_cmp (map (λ (x : ℕ × A). (x.0, g x.1)) es) ≡ is_sorted nat_cmp es
  ordered [] = refl
  ordered (e ∷ es) = λ i. below e.0 es i && ordered es i where
    below : (k : ℕ) (es : List (ℕ × A)) → below_all nat_cmp k (map (λ (x : ℕ × A). (x.0, g x.1)) es) ≡ below_all nat_cmp k es
    below k [] = refl
    below k (x ∷ xs) = ap (λ b. is_lt (nat_cmp k x.0) && b) (below k xs)

  -- There are as many parts as values.
  pub part_many : (m : Map A) → finmap.len (part g m) ≡ finmap.len m
  part_many m =
      let es = map (λ (x : ℕ × A). (x.0, g x.1)) (finmap.entries m) in
      let sorted = subst T (sym (ordered (finmap.entries m))) (entries_sorted m) in
      let is : part g m ≡ finmap.from_sorted es = same _ _ (λ q. get-from_entries nat_cmp_total es q ∙ sym (get-from_sorted nat_cmp es q sorted)) in
      ap finmap.len is ∙ finmap.len-entries (finmap.from_sorted {R = nat_cmp} es) ∙ ap length (entries-from_sorted nat_cmp es sorted) ∙ length-map (finmap.entries m) (λ (x : ℕ × A). (x.0, g x.1)) ∙ sym (finmap.len-entries m)

  -- A value that is put in is a part that is put in.
  pub part_put : (m : Map A) (f : ℕ) (x : A) → part g (finmap.insert m f x) ≡ finmap.insert (part g m) f (g x)
  part_put m f x = same _ _ (λ q.
      part_get (finmap.insert m f x) q ∙ ap (option_map g) (get-insert nat_cmp_total m f x q) ∙ by q (eq_by_cmp nat_cmp q f)
      ∙ sym (get-insert nat_cmp_total (part g m) f (g x) q ∙ ap (cond (eq_by_cmp nat_cmp q f) (Some (g x))) (part_get m q))) where
        by : (q : ℕ) (b : Bool) → option_map g (cond b (Some x) (finmap.get m q)) ≡ cond b (Some (g x)) (option_map g (finmap.get m q))
        by q true = refl
        by q false = refl

  -- A value that is taken out is a part that is taken out.
  pub part_taken : (m : Map A) (f : ℕ) → part g (finmap.remove m f) ≡ finmap.remove (part g m) f
  part_taken m f = same _ _ (λ q.
      part_get (finmap.remove m f) q ∙ ap (option_map g) (get-remove nat_cmp_total m f q) ∙ by q (eq_by_cmp nat_cmp q f)
      ∙ sym (get-remove nat_cmp_total (part g m) f q ∙ ap (cond (eq_by_cmp nat_cmp q f) None) (part_get m q))) where
        by : (q : ℕ) (b : Bool) → option_map g (cond b None (finmap.get m q)) ≡ cond b None (option_map g (finmap.get m q))
        by q true = refl
        by q false = refl

  -- No value, no part.
  pub part_none : (m : Map A) → m ≡ finmap.empty → part g m ≡ finmap.empty
  part_none m none = same _ _ (λ q. part_get m q ∙ ap (option_map g) (ap (λ m. finmap.get m q) none ∙ get-empty nat_cmp q) ∙ sym (get-empty nat_cmp q))

  -- A value that changes in another part changes nothing of this one.
  pub part_kept : (m : Map A) (f : ℕ) (x y : A) → finmap.get m f ≡ Some x → g y ≡ g x → part g (finmap.insert m f y) ≡ part g m
  part_kept m f x y at e = same _ _ (λ q.
      part_get (finmap.insert m f y) q ∙ ap (option_map g) (get-insert nat_cmp_total m f y q) ∙ by q (eq_by_cmp nat_cmp q f) refl ∙ sym (part_get m q)) where
        by : (q : ℕ) (b : Bool) → eq_by_cmp nat_cmp q f ≡ b → option_map g (cond b (Some y) (finmap.get m q)) ≡ option_map g (finmap.get m q)
        by q true is = ap Some e ∙ ap (option_map g) (sym at ∙ ap (finmap.get m) (sym (eqb-true q f (sym (unsigned_tied q f) ∙ is))))
        by q false is = refl

-- The parts as values are added, changed and removed.
pub ruleset parts = (part_get, part_known, part_many, part_put, part_taken, part_none, part_kept)
