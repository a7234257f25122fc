-- Plain lists that are made item by item, and the maps that they come from.
use Rattle.std.proofs.Common.{◌≡◌, ℕ, ◌+◌, T, List, [], ◌∷◌, length, map, refl, sym, ap, ◌∙◌, subst, arith, length-append}
use Rattle.std.specs.Prelude.{Some, unwrap_or}
use Rattle.std.specs.Ordering.{nat_cmp}
use Rattle.std.specs.declared.cmp.Ordering.TheVariants.{Less}
use Rattle.std.specs.List.{AllByRecursion, sum_by}
use Rattle.std.specs.List.Sorted.{IsStrictlyIncreasing, IsStrictlySortedBy}
use Rattle.std.specs.Map.{keys_of}
use Rattle.std.specs.FinMap as finmap
use Rattle.std.specs.FinMap.{find, is_sorted, entries_sorted, get-entries}
use Rattle.std.specs.FinMap.Entries.{below_all}
use Rattle.std.proofs.lemmas.Map.Keys.{IsStrictlyIncreasing-from_sorted}
use Rattle.std.proofs.lemmas.Simd.{map-map}
use Rattle.af_base.specs.World.{AsSocket, Map}
use Rattle.af_base.specs.Places.{attached_in, contents}
use Rattle.af_base.specs.Listing.{keyed, message_of, socket_of}
use Rattle.af_base.specs.declared.listing.ListedSocket.{ListedSocket}
use Rattle.af_base.specs.Unheld.{map_entries}
use Rattle.af_base.proofs.PlacesAndCounts.{here, later}
use Rattle.af_base.proofs.MapsOfLists.{length_queue}
use Rattle.af_base.proofs.Sums.{first, less, second}

-- How much a listed socket holds.
pub held_listed : (s : ListedSocket) → length (contents (AsSocket (socket_of s))) ≡ sum_by (λ m. length m.attached.items) s.queue.items + length s.backlog.items
held_listed s = omega (arith, length_queue s.queue.items, length-append (attached_in (map message_of s.queue.items)) s.backlog.items)

-- An item with its key.
abbrev pub entry : {A X : Type 0} → (A → ℕ) → (A → X) → A → ℕ × X
entry key value x = (key x, value x)

-- An entry with its value changed.
abbrev pub changed : {X : Type 0} → (X → X) → ℕ × X → ℕ × X
changed g e = (e.0, g e.1)

module _ {X : Type 0} where
  -- A key below all entries' is below each of their keys.
  below_sorted : (k : ℕ) (es : List (ℕ × X)) → T (below_all nat_cmp k es) → AllByRecursion (λ y. nat_cmp k y ≡ Less) (keys_of es)
  below_sorted k [] h = tt
  below_sorted k (e ∷ es) h = (less _ (first _ _ h), below_sorted k es (second _ _ h))

  -- The keys of sorted entries rise.
  keys_sorted : (es : List (ℕ × X)) → T (is_sorted nat_cmp es) → IsStrictlySortedBy nat_cmp (keys_of es)
  unfolding IsStrictlySortedBy
  keys_sorted [] h = tt
  keys_sorted (e ∷ es) h = (below_sorted e.0 es (first _ _ h), keys_sorted es (second _ _ h))

-- A list whose items are the entries of a map, with the values changed.
module _ {A X : Type 0} (key : A → ℕ) (value : A → X) (g : X → X) (xs : List A) (m : Map X) (same : map (entry key value) xs ≡ map (changed g) (finmap.entries m)) where
  -- The map of changed entries is the map with its values changed.
  from_changed : (es : List (ℕ × X)) → finmap.from_entries {R = nat_cmp} (map (changed g) es) ≡ map_entries (λ _. g) es
  from_changed [] = refl
  from_changed (e ∷ es) = ap (λ m. finmap.insert m e.0 (g e.1)) (from_changed es)

  -- Its map is the other, with the values changed.
  pub keyed-changed : keyed key value xs ≡ map_entries (λ _. g) (finmap.entries m)
  keyed-changed = ap (λ es. finmap.from_entries {R = nat_cmp} es) same ∙ from_changed (finmap.entries m)

  -- Its keys rise.
  pub keys-rise : IsStrictlyIncreasing (map key xs)
  keys-rise =
      let keys : map key xs ≡ keys_of (finmap.entries m) = sym (map-map (λ e. e.0) (entry key value) xs) ∙ ap (map (λ e. e.0)) same ∙ map-map (λ e. e.0) (changed g) (finmap.entries m) in
      IsStrictlyIncreasing-from_sorted (map key xs) (subst (IsStrictlySortedBy nat_cmp) (sym keys) (keys_sorted (finmap.entries m) (entries_sorted m)))

module _ {X : Type 0} (g : X → X) (d : X) where
  -- A key with what a map has there, changed.
  abbrev pub looked : Map X → ℕ → ℕ × X
  looked m k = (k, g (unwrap_or (finmap.get m k) d))

  -- The keys of these entries, each with what the map has there, are the entries.
  looked_all : (m : Map X) (es : List (ℕ × X)) → T (is_sorted nat_cmp es) → ((k : ℕ) (x : X) → find nat_cmp k es ≡ Some x → finmap.get m k ≡ Some x) → map (looked m) (keys_of es) ≡ map (changed g) es
  looked_all m [] s h = refl
  looked_all m (e ∷ es) s h =
      let value : g (unwrap_or (finmap.get m e.0) d) ≡ g e.1 = ap (λ o. g (unwrap_or o d)) (h e.0 e.1 (here e es)) in
      let rest = looked_all m es (second _ _ s) (λ k x is. h k x (later e es k x (first _ _ s) is (nat_cmp k e.0) refl)) in
      λ i. (e.0, value i) ∷ rest i

  -- The keys of a map, each with what the map has there, are its entries.
  pub looked_entries : (m : Map X) → map (looked m) (finmap.keys m) ≡ map (changed g) (finmap.entries m)
  looked_entries m = looked_all m (finmap.entries m) (entries_sorted m) (λ k x is. get-entries m k ∙ is)
