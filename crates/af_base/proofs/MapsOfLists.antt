-- A map made of a list whose keys rise: its sums and its look-ups are those of the list.
use Rattle.std.proofs.Common.{◌≡◌, ℕ, ◌+◌, List, [], ◌∷◌, refl, sym, ap, ◌∙◌, subst, cond, map, nat_eq, length, Bool, true, false}
use Rattle.std.specs.Prelude.{Option, Some, option_map}
use Rattle.std.specs.Ordering.{nat_cmp}
use Rattle.std.specs.Cmp.{nat_cmp_total, unsigned_tied}
use Rattle.std.specs.List.{sum_by, find}
use Rattle.std.specs.List.Sorted.{IsStrictlyIncreasing, IsStrictlySortedBy}
use Rattle.std.specs.FinMap as finmap
use Rattle.std.proofs.lemmas.List.Concat.{length-flat_map}
use Rattle.std.proofs.lemmas.List.Sums.{sum_by-cons}
use Rattle.std.proofs.lemmas.Map.Keys.{sorted_from_strictly_increasing}
use Rattle.std.proofs.lemmas.Simd.{map-map}
use Rattle.af_base.specs.Places.{attached_in}
use Rattle.af_base.specs.Counts.{total_of}
use Rattle.af_base.specs.Listing.{keyed, message_of}
use Rattle.af_base.specs.declared.listing.ListedMessage.{ListedMessage}
use Rattle.af_base.proofs.TreeEntries.{listed}

-- A sum over what a list was mapped to.
pub sum_by-mapped : {A B : Type 0} (F : B → ℕ) (v : A → B) (xs : List A) → sum_by F (map v xs) ≡ sum_by (λ x. F (v x)) xs
sum_by-mapped F v [] = refl
sum_by-mapped F v (x ∷ xs) = sum_by-cons F (v x) (map v xs) ∙ ap (λ n. F (v x) + n) (sum_by-mapped F v xs) ∙ sym (sum_by-cons (λ y. F (v y)) x xs)

-- How many places a queue that is listed has.
pub length_queue : (q : List ListedMessage) → length (attached_in (map message_of q)) ≡ sum_by (λ m. length m.attached.items) q
length_queue q = length-flat_map (λ m. m.attached) (map message_of q) ∙ sum_by-mapped (λ m. length m.attached) message_of q

module _ {A X : Type 0} (key : A → ℕ) (value : A → X) where
  -- An item with its key.
  abbrev entry : A → ℕ × X
  entry x = (key x, value x)

  -- The entries of the map are the items in order.
  pub keyed-entries : (xs : List A) → IsStrictlyIncreasing (map key xs) → finmap.entries (keyed key value xs) ≡ map entry xs
  keyed-entries xs h = listed (map entry xs) (subst (IsStrictlySortedBy nat_cmp) (sym (map-map (λ e. e.0) entry xs)) (sorted_from_strictly_increasing (map key xs) h))

  -- The sum of its values.
  pub keyed-total : (F : X → ℕ) (xs : List A) → IsStrictlyIncreasing (map key xs) → total_of F (keyed key value xs) ≡ sum_by (λ x. F (value x)) xs
  keyed-total F xs h = ap (sum_by (λ e. F e.1)) (keyed-entries xs h) ∙ sum_by-mapped (λ e. F e.1) entry xs

  -- The value at a key is the first item with this key.
  pub keyed-get : (xs : List A) (q : ℕ) → finmap.get (keyed key value xs) q ≡ option_map value (find (λ x. nat_eq q (key x)) xs)
  keyed-get xs q = finmap.get-from_entries nat_cmp_total (map entry xs) q ∙ found xs where
    either : (b : Bool) (x : A) (o : Option A) → cond b (Some (value x)) (option_map value o) ≡ option_map value (cond b (Some x) o)
    either true x o = refl
    either false x o = refl

    found : (xs : List A) → finmap.find nat_cmp q (map entry xs) ≡ option_map value (find (λ x. nat_eq q (key x)) xs)
    found [] = refl
    found (x ∷ xs) = (λ i. cond (unsigned_tied q (key x) i) (Some (value x)) (found xs i)) ∙ either (nat_eq q (key x)) x (find (λ y. nat_eq q (key y)) xs)
