-- The numbers kept where several files gain or lose a place in a queue at once.
use Rattle.std.proofs.Common.{◌≡◌, ◌<◌, ℕ, ◌+◌, ◌-◌, Bool, true, false, List, [], ◌∷◌, ◌++◌, length, length-append, suc, add-one, drop-cons, refl, sym, ap, ◌∙◌, subst, cond, nat_eq, arith, take, drop}
use Rattle.std.specs.Prelude.{IsTrue, None, Option, Some, slice_index_or}
use Rattle.std.specs.Cmp.{nat_eq_equiv}
use Rattle.std.specs.List.{Contains, list_any}
use Rattle.std.specs.Map.{keys_of, lookup, set_value}
use Rattle.std.specs.Option.{option_map_or}
use Rattle.std.proofs.lemmas.Bool.{eqb-true}
use Rattle.std.proofs.lemmas.List.{take-append-drop, take_more}
use Rattle.std.proofs.lemmas.Map.{lookup-set_value}
use Rattle.std.proofs.lemmas.Map.Steps.{set_value_same}
use Rattle.std.proofs.lemmas.List.Elements.{Contains-append_left, Contains-append_right}
use Rattle.af_base.specs.Counts.{count_in, one}
use Rattle.af_base.proofs.Elements.{Contains-first, Contains-later}
use Rattle.af_base.proofs.PlacesAndCounts.{count-cons, count-length}
use Rattle.af_base.proofs.Lookups.{itself, some_is}
use Rattle.af_ledger.specs.Tally.{CanDrop, CanDropAll, CanHold, CanHoldAll, Tally, charge_of, charged_by, count_of, freed_by, has_count, is_user, recharged, with_ref, with_refs, without_ref, without_refs}
use Rattle.af_ledger.specs.declared.place.Place.{Place}
use Rattle.af_ledger.specs.declared.place.Place.TheVariants.{Queue}
use Rattle.af_ledger.proofs.Laws.{charge-queued, charge-unqueued, counted-there, has-dropped, has-held, inflight-queued, inflight-unqueued, tabled-queued, tabled-unqueued, total-queued, total-unqueued, users-dropped, users-held, waiting-queued, waiting-unqueued}

-- The list of users stays a list of users.
pub same-user : (u : ℕ) (us vs : List (ℕ × ℕ)) → keys_of vs ≡ keys_of us → IsTrue (is_user u us) → IsTrue (is_user u vs)
same-user u us vs e h = subst (λ ks. IsTrue (list_any (nat_eq u) ks)) (sym e) h

-- One file more in a list is a unit more to its user.
charge-longer : (b : Bool) (f : ℕ) (fs : List ℕ) → cond b (length (f ∷ fs)) 0 ≡ cond b 1 0 + cond b (length fs) 0
charge-longer true f fs = omega arith
charge-longer false f fs = refl

-- No file charges nobody.
charge-nothing : (b : Bool) → ◌≡◌ {A = ℕ} (cond b 0 0) 0
charge-nothing true = refl
charge-nothing false = refl

-- A number is itself once.
pub one-itself : (f : ℕ) → one f f ≡ 1
one-itself f = ap {B = ℕ} (λ b. cond b 1 0) (itself f)

-- One more is held after the others.
pub held-last : (p : Place) (fs : List ℕ) (f : ℕ) (k : Tally) → with_refs p (fs ++ f ∷ []) k ≡ with_ref p f (with_refs p fs k)
held-last p [] f k = refl
held-last p (g ∷ fs) f k = held-last p fs f (with_ref p g k)

-- One more is dropped after the others.
pub dropped-last : (p : Place) (fs : List ℕ) (f : ℕ) (k : Tally) → without_refs p (fs ++ f ∷ []) k ≡ without_ref p f (without_refs p fs k)
dropped-last p [] f k = refl
dropped-last p (g ∷ fs) f k = dropped-last p fs f (without_ref p g k)

module _ (u : ℕ) where
  -- None has a number of a table more.
  pub tabled-held_all : (g : ℕ) (fs : List ℕ) (k : Tally) → (count_of (with_refs (Queue u) fs k) g).tabled ≡ (count_of k g).tabled
  tabled-held_all g [] k = refl
  tabled-held_all g (f ∷ fs) k = tabled-held_all g fs (with_ref (Queue u) f k) ∙ tabled-queued u f g k

  -- Nor a place in a backlog more.
  pub waiting-held_all : (g : ℕ) (fs : List ℕ) (k : Tally) → (count_of (with_refs (Queue u) fs k) g).waiting ≡ (count_of k g).waiting
  waiting-held_all g [] k = refl
  waiting-held_all g (f ∷ fs) k = waiting-held_all g fs (with_ref (Queue u) f k) ∙ waiting-queued u f g k

  -- Each has as many places more in flight.
  pub inflight-held_all : (g : ℕ) (fs : List ℕ) (k : Tally) → (count_of (with_refs (Queue u) fs k) g).inflight ≡ (count_of k g).inflight + count_in g fs
  inflight-held_all g [] k = omega arith
  inflight-held_all g (f ∷ fs) k = omega (arith, inflight-held_all g fs (with_ref (Queue u) f k), inflight-queued u f g k, count-cons g f fs)

  -- The users stay.
  pub users-held_all : (fs : List ℕ) (k : Tally) → keys_of (with_refs (Queue u) fs k).users ≡ keys_of k.users
  users-held_all [] k = refl
  users-held_all (f ∷ fs) k = users-held_all fs (with_ref (Queue u) f k) ∙ users-held (Queue u) f k

  -- The user is charged a unit for each, and nobody else is.
  pub charge-held_all : (v : ℕ) (fs : List ℕ) (k : Tally) → IsTrue (is_user u k.users) → charge_of (with_refs (Queue u) fs k) v ≡ charge_of k v + cond (nat_eq v u) (length fs) 0
  charge-held_all v [] k there = omega (arith, charge-nothing (nat_eq v u))
  charge-held_all v (f ∷ fs) k there =
      let after = same-user u k.users (with_ref (Queue u) f k).users (users-held (Queue u) f k) there in
      omega (arith, charge-held_all v fs (with_ref (Queue u) f k) after, charge-queued u f v k there, charge-longer (nat_eq v u) f fs)

  -- All together are charged a unit for each.
  pub total-held_all : (fs : List ℕ) (k : Tally) → (with_refs (Queue u) fs k).total ≡ k.total + length fs
  total-held_all [] k = omega arith
  total-held_all (f ∷ fs) k = omega (arith, total-held_all fs (with_ref (Queue u) f k), total-queued u f k)

  -- The same files have numbers.
  pub has-held_all : (g : ℕ) (fs : List ℕ) (k : Tally) → ((f : ℕ) → Contains fs f → IsTrue (has_count k f)) → has_count (with_refs (Queue u) fs k) g ≡ has_count k g
  has-held_all g [] k known = refl
  has-held_all g (f ∷ fs) k known =
      let first = known f (Contains-first f fs) in
      has-held_all g fs (with_ref (Queue u) f k) (λ h c. has-held (Queue u) f h k first ∙ known h (Contains-later f fs h c)) ∙ has-held (Queue u) f g k first

  -- The next of several files can be held when those before are.
  pub can-hold-next : (done rest : List ℕ) (f : ℕ) (k : Tally) → CanHoldAll u (done ++ f ∷ rest) k → length done < length (done ++ f ∷ rest) → ((g : ℕ) → Contains done g → IsTrue (has_count k g)) → CanHold (Queue u) f (with_refs (Queue u) done k)
  can-hold-next done rest f k h short known =
      let places = h.countable f in
      let charges = h.charge in
      let all = h.total in (
        omega (arith, short, places, inflight-held_all f done k, count-length f done),
        (
          same-user u k.users (with_refs (Queue u) done k).users (users-held_all done k) h.user,
          omega (arith, short, charges, charge-held_all u done k h.user, ap {B = ℕ} (λ b. cond b (length done) 0) (itself u)),
          omega (arith, short, all, total-held_all done k),
        ),
      )

  -- The counts that can be lowered after the first of several was.
  can-drop-rest : (f : ℕ) (fs : List ℕ) (k : Tally) → CanDropAll u (f ∷ fs) k → (0 < (count_of k f).inflight) × (0 < charge_of k u) × (0 < k.total) × CanDropAll u fs (without_ref (Queue u) f k)
  can-drop-rest f fs k h =
      let counted = h.counted f in
      let charge = h.charge in
      let total = h.total in
      let some : 0 < (count_of k f).inflight = omega (arith, counted, count-cons f f fs, one-itself f) in
      let charged : 0 < charge_of k u = omega (arith, charge) in
      let all : 0 < k.total = omega (arith, total) in (
        some,
        charged,
        all,
        record {
          counted = λ g. let each = h.counted g in omega (arith, each, count-cons g f fs, inflight-unqueued u f g k some);
          charge = omega (arith, charge, charge-unqueued u f u k charged, one-itself u);
          total = omega (arith, total, total-unqueued u f k all);
        },
      )

  -- None has a number of a table less.
  pub tabled-dropped_all : (g : ℕ) (fs : List ℕ) (k : Tally) → (count_of (without_refs (Queue u) fs k) g).tabled ≡ (count_of k g).tabled
  tabled-dropped_all g [] k = refl
  tabled-dropped_all g (f ∷ fs) k = tabled-dropped_all g fs (without_ref (Queue u) f k) ∙ tabled-unqueued u f g k

  -- Nor a place in a backlog less.
  pub waiting-dropped_all : (g : ℕ) (fs : List ℕ) (k : Tally) → (count_of (without_refs (Queue u) fs k) g).waiting ≡ (count_of k g).waiting
  waiting-dropped_all g [] k = refl
  waiting-dropped_all g (f ∷ fs) k = waiting-dropped_all g fs (without_ref (Queue u) f k) ∙ waiting-unqueued u f g k

  -- Each has as many places less in flight.
  pub inflight-dropped_all : (g : ℕ) (fs : List ℕ) (k : Tally) → CanDropAll u fs k → (count_of (without_refs (Queue u) fs k) g).inflight + count_in g fs ≡ (count_of k g).inflight
  inflight-dropped_all g [] k h = omega arith
  inflight-dropped_all g (f ∷ fs) k h =
      let rest = can-drop-rest f fs k h in
      omega (arith, inflight-dropped_all g fs (without_ref (Queue u) f k) rest.3, inflight-unqueued u f g k rest.0, count-cons g f fs)

  -- The users stay.
  pub users-dropped_all : (fs : List ℕ) (k : Tally) → keys_of (without_refs (Queue u) fs k).users ≡ keys_of k.users
  users-dropped_all [] k = refl
  users-dropped_all (f ∷ fs) k = users-dropped_all fs (without_ref (Queue u) f k) ∙ users-dropped (Queue u) f k

  -- The user is charged a unit less for each, and nobody else is.
  pub charge-dropped_all : (v : ℕ) (fs : List ℕ) (k : Tally) → CanDropAll u fs k → charge_of (without_refs (Queue u) fs k) v + cond (nat_eq v u) (length fs) 0 ≡ charge_of k v
  charge-dropped_all v [] k h = omega (arith, charge-nothing (nat_eq v u))
  charge-dropped_all v (f ∷ fs) k h =
      let rest = can-drop-rest f fs k h in
      omega (arith, charge-dropped_all v fs (without_ref (Queue u) f k) rest.3, charge-unqueued u f v k rest.1, charge-longer (nat_eq v u) f fs)

  -- All together are charged a unit less for each.
  pub total-dropped_all : (fs : List ℕ) (k : Tally) → CanDropAll u fs k → (without_refs (Queue u) fs k).total + length fs ≡ k.total
  total-dropped_all [] k h = omega arith
  total-dropped_all (f ∷ fs) k h =
      let rest = can-drop-rest f fs k h in
      omega (arith, total-dropped_all fs (without_ref (Queue u) f k) rest.3, total-unqueued u f k rest.2)

  -- The same files have numbers.
  pub has-dropped_all : (g : ℕ) (fs : List ℕ) (k : Tally) → CanDropAll u fs k → has_count (without_refs (Queue u) fs k) g ≡ has_count k g
  has-dropped_all g [] k h = refl
  has-dropped_all g (f ∷ fs) k h =
      let rest = can-drop-rest f fs k h in
      let some = rest.0 in
      has-dropped_all g fs (without_ref (Queue u) f k) rest.3 ∙ has-dropped (Queue u) f g k (counted-there k f (omega (arith, some)))

  -- The next of several files can be dropped when those before are.
  pub can-drop-next : (done rest : List ℕ) (f : ℕ) (k : Tally) → CanDropAll u (done ++ f ∷ rest) k → CanDrop (Queue u) f (without_refs (Queue u) done k)
  can-drop-next [] rest f k h = let first = can-drop-rest f rest k h in (first.0, (first.1, first.2))
  can-drop-next (g ∷ done) rest f k h = can-drop-next done rest f (without_ref (Queue u) g k) (can-drop-rest g (done ++ f ∷ rest) k h).3

module _ (u : ℕ) where
  -- A value that is set twice is set once.
  set-twice : (es : List (ℕ × ℕ)) (v w : ℕ) → set_value (nat_eq u) (set_value (nat_eq u) es v) w ≡ set_value (nat_eq u) es w
  set-twice [] v w = refl
  set-twice (e ∷ es) v w = at (nat_eq u e.0) refl (set-twice es v w) where
    at : (b : Bool) → nat_eq u e.0 ≡ b → set_value (nat_eq u) (set_value (nat_eq u) es v) w ≡ set_value (nat_eq u) es w → set_value (nat_eq u) (cond b ((e.0, v) ∷ es) (e ∷ set_value (nat_eq u) es v)) w ≡ cond b ((e.0, w) ∷ es) (e ∷ set_value (nat_eq u) es w)
    at true same rest = ap (λ b. cond b ((e.0, w) ∷ es) ((e.0, v) ∷ set_value (nat_eq u) es w)) same
    at false apart rest = ap (λ b. cond b ((e.0, w) ∷ set_value (nat_eq u) es v) (e ∷ set_value (nat_eq u) (set_value (nat_eq u) es v) w)) apart ∙ ap (λ xs. e ∷ xs) rest

  -- A value that was set is found.
  set-found : (es : List (ℕ × ℕ)) (n v : ℕ) → lookup (nat_eq u) es ≡ Some n → lookup (nat_eq u) (set_value (nat_eq u) es v) ≡ Some v
  set-found es n v e = lookup-set_value nat_eq_equiv (nat_eq u) (λ x y same. ap (λ z. nat_eq z y) (eqb-true u x same)) u v es (some_is _ n e) ∙ ap (λ b. cond b (Some v) (lookup (nat_eq u) es)) (itself u)

  -- Charging once and once more is charging by both.
  recharged-twice : (g h : ℕ → ℕ) (us : List (ℕ × ℕ)) → recharged h u (recharged g u us) ≡ recharged (λ n. h (g n)) u us
  recharged-twice g h us = by (lookup (nat_eq u) us) refl where
    by : (o : Option ℕ) → lookup (nat_eq u) us ≡ o → recharged h u (option_map_or (λ n. set_value (nat_eq u) us (g n)) o us) ≡ option_map_or (λ n. set_value (nat_eq u) us (h (g n))) o us
    by None e = ap (λ o. option_map_or (λ n. set_value (nat_eq u) us (h n)) o us) e
    by (Some n) e = ap (λ o. option_map_or (λ m. set_value (nat_eq u) (set_value (nat_eq u) us (g n)) (h m)) o (set_value (nat_eq u) us (g n))) (set-found us n (g n) e) ∙ set-twice us (g n) (h (g n))

  -- By nothing changes nothing.
  recharged-same : (g : ℕ → ℕ) (us : List (ℕ × ℕ)) → ((n : ℕ) → g n ≡ n) → recharged g u us ≡ us
  recharged-same g us same = by (lookup (nat_eq u) us) refl where
    by : (o : Option ℕ) → lookup (nat_eq u) us ≡ o → option_map_or (λ n. set_value (nat_eq u) us (g n)) o us ≡ us
    by None e = refl
    by (Some n) e = ap (set_value (nat_eq u) us) (same n) ∙ set_value_same (nat_eq u) us n e

  -- By the same, the same.
  recharged-by : (g h : ℕ → ℕ) (us : List (ℕ × ℕ)) → ((n : ℕ) → g n ≡ h n) → recharged g u us ≡ recharged h u us
  recharged-by g h us same = λ i. recharged (λ n. same n i) u us

  -- Holding each of several files charges the user by their number, and leaves the rest but for the
  -- counts.
  pub charged-held_all : (fs : List ℕ) (k : Tally) → record (charged_by (length fs) u k) { counts = (with_refs (Queue u) fs k).counts } ≡ with_refs (Queue u) fs k
  charged-held_all [] k =
      let total : k.total + 0 ≡ k.total = omega arith in
      λ i. record k { users = recharged-same (λ n. n + 0) k.users (λ n. omega arith) i; total = total i }
  charged-held_all (f ∷ fs) k =
      let users : recharged (λ n. n + length (f ∷ fs)) u k.users ≡ recharged (λ n. n + length fs) u (with_ref (Queue u) f k).users =
      recharged-by (λ n. n + length (f ∷ fs)) (λ n. n + 1 + length fs) k.users (λ n. omega arith) ∙ sym (recharged-twice (λ n. n + 1) (λ n. n + length fs) k.users) in
      let total : k.total + length (f ∷ fs) ≡ (with_ref (Queue u) f k).total + length fs = omega arith in
      (λ i. record k { counts = (with_refs (Queue u) (f ∷ fs) k).counts; users = users i; total = total i }) ∙ charged-held_all fs (with_ref (Queue u) f k)

  -- And dropping each frees as many.
  pub freed-dropped_all : (fs : List ℕ) (k : Tally) → record (freed_by (length fs) u k) { counts = (without_refs (Queue u) fs k).counts } ≡ without_refs (Queue u) fs k
  freed-dropped_all [] k =
      let total : k.total - 0 ≡ k.total = omega arith in
      λ i. record k { users = recharged-same (λ n. n - 0) k.users (λ n. omega arith) i; total = total i }
  freed-dropped_all (f ∷ fs) k =
      let users : recharged (λ n. n - length (f ∷ fs)) u k.users ≡ recharged (λ n. n - length fs) u (without_ref (Queue u) f k).users =
      recharged-by (λ n. n - length (f ∷ fs)) (λ n. n - 1 - length fs) k.users (λ n. omega arith) ∙ sym (recharged-twice (λ n. n - 1) (λ n. n - length fs) k.users) in
      let total : k.total - length (f ∷ fs) ≡ (without_ref (Queue u) f k).total - length fs = omega arith in
      (λ i. record k { counts = (without_refs (Queue u) (f ∷ fs) k).counts; users = users i; total = total i }) ∙ freed-dropped_all fs (without_ref (Queue u) f k)

-- A list split at one of its places.
pub at-place : (xs : List ℕ) (i x : ℕ) → i < length xs → x ≡ slice_index_or xs i x → xs ≡ take i xs ++ x ∷ drop (i + 1) xs
at-place xs i x low read =
    let rest : drop i xs ≡ x ∷ drop (i + 1) xs = rw add-one (drop-cons xs i x low ∙ ap (λ y. y ∷ drop (suc i) xs) (sym read)) in
    sym (take-append-drop i xs) ∙ ap (λ ys. take i xs ++ ys) rest

-- One more is held than the first i.
pub held-more : (p : Place) (xs : List ℕ) (i x : ℕ) (k : Tally) → i < length xs → x ≡ slice_index_or xs i x → with_refs p (take (i + 1) xs) k ≡ with_ref p x (with_refs p (take i xs) k)
held-more p xs i x k low read = ap (λ ys. with_refs p ys k) (take_more xs i x low ∙ ap (λ y. take i xs ++ y ∷ []) (sym read)) ∙ held-last p (take i xs) x k

-- One more is dropped than the first i.
pub dropped-more : (p : Place) (xs : List ℕ) (i x : ℕ) (k : Tally) → i < length xs → x ≡ slice_index_or xs i x → without_refs p (take (i + 1) xs) k ≡ without_ref p x (without_refs p (take i xs) k)
dropped-more p xs i x k low read = ap (λ ys. without_refs p ys k) (take_more xs i x low ∙ ap (λ y. take i xs ++ y ∷ []) (sym read)) ∙ dropped-last p (take i xs) x k

-- The next is known and can be held when the first i are.
pub hold-next : (u : ℕ) (xs : List ℕ) (i x : ℕ) (k : Tally) → CanHoldAll u xs k → i < length xs → x ≡ slice_index_or xs i x → IsTrue (has_count (with_refs (Queue u) (take i xs) k) x) × CanHold (Queue u) x (with_refs (Queue u) (take i xs) k)
hold-next u xs i x k h low read =
    let whole = at-place xs i x low read in
    let all : CanHoldAll u (take i xs ++ x ∷ drop (i + 1) xs) k = subst (λ ys. CanHoldAll u ys k) whole h in
    let before : (g : ℕ) → Contains (take i xs) g → IsTrue (has_count k g) = λ g c. h.known g (subst (λ ys. Contains ys g) (sym whole) (Contains-append_left (take i xs) (x ∷ drop (i + 1) xs) g c)) in (
      has-held_all u x (take i xs) k before ∙ h.known x (subst (λ ys. Contains ys x) (sym whole) (Contains-append_right (take i xs) (x ∷ drop (i + 1) xs) x (Contains-first x (drop (i + 1) xs)))),
      can-hold-next u (take i xs) (drop (i + 1) xs) x k all (omega (arith, length-append (take i xs) (x ∷ drop (i + 1) xs))) before,
    )

-- The next can be dropped when the first i are.
pub drop-next : (u : ℕ) (xs : List ℕ) (i x : ℕ) (k : Tally) → CanDropAll u xs k → i < length xs → x ≡ slice_index_or xs i x → CanDrop (Queue u) x (without_refs (Queue u) (take i xs) k)
drop-next u xs i x k h low read = can-drop-next u (take i xs) (drop (i + 1) xs) x k (subst (λ ys. CanDropAll u ys k) (at-place xs i x low read) h)
