-- How each count changes with one place more or less: the laws that other crates cite.
use Rattle.std.proofs.Common.{◌≡◌, ℕ, ◌+◌, ◌<◌, Bool, true, false, cond, List, ◌++◌, ◌∷◌, [], ◌-◌, refl, sym, ap, ◌∙◌, subst, arith, rules}
use Rattle.std.specs.Prelude.{Option, Some, None, nat_eq, unwrap_or, is_some, IsSome, IsTrue, if◌then◌else◌}
use Rattle.std.specs.Cmp.{nat_cmp_total, unsigned_tied, nat_eq_equiv}
use Rattle.std.specs.FinMap as map
use Rattle.std.specs.FinMap.{get-insert, get-remove}
use Rattle.std.specs.Map.{lookup, set_value, keys_of}
use Rattle.std.specs.List.{list_any}
use Rattle.std.specs.Option.{option_map_or}
use Rattle.std.proofs.lemmas.Bool.{eqb-true, false≢true}
use Rattle.std.proofs.lemmas.Map.{lookup-set_value, keys-set_value}
use Rattle.std.proofs.lemmas.Map.Made.{is_some-lookup}
use Rattle.std.proofs.lemmas.List.{map-append}
use Rattle.af_base.specs.World.{Map}
use Rattle.af_base.specs.Counts.{one}
use Rattle.af_ledger.specs.Counted.{CountView, uncounted, places_in, more, fewer}
use Rattle.af_ledger.specs.Tally.{Tally, count_in_map, count_of, has_count, refs_of, charge_in, charge_of, recharged, is_user, with_user, with_ref, without_ref}
use Rattle.af_ledger.specs.declared.place.Place.{Place}
use Rattle.af_ledger.specs.declared.place.Place.TheVariants.{Table, Queue, Backlog}

-- A count that is set is seen at its file, and no other count changes.
looked : (m : Map CountView) (f g : ℕ) (c : CountView) → count_in_map (map.insert m f c) g ≡ cond (nat_eq g f) c (count_in_map m g)
looked m f g c = ap (λ o. unwrap_or o uncounted) (get-insert nat_cmp_total m f c g ∙ ap (λ b. cond b (Some c) (map.get m g)) (unsigned_tied g f)) ∙ by (nat_eq g f) where
  by : (b : Bool) → unwrap_or (cond b (Some c) (map.get m g)) uncounted ≡ cond b c (count_in_map m g)
  by true = refl
  by false = refl

-- A number F of f that rises by one, and of the others stays.
rises : (F : CountView → ℕ) (m : Map CountView) (f g : ℕ) (c : CountView) → F c ≡ F (count_in_map m f) + 1 → F (count_in_map (map.insert m f c) g) ≡ F (count_in_map m g) + one g f
rises F m f g c h = ap F (looked m f g c) ∙ by (nat_eq g f) refl where
  by : (b : Bool) → nat_eq g f ≡ b → F (cond b c (count_in_map m g)) ≡ F (count_in_map m g) + cond b 1 0
  by true e = h ∙ ap (λ x. F (count_in_map m x) + 1) (sym (eqb-true g f e))
  by false e = omega arith

-- One that stays for all.
stays : (F : CountView → ℕ) (m : Map CountView) (f g : ℕ) (c : CountView) → F c ≡ F (count_in_map m f) → F (count_in_map (map.insert m f c) g) ≡ F (count_in_map m g)
stays F m f g c h = ap F (looked m f g c) ∙ by (nat_eq g f) refl where
  by : (b : Bool) → nat_eq g f ≡ b → F (cond b c (count_in_map m g)) ≡ F (count_in_map m g)
  by true e = h ∙ ap (λ x. F (count_in_map m x)) (sym (eqb-true g f e))
  by false e = refl

-- One of f that falls by one, and of the others stays.
falls : (F : CountView → ℕ) (m : Map CountView) (f g : ℕ) (c : CountView) → F c + 1 ≡ F (count_in_map m f) → F (count_in_map (map.insert m f c) g) + one g f ≡ F (count_in_map m g)
falls F m f g c h = ap (λ x. F x + one g f) (looked m f g c) ∙ by (nat_eq g f) refl where
  by : (b : Bool) → nat_eq g f ≡ b → F (cond b c (count_in_map m g)) + cond b 1 0 ≡ F (count_in_map m g)
  by true e = h ∙ ap (λ x. F (count_in_map m x)) (sym (eqb-true g f e))
  by false e = omega arith

-- A number of a table more.
pub tabled-tabled : (f g : ℕ) (k : Tally) → (count_of (with_ref Table f k) g).tabled ≡ (count_of k g).tabled + one g f
tabled-tabled f g k = rises (λ c. c.tabled) k.counts f g (more Table (count_of k f)) refl

-- A number of a table more is no place in a queue.
pub inflight-tabled : (f g : ℕ) (k : Tally) → (count_of (with_ref Table f k) g).inflight ≡ (count_of k g).inflight
inflight-tabled f g k = stays (λ c. c.inflight) k.counts f g (more Table (count_of k f)) refl

-- Nor a place in a backlog.
pub waiting-tabled : (f g : ℕ) (k : Tally) → (count_of (with_ref Table f k) g).waiting ≡ (count_of k g).waiting
waiting-tabled f g k = stays (λ c. c.waiting) k.counts f g (more Table (count_of k f)) refl

-- A place in a queue more is no number of a table.
pub tabled-queued : (u f g : ℕ) (k : Tally) → (count_of (with_ref (Queue u) f k) g).tabled ≡ (count_of k g).tabled
tabled-queued u f g k = stays (λ c. c.tabled) k.counts f g (more (Queue u) (count_of k f)) refl

-- A place in a queue more.
pub inflight-queued : (u f g : ℕ) (k : Tally) → (count_of (with_ref (Queue u) f k) g).inflight ≡ (count_of k g).inflight + one g f
inflight-queued u f g k = rises (λ c. c.inflight) k.counts f g (more (Queue u) (count_of k f)) refl

-- A place in a queue more is no place in a backlog.
pub waiting-queued : (u f g : ℕ) (k : Tally) → (count_of (with_ref (Queue u) f k) g).waiting ≡ (count_of k g).waiting
waiting-queued u f g k = stays (λ c. c.waiting) k.counts f g (more (Queue u) (count_of k f)) refl

-- A place in a backlog more is no number of a table.
pub tabled-backlogged : (f g : ℕ) (k : Tally) → (count_of (with_ref Backlog f k) g).tabled ≡ (count_of k g).tabled
tabled-backlogged f g k = stays (λ c. c.tabled) k.counts f g (more Backlog (count_of k f)) refl

-- Nor a place in a queue.
pub inflight-backlogged : (f g : ℕ) (k : Tally) → (count_of (with_ref Backlog f k) g).inflight ≡ (count_of k g).inflight
inflight-backlogged f g k = stays (λ c. c.inflight) k.counts f g (more Backlog (count_of k f)) refl

-- A place in a backlog more.
pub waiting-backlogged : (f g : ℕ) (k : Tally) → (count_of (with_ref Backlog f k) g).waiting ≡ (count_of k g).waiting + one g f
waiting-backlogged f g k = rises (λ c. c.waiting) k.counts f g (more Backlog (count_of k f)) refl

-- A number of a table less.
pub tabled-untabled : (f g : ℕ) (k : Tally) → 0 < (count_of k f).tabled → (count_of (without_ref Table f k) g).tabled + one g f ≡ (count_of k g).tabled
tabled-untabled f g k some = falls (λ c. c.tabled) k.counts f g (fewer Table (count_of k f)) (omega arith)

-- A number of a table less is no place in a queue.
pub inflight-untabled : (f g : ℕ) (k : Tally) → (count_of (without_ref Table f k) g).inflight ≡ (count_of k g).inflight
inflight-untabled f g k = stays (λ c. c.inflight) k.counts f g (fewer Table (count_of k f)) refl

-- Nor a place in a backlog.
pub waiting-untabled : (f g : ℕ) (k : Tally) → (count_of (without_ref Table f k) g).waiting ≡ (count_of k g).waiting
waiting-untabled f g k = stays (λ c. c.waiting) k.counts f g (fewer Table (count_of k f)) refl

-- A place in a queue less is no number of a table.
pub tabled-unqueued : (u f g : ℕ) (k : Tally) → (count_of (without_ref (Queue u) f k) g).tabled ≡ (count_of k g).tabled
tabled-unqueued u f g k = stays (λ c. c.tabled) k.counts f g (fewer (Queue u) (count_of k f)) refl

-- A place in a queue less.
pub inflight-unqueued : (u f g : ℕ) (k : Tally) → 0 < (count_of k f).inflight → (count_of (without_ref (Queue u) f k) g).inflight + one g f ≡ (count_of k g).inflight
inflight-unqueued u f g k some = falls (λ c. c.inflight) k.counts f g (fewer (Queue u) (count_of k f)) (omega arith)

-- A place in a queue less is no place in a backlog.
pub waiting-unqueued : (u f g : ℕ) (k : Tally) → (count_of (without_ref (Queue u) f k) g).waiting ≡ (count_of k g).waiting
waiting-unqueued u f g k = stays (λ c. c.waiting) k.counts f g (fewer (Queue u) (count_of k f)) refl

-- A place in a backlog less is no number of a table.
pub tabled-unbacklogged : (f g : ℕ) (k : Tally) → (count_of (without_ref Backlog f k) g).tabled ≡ (count_of k g).tabled
tabled-unbacklogged f g k = stays (λ c. c.tabled) k.counts f g (fewer Backlog (count_of k f)) refl

-- Nor a place in a queue.
pub inflight-unbacklogged : (f g : ℕ) (k : Tally) → (count_of (without_ref Backlog f k) g).inflight ≡ (count_of k g).inflight
inflight-unbacklogged f g k = stays (λ c. c.inflight) k.counts f g (fewer Backlog (count_of k f)) refl

-- A place in a backlog less.
pub waiting-unbacklogged : (f g : ℕ) (k : Tally) → 0 < (count_of k f).waiting → (count_of (without_ref Backlog f k) g).waiting + one g f ≡ (count_of k g).waiting
waiting-unbacklogged f g k some = falls (λ c. c.waiting) k.counts f g (fewer Backlog (count_of k f)) (omega arith)

-- A charge that is set is seen at its user, and no other charge changes.
charge_set : (us : List (ℕ × ℕ)) (u v n m : ℕ) → lookup (nat_eq u) us ≡ Some n → charge_in (set_value (nat_eq u) us m) v ≡ cond (nat_eq u v) m (charge_in us v)
charge_set us u v n m e =
    ap (λ o. unwrap_or o 0) (lookup-set_value nat_eq_equiv (nat_eq u) (λ x y same. ap (λ z. nat_eq z y) (eqb-true u x same)) v m us (subst IsSome (sym e) (search rules))) ∙ by (nat_eq u v) where
      by : (b : Bool) → unwrap_or (cond b (Some m) (lookup (nat_eq v) us)) 0 ≡ cond b m (charge_in us v)
      by true = refl
      by false = refl

-- A place in a queue more is a unit more to its user, and to no other.
pub charge-queued : (u f v : ℕ) (k : Tally) → IsTrue (is_user u k.users) → charge_of (with_ref (Queue u) f k) v ≡ charge_of k v + one v u
charge-queued u f v k there = by (lookup (nat_eq u) k.users) refl where
  by : (o : Option ℕ) → lookup (nat_eq u) k.users ≡ o → charge_in (option_map_or (λ n. set_value (nat_eq u) k.users (n + 1)) o k.users) v ≡ charge_of k v + one v u
  by None e = absurd (false≢true (subst IsTrue (sym (is_some-lookup (nat_eq u) k.users) ∙ ap is_some e) there))
  by (Some n) e = charge_set k.users u v n (n + 1) e ∙ ap (λ b. cond b (n + 1) (charge_of k v)) (nat_eq_equiv.symm u v) ∙ at (nat_eq v u) refl where
    at : (b : Bool) → nat_eq v u ≡ b → cond b (n + 1) (charge_of k v) ≡ charge_of k v + cond b 1 0
    at true s = ap (λ o. unwrap_or o 0 + 1) (sym e ∙ ap (λ x. lookup (nat_eq x) k.users) (sym (eqb-true v u s)))
    at false s = omega arith

-- A place in a queue less is a unit less to its user, and to no other.
pub charge-unqueued : (u f v : ℕ) (k : Tally) → 0 < charge_of k u → charge_of (without_ref (Queue u) f k) v + one v u ≡ charge_of k v
charge-unqueued u f v k some = by (lookup (nat_eq u) k.users) refl where
  by : (o : Option ℕ) → lookup (nat_eq u) k.users ≡ o → charge_in (option_map_or (λ n. set_value (nat_eq u) k.users (n - 1)) o k.users) v + one v u ≡ charge_of k v
  by None e = let none : charge_of k u ≡ 0 = ap (λ o. unwrap_or o 0) e in absurd (omega arith)
  by (Some n) e =
      let is : charge_of k u ≡ n = ap (λ o. unwrap_or o 0) e in
      ap (λ c. c + one v u) (charge_set k.users u v n (n - 1) e ∙ ap (λ b. cond b (n - 1) (charge_of k v)) (nat_eq_equiv.symm u v)) ∙ at is (nat_eq v u) refl where
        at : charge_of k u ≡ n → (b : Bool) → nat_eq v u ≡ b → cond b (n - 1) (charge_of k v) + cond b 1 0 ≡ charge_of k v
        at is true s = let same : charge_of k v ≡ charge_of k u = ap (charge_of k) (eqb-true v u s) in omega arith
        at is false s = omega arith

-- The total charge is the number of places in queues.
pub total-queued : (u f : ℕ) (k : Tally) → (with_ref (Queue u) f k).total ≡ k.total + 1
total-queued u f k = refl

-- A reference that leaves a queue is one less in the total.
pub total-unqueued : (u f : ℕ) (k : Tally) → 0 < k.total → (without_ref (Queue u) f k).total + 1 ≡ k.total
total-unqueued u f k some = omega arith

-- A changed charge leaves the users as they are.
keys-recharged : (g : ℕ → ℕ) (u : ℕ) (us : List (ℕ × ℕ)) → keys_of (recharged g u us) ≡ keys_of us
keys-recharged g u us = by (lookup (nat_eq u) us) where
  by : (o : Option ℕ) → keys_of (option_map_or (λ n. set_value (nat_eq u) us (g n)) o us) ≡ keys_of us
  by None = refl
  by (Some n) = keys-set_value (nat_eq u) us (g n)

-- The users stay, and their order.
pub users-held : (p : Place) (f : ℕ) (k : Tally) → keys_of (with_ref p f k).users ≡ keys_of k.users
users-held Table f k = refl
users-held (Queue u) f k = keys-recharged (λ n. n + 1) u k.users
users-held Backlog f k = refl

-- A reference that is dropped leaves the users as they are.
pub users-dropped : (p : Place) (f : ℕ) (k : Tally) → keys_of (without_ref p f k).users ≡ keys_of k.users
users-dropped Table f k = refl
users-dropped (Queue u) f k = keys-recharged (λ n. n - 1) u k.users
users-dropped Backlog f k = refl

-- A new user is added at the end.
pub users-added : (u : ℕ) (us : List (ℕ × ℕ)) → keys_of (with_user u us) ≡ (if list_any (nat_eq u) (keys_of us) then keys_of us else keys_of us ++ u ∷ [])
users-added u us = by (is_user u us) where
  by : (b : Bool) → keys_of (cond b us (us ++ (u, 0) ∷ [])) ≡ cond b (keys_of us) (keys_of us ++ u ∷ [])
  by true = refl
  by false = map-append (λ e. e.0) us ((u, 0) ∷ [])

-- A new user is charged nothing, and no other charge changes.
charge_last : (us : List (ℕ × ℕ)) (u v : ℕ) → charge_in (us ++ (u, 0) ∷ []) v ≡ charge_in us v
charge_last [] u v = by (nat_eq v u) where
  by : (b : Bool) → unwrap_or {T = ℕ} (cond b (Some 0) None) 0 ≡ 0
  by true = refl
  by false = refl
charge_last (e ∷ us) u v = by (nat_eq v e.0) (charge_last us u v) where
  by : (b : Bool) → charge_in (us ++ (u, 0) ∷ []) v ≡ charge_in us v → unwrap_or (cond b (Some e.1) (lookup (nat_eq v) (us ++ (u, 0) ∷ []))) 0 ≡ unwrap_or (cond b (Some e.1) (lookup (nat_eq v) us)) 0
  by true h = refl
  by false h = h

-- And is charged nothing yet; the others are charged as before.
pub charge-added : (u v : ℕ) (k : Tally) → charge_of (record k { users = with_user u k.users }) v ≡ charge_of k v
charge-added u v k = by (is_user u k.users) where
  by : (b : Bool) → charge_in (cond b k.users (k.users ++ (u, 0) ∷ [])) v ≡ charge_of k v
  by true = refl
  by false = charge_last k.users u v

-- The numbers of f are kept where there is one.
pub counted-there : (k : Tally) (f : ℕ) → 0 < refs_of k f → IsTrue (has_count k f)
counted-there k f = by (map.get k.counts f) where
  by : (o : Option CountView) → 0 < places_in (unwrap_or o uncounted) → is_some o ≡ true
  by (Some c) h = refl
  by None h = absurd (omega arith)

-- A change at f keeps whose numbers are kept, where those of f are.
has-change : (m : Map CountView) (f g : ℕ) (c : CountView) → is_some (map.get m f) ≡ true → is_some (map.get (map.insert m f c) g) ≡ is_some (map.get m g)
has-change m f g c there = ap is_some (get-insert nat_cmp_total m f c g ∙ ap (λ b. cond b (Some c) (map.get m g)) (unsigned_tied g f)) ∙ by (nat_eq g f) refl where
  by : (b : Bool) → nat_eq g f ≡ b → is_some (cond b (Some c) (map.get m g)) ≡ is_some (map.get m g)
  by true e = sym (ap (λ x. is_some (map.get m x)) (eqb-true g f e) ∙ there)
  by false e = refl

-- A place more changes nothing of whose numbers are kept.
pub has-held : (p : Place) (f g : ℕ) (k : Tally) → IsTrue (has_count k f) → has_count (with_ref p f k) g ≡ has_count k g
has-held Table f g k there = has-change k.counts f g _ there
has-held (Queue u) f g k there = has-change k.counts f g _ there
has-held Backlog f g k there = has-change k.counts f g _ there

-- Nor does a place less.
pub has-dropped : (p : Place) (f g : ℕ) (k : Tally) → IsTrue (has_count k f) → has_count (without_ref p f k) g ≡ has_count k g
has-dropped Table f g k there = has-change k.counts f g _ there
has-dropped (Queue u) f g k there = has-change k.counts f g _ there
has-dropped Backlog f g k there = has-change k.counts f g _ there

-- The counts after f is entered: it had none before.
pub count-entered : (k : Tally) (f g : ℕ) → has_count k f ≡ false → count_of (record k { counts = map.insert k.counts f uncounted }) g ≡ count_of k g
count-entered k f g new = looked k.counts f g uncounted ∙ by (nat_eq g f) refl where
  stranger : (o : Option CountView) → is_some o ≡ false → unwrap_or o uncounted ≡ uncounted
  stranger None e = refl
  stranger (Some c) e = absurd (false≢true (sym e))

  by : (b : Bool) → nat_eq g f ≡ b → cond b uncounted (count_of k g) ≡ count_of k g
  by true e = sym (ap (count_of k) (eqb-true g f e) ∙ stranger (map.get k.counts f) new)
  by false e = refl

-- The files whose counts are kept after f is entered.
pub has-entered : (k : Tally) (f g : ℕ) → has_count (record k { counts = map.insert k.counts f uncounted }) g ≡ cond (nat_eq g f) true (has_count k g)
has-entered k f g = ap is_some (get-insert nat_cmp_total k.counts f uncounted g ∙ ap (λ b. cond b (Some uncounted) (map.get k.counts g)) (unsigned_tied g f)) ∙ by (nat_eq g f) where
  by : (b : Bool) → is_some (cond b (Some uncounted) (map.get k.counts g)) ≡ cond b true (has_count k g)
  by true = refl
  by false = refl

-- The counts after f, which has no place, is removed.
pub count-struck : (k : Tally) (f g : ℕ) → refs_of k f ≡ 0 → count_of (record k { counts = map.remove k.counts f }) g ≡ count_of k g
count-struck k f g none = ap (λ o. unwrap_or o uncounted) (get-remove nat_cmp_total k.counts f g ∙ ap (λ b. cond b None (map.get k.counts g)) (unsigned_tied g f)) ∙ by (nat_eq g f) refl where
  bare : (c : CountView) → places_in c ≡ 0 → uncounted ≡ c
  bare c e =
      let table : 0 ≡ c.tabled = omega (arith, e) in
      let queue : 0 ≡ c.inflight = omega (arith, e) in
      let backlog : 0 ≡ c.waiting = omega (arith, e) in
      λ i. record { tabled = table i; inflight = queue i; waiting = backlog i }

  by : (b : Bool) → nat_eq g f ≡ b → unwrap_or (cond b None (map.get k.counts g)) uncounted ≡ count_of k g
  by true e = bare (count_of k f) none ∙ sym (ap (count_of k) (eqb-true g f e))
  by false e = refl

-- The files whose counts are kept after f is removed.
pub has-struck : (k : Tally) (f g : ℕ) → has_count (record k { counts = map.remove k.counts f }) g ≡ cond (nat_eq g f) false (has_count k g)
has-struck k f g = ap is_some (get-remove nat_cmp_total k.counts f g ∙ ap (λ b. cond b None (map.get k.counts g)) (unsigned_tied g f)) ∙ by (nat_eq g f) where
  by : (b : Bool) → is_some (cond b None (map.get k.counts g)) ≡ cond b false (has_count k g)
  by true = refl
  by false = refl
