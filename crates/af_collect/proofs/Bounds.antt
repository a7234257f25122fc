-- The requirements of one place more and one place less, if the kept counts are the recounts.
use Rattle.std.proofs.Common.{◌≡◌, ◌<◌, ◌≤◌, ℕ, zero, suc, ◌+◌, ◌*◌, Bool, true, false, inl, inr, List, [], ◌∷◌, drop, length, refl, sym, ap, ◌∙◌, cond, nat_eq, arith}
use Rattle.std.specs.Prelude.{Option, Some, None, IsTrue, is_some}
use Rattle.std.specs.List.{Contains, sum_by}
use Rattle.std.specs.FinMap as map
use Rattle.std.proofs.lemmas.Bool.{cases_lt}
use Rattle.std.proofs.lemmas.List.Sums.{sum_by-cons}
use Rattle.af_base.specs.declared.limits.TheConstants.{MAX_INFLIGHT, MAX_NOFILE, MAX_PROCESSES}
use Rattle.af_base.specs.World.{AsSocket, Map, Message, Process, Socket, World}
use Rattle.af_base.specs.Places.{queue_of, table_at}
use Rattle.af_base.specs.Counts.{charge, charged, one, tabled, total, total_of}
use Rattle.af_base.specs.Whole.{IsWithin}
use Rattle.af_base.proofs.CountSums.{inflight-total}
use Rattle.af_base.proofs.PlacesAndCounts.{one-most, tabled-InTable}
use Rattle.af_base.proofs.Lookups.{none_some, not_same, remove-here, remove-other, same_or_not, itself}
use Rattle.af_base.proofs.Places.{inflight-left}
use Rattle.af_base.proofs.Sums.{total-remove}
use Rattle.af_base.proofs.Totals.{total-below, total-most}
use Rattle.af_base.proofs.StaysWithin.{total-left}
use Rattle.af_ledger.specs.Tally.{CanDrop, CanDropAll, CanHold, CanHoldAll, Tally, count_of, has_count, is_user}
use Rattle.af_ledger.specs.declared.place.Place.TheVariants.{Backlog, Table}
use Rattle.af_ledger.proofs.ManyPlaces.{one-itself}
use Rattle.af_collect.specs.Agreement.{Agrees}
use Rattle.af_collect.proofs.Recounts.{charged-shed, waiting-dequeued, Sheds}

-- All numbers of the map are below n.
abbrev AreBelow : ℕ → Map ℕ → Type 0
AreBelow n m = (i x : ℕ) → map.get m i ≡ Some x → i < n

-- A fact of maps with numbers below n, and with one number more.
low_step : (F : ℕ → ℕ) → ((x : ℕ) → F x ≤ 1) → (n : ℕ) → ((m : Map ℕ) → AreBelow n m → total_of F m ≤ n) → (m : Map ℕ) → AreBelow (suc n) m → total_of F m ≤ suc n
low_step F few n rest m low = by (map.get m n) refl where
  below : (i : ℕ) → ¬ (i ≡ n) → i < suc n → i < n
  below i apart less = elim (cases_lt i n) [ inl y ↦ y | inr y ↦ absurd (apart (omega (arith, y, less))) ]

  by : (o : Option ℕ) → map.get m n ≡ o → total_of F m ≤ suc n
  by None e =
      let all = rest m (λ i x is. below i (λ same. none_some x (sym e ∙ ap (map.get m) (sym same) ∙ is)) (low i x is)) in
      omega (arith, all)
  by (Some v) e =
      let all = rest (map.remove m n) (λ i x is. elim (same_or_not i n) [
        | inl same ↦ absurd (none_some x (sym (remove-here m n) ∙ ap (map.get (map.remove m n)) (sym same) ∙ is))
        | inr apart ↦ below i (not_same i n apart) (low i x (sym (remove-other m n i apart) ∙ is))
      ]) in
      omega (arith, all, few v, total-remove F m n v e)

-- A map whose numbers are all below n adds up to at most n, with at most one each.
total-low : (F : ℕ → ℕ) → ((x : ℕ) → F x ≤ 1) → (n : ℕ) (m : Map ℕ) → AreBelow n m → total_of F m ≤ n
total-low F few zero m low =
    let most : total_of F m ≤ map.len m * 0 = total-most F 0 m (λ i x is. let none = low i x is in absurd (omega (arith, none))) in
    omega (arith, most)
total-low F few (suc n) m low = low_step F few n (λ m low. total-low F few n m low) m low

-- All tables together have few descriptors of a file.
pub tabled-most : (w : World) (f : ℕ) (k : Tally) → IsWithin w → Agrees w k → (count_of k f).tabled ≤ MAX_PROCESSES * MAX_NOFILE
tabled-most w f k within agrees =
    let most : tabled w f ≤ map.len w.processes * MAX_NOFILE = total-most (λ q. total_of (one f) q.table) MAX_NOFILE w.processes each in
    omega (arith, most, within.process_count, agrees.tabled f) where
      each : (p : ℕ) (q : Process) → map.get w.processes p ≡ Some q → total_of (one f) q.table ≤ MAX_NOFILE
      each p q at =
          let fits = within.processes p q at in
          total-low (one f) (one-most f) MAX_NOFILE q.table (λ i x is. fits.numbers i (ap is_some is))

-- A number of a table more of f can be counted.
pub can-hold-table : (w : World) (f : ℕ) (k : Tally) → IsWithin w → Agrees w k → CanHold Table f k
can-hold-table w f k within agrees = (let most = tabled-most w f k within agrees in omega (arith, most), tt)

-- A queue charges a user for at most as many places as it has.
charge-most : (u : ℕ) (q : List Message) → sum_by (charge u) q ≤ sum_by (λ m. length m.attached) q
charge-most u [] = omega arith
charge-most u (m ∷ q) = omega (arith, by (nat_eq u m.user), charge-most u q, sum_by-cons (charge u) m q, sum_by-cons (λ m. length m.attached) m q) where
  by : (b : Bool) → cond b (length m.attached) 0 ≤ length m.attached
  by true = omega arith
  by false = omega arith

-- A user is charged for at most as many queue places as there are.
charged-total : (w : World) (u : ℕ) → charged w u ≤ total w
charged-total w u = total-below (λ x. sum_by (charge u) (queue_of x)) (λ x. sum_by (λ m. length m.attached) (queue_of x)) w.files w.files (λ i x is. (x, is, charge-most u (queue_of x)))

-- A message that all queues have room for can be counted and charged.
pub can-hold-all : (w : World) (m : Message) (k : Tally) → IsWithin w → total w + length m.attached ≤ MAX_INFLIGHT → IsTrue (is_user m.user k.users) → ((f : ℕ) → Contains m.attached f → IsTrue (has_count k f)) → Agrees w k → CanHoldAll m.user m.attached k
can-hold-all w m k within room user known agrees = record {
  known = known;
  countable = λ f. let same = agrees.inflight f in omega (arith, room, same, inflight-total w f);
  user = user;
  charge = let same = agrees.charged m.user in omega (arith, room, same, charged-total w m.user);
  total = let same = agrees.total in omega (arith, room, same);
}

-- A descriptor of f is counted.
pub can-drop-table : (w : World) (p n f : ℕ) (k : Tally) → table_at w p n ≡ Some f → Agrees w k → CanDrop Table f k
can-drop-table w p n f k is agrees =
    (omega (arith, tabled-InTable w f (p, n, is), agrees.tabled f), tt)

-- The first embryo of a backlog is counted.
pub can-drop-backlog : (w : World) (s f : ℕ) (x : Socket) (k : Tally) → map.get w.files s ≡ Some (AsSocket x) → x.backlog ≡ f ∷ drop 1 x.backlog → Agrees w k → CanDrop Backlog f k
can-drop-backlog w s f x k at first agrees =
    (omega (arith, agrees.waiting f, one-itself f, waiting-dequeued w s f f x at first), tt)

-- A message taken of a queue is counted and charged.
pub can-drop-all : (w : World) (s : ℕ) (m : Message) (rest : List Message) (x : Socket) (k : Tally) → map.get w.files s ≡ Some (AsSocket x) → Sheds x.queue m rest → Agrees w k → CanDropAll m.user m.attached k
can-drop-all w s m rest x k at shed agrees = record {
  counted = λ f. let same = agrees.inflight f in omega (arith, same, inflight-left w s m.attached rest f x at shed.leaves.carried);
  charge =
      let mine : charge m.user m ≡ length m.attached = ap {B = ℕ} (λ b. cond b (length m.attached) 0) (itself m.user) in
      omega (arith, agrees.charged m.user, mine, charged-shed w s m rest m.user x at shed);
  total = let same = agrees.total in omega (arith, same, total-left w s x m.attached rest at shed.leaves);
}
