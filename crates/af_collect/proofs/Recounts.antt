-- How each change of a world changes a single recount.
use Rattle.std.proofs.Common.{◌≡◌, ◌<◌, ℕ, ◌+◌, List, ◌∷◌, sym, ap, ◌∙◌, inl, inr, [], ◌++◌, drop, refl, arith}
use Rattle.std.specs.List.{sum_by}
use Rattle.std.proofs.lemmas.List.Sums.{sum_by-cons, sum_by-append}
use Rattle.std.specs.Prelude.{Option, Some, None}
use Rattle.std.specs.Option.{option_map_or}
use Rattle.std.specs.FinMap as map
use Rattle.af_base.specs.declared.events.SockType.{SockType}
use Rattle.af_base.specs.World.{Message, AsSocket, Map, Process, Socket, World}
use Rattle.af_base.specs.Counts.{charge, charged, count_in, one, tabled, total_of, waiting}
use Rattle.af_base.specs.Take.{take_from}
use Rattle.af_base.proofs.ReceivedFiles.{AreWithin, Leaves, have-bytes, leaves-first, leaves-taken}
use Rattle.af_base.specs.Places.{backlog_of, queue_of}
use Rattle.af_base.specs.Changes.{dequeued, file_with, install, push_message, uninstall, with_queue, with_socket}
use Rattle.af_base.proofs.PlacesAndCounts.{count-cons}
use Rattle.af_base.proofs.Lookups.{none_some, remove-here, remove-other, same_or_not}
use Rattle.af_base.proofs.Places.{refs-install, refs-uninstall}
use Rattle.af_base.proofs.Sums.{total-change_at, total-insert, total-remove}
use Rattle.af_base.proofs.Totals.{total-same}
use Rattle.af_queue.specs.TakenView.{received}
use Rattle.af_queue.proofs.Charges.{charges-taken}

-- A message was taken out of a queue: its files, and their charge, have left the queue.
pub record Sheds (q : List Message) (m : Message) (rest : List Message) : Type 0 where
  pub leaves : Leaves q m.attached rest
  pub charged : (u : ℕ) → charge u m + sum_by (charge u) rest ≡ sum_by (charge u) q

-- The first message taken.
pub sheds-first : (q : List Message) (m : Message) (rest : List Message) → AreWithin q → q ≡ m ∷ rest → Sheds q m rest
sheds-first q m rest k is = record {
  leaves = leaves-first q m rest k is;
  charged = λ u. sym (ap (sum_by (charge u)) is ∙ sum_by-cons (charge u) m rest);
}

-- The result of a receive.
pub sheds-taken : (kind : SockType) (q : List Message) (n : ℕ) → 0 < n → AreWithin q → Sheds q (received kind q n).message (take_from kind q n).rest
sheds-taken kind q n some k = record {
  leaves = leaves-taken kind q n k;
  charged = charges-taken kind q n some (have-bytes q k);
}

-- ---- single recounts

-- A new descriptor is one reference more.
pub tabled-install : (w : World) (p n g f : ℕ) (q : Process) → map.get w.processes p ≡ Some q → map.get q.table n ≡ None → tabled (install w p n g) f ≡ tabled w f + one f g
tabled-install w p n g f q at free = omega (arith, refs-install w p n g f q at free)

-- A closed descriptor is one reference less.
pub tabled-uninstall : (w : World) (p n g f : ℕ) (q : Process) → map.get w.processes p ≡ Some q → map.get q.table n ≡ Some g → tabled (uninstall w p n) f + one f g ≡ tabled w f
tabled-uninstall w p n g f q at is = omega (arith, refs-uninstall w p n g f q at is)

-- A message more charges its user what it carries.
pub charged-push : (w : World) (s : ℕ) (m : Message) (u : ℕ) (x : Socket) → map.get w.files s ≡ Some (AsSocket x) → charged (push_message w s m) u ≡ charged w u + charge u m
charged-push w s m u x at =
    omega (
      arith,
      total-change_at (λ y. sum_by (charge u) (queue_of y)) (file_with (λ x. record x { queue = x.queue ++ m ∷ [] })) w.files s (AsSocket x) at,
      sum_by-append (charge u) x.queue (m ∷ []),
      sum_by-cons (charge u) m [],
    )

-- A message taken is charged in no queue any more.
pub charged-shed : (w : World) (s : ℕ) (m : Message) (rest : List Message) (u : ℕ) (x : Socket) → map.get w.files s ≡ Some (AsSocket x) → Sheds x.queue m rest → charged (with_queue w s rest) u + charge u m ≡ charged w u
charged-shed w s m rest u x at shed = omega (arith, total-change_at (λ y. sum_by (charge u) (queue_of y)) (file_with (λ x. record x { queue = rest })) w.files s (AsSocket x) at, shed.charged u)

-- The first embryo that leaves a backlog has a place less there.
pub waiting-dequeued : (w : World) (s n f : ℕ) (x : Socket) → map.get w.files s ≡ Some (AsSocket x) → x.backlog ≡ n ∷ drop 1 x.backlog → waiting (with_socket w s dequeued) f + one f n ≡ waiting w f
waiting-dequeued w s n f x at first =
    omega (arith, ap (count_in f) first, count-cons f n (drop 1 x.backlog), total-change_at (λ y. count_in f (backlog_of y)) (file_with dequeued) w.files s (AsSocket x) at)

-- A value at a new key adds what it weighs.
pub total-new : {X : Type 0} (F : X → ℕ) (m : Map X) (k : ℕ) (v : X) → map.get m k ≡ None → total_of F (map.insert m k v) ≡ total_of F m + F v
total-new F m k v none =
    let before : option_map_or F (map.get m k) 0 ≡ 0 = ap (λ o. option_map_or F o 0) none in
    omega (arith, before, total-insert F m k v)

-- Removing a key keeps a sum to which its value adds nothing.
pub total-weightless : {X : Type 0} (F : X → ℕ) (m : Map X) (k : ℕ) → ((x : X) → map.get m k ≡ Some x → F x ≡ 0) → total_of F (map.remove m k) ≡ total_of F m
total-weightless {X = X} F m k light = by (map.get m k) refl where
  by : (o : Option X) → map.get m k ≡ o → total_of F (map.remove m k) ≡ total_of F m
  by (Some x) e = omega (arith, light x e, total-remove F m k x e)
  by None e = total-same F F (map.remove m k) m
      (λ j y is. elim (same_or_not j k) [
        | inl s ↦ absurd (none_some y (sym (ap (map.get (map.remove m k)) s ∙ remove-here m k) ∙ is))
        | inr a ↦ (y, sym (remove-other m k j a) ∙ is, refl)
      ])
      (λ j y is. elim (same_or_not j k) [
        | inl s ↦ absurd (none_some y (sym (ap (map.get m) s ∙ e) ∙ is))
        | inr a ↦ (y, remove-other m k j a ∙ is, refl)
      ])
