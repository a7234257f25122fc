-- The places of a file by their kinds: they add up to its references, and those in flight are among
-- all in flight.
use Rattle.std.proofs.Common.{◌≡◌, ◌≤◌, ℕ, ◌+◌, List, [], ◌∷◌, length, refl, arith}
use Rattle.std.specs.List.{sum_by}
use Rattle.std.specs.FinMap as map
use Rattle.std.proofs.lemmas.List.Sums.{sum_by-cons}
use Rattle.af_base.specs.World.{Message, World}
use Rattle.af_base.specs.Places.{attached_in, backlog_of, contents, queue_of}
use Rattle.af_base.specs.Counts.{count_in, inflight, refs, tabled, total, waiting}
use Rattle.af_base.proofs.PlacesAndCounts.{count-length}
use Rattle.af_base.proofs.Places.{count-append}
use Rattle.af_base.proofs.Totals.{total-below}

-- A total of sums is the sum of the totals.
sums-added : {X : Type 0} (F G H : X → ℕ) → ((x : X) → F x ≡ G x + H x) → (es : List (ℕ × X)) → sum_by (λ e. F e.1) es ≡ sum_by (λ e. G e.1) es + sum_by (λ e. H e.1) es
sums-added F G H each [] = refl
sums-added F G H each (e ∷ es) = omega (arith, sums-added F G H each es, each e.1, sum_by-cons (λ d. F d.1) e es, sum_by-cons (λ d. G d.1) e es, sum_by-cons (λ d. H d.1) e es)

-- A file is held in tables, in queues and in backlogs.
pub refs-add_up : (w : World) (f : ℕ) → refs w f ≡ tabled w f + inflight w f + waiting w f
refs-add_up w f = omega (arith, sums-added (λ x. count_in f (contents x)) (λ x. count_in f (attached_in (queue_of x))) (λ x. count_in f (backlog_of x)) (λ x. count-append f (attached_in (queue_of x)) (backlog_of x)) (map.entries w.files))

-- A queue has a file in at most as many places as it has places.
carried-most : (f : ℕ) (q : List Message) → count_in f (attached_in q) ≤ sum_by (λ m. length m.attached) q
carried-most f [] = omega arith
carried-most f (m ∷ q) = omega (arith, count-append f m.attached (attached_in q), count-length f m.attached, carried-most f q, sum_by-cons (λ m. length m.attached) m q)

-- A file is in flight at most as often as there are queue places.
pub inflight-total : (w : World) (f : ℕ) → inflight w f ≤ total w
inflight-total w f = total-below (λ x. count_in f (attached_in (queue_of x))) (λ x. sum_by (λ m. length m.attached) (queue_of x)) w.files w.files (λ i x is. (x, is, carried-most f (queue_of x)))
