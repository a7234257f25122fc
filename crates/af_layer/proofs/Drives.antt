-- The result of a drive, from the results of its workers.
use Rattle.std.proofs.Common.{◌≡◌, ◌<◌, ◌≤◌, ℕ, zero, suc, List, [], ◌∷◌, length, inl, inr, refl, sym, ap, ◌∙◌, subst, arith, append-nil, slice_index_or, map, ◌+◌, Global, length-append}
use Rattle.std.specs.Prelude.{Option, Some, None, IfSome, Vec, slice_get}
use Rattle.std.proofs.lemmas.List.{get_or-map, length-map}
use Rattle.af_base.specs.declared.events.Event.{Event}
use Rattle.af_layer.specs.declared.book.CallError.{CallError}
use Rattle.af_layer.specs.declared.workers.Turns.{Turns}
use Rattle.af_layer.specs.Audit.{list_at, nobody}
use Rattle.af_layer.specs.Drive.{Collects, Driven, IsFirstShort, Made, NoTurn, Part, Script, Work, turns_of, works_of}
use Rattle.af_layer.specs.Log.{Pair}
use Rattle.af_layer.specs.Seats.{SeatView}
use Rattle.af_layer.specs.Workers.{AllWorked, Ends, LeastBelow, Worked, WorkerView, seats_of, worker_of, workers_of}

-- Where nothing was done, a beginning was.
still : (work : Option Work) (old : List Pair) → Part work old old
still None old = inl refl
still (Some (Script [])) old = inl ([], sym (append-nil old), refl)
still (Some (Script (e ∷ events))) old = inr ([], e, events, refl, ([], sym (append-nil old), refl))
still (Some (Collects zero budget)) old = inl NoTurn
still (Some (Collects (suc n) budget)) old = inr (0, omega arith, NoTurn)

-- A drive that was not started.
pub driven-still : (seats : List SeatView) (works : List Work) → Driven Part seats works seats
driven-still seats works = record { count = refl; numbers = λ i lt. refl; lists = λ i lt. still (slice_get works i) (list_at seats i) }

-- There is as much work as there are scripts, and turns of a collector.
pub works_count : (scripts : List (Vec Event Global)) (collector : Option Turns) → length (works_of scripts collector) ≡ length scripts + length (turns_of collector)
works_count scripts collector = length-append (map (λ v. Script v.items) scripts) (turns_of collector) ∙ ap (λ n. n + length (turns_of collector)) (length-map scripts (λ v. Script v.items))

-- There are as many workers as seats.
workers-count : (seats : List SeatView) (works : List Work) → length (workers_of seats works) ≡ length seats
workers-count [] works = refl
workers-count (s ∷ seats) [] = omega (arith, workers-count seats [])
workers-count (s ∷ seats) (work ∷ works) = omega (arith, workers-count seats works)

-- The worker at a position has the seat and the work there.
workers-at : (seats : List SeatView) (works : List Work) (i : ℕ) (other : WorkerView) → i < length seats → slice_index_or (workers_of seats works) i other ≡ worker_of (slice_index_or seats i nobody) (slice_get works i)
workers-at [] works i other lt = absurd (omega (arith, lt))
workers-at (s ∷ seats) [] zero other lt = refl
workers-at (s ∷ seats) [] (suc i) other lt = workers-at seats [] i other (omega (arith, lt))
workers-at (s ∷ seats) (work ∷ works) zero other lt = refl
workers-at (s ∷ seats) (work ∷ works) (suc i) other lt = workers-at seats works i other (omega (arith, lt))

-- The workers, if there are none.
idle : WorkerView
idle = worker_of nobody None

-- The results of workers with and without a fault.
made-or-short : (work : Option Work) (old : List Pair) (f : Option CallError) (new : List Pair) → Ends work old f new → Part work old new
made-or-short work old None new ends = inl ends
made-or-short work old (Some e) new ends = inr ends

-- A fault that is there has a number that is not below the least.
not-below : (f : Option CallError) (k n : ℕ) → IfSome f (λ e. k ≤ n) → n < k → f ≡ None
not-below None k n least lt = refl
not-below (Some e) k n least lt = absurd (omega (arith, least, lt))

module _ (seats : List SeatView) (works : List Work) (workers done : List WorkerView) (after : List SeatView) (is : workers ≡ workers_of seats works) (count : length done ≡ length workers) (worked : AllWorked workers done) (back : after ≡ seats_of done) where
  -- The worker at a position when it is done.
  done-at : ℕ → WorkerView
  done-at i = slice_index_or done i idle

  -- There are as many workers then.
  done-count : length done ≡ length seats
  done-count = count ∙ ap length is ∙ workers-count seats works

  -- It had the seat and the work of that position.
  worked-at : (i : ℕ) → i < length seats → Worked (worker_of (slice_index_or seats i nobody) (slice_get works i)) (done-at i)
  unfolding done-at
  worked-at i lt = subst (λ j. Worked j (done-at i)) (ap (λ l. slice_index_or l i idle) is ∙ workers-at seats works i idle lt) (worked i idle (omega (arith, lt, done-count, count)))

  -- Its seat comes back.
  seat-at : (i : ℕ) → i < length seats → slice_index_or after i nobody ≡ (done-at i).seat
  unfolding done-at
  seat-at i lt = ap (λ l. slice_index_or l i nobody) back ∙ get_or-map (λ (j : WorkerView). j.seat) done i idle nobody (omega (arith, lt, done-count))

  -- The result of its worker, which stopped at this fault or at none.
  ends-at : (f : Option CallError) (i : ℕ) → i < length seats → (done-at i).fault ≡ f → Ends (slice_get works i) (list_at seats i) f (list_at after i)
  ends-at f i lt stopped =
      subst (λ (s : SeatView). Ends (slice_get works i) (list_at seats i) f s.list) (sym (seat-at i lt))
      (subst (λ g. Ends (slice_get works i) (list_at seats i) g (done-at i).seat.list) stopped (worked-at i lt).list)

  -- A fact of each list is one of the drive.
  driven : (R : Option Work → List Pair → List Pair → Type 0) → ((i : ℕ) → i < length seats → R (slice_get works i) (list_at seats i) (list_at after i)) → Driven R seats works after
  driven R each = record {
    count = ap length back ∙ length-map done (λ j. j.seat) ∙ done-count;
    numbers = λ i lt. ap (λ s. s.number) (seat-at i lt) ∙ (worked-at i lt).number;
    lists = each;
  }

  -- Where no worker was stopped, all was done.
  pub driven-made : LeastBelow done (length done) None → Driven Made seats works after
  unfolding done-at
  driven-made none = driven Made (λ i lt. ends-at None i lt (none i idle (omega (arith, lt, done-count))))

  -- Each worker did all, or a beginning.
  pub driven-part : Driven Part seats works after
  driven-part = driven Part (λ i lt. made-or-short (slice_get works i) (list_at seats i) (done-at i).fault (list_at after i) (ends-at (done-at i).fault i lt refl))

  -- The least seat that was stopped is the first whose list falls short.
  pub first-short : (k : ℕ) (e : CallError) → LeastBelow done (length done) (Some (k, e)) → IsFirstShort k seats works after
  unfolding done-at
  first-short k e least =
      let at = least.0.0 in
      let here : at < length seats = omega (arith, least.0.1, done-count) in
      let said = least.0.2 idle in record {
        short = (at, here, sym (worked-at at here).number ∙ said.0, ends-at (Some e) at here said.1);
        below = λ i lt low. ends-at None i lt
            (not-below (done-at i).fault k (done-at i).seat.number (least.1 i idle (omega (arith, lt, done-count))) (subst (λ n. n < k) (sym (worked-at i lt).number) low));
      }
