-- One place added adds one.
use Rattle.std.proofs.Common.{◌≡◌, ℕ, ◌+◌, List, [], ◌∷◌, ◌++◌, ap, ◌∙◌, arith, append-nil}
use Rattle.std.specs.Prelude.{Some, None}
use Rattle.std.specs.Option.{option_map_or}
use Rattle.std.specs.FinMap as map
use Rattle.std.proofs.lemmas.List.Sums.{sum_by-append}
use Rattle.std.proofs.lemmas.Grind.{flat_map-append}
use Rattle.af_base.specs.World.{AsSocket, Message, Process, Socket, World}
use Rattle.af_base.specs.Places.{attached_in, contents, queue_of}
use Rattle.af_base.specs.Counts.{count_in, inflight, one, refs, total_of}
use Rattle.af_base.specs.Changes.{file_with, install, push_message, uninstall, with_queue}
use Rattle.af_base.proofs.Sums.{total-change_at, total-insert, total-remove}

-- A number taken into use.
pub refs-install : (w : World) (p n g f : ℕ) (q : Process) → map.get w.processes p ≡ Some q → map.get q.table n ≡ None → refs (install w p n g) f ≡ refs w f + one f g
refs-install w p n g f q there free =
    let table = total-insert (one f) q.table n g in
    let none = ap (λ o. total_of (one f) (map.insert q.table n g) + option_map_or (one f) o 0) free in
    omega (arith, table, none, total-change_at (λ x. total_of (one f) x.table) (λ x. record x { table = map.insert x.table n g }) w.processes p q there)

-- A closed descriptor is one reference less of its file.
pub refs-uninstall : (w : World) (p n g f : ℕ) (q : Process) → map.get w.processes p ≡ Some q → map.get q.table n ≡ Some g → refs (uninstall w p n) f + one f g ≡ refs w f
refs-uninstall w p n g f q there is =
    omega (arith, total-remove (one f) q.table n g is, total-change_at (λ x. total_of (one f) x.table) (λ x. record x { table = map.remove x.table n }) w.processes p q there)

-- A file is in two lists as often as in each, added.
pub count-append : (f : ℕ) (xs ys : List ℕ) → count_in f (xs ++ ys) ≡ count_in f xs + count_in f ys
count-append f xs ys = sum_by-append _ xs ys

-- The files of a queue after a message more are those before and those of the message.
pub carried-push : (q : List Message) (m : Message) → attached_in (q ++ m ∷ []) ≡ attached_in q ++ m.attached
carried-push q m = flat_map-append (λ m. m.attached) q (m ∷ []) ∙ ap (λ xs. attached_in q ++ xs) (append-nil m.attached)

-- A message put into a queue.
pub refs-push : (w : World) (s : ℕ) (m : Message) (f : ℕ) (x : Socket) → map.get w.files s ≡ Some (AsSocket x) → refs (push_message w s m) f ≡ refs w f + count_in f m.attached
refs-push w s m f x there =
    omega (
      arith,
      total-change_at (λ y. count_in f (contents y)) (file_with (λ x. record x { queue = x.queue ++ m ∷ [] })) w.files s (AsSocket x) there,
      ap (λ c. count_in f (c ++ x.backlog)) (carried-push x.queue m),
      count-append f (attached_in x.queue ++ m.attached) x.backlog,
      count-append f (attached_in x.queue) m.attached,
      count-append f (attached_in x.queue) x.backlog,
    )

-- A message that is queued adds its files in flight, repeats included.
pub inflight-push : (w : World) (s : ℕ) (m : Message) (f : ℕ) (x : Socket) → map.get w.files s ≡ Some (AsSocket x) → inflight (push_message w s m) f ≡ inflight w f + count_in f m.attached
inflight-push w s m f x there =
    omega (
      arith,
      total-change_at (λ y. count_in f (attached_in (queue_of y))) (file_with (λ x. record x { queue = x.queue ++ m ∷ [] })) w.files s (AsSocket x) there,
      ap (count_in f) (carried-push x.queue m),
      count-append f (attached_in x.queue) m.attached,
    )

-- These files taken out of a queue.
pub refs-left : (w : World) (s : ℕ) (fs : List ℕ) (rest : List Message) (f : ℕ) (x : Socket) → map.get w.files s ≡ Some (AsSocket x) → fs ++ attached_in rest ≡ attached_in x.queue → refs (with_queue w s rest) f + count_in f fs ≡ refs w f
refs-left w s fs rest f x there is =
    omega (
      arith,
      total-change_at (λ y. count_in f (contents y)) (file_with (λ x. record x { queue = rest })) w.files s (AsSocket x) there,
      ap (λ l. count_in f (l ++ x.backlog)) is,
      count-append f (fs ++ attached_in rest) x.backlog,
      count-append f fs (attached_in rest),
      count-append f (attached_in rest) x.backlog,
    )

-- A file is in flight less often by the places that it had among those taken out of a queue.
pub inflight-left : (w : World) (s : ℕ) (fs : List ℕ) (rest : List Message) (f : ℕ) (x : Socket) → map.get w.files s ≡ Some (AsSocket x) → fs ++ attached_in rest ≡ attached_in x.queue → inflight (with_queue w s rest) f + count_in f fs ≡ inflight w f
inflight-left w s fs rest f x there is =
    omega (
      arith,
      total-change_at (λ y. count_in f (attached_in (queue_of y))) (file_with (λ x. record x { queue = rest })) w.files s (AsSocket x) there,
      ap (count_in f) is,
      count-append f fs (attached_in rest),
    )
