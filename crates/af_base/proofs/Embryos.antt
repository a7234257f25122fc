-- How many backlog places hold a file, under each change.
use Rattle.std.proofs.Common.{◌≡◌, ◌≤◌, ℕ, ◌+◌, inl, inr, List, [], ◌∷◌, drop, length, refl, sym, ap, ◌∙◌, Bool, arith}
use Rattle.std.specs.Prelude.{Some}
use Rattle.std.specs.List.{Contains}
use Rattle.std.specs.FinMap as map
use Rattle.std.proofs.lemmas.Bool.{cases_lt}
use Rattle.std.proofs.lemmas.List.Elements.{Contains-append_right}
use Rattle.af_base.specs.World.{AsSocket, File, Plain, Socket, World}
use Rattle.af_base.specs.Places.{Holds, attached_in, backlog_of, queue_of}
use Rattle.af_base.specs.Counts.{count_in, one, waiting}
use Rattle.af_base.specs.Unheld.{file_without, without}
use Rattle.af_base.specs.Changes.{dequeued, add_file, file_with, queued, with_socket}
use Rattle.af_base.proofs.FreedCounts.{without-was}
use Rattle.af_base.proofs.Elements.{Contains-later}
use Rattle.af_base.proofs.PlacesAndCounts.{Contains-count, count-cons, total-some}
use Rattle.af_base.proofs.PlaceMoves.{there-holds, total-changed}
use Rattle.af_base.proofs.Places.{count-append}
use Rattle.af_base.proofs.Sums.{total-change_at, total-insert}
use Rattle.af_base.proofs.Totals.{total-below}

-- No file has two backlog places.
abbrev pub WaitOnce : World → Type 0
WaitOnce w = (f : ℕ) → waiting w f ≤ 1

-- An element of a list without its first is in the list.
pub Contains-dropped : (xs : List ℕ) (f : ℕ) → Contains (drop 1 xs) f → Contains xs f
Contains-dropped [] f h = h
Contains-dropped (x ∷ xs) f h = Contains-later x xs f h

-- Removing the first element raises no count.
count-drop : (xs : List ℕ) (f : ℕ) → count_in f (drop 1 xs) ≤ count_in f xs
count-drop [] f = omega arith
count-drop (x ∷ xs) f = omega (arith, count-cons f x xs)

-- Without its first a list is no longer.
pub length-drop_most : (xs : List ℕ) → length (drop 1 xs) ≤ length xs
length-drop_most [] = omega arith
length-drop_most (x ∷ xs) = omega arith

-- A socket's change that leaves its backlog alone.
pub waiting-changed : (w : World) (s : ℕ) (g : Socket → Socket) → ((x : Socket) → (g x).backlog ≡ x.backlog) → (f : ℕ) → waiting (with_socket w s g) f ≡ waiting w f
waiting-changed w s g same f = total-changed (λ x. count_in f (backlog_of x)) w s g (λ x. ap (count_in f) (same x))

-- A file more with no backlog adds nothing.
pub waiting-add_file : (w : World) (x : File) → backlog_of x ≡ [] → (f : ℕ) → waiting (add_file w x) f ≤ waiting w f
waiting-add_file w x bare f =
    let none : count_in f (backlog_of x) ≡ 0 = ap (count_in f) bare in
    omega (arith, none, total-insert (λ y. count_in f (backlog_of y)) w.files w.next_ino x)

-- An embryo more in a backlog has a place more.
pub waiting-queued : (w : World) (s n : ℕ) (x : Socket) → map.get w.files s ≡ Some (AsSocket x) → (f : ℕ) → waiting (with_socket w s (queued n)) f ≡ waiting w f + one f n
waiting-queued w s n x at f =
    let none : count_in f [] ≡ 0 = refl in
    omega (arith, none, count-append f x.backlog (n ∷ []), count-cons f n [], total-change_at (λ y. count_in f (backlog_of y)) (file_with (queued n)) w.files s (AsSocket x) at)

-- Where the first leaves a backlog, no file has a place more.
pub waiting-accepted : (w : World) (s : ℕ) (x : Socket) → map.get w.files s ≡ Some (AsSocket x) → (f : ℕ) → waiting (with_socket w s dequeued) f ≤ waiting w f
waiting-accepted w s x at f = omega (arith, count-drop x.backlog f, total-change_at (λ y. count_in f (backlog_of y)) (file_with dequeued) w.files s (AsSocket x) at)

-- Where files are gone, no file has a place more.
pub waiting-gone : (gone : ℕ → Bool) (w : World) (f : ℕ) → waiting (without gone w) f ≤ waiting w f
waiting-gone gone w f = total-below (λ x. count_in f (backlog_of x)) (λ x. count_in f (backlog_of x)) (without gone w).files w.files (λ k y is.
    let was = without-was gone w k y is in
    let weight : count_in f (backlog_of y) ≡ count_in f (backlog_of was.0) = ap (λ z. count_in f (backlog_of z)) (sym was.3) ∙ ap (count_in f) (each was.0) in
    (was.0, was.1, omega (arith, weight))) where
      each : (x : File) → backlog_of (file_without gone x) ≡ backlog_of x
      each Plain = refl
      each (AsSocket s) = refl

-- A file that no place holds waits in no backlog.
pub waiting-none : (w : World) (f : ℕ) → ((s : ℕ) → ¬ (Holds w s f)) → waiting w f ≡ 0
waiting-none w f none = elim (cases_lt 0 (waiting w f)) [
  | inl some ↦
      let at = total-some (λ x. count_in f (backlog_of x)) w.files some in
      absurd (none at.0 (there-holds w at.0 f at.1 at.2 (Contains-append_right (attached_in (queue_of at.1)) (backlog_of at.1) f (Contains-count f (backlog_of at.1) at.3))))
  | inr low ↦ omega (arith, low)
]
