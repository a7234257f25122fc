-- Bytes and attached files that are copied message by message.
use Rattle.std.proofs.Common.{◌≡◌, ◌≤◌, ℕ, ◌+◌, ◌-◌, inl, inr, List, [], ◌++◌, length, take, take_all, min, append_assoc, append-nil, sym, ap, ◌∙◌, arith, ◌*◌, ◌∷◌, drop, refl}
use Rattle.std.proofs.lemmas.Bool.{cases_lt}
use Rattle.std.proofs.lemmas.List.{length-append, length-take, take-append-le, take_min, drop-append-le}
use Rattle.std.proofs.Math.Seq.{take-append-add, drop-append-add}
use Rattle.af_base.specs.Places.{attached_in}
use Rattle.af_base.specs.World.{Message}
use Rattle.af_base.specs.declared.limits.TheConstants.{SCM_MAX_FD}
use Rattle.af_queue.specs.Queued.{AreWithin}
use Rattle.af_queue.specs.declared.queue.TheConstants.{BATCH}

-- The first k of two lists are those of the one and then those of the other.
take-split : (k : ℕ) (xs ys : List ℕ) → take k (xs ++ ys) ≡ take k xs ++ take (k - length xs) ys
take-split k xs ys = elim (cases_lt k (length xs)) [
  | inl low ↦
      let none : k - length xs ≡ 0 = omega (arith, low) in
      take-append-le k xs ys (omega (arith, low)) ∙ sym (append-nil (take k xs)) ∙ ap (λ zs. take k xs ++ zs) (sym (ap (λ n. take n ys) none))
  | inr high ↦ ap (λ n. take n (xs ++ ys)) (omega (arith, high)) ∙ take-append-add xs ys (k - length xs) ∙ ap (λ zs. zs ++ take (k - length xs) ys) (sym (take_all k xs high))
]

-- One message more is copied, as far as there is room.
pub copied-more : (bytes now message rest : List ℕ) (count k : ℕ) → length bytes ≤ count → k ≡ min (count - length bytes) (length message) → now ≡ bytes ++ take k message
    → (length now ≤ count) × (now ++ take (count - length now) rest ≡ bytes ++ take (count - length bytes) (message ++ rest))
copied-more bytes now message rest count k low is e =
    let long : length now ≡ length bytes + k = ap length e ∙ length-append bytes (take k message) ∙ omega (arith, is, length-take k message) in
    let left : count - length now ≡ count - length bytes - length message = omega (arith, long, is, low) in
    let part : take k message ≡ take (count - length bytes) message = ap (λ n. take n message) is ∙ take_min (count - length bytes) message in (
      omega (arith, long, is, low),
      (λ i. e i ++ take (left i) rest) ∙ append_assoc bytes (take k message) (take (count - length bytes - length message) rest)
          ∙ ap (λ zs. bytes ++ zs) (ap (λ zs. zs ++ take (count - length bytes - length message) rest) part ∙ sym (take-split (count - length bytes) message rest)),
    )

-- They are few for each message.
pub carried_few : (q : List Message) → AreWithin q → length (attached_in q) ≤ SCM_MAX_FD * length q
carried_few [] h = omega arith
carried_few (m ∷ q) h =
    omega (arith, h.0.attached, carried_few q h.1, length-append m.attached (attached_in q))

module _ (files attached later : List ℕ) (skip : ℕ) where
  -- Some of a message's come next, as far as they fit.
  pub carried_here : (now : List ℕ) → length files ≤ BATCH → skip ≤ length attached → now ≡ files ++ take (BATCH - length files) (drop skip attached) → now ++ take (BATCH - length now) later ≡ files ++ take (BATCH - length files) (drop skip (attached ++ later))
  carried_here now fits low is =
      (copied-more files now (drop skip attached) later BATCH (min (BATCH - length files) (length (drop skip attached))) fits refl (is ∙ ap (λ xs. files ++ xs) (sym (take_min (BATCH - length files) (drop skip attached))))).1
      ∙ ap (λ xs. files ++ take (BATCH - length files) xs) (sym (drop-append-le skip attached later low))

  -- None of them do.
  pub carried_later : length attached ≤ skip → drop (skip - length attached) later ≡ drop skip (attached ++ later)
  carried_later high = sym (drop-append-add attached later (skip - length attached)) ∙ ap (λ n. drop n (attached ++ later)) (omega (arith, high))
