-- The users charged for the files that a receive takes.
use Rattle.std.proofs.Common.{◌≡◌, ◌<◌, ◌≤◌, ℕ, ◌+◌, ◌-◌, ◌||◌, Bool, true, false, inl, inr, List, [], ◌∷◌, length, take, drop, refl, sym, ap, ◌∙◌, cond, nat_eq, arith}
use Rattle.std.specs.Prelude.{nat_le}
use Rattle.std.specs.Option.{option_map_or}
use Rattle.std.specs.List.{sum_by}
use Rattle.std.proofs.lemmas.Bool.{cases_lt, leb-false}
use Rattle.std.proofs.lemmas.List.{length-take}
use Rattle.std.proofs.lemmas.List.Sums.{sum_by-cons}
use Rattle.af_base.specs.declared.events.SockType.{SockType}
use Rattle.af_base.specs.declared.events.SockType.TheVariants.{Dgram, Seqpacket, Stream}
use Rattle.af_base.specs.World.{Message}
use Rattle.af_base.specs.Counts.{charge}
use Rattle.af_base.specs.Take.{cut, has_files, take_from}
use Rattle.af_base.proofs.ReceivedFiles.{HaveBytes, no_files}
use Rattle.af_queue.specs.TakenView.{message_at, received, sender_at}
use Rattle.af_queue.specs.Streams.{files_in, stream_cut}
use Rattle.af_queue.proofs.Spans.{at-front, at-rest, cut-part, cut-rest, cut-whole, files-front, files-rest, neither, stream_cut-front, stream_cut-rest, stream_cut-some, stream-is, stream-received}

-- The charge to user u for files of user v.
abbrev charged : ℕ → ℕ → List ℕ → ℕ
charged u v fs = cond (nat_eq u v) (length fs) 0

-- No files charge nobody.
charged-none : (u v : ℕ) (fs : List ℕ) → fs ≡ [] → charged u v fs ≡ 0
charged-none u v fs e = ap (λ l. cond (nat_eq u v) (length l) 0) e ∙ by (nat_eq u v) where
  by : (b : Bool) → cond {A = ℕ} b 0 0 ≡ 0
  by true = refl
  by false = refl

-- The files that a receive takes of a stream, and those left, are charged as before.
stream-charges : (u n : ℕ) (q : List Message) → 0 < n → HaveBytes q → charged u (sender_at (stream_cut n q) q) (files_in n q) + sum_by (charge u) (cut (stream_cut n q) q) ≡ sum_by (charge u) q
stream-charges u n [] some have = omega (arith, charged-none u 0 [] refl)
stream-charges u n (m ∷ q) some have = by (λ more. stream-charges u (n - length m.bytes) q more have.1) (has_files m || nat_le n (length m.bytes)) refl where
  front : (k : ℕ) → k ≤ length m.bytes → sender_at k (m ∷ q) ≡ m.user
  front k low = ap (λ o. option_map_or (λ m. m.user) o 0) (at-front m q k low)

  -- With no files of the first message it is the others.
  later : (r : List Message) → HaveBytes r → 0 < n - length m.bytes → charged u (sender_at (stream_cut (n - length m.bytes) r) r) (files_in (n - length m.bytes) r) ≡ charged u (sender_at (length m.bytes + stream_cut (n - length m.bytes) r) (m ∷ r)) (files_in (n - length m.bytes) r)
  later [] h more = charged-none u 0 [] refl ∙ sym (charged-none u (sender_at (length m.bytes + 0) (m ∷ [])) [] refl)
  later (x ∷ r) h more =
      let on = stream_cut-some (n - length m.bytes) x r more h in
      let at : message_at (length m.bytes + stream_cut (n - length m.bytes) (x ∷ r)) (m ∷ x ∷ r) ≡ message_at (stream_cut (n - length m.bytes) (x ∷ r)) (x ∷ r) =
      at-rest m (x ∷ r) (length m.bytes + stream_cut (n - length m.bytes) (x ∷ r)) (omega (arith, on)) ∙ ap (λ k. message_at k (x ∷ r)) (omega arith) in
      ap (λ o. charged u (option_map_or (λ m. m.user) o 0) (files_in (n - length m.bytes) (x ∷ r))) (sym at)

  by : (0 < n - length m.bytes → charged u (sender_at (stream_cut (n - length m.bytes) q) q) (files_in (n - length m.bytes) q) + sum_by (charge u) (cut (stream_cut (n - length m.bytes) q) q) ≡ sum_by (charge u) q) → (b : Bool) → (has_files m || nat_le n (length m.bytes)) ≡ b
      → charged u (sender_at (stream_cut n (m ∷ q)) (m ∷ q)) (files_in n (m ∷ q)) + sum_by (charge u) (cut (stream_cut n (m ∷ q)) (m ∷ q)) ≡ sum_by (charge u) (m ∷ q)
  by rest true e =
      let is = stream_cut-front m q n e in
      let all : charged u (sender_at (stream_cut n (m ∷ q)) (m ∷ q)) (files_in n (m ∷ q)) ≡ charge u m = λ i. charged u (front (stream_cut n (m ∷ q)) (omega (arith, is)) i) (files-front m q n e i) in
      elim (cases_lt n (length m.bytes)) [
        | inl low ↦
            let cut_is = cut-part m q (stream_cut n (m ∷ q)) (omega (arith, is, some, low)) (omega (arith, is, low)) in
            let left = ap (sum_by (charge u)) cut_is in
            omega (arith, all, left, charged-none u m.user [] refl, sum_by-cons (charge u) (record m { bytes = drop (stream_cut n (m ∷ q)) m.bytes; attached = [] }) q, sum_by-cons (charge u) m q)
        | inr high ↦
            let left = ap (sum_by (charge u)) (cut-whole m q (stream_cut n (m ∷ q)) have.1 (omega (arith, is, high))) in
            omega (arith, all, left, sum_by-cons (charge u) m q)
      ]
  by rest false e =
      let no = neither (has_files m) (nat_le n (length m.bytes)) e in
      let high = leb-false _ _ no.1 in
      let more : 0 < n - length m.bytes = omega (arith, high) in
      let is = stream_cut-rest m q n e in
      let none = charged-none u m.user m.attached (no_files m.attached no.0) in
      let took : charged u (sender_at (stream_cut n (m ∷ q)) (m ∷ q)) (files_in n (m ∷ q)) ≡ charged u (sender_at (stream_cut (n - length m.bytes) q) q) (files_in (n - length m.bytes) q) =
      (λ i. charged u (sender_at (is i) (m ∷ q)) (files-rest m q n e i)) ∙ sym (later q have.1 more) in
      let left : cut (stream_cut n (m ∷ q)) (m ∷ q) ≡ cut (stream_cut (n - length m.bytes) q) q = cut-rest m q (stream_cut n (m ∷ q)) (omega (arith, is)) ∙ ap (λ k. cut k q) (omega (arith, is)) in
      omega (arith, took, ap (sum_by (charge u)) left, rest more, none, sum_by-cons (charge u) m q)

-- The files that a receive of a whole packet takes, and those left, are charged as before.
packet-charges : (u : ℕ) (q : List Message) (n : ℕ)
    → charge u (received Seqpacket q n).message + sum_by (charge u) (take_from Seqpacket q n).rest
    ≡ sum_by (charge u) q
packet-charges u [] n = omega (arith, charged-none u 0 [] refl)
packet-charges u (m ∷ q) n =
    let low : length (take n m.bytes) ≤ length m.bytes = omega (arith, length-take n m.bytes) in
    let all : charged u (sender_at (length (take n m.bytes)) (m ∷ q)) m.attached ≡ charge u m =
    ap (λ o. charged u (option_map_or (λ m. m.user) o 0) m.attached)
    (at-front m q (length (take n m.bytes)) low) in
    omega (arith, all, sum_by-cons (charge u) m q)

-- The same by the socket's type.
pub charges-taken : (kind : SockType) (q : List Message) (n : ℕ) → 0 < n → HaveBytes q → (u : ℕ) → charge u (received kind q n).message + sum_by (charge u) (take_from kind q n).rest ≡ sum_by (charge u) q
charges-taken Stream q n some have u =
    ap (λ r. charge u r.message + sum_by (charge u) (take_from Stream q n).rest) (stream-received q n some have)
    ∙ ap (λ t. charged u (sender_at (stream_cut n q) q) (files_in n q) + sum_by (charge u) t.rest) (stream-is q n some have) ∙ stream-charges u n q some have
charges-taken Seqpacket q n some have u = packet-charges u q n
charges-taken Dgram q n some have u = packet-charges u q n
