-- A stream's receive, message by message, is what is said of it as a whole.
use Rattle.std.proofs.Common.{◌≡◌, ◌<◌, ◌≤◌, ℕ, ◌+◌, ◌-◌, ◌||◌, Bool, true, false, inl, inr, List, [], ◌∷◌, ◌++◌, length, take, drop, min, refl, sym, ap, ◌∙◌, cond, arith}
use Rattle.std.specs.Prelude.{Option, Some, None, nat_le, nat_lt}
use Rattle.std.specs.Option.{option_map_or}
use Rattle.std.specs.List.{AllByRecursion, find, slice_get}
use Rattle.std.proofs.lemmas.Bool.{cases_Bool, le-leb, le-ltb, leb-false, leb-true, lt-leb, lt-ltb, ltb-false, ltb-true, or_right}
use Rattle.std.proofs.lemmas.List.{length-append, length-take, take-append-le}
use Rattle.af_base.specs.declared.events.SockType.TheVariants.{Seqpacket, Stream}
use Rattle.af_base.specs.World.{Message}
use Rattle.af_base.specs.Take.{cut, has_files, joined, take_stream}
use Rattle.af_base.specs.Whole.{IsMessageWithin}
use Rattle.af_base.proofs.ReceivedFiles.{HaveBytes, before, before-here, before-later, cut_none, find-here, find-later, no_files, up_to}
use Rattle.af_queue.specs.TakenView.{TakenView, message_at, received, sender_at, with_files_of}
use Rattle.af_queue.specs.Streams.{files_in, stream_cut}

-- Where the first message with files ends, or all bytes do.
abbrev end_of : List Message → Option Message → ℕ
end_of q o = option_map_or (λ m. before q + length m.bytes) o (before q)

-- How many bytes there are up to the end of the first message with files, or in all.
abbrev end : List Message → ℕ
end q = end_of q (find has_files q)

-- The files of the first message that has some.
abbrev first_files : List Message → List ℕ
first_files q = option_map_or (λ m. m.attached) (find has_files q) []

module _ (m : Message) (q : List Message) where
  -- Where the first message has files, the end is that of its bytes.
  end-here : has_files m ≡ true → end (m ∷ q) ≡ length m.bytes
  end-here t = ap (end_of (m ∷ q)) (find-here m q t) ∙ ap (λ k. k + length m.bytes) (before-here m q t) ∙ omega arith

  -- Where it has none, the end is that of the others, behind its bytes.
  end-later : has_files m ≡ false → end (m ∷ q) ≡ length m.bytes + end q
  end-later t = ap (end_of (m ∷ q)) (find-later m q t) ∙ by (find has_files q) where
    by : (o : Option Message) → end_of (m ∷ q) o ≡ length m.bytes + end_of q o
    by None = before-later m q t
    by (Some x) = omega (arith, before-later m q t)

  -- A receive, a byte and a cut at n: within the first message, or beyond it.
  module _ (n : ℕ) where
    -- A receive that ends with the first message takes as many of its bytes as it asks for, or all.
    pub stream_cut-front : has_files m || nat_le n (length m.bytes) ≡ true → stream_cut n (m ∷ q) ≡ min n (length m.bytes)
    stream_cut-front e = ap (λ b. cond b (min n (length m.bytes)) (length m.bytes + stream_cut (n - length m.bytes) q)) e

    -- Any other takes all bytes of the first message, and then some of the others.
    pub stream_cut-rest : has_files m || nat_le n (length m.bytes) ≡ false → stream_cut n (m ∷ q) ≡ length m.bytes + stream_cut (n - length m.bytes) q
    stream_cut-rest e = ap (λ b. cond b (min n (length m.bytes)) (length m.bytes + stream_cut (n - length m.bytes) q)) e

    -- A receive that ends with the first message takes the files of that message.
    pub files-front : has_files m || nat_le n (length m.bytes) ≡ true → files_in n (m ∷ q) ≡ m.attached
    files-front e = ap (λ b. cond b m.attached (files_in (n - length m.bytes) q)) e

    -- Any other takes the files that a receive of the remaining bytes takes from the others.
    pub files-rest : has_files m || nat_le n (length m.bytes) ≡ false → files_in n (m ∷ q) ≡ files_in (n - length m.bytes) q
    files-rest e = ap (λ b. cond b m.attached (files_in (n - length m.bytes) q)) e

    -- The first message has each byte up to its length.
    pub at-front : n ≤ length m.bytes → message_at n (m ∷ q) ≡ Some m
    at-front le = ap (λ b. cond b (Some m) (message_at (n - length m.bytes) q)) (le-leb n (length m.bytes) le)

    -- Any later byte is among the others, counted from the end of the first.
    pub at-rest : length m.bytes < n → message_at n (m ∷ q) ≡ message_at (n - length m.bytes) q
    at-rest lt = ap (λ b. cond b (Some m) (message_at (n - length m.bytes) q)) (lt-leb n (length m.bytes) lt)

    -- The first message without its first n bytes, and without its files.
    abbrev shorter : Message
    shorter = record m { bytes = drop n m.bytes; attached = [] }

    -- A cut of at least its bytes removes it, and cuts the others by what remains.
    pub cut-rest : length m.bytes ≤ n → cut n (m ∷ q) ≡ cut (n - length m.bytes) q
    cut-rest le = ap (λ b. cond b (cut (n - length m.bytes) q) (cond (nat_lt 0 n) (shorter ∷ q) (m ∷ q))) (le-leb (length m.bytes) n le)

    -- A cut of fewer leaves the rest of its bytes, without its files.
    pub cut-part : 0 < n → n < length m.bytes → cut n (m ∷ q) ≡ shorter ∷ q
    cut-part some lt =
        ap (λ b. cond b (cut (n - length m.bytes) q) (cond (nat_lt 0 n) (shorter ∷ q) (m ∷ q))) (lt-leb (length m.bytes) n lt)
        ∙ ap (λ b. cond b (shorter ∷ q) (m ∷ q)) (lt-ltb 0 n some)

    -- A cut of just its bytes leaves the others as they are.
    pub cut-whole : HaveBytes q → n ≡ length m.bytes → cut n (m ∷ q) ≡ q
    cut-whole have e = cut-rest (omega (arith, e)) ∙ ap (λ k. cut k q) (omega (arith, e)) ∙ cut_none q have

-- Neither of two.
pub neither : (a b : Bool) → a || b ≡ false → (a ≡ false) × (b ≡ false)
neither false b e = (refl, e)
neither true b e = absurd (let no : true ≡ false = e in cc)

-- A receive takes of a stream as many bytes as it asks for, but none behind that end.
stream_cut-is : (n : ℕ) (q : List Message) → stream_cut n q ≡ min n (end q)
stream_cut-is n [] = omega arith
stream_cut-is n (m ∷ q) = by (stream_cut-is (n - length m.bytes) q) (has_files m) refl (nat_le n (length m.bytes)) refl where
  by : stream_cut (n - length m.bytes) q ≡ min (n - length m.bytes) (end q) → (a : Bool) → has_files m ≡ a → (b : Bool) → nat_le n (length m.bytes) ≡ b → stream_cut n (m ∷ q) ≡ min n (end (m ∷ q))
  by rest true t b d = stream_cut-front m q n (ap (λ a. a || nat_le n (length m.bytes)) t) ∙ ap (min n) (sym (end-here m q t))
  by rest false t true d = stream_cut-front m q n (ap (λ a. a || nat_le n (length m.bytes)) t ∙ d) ∙ (let low = leb-true _ _ d in omega (arith, low, end-later m q t))
  by rest false t false d = stream_cut-rest m q n (ap (λ a. a || nat_le n (length m.bytes)) t ∙ d) ∙ (let high = leb-false _ _ d in omega (arith, rest, high, end-later m q t))

-- It takes at most all that is there.
pub stream_cut-most : (n : ℕ) (q : List Message) → stream_cut n q ≤ length (joined q)
stream_cut-most n [] = omega arith
stream_cut-most n (m ∷ q) = by (stream_cut-most (n - length m.bytes) q) (has_files m || nat_le n (length m.bytes)) refl where
  by : stream_cut (n - length m.bytes) q ≤ length (joined q) → (b : Bool) → (has_files m || nat_le n (length m.bytes)) ≡ b → stream_cut n (m ∷ q) ≤ length (m.bytes ++ joined q)
  by rest true e = omega (arith, stream_cut-front m q n e, length-append m.bytes (joined q))
  by rest false e = omega (arith, rest, stream_cut-rest m q n e, length-append m.bytes (joined q))

-- Something is taken where something is.
pub stream_cut-some : (n : ℕ) (m : Message) (q : List Message) → 0 < n → HaveBytes (m ∷ q) → 0 < stream_cut n (m ∷ q)
stream_cut-some n m q some have = by (has_files m || nat_le n (length m.bytes)) refl where
  by : (b : Bool) → (has_files m || nat_le n (length m.bytes)) ≡ b → 0 < stream_cut n (m ∷ q)
  by true e = omega (arith, stream_cut-front m q n e, some, have.0)
  by false e = omega (arith, stream_cut-rest m q n e, have.0)

-- The message with which it ends has the last byte.
pub files-at : (n : ℕ) (q : List Message) → 0 < n → HaveBytes q → option_map_or (λ m. m.attached) (message_at (stream_cut n q) q) [] ≡ files_in n q
files-at n [] some have = refl
files-at n (m ∷ []) some have = by (has_files m || nat_le n (length m.bytes)) refl where
  by : (b : Bool) → (has_files m || nat_le n (length m.bytes)) ≡ b → option_map_or (λ m. m.attached) (message_at (stream_cut n (m ∷ [])) (m ∷ [])) [] ≡ files_in n (m ∷ [])
  by true e = ap (λ o. option_map_or (λ m. m.attached) o []) (at-front m [] (stream_cut n (m ∷ [])) (omega (arith, stream_cut-front m [] n e))) ∙ sym (files-front m [] n e)
  by false e =
      let no = neither (has_files m) (nat_le n (length m.bytes)) e in
      ap (λ o. option_map_or (λ m. m.attached) o []) (at-front m [] (stream_cut n (m ∷ [])) (omega (arith, stream_cut-rest m [] n e))) ∙ no_files m.attached no.0 ∙ sym (files-rest m [] n e)
files-at n (m ∷ x ∷ q) some have = by (λ more. files-at (n - length m.bytes) (x ∷ q) more have.1) (has_files m || nat_le n (length m.bytes)) refl where
  by : (0 < n - length m.bytes → option_map_or (λ m. m.attached) (message_at (stream_cut (n - length m.bytes) (x ∷ q)) (x ∷ q)) [] ≡ files_in (n - length m.bytes) (x ∷ q)) → (b : Bool) → (has_files m || nat_le n (length m.bytes)) ≡ b
      → option_map_or (λ m. m.attached) (message_at (stream_cut n (m ∷ x ∷ q)) (m ∷ x ∷ q)) [] ≡ files_in n (m ∷ x ∷ q)
  by rest true e = ap (λ o. option_map_or (λ m. m.attached) o []) (at-front m (x ∷ q) (stream_cut n (m ∷ x ∷ q)) (omega (arith, stream_cut-front m (x ∷ q) n e))) ∙ sym (files-front m (x ∷ q) n e)
  by rest false e =
      let high = leb-false _ _ (neither (has_files m) (nat_le n (length m.bytes)) e).1 in
      let more : 0 < n - length m.bytes = omega (arith, high) in
      let long = stream_cut-rest m (x ∷ q) n e in
      let on = stream_cut-some (n - length m.bytes) x q more have.1 in
      ap (λ o. option_map_or (λ m. m.attached) o []) (at-rest m (x ∷ q) (stream_cut n (m ∷ x ∷ q)) (omega (arith, long, on)) ∙ ap (λ k. message_at k (x ∷ q)) (omega (arith, long)))
      ∙ rest more ∙ sym (files-rest m (x ∷ q) n e)

-- They are the files of the first message that has some, where a byte of it is taken.
files-of : (n : ℕ) (q : List Message) → 0 < n → HaveBytes q → cond (nat_lt (before q) (stream_cut n q)) (first_files q) [] ≡ files_in n q
files-of n [] some have = by (nat_lt (before []) (stream_cut n [])) where
  by : (b : Bool) → cond {A = List ℕ} b [] [] ≡ []
  by true = refl
  by false = refl
files-of n (m ∷ q) some have = by (λ more. files-of (n - length m.bytes) q more have.1) (has_files m) refl (nat_le n (length m.bytes)) refl where
  same : (a b c : ℕ) → nat_lt (a + b) (a + c) ≡ nat_lt b c
  same a b c = elim (cases_Bool (nat_lt b c)) [
    | inl t ↦ (let h = ltb-true b c t in lt-ltb (a + b) (a + c) (omega (arith, h))) ∙ sym t
    | inr t ↦ (let h = ltb-false b c t in le-ltb (a + b) (a + c) (omega (arith, h))) ∙ sym t
  ]

  by : (0 < n - length m.bytes → cond (nat_lt (before q) (stream_cut (n - length m.bytes) q)) (first_files q) [] ≡ files_in (n - length m.bytes) q) → (a : Bool) → has_files m ≡ a → (b : Bool) → nat_le n (length m.bytes) ≡ b
      → cond (nat_lt (before (m ∷ q)) (stream_cut n (m ∷ q))) (first_files (m ∷ q)) [] ≡ files_in n (m ∷ q)
  by rest true t b d =
      let e = ap (λ a. a || nat_le n (length m.bytes)) t in
      ap (λ b. cond b (first_files (m ∷ q)) []) (lt-ltb (before (m ∷ q)) (stream_cut n (m ∷ q)) (omega (arith, before-here m q t, stream_cut-front m q n e, some, have.0)))
      ∙ ap (λ o. option_map_or (λ m. m.attached) o []) (find-here m q t) ∙ sym (files-front m q n e)
  by rest false t true d =
      let e = ap (λ a. a || nat_le n (length m.bytes)) t ∙ d in
      ap (λ b. cond b (first_files (m ∷ q)) []) (le-ltb (before (m ∷ q)) (stream_cut n (m ∷ q)) (omega (arith, before-later m q t, stream_cut-front m q n e)))
      ∙ sym (no_files m.attached t) ∙ sym (files-front m q n e)
  by rest false t false d =
      let e = ap (λ a. a || nat_le n (length m.bytes)) t ∙ d in
      (λ i. cond (nat_lt (before-later m q t i) (stream_cut-rest m q n e i)) (option_map_or (λ m. m.attached) (find-later m q t i) []) [])
      ∙ ap (λ b. cond b (first_files q) []) (same (length m.bytes) (before q) (stream_cut (n - length m.bytes) q))
      ∙ rest (omega (arith, leb-false _ _ d)) ∙ sym (files-rest m q n e)

-- The part up to a position, part by part.
parts : (q : List Message) (n : ℕ) (o : Option Message) → up_to q n o ≡ record { bytes = take (min n (end_of q o)) (joined q); attached = cond (nat_lt (before q) (min n (end_of q o))) (option_map_or (λ m. m.attached) o []) []; trunc = false; rest = cut (min n (end_of q o)) q }
parts q n None = refl
parts q n (Some m) = refl

-- A stream's receive by its span.
pub stream-is : (q : List Message) (n : ℕ) → 0 < n → HaveBytes q → take_stream q n ≡ record { bytes = take (stream_cut n q) (joined q); attached = files_in n q; trunc = false; rest = cut (stream_cut n q) q }
stream-is q n some have =
    parts q n (find has_files q)
    ∙ (λ i. record { bytes = take (sym (stream_cut-is n q) i) (joined q); attached = cond (nat_lt (before q) (sym (stream_cut-is n q) i)) (first_files q) []; trunc = false; rest = cut (sym (stream_cut-is n q) i) q })
    ∙ (λ i. record { bytes = take (stream_cut n q) (joined q); attached = files-of n q some have i; trunc = false; rest = cut (stream_cut n q) q })

-- Its bytes are as many.
stream_cut-long : (n : ℕ) (q : List Message) → length (take (stream_cut n q) (joined q)) ≡ stream_cut n q
stream_cut-long n q = let most = stream_cut-most n q in omega (arith, most, length-take (stream_cut n q) (joined q))

-- The result of a receive from a stream.
pub stream-received : (q : List Message) (n : ℕ) → 0 < n → HaveBytes q
    → received Stream q n ≡ record { message = record { bytes = take (stream_cut n q) (joined q); attached = files_in n q; user = sender_at (stream_cut n q) q }; trunc = false }
stream-received q n some have =
    (λ i.
    let taken = stream-is q n some have i in
    record { message = record { bytes = taken.bytes; attached = taken.attached; user = sender_at (length taken.bytes) q }; trunc = taken.trunc })
    ∙ ap (λ k. record { message = record { bytes = take (stream_cut n q) (joined q); attached = files_in n q; user = sender_at k q }; trunc = false }) (stream_cut-long n q)

-- All messages within the limits have bytes.
pub have-bytes : (q : List Message) → AllByRecursion IsMessageWithin q → HaveBytes q
have-bytes [] h = tt
have-bytes (m ∷ q) h = (h.0.some, have-bytes q h.1)

-- A message that is taken whole gives the same as a packet and as a part of a stream.
pub whole-received : (q : List Message) (n : ℕ) → 0 < n → HaveBytes q → option_map_or (λ m. length m.bytes) (slice_get q 0) 0 ≡ stream_cut n q → received Seqpacket q (stream_cut n q) ≡ received Stream q n
whole-received [] n some have e = sym (stream-received [] n some have)
whole-received (m ∷ q) n some have e =
    let long : length (take (stream_cut n (m ∷ q)) m.bytes) ≡ stream_cut n (m ∷ q) = omega (arith, e, length-take (stream_cut n (m ∷ q)) m.bytes) in
    let bytes : take (stream_cut n (m ∷ q)) m.bytes ≡ take (stream_cut n (m ∷ q)) (m.bytes ++ joined q) = sym (take-append-le (stream_cut n (m ∷ q)) m.bytes (joined q) (omega (arith, e))) in
    let files : m.attached ≡ files_in n (m ∷ q) = sym (ap (λ o. option_map_or (λ m. m.attached) o []) (at-front m q (stream_cut n (m ∷ q)) (omega (arith, e)))) ∙ files-at n (m ∷ q) some have in
    let whole : nat_lt (stream_cut n (m ∷ q)) (length m.bytes) ≡ false = le-ltb (stream_cut n (m ∷ q)) (length m.bytes) (omega (arith, e)) in
    (λ i. record { message = record { bytes = bytes i; attached = files i; user = sender_at (long i) (m ∷ q) }; trunc = whole i }) ∙ sym (stream-received (m ∷ q) n some have)

-- And it leaves the others.
pub whole-rest : (q : List Message) (n : ℕ) → 0 < n → HaveBytes q → option_map_or (λ m. length m.bytes) (slice_get q 0) 0 ≡ stream_cut n q → drop 1 q ≡ (take_stream q n).rest
whole-rest [] n some have e = sym (ap (λ t. t.rest) (stream-is [] n some have))
whole-rest (m ∷ q) n some have e = sym (ap (λ t. t.rest) (stream-is (m ∷ q) n some have) ∙ cut-whole m q (stream_cut n (m ∷ q)) have.1 (sym e))

-- The copied and cut bytes are those received.
pub part-received : (q : List Message) (n k : ℕ) (bytes files : List ℕ) (user : ℕ) → 0 < n → HaveBytes q → k ≡ stream_cut n q → bytes ≡ take k (joined q) → files ≡ option_map_or (λ m. m.attached) (message_at k q) [] → user ≡ sender_at k q
    → record { message = record { bytes = bytes; attached = files; user = user }; trunc = false } ≡ received Stream q n
part-received q n k bytes files user some have is copied taken sent =
    (λ i. record { message = record { bytes = copied i; attached = taken i; user = sent i }; trunc = false })
    ∙ (λ i. record { message = record { bytes = take (is i) (joined q); attached = option_map_or (λ m. m.attached) (message_at (is i) q) []; user = sender_at (is i) q }; trunc = false })
    ∙ ap (λ fs. record { message = record { bytes = take (stream_cut n q) (joined q); attached = fs; user = sender_at (stream_cut n q) q }; trunc = false }) (files-at n q some have) ∙ sym (stream-received q n some have)

-- These bytes, without files or a sender.
abbrev alone : List ℕ → TakenView
alone bytes = record { message = record { bytes = bytes; attached = []; user = 0 }; trunc = false }

-- The bytes, with the files and the sender of a message, if there is one.
with-files : (o : Option Message) (bytes : List ℕ) → option_map_or (λ m. with_files_of m (alone bytes)) o (alone bytes)
    ≡ record { message = record { bytes = bytes; attached = option_map_or (λ m. m.attached) o []; user = option_map_or (λ m. m.user) o 0 }; trunc = false }
with-files None bytes = refl
with-files (Some m) bytes = refl

-- Copied bytes with the files of the message that has the last of them are those received.
pub part-filled : (q : List Message) (n k : ℕ) (t u : TakenView) (bytes : List ℕ) → 0 < n → HaveBytes q → k ≡ stream_cut n q → bytes ≡ take k (joined q) → t ≡ alone bytes → u ≡ option_map_or (λ m. with_files_of m t) (message_at k q) t
    → u ≡ received Stream q n
part-filled q n k t u bytes some have is copied alone taken =
    taken ∙ ap (λ v. option_map_or (λ m. with_files_of m v) (message_at k q) v) alone ∙ with-files (message_at k q) bytes ∙ part-received q n k bytes _ _ some have is copied refl refl

-- A receive that ends within the first message takes as much as it asks for.
pub front-cut : (q : List Message) (n : ℕ) → n < option_map_or (λ m. length m.bytes) (slice_get q 0) 0 → n ≡ stream_cut n q
front-cut [] n part = absurd (omega (arith, part))
front-cut (m ∷ q) n part = let e = or_right (has_files m) (nat_le n (length m.bytes)) (le-leb n (length m.bytes) (omega (arith, part))) in omega (arith, part, stream_cut-front m q n e)

-- It gives the first bytes of that message, and its files.
pub front-filled : (q : List Message) (n : ℕ) (t u : TakenView) (bytes : List ℕ) → 0 < n → HaveBytes q → n < option_map_or (λ m. length m.bytes) (slice_get q 0) 0
    → bytes ≡ option_map_or (λ m. take n m.bytes) (slice_get q 0) [] → t ≡ alone bytes → u ≡ option_map_or (λ m. with_files_of m t) (slice_get q 0) t
    → u ≡ received Stream q n
front-filled [] n t u bytes some have part copied is taken = absurd (omega (arith, part))
front-filled (m ∷ q) n t u bytes some have part copied is taken =
    part-filled (m ∷ q) n n t u bytes some have (front-cut (m ∷ q) n part)
    (copied ∙ sym (take-append-le n m.bytes (joined q) (omega (arith, part)))) is
    (taken ∙ sym (ap (λ o. option_map_or (λ m. with_files_of m t) o t) (at-front m q n (omega (arith, part)))))

-- How many files come.
pub stream-files : (q : List Message) (n : ℕ) → 0 < n → HaveBytes q → length (files_in n q) ≡ length (take_stream q n).attached
stream-files q n some have = sym (ap (λ t. length t.attached) (stream-is q n some have))
