-- The files taken by a receive and those left are the files before it.
use Rattle.std.proofs.Common.{◌≡◌, ◌<◌, ◌≤◌, ℕ, zero, suc, ◌+◌, ◌-◌, Bool, true, false, not, inl, inr, List, [], ◌∷◌, ◌++◌, length, take, drop, refl, sym, ap, ◌∙◌, subst, cond, arith, min}
use Rattle.std.specs.Prelude.{Option, Some, None, nat_le, nat_lt}
use Rattle.std.specs.Option.{option_map_or, unwrap_or}
use Rattle.std.specs.List.{AllByRecursion, Contains, find, prefix_len, take_while}
use Rattle.std.proofs.lemmas.Bool.{cases_Bool, leb-false, leb-true, lt-leb, ltb-false, ltb-true}
use Rattle.std.proofs.lemmas.List.{length-append, length-drop}
use Rattle.std.proofs.lemmas.List.Elements.{Contains-append_cases, Contains-append_left, Contains-append_right}
use Rattle.af_base.specs.declared.events.SockType.{SockType}
use Rattle.af_base.specs.declared.events.SockType.TheVariants.{Dgram, Seqpacket, Stream}
use Rattle.af_base.specs.World.{Message}
use Rattle.af_base.specs.Places.{attached_in}
use Rattle.af_base.specs.Take.{TakeResult, cut, has_files, joined, take_from, take_stream, take_to}
use Rattle.af_base.specs.Whole.{IsMessageWithin}
use Rattle.af_base.proofs.Elements.{Contains-first, Contains-later, Contains-none}
use Rattle.af_base.proofs.Lookups.{none_some}

-- The number of bytes before the first message with files.
abbrev pub before : List Message → ℕ
before q = length (joined (take_while (λ m. not (has_files m)) q))

-- The messages up to any position.
abbrev pub up_to : List Message → ℕ → Option Message → TakeResult
up_to q n o = option_map_or (λ m. take_to q n m.attached (before q) (before q + length m.bytes)) o (take_to q n [] (before q) (before q))

-- A list whose length is not above 0 is empty.
pub no_files : (xs : List ℕ) → nat_lt 0 (length xs) ≡ false → xs ≡ []
no_files [] e = refl
no_files (x ∷ xs) e = absurd (let h = ltb-false _ _ e in omega (arith, h))

module _ (x : Message) (q : List Message) where
  -- How many messages without files come first.
  plain : ℕ
  plain = prefix_len (λ m. not (has_files m)) q

  -- A first message without files.
  pub before-later : has_files x ≡ false → before (x ∷ q) ≡ length x.bytes + before q
  unfolding plain
  before-later e =
      let one : 1 + plain ≡ suc plain = omega arith in
      ap (λ b. length (joined (take (cond (not b) (1 + plain) 0) (x ∷ q)))) e ∙ ap (λ k. length (joined (take k (x ∷ q)))) one ∙ length-append x.bytes (joined (take plain q))

  -- A first message with files.
  pub before-here : has_files x ≡ true → before (x ∷ q) ≡ 0
  unfolding plain
  before-here e = ap (λ b. length (joined (take (cond (not b) (1 + plain) 0) (x ∷ q)))) e

  -- Then the first message with files is a later one.
  pub find-later : has_files x ≡ false → find has_files (x ∷ q) ≡ find has_files q
  find-later e = ap (λ b. cond b (Some x) (find has_files q)) e

  -- Then it is the first message with files.
  pub find-here : has_files x ≡ true → find has_files (x ∷ q) ≡ Some x
  find-here e = ap (λ b. cond b (Some x) (find has_files q)) e

  -- A first message without files adds none to the queue's.
  carried-later : has_files x ≡ false → attached_in (x ∷ q) ≡ attached_in q
  carried-later e = ap (λ xs. xs ++ attached_in q) (no_files x.attached e)

-- A choice between two empty lists is empty.
pub either_none : (b : Bool) → cond {A = List ℕ} b [] [] ≡ []
either_none true = refl
either_none false = refl

-- Each message has a byte.
abbrev pub HaveBytes : List Message → Type 0
HaveBytes q = AllByRecursion (λ m. 1 ≤ length m.bytes) q

-- A queue of which nothing is cut.
pub cut_none : (q : List Message) → HaveBytes q → cut 0 q ≡ q
cut_none [] h = refl
cut_none (m ∷ q) h = ap (λ b. cond b (cut (0 - length m.bytes) q) (cond (nat_lt 0 0) (record m { bytes = drop 0 m.bytes; attached = [] } ∷ q) (m ∷ q))) (lt-leb (length m.bytes) 0 (omega (arith, h.0)))

-- A queue without files has none after a cut.
carried_none : (q : List Message) → find has_files q ≡ None → (c : ℕ) → (attached_in q ≡ []) × (attached_in (cut c q) ≡ [])
carried_none [] e c = (refl, refl)
carried_none (x ∷ q) e c = elim (cases_Bool (has_files x)) [
  | inl t ↦ absurd (none_some x (sym e ∙ find-here x q t))
  | inr t ↦
      let rest = λ (k : ℕ). carried_none q (sym (find-later x q t) ∙ e) k in
      let all : attached_in (x ∷ q) ≡ [] = carried-later x q t ∙ (rest 0).0 in
      (all, by rest all (nat_le (length x.bytes) c) (nat_lt 0 c))
] where
  by : ((k : ℕ) → (attached_in q ≡ []) × (attached_in (cut k q) ≡ [])) → attached_in (x ∷ q) ≡ [] → (a b : Bool) → attached_in (cond a (cut (c - length x.bytes) q) (cond b (record x { bytes = drop c x.bytes; attached = [] } ∷ q) (x ∷ q))) ≡ []
  by rest all true b = (rest (c - length x.bytes)).1
  by rest all false true = (rest 0).0
  by rest all false false = all

module _ (x : Message) (q : List Message) (m : Message) (c : ℕ) (h : HaveBytes (x ∷ q)) where
  -- The queue without its first c bytes, by two tests of the first message.
  abbrev left : Bool → Bool → List Message
  left a b = cond a (cut (c - length x.bytes) q) (cond b (record x { bytes = drop c x.bytes; attached = [] } ∷ q) (x ∷ q))

  -- Before the first byte of the message with files they stay, and from there to its end they go.
  abbrev Keeps : Bool → Bool → Type 0
  Keeps a b = (c ≤ before (x ∷ q) → attached_in (left a b) ≡ attached_in (x ∷ q)) × (before (x ∷ q) < c → c ≤ before (x ∷ q) + length m.bytes → m.attached ++ attached_in (left a b) ≡ attached_in (x ∷ q))

  -- It is so where the first message has the files.
  here : has_files x ≡ true → x ≡ m → (a : Bool) → nat_le (length x.bytes) c ≡ a → (b : Bool) → nat_lt 0 c ≡ b → Keeps a b
  here t same true d b e =
      let past = leb-true _ _ d in
      let none = before-here x q t in (
        λ p. absurd (omega (arith, past, none, p, h.0)),
        λ p r.
            let end : c - length x.bytes ≡ 0 = omega (arith, past, none, r, ap (λ y. length y.bytes) same) in
            ap (λ k. m.attached ++ attached_in (cut k q)) end ∙ ap (λ s. m.attached ++ attached_in s) (cut_none q h.1) ∙ ap (λ y. y.attached ++ attached_in q) (sym same),
      )
  here t same false d true e =
      let some = ltb-true 0 c e in
      let none = before-here x q t in
      (λ p. absurd (omega (arith, some, none, p)), λ p r. ap (λ y. y.attached ++ attached_in q) (sym same))
  here t same false d false e =
      let none = ltb-false 0 c e in
      (λ p. refl, λ p r. absurd (omega (arith, none, p)))

  -- It is so where a later message has them.
  later : has_files x ≡ false → (c - length x.bytes ≤ before q → attached_in (cut (c - length x.bytes) q) ≡ attached_in q)
      × (before q < c - length x.bytes → c - length x.bytes ≤ before q + length m.bytes → m.attached ++ attached_in (cut (c - length x.bytes) q) ≡ attached_in q)
      → (a : Bool) → nat_le (length x.bytes) c ≡ a → (b : Bool) → nat_lt 0 c ≡ b → Keeps a b
  later t rest true d b e =
      let past = leb-true _ _ d in
      let first = before-later x q t in (
        λ p. rest.0 (omega (arith, past, first, p)) ∙ sym (carried-later x q t),
        λ p r. rest.1 (omega (arith, past, first, p)) (omega (arith, past, first, r)) ∙ sym (carried-later x q t),
      )
  later t rest false d true e =
      let within = leb-false _ _ d in
      (λ p. sym (carried-later x q t), λ p r. absurd (omega (arith, within, before-later x q t, p)))
  later t rest false d false e =
      let none = ltb-false 0 c e in
      (λ p. refl, λ p r. absurd (omega (arith, none, p)))

-- A queue with files loses them where the cut is past their first byte, and not before it.
carried_first : (q : List Message) → HaveBytes q → (m : Message) → find has_files q ≡ Some m → (c : ℕ)
    → (c ≤ before q → attached_in (cut c q) ≡ attached_in q) × (before q < c → c ≤ before q + length m.bytes → m.attached ++ attached_in (cut c q) ≡ attached_in q)
carried_first [] h m e c = absurd (none_some m e)
carried_first (x ∷ q) h m e c = elim (cases_Bool (has_files x)) [
  | inl t ↦ here x q m c h t (ap (λ o. unwrap_or o x) (sym (find-here x q t) ∙ e)) (nat_le (length x.bytes) c) refl (nat_lt 0 c) refl
  | inr t ↦ later x q m c h t (carried_first q h.1 m (sym (find-later x q t) ∙ e) (c - length x.bytes)) (nat_le (length x.bytes) c) refl (nat_lt 0 c) refl
]

-- A stream loses no file.
pub stream-files : (q : List Message) (n : ℕ) → HaveBytes q → (take_stream q n).attached ++ attached_in (take_stream q n).rest ≡ attached_in q
stream-files q n h = by (find has_files q) refl where
  by : (o : Option Message) → find has_files q ≡ o → (up_to q n o).attached ++ attached_in (up_to q n o).rest ≡ attached_in q
  by None e =
      let c = min n (before q) in
      let none = carried_none q e c in
      ap (λ xs. xs ++ attached_in (cut c q)) (either_none (nat_lt (before q) c)) ∙ none.1 ∙ sym none.0
  by (Some m) e = past (nat_lt (before q) (min n (before q + length m.bytes))) refl where
    past : (b : Bool) → nat_lt (before q) (min n (before q + length m.bytes)) ≡ b → cond b m.attached [] ++ attached_in (cut (min n (before q + length m.bytes)) q) ≡ attached_in q
    past true d = (carried_first q h m e _).1 (ltb-true _ _ d) (omega arith)
    past false d = (carried_first q h m e _).0 (ltb-false _ _ d)

-- All messages of a queue are within the limits.
abbrev pub AreWithin : List Message → Type 0
AreWithin q = (m : Message) → Contains q m → IsMessageWithin m

-- Then each has a byte.
pub have-bytes : (q : List Message) → AreWithin q → HaveBytes q
have-bytes [] k = tt
have-bytes (m ∷ q) k = ((k m (Contains-first m q)).some, have-bytes q (λ n h. k n (Contains-later m q n h)))

-- The rest of a queue after these files were taken.
pub record Leaves (q : List Message) (fs : List ℕ) (rest : List Message) : Type 0 where
  pub carried : fs ++ attached_in rest ≡ attached_in q
  pub fewer : length rest ≤ length q
  pub within : AreWithin rest

-- A cut leaves at most as many messages, each within the limits.
fewer-cut : (c : ℕ) (q : List Message) → length (cut c q) ≤ length q
fewer-cut c [] = omega arith
fewer-cut c (m ∷ q) = by (fewer-cut (c - length m.bytes) q) (nat_le (length m.bytes) c) (nat_lt 0 c) where
  by : length (cut (c - length m.bytes) q) ≤ length q → (a b : Bool) → length (cond a (cut (c - length m.bytes) q) (cond b (record m { bytes = drop c m.bytes; attached = [] } ∷ q) (m ∷ q))) ≤ suc (length q)
  by rest true b = omega (arith, rest)
  by rest false true = omega arith
  by rest false false = omega arith

-- A cut queue is within the limits.
within-cut : (c : ℕ) (q : List Message) → AreWithin q → AreWithin (cut c q)
within-cut c [] k = k
within-cut c (m ∷ q) k = by (within-cut (c - length m.bytes) q (λ n h. k n (Contains-later m q n h))) (nat_le (length m.bytes) c) refl (nat_lt 0 c) where
  mine : IsMessageWithin m
  mine = k m (Contains-first m q)

  by : AreWithin (cut (c - length m.bytes) q) → (a : Bool) → nat_le (length m.bytes) c ≡ a → (b : Bool) → AreWithin (cond a (cut (c - length m.bytes) q) (cond b (record m { bytes = drop c m.bytes; attached = [] } ∷ q) (m ∷ q)))
  by rest true e b = rest
  by rest false e false = k
  by rest false e true = λ x h. first (record m { bytes = drop c m.bytes; attached = [] }) shorter x h where
    first : (y : Message) → IsMessageWithin y → (x : Message) → Contains (y ∷ q) x → IsMessageWithin x
    first y fits x (zero, l, at) = subst IsMessageWithin at fits
    first y fits x (suc i, l, at) = k x (suc i, l, at)

    shorter : IsMessageWithin (record m { bytes = drop c m.bytes; attached = [] })
    shorter =
        let long = length-drop c m.bytes in
        let past = leb-false _ _ e in
        let most = mine.bytes in
        record { some = omega (arith, long, past); bytes = omega (arith, long, most); attached = omega arith }

-- The result of a receive from a queue within the limits.
pub leaves-taken : (kind : SockType) (q : List Message) (n : ℕ) → AreWithin q → Leaves q (take_from kind q n).attached (take_from kind q n).rest
leaves-taken Stream q n k = record { carried = stream-files q n (have-bytes q k); fewer = fewer (find has_files q); within = within (find has_files q) } where
  fewer : (o : Option Message) → length (up_to q n o).rest ≤ length q
  fewer None = fewer-cut _ q
  fewer (Some m) = fewer-cut _ q

  within : (o : Option Message) → AreWithin (up_to q n o).rest
  within None = within-cut _ q k
  within (Some m) = within-cut _ q k
leaves-taken Seqpacket [] n k = record { carried = refl; fewer = omega arith; within = k }
leaves-taken Seqpacket (m ∷ q) n k = record { carried = refl; fewer = omega arith; within = λ x h. k x (Contains-later m q x h) }
leaves-taken Dgram [] n k = record { carried = refl; fewer = omega arith; within = k }
leaves-taken Dgram (m ∷ q) n k =
    record { carried = refl; fewer = omega arith; within = λ x h. k x (Contains-later m q x h) }

-- The first message taken.
pub leaves-first : (q : List Message) (m : Message) (rest : List Message) → AreWithin q → q ≡ m ∷ rest → Leaves q m.attached rest
leaves-first q m rest k e = subst (λ l. Leaves l m.attached rest) (sym e) (record { carried = refl; fewer = omega arith; within = λ x h. k x (subst (λ l. Contains l x) (sym e) (Contains-later m rest x h)) })

-- Files attached to a message of a queue are in the queue.
found-carried : (q : List Message) (m : Message) (f : ℕ) → find has_files q ≡ Some m → Contains m.attached f → Contains (attached_in q) f
found-carried [] m f e h = absurd (none_some m e)
found-carried (x ∷ q) m f e h = elim (cases_Bool (has_files x)) [
  | inl t ↦
      let same : x ≡ m = ap (λ o. unwrap_or o x) (sym (find-here x q t) ∙ e) in
      Contains-append_left x.attached (attached_in q) f (subst (λ y. Contains y.attached f) (sym same) h)
  | inr t ↦ Contains-append_right x.attached (attached_in q) f (found-carried q m f (sym (find-later x q t) ∙ e) h)
]

-- A file that is left after a cut was in the queue.
cut-carried : (c : ℕ) (q : List Message) (f : ℕ) → Contains (attached_in (cut c q)) f → Contains (attached_in q) f
cut-carried c [] f h = h
cut-carried c (m ∷ q) f h = by (cut-carried (c - length m.bytes) q f) (nat_le (length m.bytes) c) (nat_lt 0 c) h where
  later : Contains (attached_in q) f → Contains (m.attached ++ attached_in q) f
  later z = Contains-append_right m.attached (attached_in q) f z

  by : (Contains (attached_in (cut (c - length m.bytes) q)) f → Contains (attached_in q) f) → (a b : Bool) → Contains (attached_in (cond a (cut (c - length m.bytes) q) (cond b (record m { bytes = drop c m.bytes; attached = [] } ∷ q) (m ∷ q)))) f → Contains (m.attached ++ attached_in q) f
  by rest true b h = later (rest h)
  by rest false true h = later h
  by rest false false h = h

-- A file that is taken or left was in the queue.
pub taken-before : (kind : SockType) (q : List Message) (n f : ℕ) → Contains ((take_from kind q n).attached ++ attached_in (take_from kind q n).rest) f → Contains (attached_in q) f
taken-before Seqpacket [] n f h = h
taken-before Seqpacket (m ∷ q) n f h = h
taken-before Dgram [] n f h = h
taken-before Dgram (m ∷ q) n f h = h
taken-before Stream q n f h = by (find has_files q) refl h where
  one : (m : Message) → find has_files q ≡ Some m → (b : Bool) → Contains (cond b m.attached []) f → Contains (attached_in q) f
  one m e true z = found-carried q m f e z
  one m e false z = absurd (Contains-none f z)

  by : (o : Option Message) → find has_files q ≡ o → Contains ((up_to q n o).attached ++ attached_in (up_to q n o).rest) f → Contains (attached_in q) f
  by None e h = elim (Contains-append_cases (up_to q n None).attached _ f h) [
    | inl z ↦ absurd (Contains-none f (subst (λ xs. Contains xs f) (either_none _) z))
    | inr z ↦ cut-carried _ q f z
  ]
  by (Some m) e h = elim (Contains-append_cases (up_to q n (Some m)).attached _ f h) [
    | inl z ↦ one m e _ z
    | inr z ↦ cut-carried _ q f z
  ]
