-- The result of several receives, one after the other.
use Rattle.std.proofs.Common.{◌≡◌, ◌⊎◌, ◌<◌, ◌≤◌, ℕ, zero, suc, ◌+◌, ◌-◌, Bool, true, false, inl, inr, List, [], ◌∷◌, ◌++◌, length, take, drop, refl, sym, ap, ◌∙◌, cond, arith, min, append-nil}
use Rattle.std.specs.Prelude.{Option, Some, None, nat_le, nat_lt, replicate}
use Rattle.std.specs.Option.{option_map_or}
use Rattle.std.specs.List.{find}
use Rattle.std.proofs.lemmas.Bool.{cases_Bool, cases_lt, le-leb, le-ltb, leb-false, leb-true, lt-leb, lt-ltb}
use Rattle.std.proofs.lemmas.List.{append_assoc, drop-drop, length-drop, length-take}
use Rattle.std.proofs.Math.Seq.{take-add}
use Rattle.std.proofs.lemmas.List.Elements.{recursion_from_All}
use Rattle.af_base.specs.declared.events.SockType.{SockType}
use Rattle.af_base.specs.declared.events.SockType.TheVariants.{Dgram, Seqpacket, Stream}
use Rattle.af_base.specs.World.{Message}
use Rattle.af_base.specs.Places.{attached_in}
use Rattle.af_base.specs.Take.{TakeResult, cut, has_files, joined, take_from, take_stream}
use Rattle.af_base.proofs.ReceivedFiles.{HaveBytes, before, before-here, before-later, cut_none, find-here, find-later, stream-files, up_to}
use Rattle.af_laws.specs.Taking.{OneByteAtATime, ReceivesKeepBytes, ReceivesKeepFiles, Together, takes}
use Rattle.af_laws.proofs.Takes.{before_within, first_within, joined-cut, packet_keeps_files, stream_keeps_bytes}

pub receives_keep_bytes : ReceivesKeepBytes
receives_keep_bytes [] q = refl
receives_keep_bytes (n ∷ ns) q =
    let first = take_stream q n in
    let others = takes Stream ns first.rest in
    append_assoc first.bytes others.bytes (joined others.rest) ∙ ap (λ xs. first.bytes ++ xs) (receives_keep_bytes ns first.rest) ∙ stream_keeps_bytes q n

-- A message that is left by a cut has a byte.
have-cut : (c : ℕ) (q : List Message) → HaveBytes q → HaveBytes (cut c q)
have-cut c [] h = tt
have-cut c (m ∷ q) h = by (have-cut (c - length m.bytes) q h.1) (nat_le (length m.bytes) c) refl (nat_lt 0 c) where
  by : HaveBytes (cut (c - length m.bytes) q) → (a : Bool) → nat_le (length m.bytes) c ≡ a → (b : Bool) → HaveBytes (cond a (cut (c - length m.bytes) q) (cond b (record m { bytes = drop c m.bytes; attached = [] } ∷ q) (m ∷ q)))
  by rest true e b = rest
  by rest false e true = (omega (arith, length-drop c m.bytes, leb-false _ _ e), h.1)
  by rest false e false = h

-- And so has what a receive leaves.
have-rest : (kind : SockType) (q : List Message) (n : ℕ) → HaveBytes q → HaveBytes (take_from kind q n).rest
have-rest Seqpacket [] n h = h
have-rest Seqpacket (m ∷ q) n h = h.1
have-rest Dgram [] n h = h
have-rest Dgram (m ∷ q) n h = h.1
have-rest Stream q n h = by (find has_files q) where
  by : (o : Option Message) → HaveBytes (up_to q n o).rest
  by None = have-cut _ q h
  by (Some m) = have-cut _ q h

-- One receive loses no file.
one-keeps : (kind : SockType) (q : List Message) (n : ℕ) → HaveBytes q → (take_from kind q n).attached ++ attached_in (take_from kind q n).rest ≡ attached_in q
one-keeps Seqpacket q n h = packet_keeps_files q n
one-keeps Dgram q n h = packet_keeps_files q n
one-keeps Stream q n h = stream-files q n h

-- Receives keep all files.
all-keep : (kind : SockType) (ns : List ℕ) (q : List Message) → HaveBytes q → (takes kind ns q).attached ++ attached_in (takes kind ns q).rest ≡ attached_in q
all-keep kind [] q h = refl
all-keep kind (n ∷ ns) q h =
    let first = take_from kind q n in
    let others = takes kind ns first.rest in
    append_assoc first.attached others.attached (attached_in others.rest) ∙ ap (λ fs. first.attached ++ fs) (all-keep kind ns first.rest (have-rest kind q n h)) ∙ one-keeps kind q n h

pub receives_keep_files : ReceivesKeepFiles
receives_keep_files kind ns q have = all-keep kind ns q (recursion_from_All _ q have)

-- How many bytes one receive can take: all up to the end of the first message with files.
abbrev end : List Message → ℕ
end q = before q + option_map_or (λ m. length m.bytes) (find has_files q) 0

-- The files that come with the first c of these bytes.
abbrev brought : List Message → ℕ → List ℕ
brought q c = cond (nat_lt (before q) c) (option_map_or (λ m. m.attached) (find has_files q) []) []

-- A stream of which the first c of these bytes are taken.
abbrev first : List Message → ℕ → Together
first q c = record { bytes = take c (joined q); attached = brought q c; rest = cut c q }

-- One receive, as receives are taken together.
abbrev alone : TakeResult → Together
alone t = record { bytes = t.bytes; attached = t.attached; rest = t.rest }

-- A receive takes the first bytes, as many as it asks for and as can be taken.
alone-first : (q : List Message) (n : ℕ) → alone (take_stream q n) ≡ first q (min n (end q))
alone-first q n = by (find has_files q) where
  by : (o : Option Message) → alone (up_to q n o) ≡ (let c = min n (before q + option_map_or (λ m. length m.bytes) o 0) in record { bytes = take c (joined q); attached = cond (nat_lt (before q) c) (option_map_or (λ m. m.attached) o []) []; rest = cut c q })
  by None =
      let all : before q ≡ before q + 0 = omega arith in
      ap (λ e. let c = min n e in record { bytes = take c (joined q); attached = cond (nat_lt (before q) c) [] []; rest = cut c q }) all
  by (Some m) = refl

-- All of them are there.
end-within : (q : List Message) → end q ≤ length (joined q)
end-within q = by (find has_files q) refl where
  by : (o : Option Message) → find has_files q ≡ o → before q + option_map_or (λ m. length m.bytes) o 0 ≤ length (joined q)
  by None e = omega (arith, before_within q)
  by (Some m) e = omega (arith, first_within q m e)

-- The first message after its first byte was taken.
abbrev shorter : Message → Message
shorter x = record x { bytes = drop 1 x.bytes; attached = [] }

-- One byte taken: the first message is gone, or it is shorter.
one-left : (x : Message) (q : List Message) → HaveBytes (x ∷ q) → ((length x.bytes ≡ 1) × (cut 1 (x ∷ q) ≡ q)) ⊎ ((1 < length x.bytes) × (cut 1 (x ∷ q) ≡ shorter x ∷ q))
one-left x q h = by (nat_le (length x.bytes) 1) refl where
  by : (a : Bool) → nat_le (length x.bytes) 1 ≡ a → ((length x.bytes ≡ 1) × (cond a (cut (1 - length x.bytes) q) (shorter x ∷ q) ≡ q)) ⊎ ((1 < length x.bytes) × (cond a (cut (1 - length x.bytes) q) (shorter x ∷ q) ≡ shorter x ∷ q))
  by true e =
      let past = leb-true _ _ e in
      let none : 1 - length x.bytes ≡ 0 = omega (arith, past, h.0) in
      inl (omega (arith, past, h.0), ap (λ k. cut k q) none ∙ cut_none q h.1)
  by false e = inr (leb-false _ _ e, refl)

-- The first message with files behind it is one byte nearer.
nearer : (x : Message) (q : List Message) → HaveBytes (x ∷ q) → (1 + before (cut 1 (x ∷ q)) ≡ length x.bytes + before q) × (find has_files (cut 1 (x ∷ q)) ≡ find has_files q)
nearer x q h = elim (one-left x q h) [
  | inl (one, e) ↦ (omega (arith, one, ap before e), ap (find has_files) e)
  | inr (more, e) ↦ (omega (arith, more, ap before e, before-later (shorter x) q refl, length-drop 1 x.bytes), ap (find has_files) e ∙ find-later (shorter x) q refl)
]

-- A cut past the first message, and one within it.
cut-past : (c : ℕ) (x : Message) (q : List Message) → length x.bytes ≤ c → cut c (x ∷ q) ≡ cut (c - length x.bytes) q
cut-past c x q p = ap (λ b. cond b (cut (c - length x.bytes) q) (cond (nat_lt 0 c) (record x { bytes = drop c x.bytes; attached = [] } ∷ q) (x ∷ q))) (le-leb _ _ p)

-- Fewer bytes than the first message has are cut off that message.
cut-short : (c : ℕ) (x : Message) (q : List Message) → 0 < c → c < length x.bytes → cut c (x ∷ q) ≡ record x { bytes = drop c x.bytes; attached = [] } ∷ q
cut-short c x q some p =
    ap (λ b. cond b (cut (c - length x.bytes) q) (cond (nat_lt 0 c) (record x { bytes = drop c x.bytes; attached = [] } ∷ q) (x ∷ q))) (lt-leb _ _ p)
    ∙ ap (λ b. cond b (record x { bytes = drop c x.bytes; attached = [] } ∷ q) (x ∷ q)) (lt-ltb _ _ some)

-- To take one byte and then c is to take 1 + c.
cut-next : (c : ℕ) (q : List Message) → HaveBytes q → cut c (cut 1 q) ≡ cut (suc c) q
cut-next c [] h = refl
cut-next c (x ∷ q) h = elim (one-left x q h) [
  | inl (one, e) ↦
      let left : c ≡ suc c - length x.bytes = omega (arith, one) in
      ap (cut c) e ∙ ap (λ k. cut k q) left ∙ sym (cut-past (suc c) x q (omega (arith, one)))
  | inr (more, e) ↦ ap (cut c) e ∙ elim (cases_lt (suc c) (length x.bytes)) [
    | inr p ↦
        let long = length-drop 1 x.bytes in
        let left : c - length (drop 1 x.bytes) ≡ suc c - length x.bytes = omega (arith, long, more, p) in
        cut-past c (shorter x) q (omega (arith, long, p)) ∙ ap (λ k. cut k q) left ∙ sym (cut-past (suc c) x q p)
    | inl p ↦ elim (cases_lt 0 c) [
      | inl some ↦
          let next : 1 + c ≡ suc c = omega arith in
          cut-short c (shorter x) q some (omega (arith, p, length-drop 1 x.bytes)) ∙ ap (λ bs. record x { bytes = bs; attached = [] } ∷ q) (drop-drop c 1 x.bytes ∙ ap (λ k. drop k x.bytes) next) ∙ sym (cut-short (suc c) x q (omega arith) p)
      | inr none ↦
          let zero_more : c ≡ 0 = omega (arith, none) in
          let one_more : 1 ≡ suc c = omega (arith, none) in
          ap (λ k. cut k (shorter x ∷ q)) zero_more ∙ cut_none (shorter x ∷ q) (omega (arith, more, length-drop 1 x.bytes), h.1) ∙ ap (λ k. record x { bytes = drop k x.bytes; attached = [] } ∷ q) one_more ∙ sym (cut-short (suc c) x q (omega arith) p)
    ]
  ]
]

-- One byte, and then more of what is left, are the first bytes.
taken-next : (c : ℕ) (q : List Message) → take 1 (joined q) ++ take c (joined (cut 1 q)) ≡ take (suc c) (joined q)
taken-next c q =
    let next : 1 + c ≡ suc c = omega arith in
    ap (λ bs. take 1 (joined q) ++ take c bs) (joined-cut q 1) ∙ sym (take-add 1 c (joined q)) ∙ ap (λ k. take k (joined q)) next

-- The files of the first message with files.
abbrev files : List Message → List ℕ
files q = option_map_or (λ m. m.attached) (find has_files q) []

-- Past the bytes before the files a receive brings them.
brought-past : (q : List Message) (c : ℕ) → before q < c → brought q c ≡ files q
brought-past q c p = ap (λ b. cond b (files q) []) (lt-ltb _ _ p)

-- Up to there it brings none.
brought-none : (q : List Message) (c : ℕ) → c ≤ before q → brought q c ≡ []
brought-none q c p = ap (λ b. cond b (files q) []) (le-ltb _ _ p)

-- Where one byte and c more can be taken, the c can be taken after the one, and the files come with
-- one or with the others.
one-byte : (q : List Message) → HaveBytes q → (c : ℕ) → suc c ≤ end q → (c ≤ end (cut 1 q)) × (brought q 1 ++ brought (cut 1 q) c ≡ brought q (suc c))
one-byte [] h c p = absurd (omega (arith, p))
one-byte (x ∷ q) h c p = elim (cases_Bool (has_files x)) [
  | inl t ↦
      let start = before-here x q t in
      let some : suc c ≤ length x.bytes = omega (arith, p, start, ap (λ o. option_map_or (λ m. length m.bytes) o 0) (find-here x q t)) in (
        omega (arith, near.0, some),
        ap (λ fs. fs ++ brought left c) (brought-past (x ∷ q) 1 (omega (arith, start))) ∙ ap (λ fs. files (x ∷ q) ++ fs) (brought-none left c (omega (arith, near.0, some))) ∙ append-nil (files (x ∷ q))
            ∙ sym (brought-past (x ∷ q) (suc c) (omega (arith, start))),
      )
  | inr t ↦
      let start = before-later x q t in
      let same : find has_files left ≡ find has_files (x ∷ q) = near.1 ∙ sym (find-later x q t) in
      let length_of : Option Message → ℕ = λ o. option_map_or (λ m. length m.bytes) o 0 in (
        omega (arith, p, near.0, start, ap length_of same),
        ap (λ fs. fs ++ brought left c) (brought-none (x ∷ q) 1 (omega (arith, start, h.0))) ∙ elim (cases_lt (before left) c) [
          | inl r ↦ brought-past left c r ∙ ap (λ o. option_map_or (λ m. m.attached) o []) same ∙ sym (brought-past (x ∷ q) (suc c) (omega (arith, r, near.0, start)))
          | inr r ↦ brought-none left c r ∙ sym (brought-none (x ∷ q) (suc c) (omega (arith, r, near.0, start)))
        ],
      )
] where
  left : List Message
  left = cut 1 (x ∷ q)

  near : (1 + before left ≡ length x.bytes + before q) × (find has_files left ≡ find has_files q)
  near = nearer x q h

-- Results with equal parts are equal.
same_together : (a b : Together) → a.bytes ≡ b.bytes → a.attached ≡ b.attached → a.rest ≡ b.rest → a ≡ b
same_together a b x y z = λ i. record { bytes = x i; attached = y i; rest = z i }

-- One receive and then others.
abbrev followed : Together → Together → Together
followed a b = record { bytes = a.bytes ++ b.bytes; attached = a.attached ++ b.attached; rest = b.rest }

-- Receives of one byte take what one receive takes.
bytewise : (c : ℕ) (q : List Message) → HaveBytes q → c ≤ end q → takes Stream (replicate c 1) q ≡ first q c
bytewise zero q h p = same_together (takes Stream [] q) (first q 0) refl (sym (brought-none q 0 (omega arith))) (sym (cut_none q h))
bytewise (suc c) q h p =
    let step = one-byte q h c p in
    let one : min 1 (end q) ≡ 1 = omega (arith, p) in
    let begin : alone (take_stream q 1) ≡ first q 1 = alone-first q 1 ∙ ap (first q) one in
    let others = bytewise c (cut 1 q) (have-cut 1 q h) step.0 in
    ap (λ t. followed t (takes Stream (replicate c 1) t.rest)) begin ∙ ap (followed (first q 1)) others
    ∙ same_together (followed (first q 1) (first (cut 1 q) c)) (first q (suc c)) (taken-next c q) step.1 (cut-next c q h)

pub one_byte_at_a_time : OneByteAtATime
one_byte_at_a_time q n have =
    let h : HaveBytes q = recursion_from_All _ q have in
    let c = min n (end q) in
    let whole = alone-first q n in
    let some : length (take_stream q n).bytes ≡ c = ap (λ t. length t.bytes) whole ∙ omega (arith, length-take c (joined q), end-within q) in
    ap (λ k. takes Stream (replicate k 1) q) some ∙ bytewise c q h (omega arith) ∙ sym whole
