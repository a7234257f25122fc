-- The bytes and files taken by a receive and those left are those that were there.
use Rattle.std.proofs.Common.{◌≡◌, ◌≤◌, ℕ, ◌+◌, ◌-◌, Bool, true, false, inl, inr, List, [], ◌∷◌, ◌++◌, length, take, drop, refl, sym, ap, ◌∙◌, cond, arith, min}
use Rattle.std.specs.Prelude.{Option, Some, None, nat_le, nat_lt}
use Rattle.std.specs.Option.{unwrap_or}
use Rattle.std.specs.List.{find}
use Rattle.std.proofs.lemmas.Bool.{cases_Bool, le-ltb, leb-false, leb-true, lt-ltb, ltb-false, ltb-true}
use Rattle.std.proofs.lemmas.List.{drop-append-le, drop-drop, drop_all, drop_at, length-append, length-drop, length-take, take-append-drop}
use Rattle.std.proofs.lemmas.List.Elements.{recursion_from_All}
use Rattle.af_base.proofs.Lookups.{none_some}
use Rattle.af_base.proofs.ReceivedFiles.{before, before-here, before-later, either_none, find-here, find-later, stream-files, up_to}
use Rattle.af_base.specs.World.{Message}
use Rattle.af_base.specs.Take.{cut, has_files, joined, take_stream}
use Rattle.af_laws.specs.Taking.{FilesComeWithFirstByte, NoFilesFromNone, PacketKeepsBytes, PacketKeepsFiles, PacketTellsOfDrops, StreamKeepsBytes, StreamKeepsFiles, StreamStopsAtFiles, StreamTakesAtMost}

pub packet_keeps_bytes : PacketKeepsBytes
packet_keeps_bytes m q n = ap (λ xs. xs ++ joined q) (take-append-drop n m.bytes)

pub packet_keeps_files : PacketKeepsFiles
packet_keeps_files [] n = refl
packet_keeps_files (m ∷ q) n = refl

pub packet_tells_of_drops : PacketTellsOfDrops
packet_tells_of_drops m q n = (
  λ e. omega (arith, length-drop n m.bytes, ltb-true n (length m.bytes) e),
  λ p. lt-ltb n (length m.bytes) (omega (arith, length-drop n m.bytes, p)),
)

-- To drop more than the first list drops from the second.
drop_past : (xs ys : List ℕ) (c : ℕ) → length xs ≤ c → drop c (xs ++ ys) ≡ drop (c - length xs) ys
drop_past xs ys c h =
    let whole : length xs + (c - length xs) ≡ c = omega (arith, h) in
    ap (λ k. drop k (xs ++ ys)) (sym whole) ∙ sym (drop-drop (c - length xs) (length xs) (xs ++ ys)) ∙ ap (drop (c - length xs)) (drop_at xs ys (length xs) refl)

-- The bytes that are left.
pub joined-cut : (q : List Message) (c : ℕ) → joined (cut c q) ≡ drop c (joined q)
joined-cut [] c = sym (drop_all {X = ℕ} c [] (omega arith))
joined-cut (m ∷ q) c = by (joined-cut q (c - length m.bytes)) (nat_le (length m.bytes) c) refl (nat_lt 0 c) refl where
  by : joined (cut (c - length m.bytes) q) ≡ drop (c - length m.bytes) (joined q) → (a : Bool) → nat_le (length m.bytes) c ≡ a → (b : Bool) → nat_lt 0 c ≡ b
      → joined (cond a (cut (c - length m.bytes) q) (cond b (record m { bytes = drop c m.bytes; attached = [] } ∷ q) (m ∷ q))) ≡ drop c (m.bytes ++ joined q)
  by rest true d b e = rest ∙ sym (drop_past m.bytes (joined q) c (leb-true _ _ d))
  by rest false d true e = sym (drop-append-le c m.bytes (joined q) (let h = leb-false _ _ d in omega (arith, h)))
  by rest false d false e = let none : 0 ≡ c = (let h = ltb-false 0 c e in omega (arith, h)) in ap (λ k. drop k (m.bytes ++ joined q)) none

pub stream_keeps_bytes : StreamKeepsBytes
stream_keeps_bytes q n = by (find has_files q) where
  all : (c : ℕ) → take c (joined q) ++ joined (cut c q) ≡ joined q
  all c = ap (λ xs. take c (joined q) ++ xs) (joined-cut q c) ∙ take-append-drop c (joined q)

  by : (o : Option Message) → (up_to q n o).bytes ++ joined (up_to q n o).rest ≡ joined q
  by None = all (min n (before q))
  by (Some m) = all (min n (before q + length m.bytes))

-- The first message with files is one of all.
pub first_within : (q : List Message) (m : Message) → find has_files q ≡ Some m → before q + length m.bytes ≤ length (joined q)
first_within [] m e = absurd (none_some m e)
first_within (x ∷ q) m e = elim (cases_Bool (has_files x)) [
  | inl t ↦
      let same : x ≡ m = ap (λ o. unwrap_or o x) (sym (find-here x q t) ∙ e) in
      omega (arith, before-here x q t, ap (λ y. length y.bytes) same, length-append x.bytes (joined q))
  | inr t ↦ omega (arith, before-later x q t, first_within q m (sym (find-later x q t) ∙ e), length-append x.bytes (joined q))
]

-- The bytes before the files are among all.
pub before_within : (q : List Message) → before q ≤ length (joined q)
before_within [] = omega arith
before_within (x ∷ q) = elim (cases_Bool (has_files x)) [
  | inl t ↦ omega (arith, before-here x q t)
  | inr t ↦ omega (arith, before-later x q t, before_within q, length-append x.bytes (joined q))
]

pub stream_takes_at_most : StreamTakesAtMost
stream_takes_at_most q n = by (find has_files q) where
  by : (o : Option Message) → length (up_to q n o).bytes ≤ n
  by None = omega (arith, length-take (min n (before q)) (joined q))
  by (Some m) = omega (arith, length-take (min n (before q + length m.bytes)) (joined q))

pub stream_stops_at_files : StreamStopsAtFiles
stream_stops_at_files q n m e =
    let same = ap (λ o. length (up_to q n o).bytes) e in
    omega (arith, same, length-take (min n (before q + length m.bytes)) (joined q))

pub files_come_with_first_byte : FilesComeWithFirstByte
files_come_with_first_byte q n m e = (
  λ p. ap (λ o. (up_to q n o).attached) e ∙ ap (λ b. cond b m.attached []) (lt-ltb b c (omega (arith, p, taken, length-take c (joined q)))),
  λ p. ap (λ o. (up_to q n o).attached) e ∙ ap (λ b. cond b m.attached []) (le-ltb b c (omega (arith, p, taken, first_within q m e, length-take c (joined q)))),
) where
  b : ℕ
  b = before q

  c : ℕ
  c = min n (before q + length m.bytes)

  taken : length (take_stream q n).bytes ≡ length (take c (joined q))
  taken = ap (λ o. length (up_to q n o).bytes) e

pub no_files_from_none : NoFilesFromNone
no_files_from_none q n e = ap (λ o. (up_to q n o).attached) e ∙ either_none _

pub stream_keeps_files : StreamKeepsFiles
stream_keeps_files q n have = stream-files q n (recursion_from_All _ q have)
