-- The lines of bytes that are read piece by piece.
use Rattle.std.proofs.Common.{◌≡◌, ◌≤◌, ℕ, ◌+◌, ◌<◌, ◌==◌, List, [], ◌∷◌, ◌++◌, Bool, true, false, cond, length, take, drop, Some, None, refl, sym, ap, ◌∙◌, append_assoc, append-nil, arith, length-append, ◌⊎◌, inl, inr, get_or, take-append-drop}
use Rattle.std.specs.Prelude.{map, slice_get, slice_index}
use Rattle.std.specs.List.{AllByRecursion, flat_map, slice_split, onto_first}
use Rattle.std.specs.Str.Lines.{lines, lines_of_parts, strip_carriage_return}
use Rattle.std.proofs.lemmas.List.{flat_map_more, take_at, drop_more, map-append, length-map}
use Rattle.std.proofs.lemmas.List.Splits.{slice_split_at, slice_split_none}
use Rattle.std.proofs.lemmas.List.Elements.{All-append, All-nil, All-cons, All-from_get_or}
use Rattle.std.proofs.lemmas.Bool.{eqb-true, false_from_ne_true}
use Rattle.std.proofs.lemmas.Grind.{common_steps}
use Rattle.memchr.specs.Find.{IsFirstByte, is_byte}
use Rattle.scm_lines.specs.Meaning.{line_of, ◌>>=◌}
use Rattle.scm_lines.specs.Versions.{has_line, read_in}
use Rattle.scm_lines.specs.declared.version.Version.{Version}
use Rattle.scm_lines.specs.declared.line.TheConstants.{MAX_LINE}
use Rattle.scm_run.specs.Progress.{may_fit}
use Rattle.scm_run.specs.Script.{IsCut, NoFeed, ended_by_feed}

-- ---- whole lines

-- Each list has a first part.
parts : (p : ℕ → Bool) (xs : List ℕ) → (y : List ℕ) × ((more : List (List ℕ)) × (slice_split p xs ≡ y ∷ more))
parts p [] = ([], ([], refl))
parts p (x ∷ xs) = by_test (p x) (slice_split p xs)
  where
    by_test : (b : Bool) (rest : List (List ℕ)) → (y : List ℕ) × ((more : List (List ℕ)) × (cond b ([] ∷ rest) (onto_first x rest) ≡ y ∷ more))
    by_test true rest = ([], (rest, refl))
    by_test false [] = (x ∷ [], ([], refl))
    by_test false (r ∷ rest) = (x ∷ r, (rest, refl))

-- A part before another ends with a line feed.
first_part : (w : List ℕ) (others : List (List ℕ)) (y : List ℕ) (more : List (List ℕ)) → others ≡ y ∷ more
    → lines_of_parts (w ∷ others) ≡ strip_carriage_return w ∷ lines_of_parts others
first_part w others y more e = rw e refl

-- A line feed ends the first line.
pub line-front : (w rest : List ℕ) → NoFeed w → lines (w ++ 10 ∷ rest) ≡ strip_carriage_return w ∷ lines rest
line-front w rest here =
    let (y, (more, e)) = parts (λ b. b == 10) rest in
    ap lines_of_parts (slice_split_at (λ b. b == 10) w 10 rest here refl) ∙ first_part w (slice_split (λ b. b == 10) rest) y more e

-- Whole lines come first.
pub lines-front : (whole : List (List ℕ)) (rest : List ℕ) → AllByRecursion NoFeed whole
    → lines (flat_map ended_by_feed whole ++ rest) ≡ map strip_carriage_return whole ++ lines rest
lines-front [] rest h = refl
lines-front (w ∷ whole) rest (here, others) =
    ap lines (append_assoc (w ++ 10 ∷ []) (flat_map ended_by_feed whole) rest ∙ append_assoc w (10 ∷ []) (flat_map ended_by_feed whole ++ rest))
    ∙ line-front w (flat_map ended_by_feed whole ++ rest) here
    ∙ ap (λ l. strip_carriage_return w ∷ l) (lines-front whole rest others)

-- Lines without a line feed, and one more, are such lines.
all_end : (whole : List (List ℕ)) (rest : List ℕ) → AllByRecursion NoFeed whole → NoFeed rest → AllByRecursion NoFeed (whole ++ rest ∷ [])
all_end [] rest all h = (h, tt)
all_end (w ∷ whole) rest (here, others) h = (here, all_end whole rest others h)

-- The line feed ends a line.
pub cut_end : (taken : List ℕ) (whole : List (List ℕ)) (rest : List ℕ) → IsCut taken whole rest → IsCut (taken ++ 10 ∷ []) (whole ++ rest ∷ []) []
cut_end taken whole rest cut = record {
  joined = ap (λ t. t ++ 10 ∷ []) cut.joined ∙ append_assoc (flat_map ended_by_feed whole) rest (10 ∷ []) ∙ flat_map_more ended_by_feed [] whole rest
      ∙ sym (append-nil (flat_map ended_by_feed (whole ++ rest ∷ [])));
  each = all_end whole rest cut.each cut.open_end;
  open_end = All-nil (λ x. (x == 10) ≡ false);
}

-- Other bytes go on with the line.
pub cut_more : (taken : List ℕ) (whole : List (List ℕ)) (rest bs : List ℕ) → IsCut taken whole rest → NoFeed bs → IsCut (taken ++ bs) whole (rest ++ bs)
cut_more taken whole rest bs cut h = record {
  joined = rw (cut.joined) (append_assoc (flat_map ended_by_feed whole) rest bs);
  each = cut.each;
  open_end = All-append (λ x. (x == 10) ≡ false) rest bs cut.open_end h;
}

-- The first lines of an input that begins so.
pub front_lines : (taken : List ℕ) (whole : List (List ℕ)) (rest more : List ℕ) → IsCut taken whole rest → lines (taken ++ more) ≡ map strip_carriage_return whole ++ lines (rest ++ more)
front_lines taken whole rest more cut =
    ap (λ t. lines (t ++ more)) cut.joined ∙ ap lines (append_assoc (flat_map ended_by_feed whole) rest more) ∙ lines-front whole (rest ++ more) cut.each

-- The lines of an input that has a line feed here.
pub ended_lines : (taken : List ℕ) (whole : List (List ℕ)) (rest more : List ℕ) → IsCut taken whole rest
    → lines ((taken ++ 10 ∷ []) ++ more) ≡ (map strip_carriage_return whole ++ strip_carriage_return rest ∷ []) ++ lines more
ended_lines taken whole rest more cut =
    front_lines (taken ++ 10 ∷ []) (whole ++ rest ∷ []) [] more (cut_end taken whole rest cut)
    ∙ ap (λ l. l ++ lines more) (map-append strip_carriage_return whole (rest ∷ []))

-- The lines before the unfinished one.
pub firsts : (taken : List ℕ) (whole : List (List ℕ)) (rest more : List ℕ) (n : ℕ) → IsCut taken whole rest → n ≡ length whole
    → take n (lines (taken ++ more)) ≡ map strip_carriage_return whole
firsts taken whole rest more n cut counted =
    ap (λ l. take n l) (front_lines taken whole rest more cut)
    ∙ take_at (map strip_carriage_return whole) (lines (rest ++ more)) n (length-map whole strip_carriage_return ∙ sym counted)

-- The element behind some is at their number.
pub slice_get_at : (xs : List (List ℕ)) (y : List ℕ) (ys : List (List ℕ)) → slice_get (xs ++ y ∷ ys) (length xs) ≡ Some y
slice_get_at [] y ys = refl
slice_get_at (x ∷ xs) y ys = slice_get_at xs y ys

-- The line that ends here.
pub line_at : (taken : List ℕ) (whole : List (List ℕ)) (rest more : List ℕ) (n : ℕ) → IsCut taken whole rest → n ≡ length whole
    → slice_get (lines ((taken ++ 10 ∷ []) ++ more)) n ≡ Some (strip_carriage_return rest)
line_at taken whole rest more n cut counted =
    let first = map strip_carriage_return whole in
    let here = strip_carriage_return rest in
    let sum : n ≡ length first = counted ∙ sym (length-map whole strip_carriage_return) in
    rw (ended_lines taken whole rest more cut, append_assoc first (here ∷ []) (lines more), sum) (slice_get_at first here (lines more))

-- ---- a line that is too long

-- The bytes before the first line feed, if there is one.
pub first_cut : (bs : List ℕ) → (x : List ℕ) × (NoFeed x × ((bs ≡ x) ⊎ ((r : List ℕ) × (bs ≡ x ++ 10 ∷ r))))
first_cut [] = ([], (All-nil (λ c. (c == 10) ≡ false), inl refl))
first_cut (b ∷ bs) = by_test (b == 10) refl (first_cut bs)
  where
    by_test : (t : Bool) → (b == 10) ≡ t → (x : List ℕ) × (NoFeed x × ((bs ≡ x) ⊎ ((r : List ℕ) × (bs ≡ x ++ 10 ∷ r))))
        → (x : List ℕ) × (NoFeed x × ((b ∷ bs ≡ x) ⊎ ((r : List ℕ) × (b ∷ bs ≡ x ++ 10 ∷ r))))
    by_test true e later = ([], (All-nil (λ c. (c == 10) ≡ false), inr (bs, ap (λ (c : ℕ). c ∷ bs) (eqb-true b 10 e))))
    by_test false e (x, (none, inl h)) = (b ∷ x, (All-cons (λ c. (c == 10) ≡ false) b x e none, inl (ap (λ l. b ∷ l) h)))
    by_test false e (x, (none, inr (r, h))) = (b ∷ x, (All-cons (λ c. (c == 10) ≡ false) b x e none, inr (r, ap (λ l. b ∷ l) h)))

-- Bytes with no line feed are the last line.
pub last_line : (rest : List ℕ) → NoFeed rest → 0 < length rest → lines rest ≡ rest ∷ []
last_line rest none some = ap lines_of_parts (slice_split_none (λ b. b == 10) rest none) ∙ single rest some
  where
    single : (xs : List ℕ) → 0 < length xs → lines_of_parts (xs ∷ []) ≡ xs ∷ []
    single xs h = let t : (length xs == 0) ≡ false = grind (arith, common_steps) in rw t refl

-- A line that is too long cannot be read.
long_line : (bytes : List ℕ) → MAX_LINE < length bytes → line_of bytes ≡ None
unfolding line_of
long_line bytes h = grind (arith, common_steps)

-- Nor can it in any version.
long_read : (v : Version) (bytes : List ℕ) → MAX_LINE < length bytes → read_in v bytes ≡ None
long_read v bytes h = ap (λ o. o >>= λ said. cond (has_line v said) (Some said) None) (long_line bytes h)

-- A line of more than 262,145 bytes is too long without its carriage return too.
strip_long : (line : List ℕ) → 262145 < length line → MAX_LINE < length (strip_carriage_return line)
strip_long line h = grind (arith, common_steps)

-- A line that may not fit is too long without its carriage return.
past_limit : (bytes : List ℕ) → may_fit bytes ≡ false → MAX_LINE < length (strip_carriage_return bytes)
past_limit bytes over = grind (arith, common_steps)

-- To strip a carriage return adds no byte.
strip_shorter : (bytes : List ℕ) → length (strip_carriage_return bytes) ≤ length bytes
strip_shorter bytes = grind (arith, common_steps)

-- A line that may not fit is too long.
long_bare : (bytes : List ℕ) → may_fit bytes ≡ false → MAX_LINE < length bytes
long_bare bytes over = omega (arith, past_limit bytes over, strip_shorter bytes)

-- Whatever follows on the line, it is too long.
long_stripped : (bad x : List ℕ) → may_fit bad ≡ false → MAX_LINE < length (strip_carriage_return (bad ++ x))
long_stripped bad [] over = rw (append-nil bad) (past_limit bad over)
long_stripped bad (a ∷ x) over = strip_long (bad ++ a ∷ x) (omega (arith, long_bare bad over, length-append bad (a ∷ x)))

-- The line that begins so cannot be read.
pub long_first : (v : Version) (bad more : List ℕ) → NoFeed bad → may_fit bad ≡ false
    → (line : List ℕ) × ((others : List (List ℕ)) × ((lines (bad ++ more) ≡ line ∷ others) × (read_in v line ≡ None)))
long_first v bad more none over =
    let (x, (free, end)) = first_cut more in
    let joined : NoFeed (bad ++ x) = All-append (λ c. (c == 10) ≡ false) bad x none free in
    let size : length (bad ++ x) ≡ length bad + length x = length-append bad x in
    let big : MAX_LINE < length (bad ++ x) = omega (arith, size, long_bare bad over) in
    elim end [
      | inl h ↦ (bad ++ x, ([], (ap (λ m. lines (bad ++ m)) h ∙ last_line (bad ++ x) joined (omega arith), long_read v (bad ++ x) big)))
      | inr (r, h) ↦ (
        strip_carriage_return (bad ++ x),
        (
          lines r,
          (
            ap (λ m. lines (bad ++ m)) h ∙ ap lines (sym (append_assoc bad x (10 ∷ r))) ∙ line-front (bad ++ x) r joined,
            long_read v (strip_carriage_return (bad ++ x)) (long_stripped bad x over),
          ),
        ),
      )
    ]

-- ---- the end of the input

-- The lines of a cut script are those that were cut off, and those of the rest.
pub all_lines : (taken : List ℕ) (whole : List (List ℕ)) (rest : List ℕ) → IsCut taken whole rest → lines taken ≡ map strip_carriage_return whole ++ lines rest
all_lines taken whole rest cut = ap lines cut.joined ∙ lines-front whole rest cut.each

-- ---- the bytes of a chunk

-- Where there is none, there is none.
pub NoFeed-all : (bytes : List ℕ) → IsFirstByte (is_byte 10) bytes None → NoFeed bytes
NoFeed-all bytes nowhere = All-from_get_or (λ b. (b == 10) ≡ false) bytes 0 (λ k low. false_from_ne_true (slice_index bytes k == 10) (nowhere k (omega arith) low))

-- The bytes up to a line feed, it, and those after it.
pub around : (bytes : List ℕ) (at : ℕ) → IsFirstByte (is_byte 10) bytes (Some at) → bytes ≡ ended_by_feed (take at bytes) ++ drop (at + 1) bytes
around bytes at (first, here) =
    let high : at < length bytes = first.high in
    let ten : get_or bytes at 0 ≡ 10 = eqb-true (get_or bytes at 0) 10 here in
    sym (take-append-drop at bytes) ∙ ap (λ l. take at bytes ++ l) (drop_more bytes at 0 high ∙ ap (λ (b : ℕ). b ∷ drop (at + 1) bytes) ten)
    ∙ sym (append_assoc (take at bytes) (10 ∷ []) (drop (at + 1) bytes))
