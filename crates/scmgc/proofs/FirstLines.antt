-- The first line of an input, and the lines behind it.
use Rattle.std.proofs.Common.{◌≡◌, ◌⊎◌, ℕ, ◌+◌, ◌-◌, ◌<◌, ◌==◌, List, [], ◌∷◌, ◌++◌, ◌&&◌, Bool, true, false, cond, get_or, length, nat_lt, take, refl, ap, ◌∙◌, inl, inr, arith, length-append}
use Rattle.std.proofs.lemmas.Grind.{common_steps}
use Rattle.std.proofs.lemmas.List.Elements.{All-cons, All-get_or, All-nil}
use Rattle.std.proofs.Math.Seq.{get_or-append_seam, take-append_seam}
use Rattle.std.specs.Io.BufRead.{drop_through, take_through}
use Rattle.std.specs.Str.Lines.{lines, strip_carriage_return}
use Rattle.scm_run.specs.Script.{NoFeed}
use Rattle.scm_run.proofs.LinesLemmas.{last_line, line-front}
use Rattle.scmgc.specs.Cut.{line_in}

-- The bytes up to the first line feed are the last line, or a line before others.
pub record IsLast (input x : List ℕ) : Type 0 where
  pub all : input ≡ x
  pub taken : take_through 10 input ≡ x
  pub left : drop_through 10 input ≡ []

pub record IsFirst (input x r : List ℕ) : Type 0 where
  pub all : input ≡ x ++ 10 ∷ r
  pub taken : take_through 10 input ≡ x ++ 10 ∷ []
  pub left : drop_through 10 input ≡ r

-- Each input begins with bytes without a line feed, which end it or come before one.
through : (input : List ℕ) → (x : List ℕ) × (NoFeed x × (IsLast input x ⊎ ((r : List ℕ) × IsFirst input x r)))
through [] = ([], (All-nil (λ c. (c == 10) ≡ false), inl (record { all = refl; taken = refl; left = refl })))
through (b ∷ input) = by_test (b == 10) refl (through input)
  where
    is_ten : (b : ℕ) → (b == 10) ≡ true → b ≡ 10
    is_ten b e = grind (arith, common_steps)

    by_test : (t : Bool) → (b == 10) ≡ t → (x : List ℕ) × (NoFeed x × (IsLast input x ⊎ ((r : List ℕ) × IsFirst input x r)))
        → (x : List ℕ) × (NoFeed x × (IsLast (b ∷ input) x ⊎ ((r : List ℕ) × IsFirst (b ∷ input) x r)))
    by_test true e later = (
      [],
      (
        All-nil (λ c. (c == 10) ≡ false),
        inr (
          input,
          record {
            all = ap (λ (c : ℕ). c ∷ input) (is_ten b e);
            taken = rw e (ap (λ (c : ℕ). c ∷ []) (is_ten b e));
            left = rw e refl;
          },
        ),
      ),
    )
    by_test false e (x, (none, inl h)) = (
      b ∷ x,
      (
        All-cons (λ c. (c == 10) ≡ false) b x e none,
        inl (record {
          all = ap (λ l. b ∷ l) h.all;
          taken = rw e (ap (λ l. b ∷ l) h.taken);
          left = rw e h.left;
        }),
      ),
    )
    by_test false e (x, (none, inr (r, h))) = (
      b ∷ x,
      (
        All-cons (λ c. (c == 10) ≡ false) b x e none,
        inr (
          r,
          record {
            all = ap (λ l. b ∷ l) h.all;
            taken = rw e (ap (λ l. b ∷ l) h.taken);
            left = rw e h.left;
          },
        ),
      ),
    )

-- A line before its line feed.
line_ended : (x : List ℕ) → line_in (x ++ 10 ∷ []) ≡ strip_carriage_return x
line_ended x =
    let size : length (x ++ 10 ∷ []) ≡ length x + 1 = length-append x (10 ∷ []) in
    let front : length (x ++ 10 ∷ []) - 1 ≡ length x = omega (arith, size) in
    let some : nat_lt 0 (length (x ++ 10 ∷ [])) ≡ true = grind (arith, common_steps, size) in
    rw (some, front, get_or-append_seam x 10 [] 0, take-append_seam x (10 ∷ [])) refl

-- Bytes without a line feed.
line_open : (x : List ℕ) → NoFeed x → line_in x ≡ x
line_open x none = by (nat_lt 0 (length x)) refl
  where
    by : (some : Bool) → nat_lt 0 (length x) ≡ some → cond (some && (get_or x (length x - 1) 0 == 10)) (strip_carriage_return (take (length x - 1) x)) x ≡ x
    by false e = refl
    by true e =
        let last : (get_or x (length x - 1) 0 == 10) ≡ false = All-get_or (λ b. (b == 10) ≡ false) x (length x - 1) 0 (grind (arith, common_steps, e)) none in
        rw last refl

-- Nothing is read only of an input without bytes.
pub nothing_read : (input : List ℕ) → length (take_through 10 input) ≡ 0 → input ≡ []
nothing_read [] e = refl
nothing_read (b ∷ input) e = absurd (by (b == 10) e)
  where
    by : (t : Bool) → length (cond t (b ∷ []) (b ∷ take_through 10 input)) ≡ 0 → ⊥
    by true e = omega (arith, e)
    by false e = omega (arith, e)

-- The bytes that are read are the first line, with its end.
pub first_read : (input : List ℕ) → 0 < length (take_through 10 input) → lines input ≡ line_in (take_through 10 input) ∷ lines (drop_through 10 input)
first_read input some =
    let (x, (none, which)) = through input in
    elim which [
      | inl h ↦ rw (h.taken, h.left, line_open x none) (ap lines h.all ∙ last_line x none (omega (arith, some, ap length h.taken)))
      | inr (r, h) ↦ rw (h.taken, h.left, line_ended x) (ap lines h.all ∙ line-front x r none)
    ]
