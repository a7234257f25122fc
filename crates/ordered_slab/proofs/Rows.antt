-- Rows that rise, in two lists, and how a push, a packing and a removal change them.
use Rattle.std.proofs.Common.{◌≡◌, ℕ, ◌+◌, ◌-◌, ◌<◌, ◌≤◌, ◌⊎◌, inl, inr, List, [], ◌∷◌, ◌++◌, length, take, drop, refl, sym, ap, subst, ◌∙◌, append_assoc, get_or-drop, length-drop, length-append, get_or-append-add, set, Bool, true, false, arith}
use Rattle.std.specs.Prelude.{Some}
use Rattle.std.specs.FinMap as map
use Rattle.std.proofs.lemmas.Bool.{cases_lt, false≢true}
use Rattle.std.proofs.lemmas.List.{drop-append-le, drop-drop, drop-set-lt, drop_more, get_or_append_left, get_or_push, length-set, length_push, take-append-le, take-set, take_all, take_more_set}
use Rattle.std.proofs.Math.Seq.{get_or-append_right}
use mir.Val.{bool_byte}
use Rattle.af_base.specs.World.{Map}
use Rattle.ordered_slab.specs.OrderView.{OrderRowView}
use Rattle.ordered_slab.specs.Rows.{row_at, Rise, AllUpTo, HasRow, KeepsLive}

-- The row past the end.
abbrev pub none_row : OrderRowView
none_row = record { ino = 0; key = 0 }

-- Rows in two lists, one behind the other.
module _ (xs ys : List OrderRowView) where
  -- A row of the first list is at its position there.
  left_at : (i : ℕ) → i < length xs → row_at (xs ++ ys) i ≡ row_at xs i
  left_at i l = get_or_append_left xs ys none_row i l

  -- A row of the second list is behind those of the first.
  right_at : (i : ℕ) → row_at (xs ++ ys) (length xs + i) ≡ row_at ys i
  right_at i = get_or-append-add xs ys i none_row

  -- The first list rises.
  pub rise_left : Rise (xs ++ ys) → Rise xs
  rise_left h i j l m =
      let long = length-append xs ys in
      let o = h i j l (omega (arith, long, m)) in
      omega (arith, o, ap (λ r. r.ino) (left_at i (omega (arith, l, m))), ap (λ r. r.ino) (left_at j m))

  -- The second list rises.
  pub rise_right : Rise (xs ++ ys) → Rise ys
  rise_right h i j l m =
      let long = length-append xs ys in
      let o = h (length xs + i) (length xs + j) (omega (arith, l)) (omega (arith, long, m)) in
      omega (arith, o, ap (λ r. r.ino) (right_at i), ap (λ r. r.ino) (right_at j))

  -- Each row of the first list is below each of the second.
  pub rise_across : Rise (xs ++ ys) → (i j : ℕ) → i < length xs → j < length ys → (row_at xs i).ino < (row_at ys j).ino
  rise_across h i j l m =
      let long = length-append xs ys in
      let o = h i (length xs + j) (omega (arith, l)) (omega (arith, long, m)) in
      omega (arith, o, ap (λ r. r.ino) (left_at i l), ap (λ r. r.ino) (right_at j))

  -- A row of the first list is one of both.
  pub in_left : (q k : ℕ) → HasRow xs q k → HasRow (xs ++ ys) q k
  in_left q k x = let long = length-append xs ys in (x.0, omega (arith, long, x.1), left_at x.0 x.1 ∙ x.2)

  -- A row of the second list is one of both.
  pub in_right : (q k : ℕ) → HasRow ys q k → HasRow (xs ++ ys) q k
  in_right q k x = let long = length-append xs ys in (length xs + x.0, omega (arith, long, x.1), right_at x.0 ∙ x.2)

  -- A row of both is one of either.
  pub in_either : (q k : ℕ) → HasRow (xs ++ ys) q k → HasRow xs q k ⊎ HasRow ys q k
  in_either q k x = elim (cases_lt x.0 (length xs)) [
    | inl m ↦ inl (x.0, m, sym (left_at x.0 m) ∙ x.2)
    | inr m ↦ inr (x.0 - length xs, (let long = length-append xs ys in omega (arith, long, m, x.1)), sym (get_or-append_right xs ys x.0 none_row m) ∙ x.2)
  ]

  -- No number of the first list is above the last.
  up_left : (last : ℕ) → AllUpTo last (xs ++ ys) → AllUpTo last xs
  up_left last h i l =
      let long = length-append xs ys in
      let o = h i (omega (arith, long, l)) in
      omega (arith, o, ap (λ r. r.ino) (left_at i l))

  -- And none of the second.
  up_right : (last : ℕ) → AllUpTo last (xs ++ ys) → AllUpTo last ys
  up_right last h i l =
      let long = length-append xs ys in
      let o = h (length xs + i) (omega (arith, long, l)) in
      omega (arith, o, ap (λ r. r.ino) (right_at i))

  -- A fact of each row of both lists.
  each : (P : OrderRowView → Type 0) → ((i : ℕ) → i < length xs → P (row_at xs i)) → ((i : ℕ) → i < length ys → P (row_at ys i)) → (i : ℕ) → i < length (xs ++ ys) → P (row_at (xs ++ ys) i)
  each P left right i l = elim (cases_lt i (length xs)) [
    | inl m ↦ subst P (sym (left_at i m)) (left i m)
    | inr m ↦ subst P (sym (get_or-append_right xs ys i none_row m)) (right (i - length xs) (let long = length-append xs ys in omega (arith, long, m, l)))
  ]

  -- Both lists rise as one, if each does and the second is above the first.
  rise_join : Rise xs → Rise ys → ((i j : ℕ) → i < length xs → j < length ys → (row_at xs i).ino < (row_at ys j).ino) → Rise (xs ++ ys)
  rise_join left right across i j l m = elim (cases_lt i (length xs)) [
    | inl a ↦ subst (λ (r : OrderRowView). r.ino < (row_at (xs ++ ys) j).ino) (sym (left_at i a)) (elim (cases_lt j (length xs)) [
      | inl b ↦ subst (λ (r : OrderRowView). (row_at xs i).ino < r.ino) (sym (left_at j b)) (left i j l b)
      | inr b ↦ subst (λ (r : OrderRowView). (row_at xs i).ino < r.ino) (sym (get_or-append_right xs ys j none_row b)) (across i (j - length xs) a (let long = length-append xs ys in omega (arith, long, m, b)))
    ])
    | inr a ↦
        let long = length-append xs ys in
        let o = right (i - length xs) (j - length xs) (omega (arith, a, l)) (omega (arith, long, m, a, l)) in
        omega (arith, o, ap (λ r. r.ino) (get_or-append_right xs ys i none_row a), ap (λ r. r.ino) (get_or-append_right xs ys j none_row (omega (arith, a, l))))
  ]

-- A number has one row.
pub alone : (rows : List OrderRowView) → Rise rows → (i j : ℕ) → i < length rows → j < length rows → (row_at rows i).ino ≡ (row_at rows j).ino → i ≡ j
alone rows rise i j l m e = elim (cases_lt i j) [
  | inl a ↦ let o = rise i j a m in absurd (omega (arith, o, e))
  | inr a ↦ elim (cases_lt j i) [
    | inl b ↦ let o = rise j i b l in absurd (omega (arith, o, e))
    | inr b ↦ omega (arith, a, b)
  ]
]

-- The second list without its first n rows.
module _ (xs ys : List OrderRowView) (n : ℕ) where
  -- Its rows are those behind them.
  behind : (i : ℕ) → row_at (drop n ys) i ≡ row_at ys (n + i)
  behind i = get_or-drop n ys i none_row

  -- A row there was within the list.
  inside : (i : ℕ) → i < length (drop n ys) → n + i < length ys
  inside i l = let long = length-drop n ys in omega (arith, long, l)

  -- Both lists still rise.
  skip_rise : Rise (xs ++ ys) → Rise (xs ++ drop n ys)
  skip_rise h = rise_join xs (drop n ys) (rise_left xs ys h) (λ i j l m.
      let o = rise_right xs ys h (n + i) (n + j) (omega (arith, l)) (inside j m) in
      omega (arith, o, ap (λ r. r.ino) (behind i), ap (λ r. r.ino) (behind j)))
      (λ i j l m. let o = rise_across xs ys h i (n + j) l (inside j m) in omega (arith, o, ap (λ r. r.ino) (behind j)))

  -- And go no higher.
  skip_up : (last : ℕ) → AllUpTo last (xs ++ ys) → AllUpTo last (xs ++ drop n ys)
  skip_up last h = each xs (drop n ys) (λ r. r.ino ≤ last) (up_left xs ys last h)
      (λ i l. subst (λ (r : OrderRowView). r.ino ≤ last) (sym (behind i)) (up_right xs ys last h (n + i) (inside i l)))

  -- If the first n rows are dead, each live row stays.
  skip_kept : (m : Map ℕ) → ((j q k : ℕ) → j < n → j < length ys → row_at ys j ≡ record { ino = q; key = k } → map.get m q ≡ Some k → ⊥) → KeepsLive m (xs ++ ys) (xs ++ drop n ys)
  skip_kept m dead q k at x = elim (in_either xs ys q k x) [
    | inl a ↦ in_left xs (drop n ys) q k a
    | inr a ↦ elim (cases_lt a.0 n) [
      | inl b ↦ absurd (dead a.0 q k b a.1 a.2 at)
      | inr b ↦ in_right xs (drop n ys) q k (
        a.0 - n,
        (let long = length-drop n ys in omega (arith, long, a.1, b)),
        behind (a.0 - n) ∙ ap (row_at ys) (omega (arith, b)) ∙ a.2,
      )
    ]
  ]

-- One row more.
module _ (rows : List OrderRowView) (r : OrderRowView) where
  -- Rows below it rise with it.
  push_rise : (last : ℕ) → Rise rows → AllUpTo last rows → last < r.ino → Rise (rows ++ r ∷ [])
  push_rise last rise up above = rise_join rows (r ∷ []) rise (λ i j l m. absurd (omega (arith, l, m)))
      (λ i j l m. let o = up i l in let first : 0 ≡ j = omega (arith, m) in subst (λ k. (row_at rows i).ino < (row_at (r ∷ []) k).ino) first (omega (arith, o, above)))

  -- Its number is the last.
  push_up : (last : ℕ) → AllUpTo last rows → last < r.ino → AllUpTo r.ino (rows ++ r ∷ [])
  push_up last up above = each rows (r ∷ []) (λ x. x.ino ≤ r.ino) (λ i l. let o = up i l in omega (arith, o, above))
      (λ i l. let first : 0 ≡ i = omega (arith, l) in subst (λ k. (row_at (r ∷ []) k).ino ≤ r.ino) first (omega arith))

-- No number above all rows has one.
pub above_none : (rows : List OrderRowView) (last n k : ℕ) → AllUpTo last rows → last < n → HasRow rows n k → ⊥
above_none rows last n k up above x = let o = up x.0 x.1 in omega (arith, o, above, ap (λ r. r.ino) x.2)

-- The row at the last position.
pub row_last : (front : List OrderRowView) (r : OrderRowView) → row_at (front ++ r ∷ []) (length front) ≡ r
row_last front r = get_or_push front r none_row (length front) refl

-- The rest of a list by its end.
pub rest : (rows : List OrderRowView) (n : ℕ) → take (length rows - n) (drop n rows) ≡ drop n rows
rest rows n = take_all (length rows - n) (drop n rows) (omega (arith, length-drop n rows))

-- Rows of which some were read, and some of these packed: the order has the packed ones, and those that were not read.
abbrev pub ordered : ℕ → ℕ → List OrderRowView → List OrderRowView
ordered packed read rows = take packed rows ++ drop read rows

-- Its rows rise, up to the last number, and at most as many are packed as read.
abbrev pub IsOrder : ℕ → ℕ → ℕ → List OrderRowView → Type 0
IsOrder last packed read rows = Rise (ordered packed read rows) × AllUpTo last (ordered packed read rows) × (packed ≤ read) × (read ≤ length rows)

module _ (packed read : ℕ) (rows : List OrderRowView) where
  -- A row more at the end is one more of the order.
  pub grown : (r : OrderRowView) → packed ≤ read → read ≤ length rows → ordered packed read (rows ++ r ∷ []) ≡ ordered packed read rows ++ r ∷ []
  grown r few l =
      ap (λ xs. xs ++ drop read (rows ++ r ∷ [])) (take-append-le packed rows (r ∷ []) (omega (arith, few, l)))
      ∙ ap (λ xs. take packed rows ++ xs) (drop-append-le read rows (r ∷ []) l) ∙ sym (append_assoc (take packed rows) (drop read rows) (r ∷ []))

  -- And the order is one still, if the row is above the last.
  pub push_order : (r : OrderRowView) (last : ℕ) → IsOrder last packed read rows → last < r.ino → IsOrder r.ino packed read (rows ++ r ∷ [])
  push_order r last is above =
      let same = sym (grown r is.2 is.3) in (
        subst Rise same (push_rise (ordered packed read rows) r last is.0 is.1 above),
        subst (AllUpTo r.ino) same (push_up (ordered packed read rows) r last is.1 above),
        is.2,
        (let long = length_push rows r in omega (arith, long, is.3)),
      )

-- The next row is read.
module _ (packed read : ℕ) (rows : List OrderRowView) (few : packed ≤ read) (some : read < length rows) where
  -- A row is written behind the packed ones, and not packed: the order has one row less.
  skipped : (r : OrderRowView) → ordered packed (read + 1) (set rows packed r) ≡ ordered packed (read + 1) rows
  skipped r = ap (λ xs. xs ++ drop (read + 1) (set rows packed r)) (take-set rows packed r)
      ∙ ap (λ xs. take packed rows ++ xs) (drop-set-lt (read + 1) rows packed r (omega (arith, few)))

  -- If it is the one that was read, and packed, the order stays.
  moved : ordered (packed + 1) (read + 1) (set rows packed (row_at rows read)) ≡ ordered packed read rows
  moved = ap (λ xs. xs ++ drop (read + 1) (set rows packed (row_at rows read))) (take_more_set rows packed (row_at rows read) (omega (arith, few, some)))
      ∙ ap (λ xs. (take packed rows ++ row_at rows read ∷ []) ++ xs) (drop-set-lt (read + 1) rows packed (row_at rows read) (omega (arith, few)))
      ∙ append_assoc (take packed rows) (row_at rows read ∷ []) (drop (read + 1) rows) ∙ ap (λ xs. take packed rows ++ xs) (sym (drop_more rows read none_row some))

  -- The others are those behind it.
  left : drop 1 (drop read rows) ≡ drop (read + 1) rows
  left = drop-drop 1 read rows

  -- If it is dead, each live row stays.
  skip_dead : (m : Map ℕ) → (map.get m (row_at rows read).ino ≡ Some (row_at rows read).key → ⊥) → KeepsLive m (ordered packed read rows) (ordered packed (read + 1) rows)
  skip_dead m dead = subst (λ xs. KeepsLive m (ordered packed read rows) (take packed rows ++ xs)) left
      (skip_kept (take packed rows) (drop read rows) 1 m (λ j q k one _ is at.
      let first : read ≡ read + j = omega (arith, one) in
      let row = ap (row_at rows) first ∙ sym (get_or-drop read rows j none_row) ∙ is in
      dead (ap (λ (r : OrderRowView). map.get m r.ino) row ∙ at ∙ ap (λ (r : OrderRowView). Some r.key) (sym row))))

  -- It is packed if it is live: then the order is one still,
  pub read_order : (live : Bool) (n last : ℕ) → n ≡ bool_byte live → IsOrder last packed read rows → IsOrder last (packed + n) (read + 1) (set rows packed (row_at rows read))
  read_order true n last e is = subst (λ k. IsOrder last (packed + k) (read + 1) (set rows packed (row_at rows read))) (sym e) (
    subst Rise (sym moved) is.0,
    subst (AllUpTo last) (sym moved) is.1,
    omega (arith, few),
    (let long = length-set rows packed (row_at rows read) in omega (arith, long, some)),
  )
  read_order false n last e is = subst (λ k. IsOrder last k (read + 1) (set rows packed (row_at rows read))) (omega (arith, e)) (
    subst Rise (sym (skipped (row_at rows read))) (subst (λ xs. Rise (take packed rows ++ xs)) left (skip_rise (take packed rows) (drop read rows) 1 is.0)),
    subst (AllUpTo last) (sym (skipped (row_at rows read))) (subst (λ xs. AllUpTo last (take packed rows ++ xs)) left (skip_up (take packed rows) (drop read rows) 1 last is.1)),
    omega (arith, few),
    (let long = length-set rows packed (row_at rows read) in omega (arith, long, some)),
  )

  -- and each live row stays.
  pub read_kept : (live : Bool) (n : ℕ) (m : Map ℕ) → n ≡ bool_byte live → (map.get m (row_at rows read).ino ≡ Some (row_at rows read).key → live ≡ true)
      → KeepsLive m (ordered packed read rows) (ordered (packed + n) (read + 1) (set rows packed (row_at rows read)))
  read_kept true n m e is q k at x = subst (λ p. HasRow (ordered (packed + p) (read + 1) (set rows packed (row_at rows read))) q k) (sym e) (subst (λ xs. HasRow xs q k) (sym moved) x)
  read_kept false n m e is q k at x = subst (λ p. HasRow (ordered p (read + 1) (set rows packed (row_at rows read))) q k) (omega (arith, e))
      (subst (λ xs. HasRow xs q k) (sym (skipped (row_at rows read))) (skip_dead m (λ live. false≢true (is live)) q k at x))

-- The last row is removed.
module _ (packed read : ℕ) (rows front : List OrderRowView) (r : OrderRowView) (few : packed ≤ read) (ends : rows ≡ front ++ r ∷ []) (some : read < length rows) where
  -- It was not read.
  unread : read ≤ length front
  unread = omega (arith, ap length ends ∙ length_push front r, some)

  -- It was the last of the order.
  popped : ordered packed read rows ≡ ordered packed read front ++ r ∷ []
  popped = ap (ordered packed read) ends ∙ grown packed read front r few unread

  -- The order is one still.
  pub pop_order : (last : ℕ) → IsOrder last packed read rows → IsOrder last packed read front
  pop_order last is = (
    rise_left (ordered packed read front) (r ∷ []) (subst Rise popped is.0),
    up_left (ordered packed read front) (r ∷ []) last (subst (AllUpTo last) popped is.1),
    few,
    unread,
  )

  -- If it was dead, each live row stays.
  pub pop_kept : (m : Map ℕ) → (map.get m r.ino ≡ Some r.key → ⊥) → KeepsLive m (ordered packed read rows) (ordered packed read front)
  pop_kept m dead q k at x = elim (in_either (ordered packed read front) (r ∷ []) q k (subst (λ xs. HasRow xs q k) popped x)) [
    | inl a ↦ a
    | inr a ↦
        let first : 0 ≡ a.0 = omega (arith, a.1) in
        let is = ap (row_at (r ∷ [])) first ∙ a.2 in
        absurd (dead (ap (λ (x : OrderRowView). map.get m x.ino) is ∙ at ∙ ap (λ (x : OrderRowView). Some x.key) (sym is)))
  ]
