-- How many of the known files below the bound are not marked, as marks come, change and go.
use Rattle.std.proofs.Common.{◌≡◌, ◌≤◌, ◌<◌, ℕ, ◌+◌, Bool, true, false, not, ◌&&◌, T, List, [], ◌∷◌, refl, sym, ap, ◌∙◌, subst, cond, arith, Ordering, is_eq}
use Rattle.std.specs.Prelude.{Option, Some, None, is_some, nat_lt}
use Rattle.std.specs.List.{sum_by}
use Rattle.std.specs.Option.{option_map_or}
use Rattle.std.specs.Ordering.{nat_cmp, eq_by_cmp}
use Rattle.std.specs.declared.cmp.Ordering.TheVariants.{Less, Equal, Greater}
use Rattle.std.specs.Cmp.{nat_cmp_total, tied_itself}
use Rattle.std.specs.FinMap as map
use Rattle.std.specs.FinMap.{find, put, is_sorted, nat_cmp-IsAntisymmetric, entries-insert, entries_sorted, get-entries}
use Rattle.std.specs.FinMap.Entries.{by_order}
use Rattle.std.proofs.lemmas.List.Sums.{count_by-le-length, sum_by-cons}
use Rattle.std.proofs.lemmas.Bool.{false≢true, le-ltb, lt-ltb}
use Rattle.std.proofs.Math.Bool.{and-false}
use Rattle.af_base.specs.World.{Map}
use Rattle.af_base.proofs.Sums.{find_below, first, second}
use Rattle.af_mark.specs.MarksView.{MarksView, is_grey, is_grey_color, is_mark, is_marked, is_white, knows, white_at, white_count}
use Rattle.af_mark.specs.declared.color.Color.{Color}
use Rattle.af_mark.specs.declared.color.Color.TheVariants.{Black, Grey, White}

-- A sum over entries, after a change at one key.
module _ {X : Type 0} (F : ℕ × X → ℕ) where
  -- The part of the value at a key, and 0 where there is none.
  abbrev at : ℕ → Option X → ℕ
  at k o = option_map_or (λ x. F (k, x)) o 0

  -- A value put into sorted entries adds its part, and takes away that of the old value.
  sum_put : (k : ℕ) (v : X) (es : List (ℕ × X)) → T (is_sorted nat_cmp es) → sum_by F (put nat_cmp k v es) + at k (find nat_cmp k es) ≡ sum_by F es + F (k, v)
  sum_put k v [] h = omega (arith, sum_by-cons F (k, v) [])
  sum_put k v (e ∷ es) h =
      elim (nat_cmp k e.0) as (λ r. nat_cmp k e.0 ≡ r → sum_by F (by_order r ((k, v) ∷ e ∷ es) ((e.0, v) ∷ es) (e ∷ put nat_cmp k v es)) + at k (cond (is_eq r) (Some e.1) (find nat_cmp k es)) ≡ sum_by F (e ∷ es) + F (k, v)) [
        | Less ↦ λ p. let none = ap (at k) (find_below k e.0 es p (first _ _ h)) in omega (arith, sum_by-cons F (k, v) (e ∷ es), none)
        | Equal ↦ λ p.
            let same = nat_cmp-IsAntisymmetric _ _ p in
            let new : F (k, v) ≡ F (e.0, v) = ap (λ q. F (q, v)) same in
            let old : F (k, e.1) ≡ F e = ap (λ q. F (q, e.1)) same in
            omega (arith, sum_by-cons F (e.0, v) es, sum_by-cons F e es, new, old)
        | Greater ↦ λ p. omega (arith, sum_by-cons F e (put nat_cmp k v es), sum_by-cons F e es, sum_put k v es (second _ _ h))
      ] refl

  -- A value put into a map adds its part, and takes away that of the old value.
  sum_insert : (m : Map X) (k : ℕ) (v : X) → sum_by F (map.entries (map.insert m k v)) + at k (map.get m k) ≡ sum_by F (map.entries m) + F (k, v)
  sum_insert m k v =
      ap (λ es. sum_by F es + at k (map.get m k)) (entries-insert nat_cmp_total m k v)
      ∙ ap (λ o. sum_by F (put nat_cmp k v (map.entries m)) + at k o) (get-entries m k)
      ∙ sum_put k v (map.entries m) (entries_sorted m)

  -- The removal of a key takes away the part of its value.
  sum_remove : (m : Map X) (k : ℕ) → sum_by F (map.entries (map.remove m k)) + at k (map.get m k) ≡ sum_by F (map.entries m)
  sum_remove m k = by (map.get m k) refl where
    gone : map.get (map.remove m k) k ≡ None
    gone = map.get-remove nat_cmp_total m k k ∙ ap (λ b. cond b None (map.get m k)) (ap is_eq (tied_itself nat_cmp_total k))

    left : (q : ℕ) (o : Ordering) → nat_cmp q k ≡ o → map.get m k ≡ None → cond (is_eq o) None (map.get m q) ≡ map.get m q
    left q Equal p is = sym is ∙ ap (map.get m) (sym (nat_cmp-IsAntisymmetric _ _ p))
    left q Less p is = refl
    left q Greater p is = refl

    put_back : (x : X) → map.get m k ≡ Some x → (q : ℕ) (o : Ordering) → nat_cmp q k ≡ o → cond (is_eq o) (Some x) (cond (is_eq o) None (map.get m q)) ≡ map.get m q
    put_back x is q Equal p = sym is ∙ ap (map.get m) (sym (nat_cmp-IsAntisymmetric _ _ p))
    put_back x is q Less p = refl
    put_back x is q Greater p = refl

    by : (o : Option X) → map.get m k ≡ o → sum_by F (map.entries (map.remove m k)) + at k o ≡ sum_by F (map.entries m)
    by None is =
        let same : map.remove m k ≡ m = map.same_map nat_cmp_total nat_cmp-IsAntisymmetric _ _ (λ q. map.get-remove nat_cmp_total m k q ∙ left q (nat_cmp q k) refl is) in
        omega (arith, ap (λ n. sum_by F (map.entries n)) same)
    by (Some x) is =
        let back : map.insert (map.remove m k) k x ≡ m = map.same_map nat_cmp_total nat_cmp-IsAntisymmetric _ _ (λ q.
        map.get-insert nat_cmp_total (map.remove m k) k x q ∙ ap (cond (eq_by_cmp nat_cmp q k) (Some x)) (map.get-remove nat_cmp_total m k q) ∙ put_back x is q (nat_cmp q k) refl) in
        omega (arith, sum_insert (map.remove m k) k x, ap (at k) gone, ap (λ n. sum_by F (map.entries n)) back)

-- The part of one file.
abbrev white : ℕ → ℕ × Color → ℕ
white bound e = cond (white_at bound e.0 e.1) 1 0

-- The part of a file with this colour, and of an unknown one.
abbrev adds : MarksView → ℕ → ℕ
adds m f = option_map_or (λ c. white m.bound (f, c)) (map.get m.colors f) 0

module _ (m : MarksView) (f : ℕ) where
  -- A file gets another colour.
  pub whites-put : (c : Color) → white_count (record m { colors = map.insert m.colors f c }) + adds m f ≡ white_count m + white m.bound (f, c)
  whites-put c = sum_insert (white m.bound) m.colors f c

  -- A file is freed.
  pub whites-gone : white_count (record m { colors = map.remove m.colors f }) + adds m f ≡ white_count m
  whites-gone = sum_remove (white m.bound) m.colors f

  -- A known file below the bound that is not marked is one of them.
  pub adds-white : is_white m f ≡ true → f < m.bound → adds m f ≡ 1
  adds-white is low = by (map.get m.colors f) refl where
    by : (o : Option Color) → map.get m.colors f ≡ o → option_map_or (λ c. white m.bound (f, c)) o 0 ≡ 1
    by o e = at o (subst (λ p. (is_some p && not (option_map_or is_mark p false)) ≡ true) e is) where
      at : (p : Option Color) → (is_some p && not (option_map_or is_mark p false)) ≡ true → option_map_or (λ c. white m.bound (f, c)) p 0 ≡ 1
      at None d = absurd (false≢true d)
      at (Some White) d = ap {B = ℕ} (λ b. cond (b && true) 1 0) (lt-ltb f m.bound low)
      at (Some Grey) d = absurd (false≢true d)
      at (Some Black) d = absurd (false≢true d)

  -- A grey one is not.
  pub adds-grey : is_grey m f ≡ true → adds m f ≡ 0
  adds-grey is = by (map.get m.colors f) is where
    by : (o : Option Color) → option_map_or is_grey_color o false ≡ true → option_map_or (λ c. white m.bound (f, c)) o 0 ≡ 0
    by None d = absurd (false≢true d)
    by (Some White) d = absurd (false≢true d)
    by (Some Grey) d = ap {B = ℕ} (λ b. cond b 1 0) (and-false (nat_lt f m.bound))
    by (Some Black) d = absurd (false≢true d)

-- A colour that is a mark adds nothing.
pub white-mark : (bound f : ℕ) (c : Color) → is_mark c ≡ true → white bound (f, c) ≡ 0
white-mark bound f c is = ap {B = ℕ} (λ b. cond (nat_lt f bound && not b) 1 0) is ∙ ap {B = ℕ} (λ b. cond b 1 0) (and-false (nat_lt f bound))

-- A file that is not below the bound adds nothing.
pub white-beyond : (bound f : ℕ) (c : Color) → bound ≤ f → white bound (f, c) ≡ 0
white-beyond bound f c high = ap {B = ℕ} (λ b. cond (b && not (is_mark c)) 1 0) (le-ltb f bound high)

-- Where no file is below the bound there are none.
pub none-bound : (m : MarksView) → m.bound ≡ 0 → white_count m ≡ 0
none-bound m is = all (map.entries m.colors) where
  all : (es : List (ℕ × Color)) → sum_by (white m.bound) es ≡ 0
  all [] = refl
  all (e ∷ es) = omega (arith, sum_by-cons (white m.bound) e es, white-beyond m.bound e.0 e.1 (omega (arith, is)), all es)

-- There are at most as many white files as known ones.
pub whites-most : (m : MarksView) → white_count m ≤ map.len m.colors
whites-most m = subst (λ n. white_count m ≤ n) (sym (map.len-entries m.colors)) (count_by-le-length (λ e. white_at m.bound e.0 e.1) (map.entries m.colors))

-- Where there are none, each known file below the bound is marked.
pub none-white : (m : MarksView) → white_count m ≤ 0 → (f : ℕ) → knows m f ≡ true → f < m.bound → is_marked m f ≡ true
none-white m none f known low = by (is_marked m f) refl where
  by : (b : Bool) → is_marked m f ≡ b → is_marked m f ≡ true
  by true e = e
  by false e =
      let one = adds-white m f (λ i. known i && not (e i)) low in
      let less = whites-gone m f in
      absurd (omega (arith, one, less, none))
