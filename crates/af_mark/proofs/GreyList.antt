-- Marks and list stay consistent, whatever files are made, freed or marked.
use Rattle.std.proofs.Common.{◌≡◌, ◌≤◌, ◌<◌, ◌-◌, ℕ, Bool, true, false, cond, List, [], ◌∷◌, ◌++◌, length, refl, ap, ◌∙◌, subst, sym, arith}
use Rattle.std.specs.Prelude.{Option, Some, None, IsSome, ◌&&◌, if◌then◌else◌, is_some, nat_lt, not}
use Rattle.std.specs.Cmp.{nat_cmp_total}
use Rattle.std.specs.FinMap as map
use Rattle.std.specs.FinMap.{get-insert, get-remove, nat_cmp-IsAntisymmetric, same_map}
use Rattle.std.specs.Option.{option_map_or}
use Rattle.std.specs.Ordering.{eq_by_cmp, nat_cmp}
use Rattle.std.proofs.lemmas.Bool.{false≢true}
use Rattle.af_base.specs.Counts.{count_in, one}
use Rattle.af_base.proofs.ExactLists.{just-pushed, just-same, just-struck, just-without}
use Rattle.af_base.proofs.Lookups.{insert-here}
use Rattle.af_base.specs.World.{Map}
use Rattle.ordered_slab.proofs.Parts.{part_many}
use Rattle.ordered_slab.proofs.Values.{gone_few}
use Rattle.af_mark.specs.Grey.{AreGrey, AreUpTo, IsGreyList, MarkView, color_in, colors_in, unmarked}
use Rattle.af_mark.specs.MarksView.{MarksView, blackened, forgotten, is_grey, is_grey_color, is_mark, is_unmarked, is_white}
use Rattle.af_mark.specs.declared.color.Color.{Color}
use Rattle.af_mark.specs.declared.color.Color.TheVariants.{Black, Grey, White}
use Rattle.af_mark.proofs.Colors.{color_after, color_known, color_now, color_white, color_without, same_marked, upto_put, upto_taken}

-- Whether a file is grey by these marks.
abbrev grey_by : ℕ → Map MarkView → ℕ → Bool
grey_by e m f = option_map_or is_grey_color (map.get (colors_in e m) f) false

-- A grey file is known.
pub grey-known : (m : MarksView) (f : ℕ) → is_grey m f ≡ true → IsSome (map.get m.colors f)
grey-known m f = by (map.get m.colors f) where
  by : (o : Option Color) → option_map_or is_grey_color o false ≡ true → IsSome o
  by None e = absurd (false≢true e)
  by (Some c) e = refl

-- A white file is known, and not grey.
pub white-known : (m : MarksView) (f : ℕ) → is_white m f ≡ true → IsSome (map.get m.colors f) × (is_grey m f ≡ false)
white-known m f = by (map.get m.colors f) where
  by : (o : Option Color) → (is_some o && not (option_map_or is_mark o false)) ≡ true → IsSome o × (option_map_or is_grey_color o false ≡ false)
  by None e = absurd (false≢true e)
  by (Some White) e = (refl, refl)
  by (Some Grey) e = absurd (false≢true e)
  by (Some Black) e = absurd (false≢true e)

module _ (m n : Map MarkView) (e : ℕ) (fs : List ℕ) (room : ℕ) (h : IsGreyList m e fs room) where
  -- More room changes nothing.
  pub listed-same : (gs : List ℕ) (most : ℕ) → n ≡ m → gs ≡ fs → room ≤ most → IsGreyList n e gs most
  listed-same gs most is same more = let fits = h.2 in (
    subst (AreUpTo e) (sym is) h.0,
    subst (AreGrey (colors_in e n)) (sym same) (subst (λ o. AreGrey (colors_in e o) fs) (sym is) h.1),
    omega (arith, fits, more, ap map.len is),
  )

  -- A file more has a mark of no pass.
  pub listed-born : (f most : ℕ) → n ≡ map.insert m f unmarked → map.contains_key m f ≡ false → map.len n ≤ most → IsGreyList n e fs most
  listed-born f most is new fits = (
    subst (AreUpTo e) (sym is) (upto_put e m f unmarked (omega arith) h.0),
    just-same is_grey_color (colors_in e m) (colors_in e n) fs f h.1 White (color_after e m n f unmarked White is (color_white e unmarked refl)) (sym (by (map.get (colors_in e m) f) (color_known e m f ∙ new))),
    fits,
  ) where
    by : (o : Option Color) → is_some o ≡ false → option_map_or is_grey_color o false ≡ false
    by None e = refl
    by (Some c) e = absurd (false≢true (sym e))

  -- A file less, which was not grey.
  pub listed-gone : (f : ℕ) → n ≡ map.remove m f → grey_by e m f ≡ false → IsGreyList n e fs room
  listed-gone f is white = let fits = h.2 in (
    subst (AreUpTo e) (sym is) (upto_taken e m f h.0),
    just-without is_grey_color (colors_in e m) (colors_in e n) fs f h.1 (color_without e m n f is) white,
    omega (arith, fits, ap map.len is, gone_few m f),
  )

  module _ (f : ℕ) (x : MarkView) (is : n ≡ map.insert m f x) (now : x.epoch ≡ e) (many : map.len n ≡ map.len m) where
    -- A white file is grey, and the last of the list, which has room for it.
    pub listed-grey : x.color ≡ Grey → grey_by e m f ≡ false → (length fs < room) × IsGreyList n e (fs ++ f ∷ []) room
    listed-grey grey white =
        let fits = h.2 in
        let pushed = just-pushed is_grey_color (colors_in e m) (colors_in e n) fs f h.1 Grey (color_after e m n f x Grey is (color_now e x now ∙ grey)) refl white in
        let low = pushed.1 in (
          omega (arith, fits, low, many, part_many (color_in e) n),
          (subst (AreUpTo e) (sym is) (upto_put e m f x (omega (arith, now)) h.0), pushed.0, omega (arith, fits, many)),
        )

    -- A white file becomes black, and is never in the list.
    pub listed-bare : x.color ≡ Black → grey_by e m f ≡ false → IsGreyList n e fs room
    listed-bare black white = let fits = h.2 in (
      subst (AreUpTo e) (sym is) (upto_put e m f x (omega (arith, now)) h.0),
      just-same is_grey_color (colors_in e m) (colors_in e n) fs f h.1 Black (color_after e m n f x Black is (color_now e x now ∙ black)) (sym white),
      omega (arith, fits, many),
    )

    -- A file becomes black, and leaves the list.
    pub listed-black : (gs : List ℕ) (most : ℕ) → x.color ≡ Black → ((g : ℕ) → count_in g gs ≡ count_in g fs - one g f) → room ≤ most → IsGreyList n e gs most
    listed-black gs most black less more = let fits = h.2 in (
      subst (AreUpTo e) (sym is) (upto_put e m f x (omega (arith, now)) h.0),
      just-struck is_grey_color (colors_in e m) (colors_in e n) fs f h.1 Black (color_after e m n f x Black is (color_now e x now ∙ black)) gs refl less,
      omega (arith, fits, many, more),
    )

-- A black file is not grey.
pub black-spared : (f : ℕ) (m : MarksView) → is_grey (blackened f m) f ≡ false
black-spared f m = by (is_grey m f) refl where
  by : (b : Bool) → is_grey m f ≡ b → is_grey (if b then record m { colors = map.insert m.colors f Black } else m) f ≡ false
  by true e = ap (λ o. option_map_or is_grey_color o false) (insert-here m.colors f Black)
  by false e = e

-- A file that is scanned and then forgotten is forgotten.
pub black-forgotten : (f : ℕ) (m : MarksView) → forgotten f (blackened f m) ≡ forgotten f m
black-forgotten f m = by (is_grey m f) where
  by : (b : Bool) → forgotten f (if b then record m { colors = map.insert m.colors f Black } else m) ≡ forgotten f m
  by true = same_marked _ _ (same_map nat_cmp_total nat_cmp-IsAntisymmetric _ _ (λ q.
      get-remove nat_cmp_total (map.insert m.colors f Black) f q ∙ ap (cond (eq_by_cmp nat_cmp q f) None) (get-insert nat_cmp_total m.colors f Black q) ∙ at q (eq_by_cmp nat_cmp q f) ∙ sym (get-remove nat_cmp_total m.colors f q))) refl where
        at : (q : ℕ) (b : Bool) → cond b None (cond b (Some Black) (map.get m.colors q)) ≡ cond b None (map.get m.colors q)
        at q true = refl
        at q false = refl
  by false = refl

-- A grey file is known and marked, so not white.
grey-unmarked : (o : Option Color) → option_map_or is_grey_color o false ≡ true → (is_some o && not (option_map_or is_mark o false)) ≡ false
grey-unmarked None e = absurd (false≢true e)
grey-unmarked (Some White) e = absurd (false≢true e)
grey-unmarked (Some Grey) e = refl
grey-unmarked (Some Black) e = absurd (false≢true e)

-- A scanned file stays marked or unmarked.
pub black-unmarked : (f : ℕ) (m : MarksView) → is_unmarked (blackened f m) f ≡ is_unmarked m f
black-unmarked f m = by (is_grey m f) refl where
  by : (b : Bool) → is_grey m f ≡ b → is_unmarked (if b then record m { colors = map.insert m.colors f Black } else m) f ≡ is_unmarked m f
  by true e =
      let after = ap (λ o. is_some o && not (option_map_or is_mark o false)) (insert-here m.colors f Black) in
      ap {B = Bool} (λ b. nat_lt f m.bound && b) (after ∙ sym (grey-unmarked (map.get m.colors f) e))
  by false e = refl

pub ruleset gone = (black-spared, black-forgotten, black-unmarked)
