-- Marks with files shaded: what stays, and what is marked then.
use Rattle.std.proofs.Common.{◌≡◌, ◌<◌, ℕ, true, false, not, ◌&&◌, ◌||◌, ◌⊎◌, inl, inr, List, [], ◌∷◌, ◌++◌, refl, sym, ap, ◌∙◌, subst, cond, nat_eq}
use Rattle.std.specs.Prelude.{nat_lt}
use Rattle.std.specs.List.{Contains}
use Rattle.std.specs.FinMap as map
use Rattle.std.proofs.lemmas.Bool.{cases_Bool, cases_lt}
use Rattle.std.proofs.Math.Bool.{and-false, or-true}
use Rattle.af_base.proofs.Elements.{Contains-none, Contains-rest}
use Rattle.af_base.proofs.Lookups.{itself, not_same, same_or_not}
use Rattle.af_mark.specs.MarksView.{MarksView, blackened, is_grey, is_marked, knows, shaded}
use Rattle.af_mark.specs.declared.color.Color.TheVariants.{Grey}
use Rattle.af_collect.specs.Keeping.{shaded_all}
use Rattle.af_collect.proofs.MarkTests.{bound_shaded, grey_shaded, knows_shaded, marked_shaded, shaded_after, shaded_beyond}

module _ (m : MarksView) (x : ℕ) where
  -- An unknown file is not shaded.
  shaded_stranger : knows m x ≡ false → shaded x m ≡ m
  shaded_stranger e =
      ap (λ b. cond (nat_lt x m.bound && (b && not (is_marked m x))) (record m { colors = map.insert m.colors x Grey }) m) e
      ∙ ap (λ b. cond b (record m { colors = map.insert m.colors x Grey }) m) (and-false (nat_lt x m.bound))

  -- To shade a file changes nothing, or it is known and was born before the pass.
  shaded_either : (shaded x m ≡ m) ⊎ ((knows m x ≡ true) × (x < m.bound))
  shaded_either = elim (cases_lt x m.bound) [
    | inl low ↦ elim (cases_Bool (knows m x)) [ inl e ↦ inr (e, low) | inr e ↦ inl (shaded_stranger e) ]
    | inr high ↦ inl (shaded_beyond m x high)
  ]

  -- A marked file stays marked when a file is shaded.
  pub stays_marked : (f : ℕ) → is_marked m f ≡ true → is_marked (shaded x m) f ≡ true
  stays_marked f e = elim shaded_either [
    | inl same ↦ ap (λ n. is_marked n f) same ∙ e
    | inr is ↦ ap (λ t. t f) (marked_shaded m x is.0 is.1) ∙ ap (λ b. b || nat_eq x f) e
  ]

  -- A grey file stays grey when a file is shaded.
  pub stays_grey : (f : ℕ) → is_grey m f ≡ true → is_grey (shaded x m) f ≡ true
  stays_grey f e = elim shaded_either [
    | inl same ↦ ap (λ n. is_grey n f) same ∙ e
    | inr is ↦ ap (λ t. t f) (grey_shaded m x is.0 is.1) ∙ ap (λ b. b || (nat_eq x f && not (is_marked m f))) e
  ]

  -- A known file that was born before the pass is marked where it is shaded.
  pub itself_marked : knows m x ≡ true → x < m.bound → is_marked (shaded x m) x ≡ true
  itself_marked known low = ap (λ t. t x) (marked_shaded m x known low) ∙ ap (λ b. is_marked m x || b) (itself x) ∙ or-true (is_marked m x)

-- A marked file stays marked when files are shaded.
pub stays_marked_all : (fs : List ℕ) (m : MarksView) (f : ℕ) → is_marked m f ≡ true → is_marked (shaded_all fs m) f ≡ true
stays_marked_all [] m f e = e
stays_marked_all (x ∷ fs) m f e = stays_marked_all fs (shaded x m) f (stays_marked m x f e)

-- A grey file stays grey when files are shaded.
pub stays_grey_all : (fs : List ℕ) (m : MarksView) (f : ℕ) → is_grey m f ≡ true → is_grey (shaded_all fs m) f ≡ true
stays_grey_all [] m f e = e
stays_grey_all (x ∷ fs) m f e = stays_grey_all fs (shaded x m) f (stays_grey m x f e)

-- Each of the files is marked where they are shaded, if it is known and was born before the pass.
pub all_marked : (fs : List ℕ) (m : MarksView) (f : ℕ) → Contains fs f → knows m f ≡ true → f < m.bound → is_marked (shaded_all fs m) f ≡ true
all_marked [] m f h known low = absurd (Contains-none f h)
all_marked (x ∷ fs) m f h known low = elim (same_or_not x f) [
  | inl same ↦ stays_marked_all fs (shaded x m) f (subst (λ y. is_marked (shaded y m) f ≡ true) (sym same) (itself_marked m f known low))
  | inr apart ↦ all_marked fs (shaded x m) f (Contains-rest x fs f h (not_same x f apart)) (knows_shaded m x f ∙ known) (subst (λ n. f < n) (sym (bound_shaded m x)) low)
]

-- To shade files, and then others, is to shade all of them.
pub shaded_append : (xs ys : List ℕ) (m : MarksView) → shaded_all (xs ++ ys) m ≡ shaded_all ys (shaded_all xs m)
shaded_append [] ys m = refl
shaded_append (x ∷ xs) ys m = shaded_append xs ys (shaded x m)

-- To shade files keeps the bound.
pub bound_shaded_all : (fs : List ℕ) (m : MarksView) → (shaded_all fs m).bound ≡ m.bound
bound_shaded_all [] m = refl
bound_shaded_all (x ∷ fs) m = bound_shaded_all fs (shaded x m) ∙ bound_shaded m x

-- It does not matter whether a grey file is scanned before others are shaded, or after.
pub shaded_all_after : (fs : List ℕ) (m : MarksView) (x : ℕ) → is_grey m x ≡ true → shaded_all fs (blackened x m) ≡ blackened x (shaded_all fs m)
shaded_all_after [] m x grey = refl
shaded_all_after (y ∷ fs) m x grey = ap (shaded_all fs) (shaded_after m x y grey) ∙ shaded_all_after fs (shaded y m) x (stays_grey m y x grey)
