-- The colours behind marks, as marks come, change and go.
use Rattle.std.proofs.Common.{◌≡◌, ◌≤◌, ℕ, ◌+◌, Bool, true, false, refl, sym, ap, ◌∙◌, subst, cond, nat_eq, arith}
use Rattle.std.specs.Prelude.{Option, Some, None, option_map}
use Rattle.std.specs.Ordering.{nat_cmp}
use Rattle.std.specs.Cmp.{nat_cmp_total, unsigned_tied}
use Rattle.std.specs.FinMap as finmap
use Rattle.std.specs.FinMap.{get-insert, get-remove, get-empty}
use Rattle.std.proofs.lemmas.Bool.{eq-eqb}
use Rattle.af_base.specs.World.{Map}
use Rattle.af_base.proofs.Lookups.{none_some, some_same, told_apart}
use Rattle.ordered_slab.proofs.Parts.{part_get, part_known, part_put, part_taken}
use Rattle.af_mark.specs.Grey.{AreUpTo, MarkView, color_in, colors_in}
use Rattle.af_mark.specs.MarksView.{MarksView}
use Rattle.af_mark.specs.declared.color.Color.{Color}
use Rattle.af_mark.specs.declared.color.Color.TheVariants.{White}

module _ (e : ℕ) where
  -- The colour of a file is that of its mark.
  pub color_get : (m : Map MarkView) (q : ℕ) → finmap.get (colors_in e m) q ≡ option_map (color_in e) (finmap.get m q)
  color_get m q = part_get (color_in e) m q

  -- A file with a mark has a colour.
  pub color_known : (m : Map MarkView) (q : ℕ) → finmap.contains_key (colors_in e m) q ≡ finmap.contains_key m q
  color_known m q = part_known (color_in e) m q

  -- The colours after a mark was put in.
  pub color_after : (m n : Map MarkView) (f : ℕ) (x : MarkView) (c : Color) → n ≡ finmap.insert m f x → color_in e x ≡ c → colors_in e n ≡ finmap.insert (colors_in e m) f c
  color_after m n f x c is shows = ap (colors_in e) is ∙ part_put (color_in e) m f x ∙ ap (finmap.insert (colors_in e m) f) shows

  -- The colours after a mark was taken out.
  pub color_without : (m n : Map MarkView) (f : ℕ) → n ≡ finmap.remove m f → colors_in e n ≡ finmap.remove (colors_in e m) f
  color_without m n f is = ap (colors_in e) is ∙ part_taken (color_in e) m f

  -- A mark of this pass or of an earlier one is put in.
  pub upto_put : (m : Map MarkView) (f : ℕ) (x : MarkView) → x.epoch ≤ e → AreUpTo e m → AreUpTo e (finmap.insert m f x)
  upto_put m f x low h q y at = by (nat_eq q f) (sym (get-insert nat_cmp_total m f x q ∙ ap (λ b. cond b (Some x) (finmap.get m q)) (unsigned_tied q f)) ∙ at) where
    by : (b : Bool) → cond b (Some x) (finmap.get m q) ≡ Some y → y.epoch ≤ e
    by true is = subst (λ z. z.epoch ≤ e) (some_same x y is) low
    by false is = h q y is

  -- A mark is taken out.
  pub upto_taken : (m : Map MarkView) (f : ℕ) → AreUpTo e m → AreUpTo e (finmap.remove m f)
  upto_taken m f h q y at = by (nat_eq q f) (sym (get-remove nat_cmp_total m f q ∙ ap (λ b. cond b None (finmap.get m q)) (unsigned_tied q f)) ∙ at) where
    by : (b : Bool) → cond b None (finmap.get m q) ≡ Some y → y.epoch ≤ e
    by true is = absurd (none_some y is)
    by false is = h q y is

  -- There is none.
  pub upto_none : (m : Map MarkView) → m ≡ finmap.empty → AreUpTo e m
  upto_none m none q y at = absurd (none_some y (sym (ap (λ m. finmap.get m q) none ∙ get-empty nat_cmp q) ∙ at))

  -- A mark of this pass has its colour.
  pub color_now : (x : MarkView) → x.epoch ≡ e → color_in e x ≡ x.color
  color_now x this = ap (λ b. cond b x.color White) (eq-eqb x.epoch e this)

  -- No other colour than its own shows.
  pub color_white : (x : MarkView) → x.color ≡ White → color_in e x ≡ White
  color_white x white = by (nat_eq x.epoch e) where
    by : (b : Bool) → cond b x.color White ≡ White
    by true = white
    by false = refl

-- In the next pass all marks are of earlier ones.
pub unmarked_next : (e : ℕ) (m : Map MarkView) (f : ℕ) → AreUpTo e m → finmap.get (colors_in (e + 1) m) f ≡ option_map (λ x. White) (finmap.get m f)
unmarked_next e m f h = color_get (e + 1) m f ∙ by (finmap.get m f) refl where
  by : (o : Option MarkView) → finmap.get m f ≡ o → option_map (color_in (e + 1)) o ≡ option_map (λ x. White) o
  by None is = refl
  by (Some x) is = let low = h f x is in ap (λ b. Some (cond b x.color White)) (told_apart x.epoch (e + 1) (λ same. omega (arith, low, same)))

-- Two that agree in all are one.
pub same_marked : (a b : MarksView) → a.colors ≡ b.colors → a.bound ≡ b.bound → a ≡ b
same_marked a b colors bound = λ i. record { colors = colors i; bound = bound i }
