-- How marks change, as equations of tests: they know just the live files.
use Rattle.std.proofs.Common.{◌≡◌, ◌<◌, ℕ, Bool, true, false, not, ◌&&◌, ◌||◌, ◌⊎◌, inl, inr, refl, sym, ap, ◌∙◌, cond, nat_eq}
use Rattle.std.specs.Prelude.{Option, Some, None, is_some, nat_lt, ◌≤◌}
use Rattle.std.specs.Cmp.{both_ways, nat_cmp_total, unsigned_tied}
use Rattle.std.specs.FinMap as map
use Rattle.std.specs.FinMap.{nat_cmp-IsAntisymmetric}
use Rattle.std.specs.Ordering.{eq_by_cmp, nat_cmp}
use Rattle.std.specs.Option.{option_map_or}
use Rattle.std.proofs.lemmas.Bool.{eq-eqb, eqb-true, false≢true, le-ltb, lt-ltb}
use Rattle.std.proofs.Math.Bool.{or-false, or-true, and-true, and-false}
use Rattle.af_base.specs.World.{Map, File, World, empty_world, is_live}
use Rattle.af_base.proofs.Lookups.{insert-here, insert-other, same_or_not, told_apart}
use Rattle.af_base.proofs.DerivedEquality.{both}
use Rattle.af_base.specs.Changes.{add_file}
use Rattle.af_base.specs.Unheld.{without}
use Rattle.af_base.proofs.SettledWorlds.{live-without}
use Rattle.af_mark.specs.MarksView.{blackened, born, forgotten, is_grey, is_grey_color, is_mark, is_marked, is_white, knows, MarksView, shaded}
use Rattle.af_mark.specs.declared.color.Color.{Color}
use Rattle.af_mark.specs.declared.color.Color.TheVariants.{Black, Grey, White}
use Rattle.af_collect.specs.Since.{also, also_grey, but}
use Rattle.af_collect.specs.Keeping.{AreKnown}

-- It does not matter which of two numbers is compared with the other.
pub turned : (x f : ℕ) → nat_eq x f ≡ nat_eq f x
turned x f = both_ways (nat_eq x f) (nat_eq f x) (λ e. eq-eqb f x (sym (eqb-true x f e))) (λ e. eq-eqb x f (sym (eqb-true f x e)))

-- A grey file is marked.
pub grey_marked : (m : MarksView) (f : ℕ) → is_grey m f ≡ true → is_marked m f ≡ true
grey_marked m f = by (map.get m.colors f) where
  by : (o : Option Color) → option_map_or is_grey_color o false ≡ true → option_map_or is_mark o false ≡ true
  by None e = e
  by (Some White) e = e
  by (Some Grey) e = e
  by (Some Black) e = refl

-- A marked file is known.
pub marked_known : (m : MarksView) (f : ℕ) → is_marked m f ≡ true → knows m f ≡ true
marked_known m f = by (map.get m.colors f) where
  by : (o : Option Color) → option_map_or is_mark o false ≡ true → is_some o ≡ true
  by None e = e
  by (Some c) e = refl

module _ (t : Color → Bool) (cs : Map Color) (x : ℕ) where
  -- A test on the colour that was put in.
  seen_put : (c : Color) (f : ℕ) → option_map_or t (map.get (map.insert cs x c) f) false ≡ cond (nat_eq x f) (t c) (option_map_or t (map.get cs f) false)
  seen_put c f = ap (λ o. option_map_or t o false) (map.get-insert nat_cmp_total cs x c f ∙ ap (λ b. cond b (Some c) (map.get cs f)) (unsigned_tied f x ∙ turned f x)) ∙ by (nat_eq x f) where
    by : (b : Bool) → option_map_or t (cond b (Some c) (map.get cs f)) false ≡ cond b (t c) (option_map_or t (map.get cs f) false)
    by true = refl
    by false = refl

  -- A test on the colours without one.
  seen_taken : (f : ℕ) → option_map_or t (map.get (map.remove cs x) f) false ≡ (option_map_or t (map.get cs f) false && not (nat_eq x f))
  seen_taken f = ap (λ o. option_map_or t o false) (map.get-remove nat_cmp_total cs x f ∙ ap (λ b. cond b None (map.get cs f)) (unsigned_tied f x ∙ turned f x)) ∙ by (nat_eq x f) where
    by : (b : Bool) → option_map_or t (cond b None (map.get cs f)) false ≡ (option_map_or t (map.get cs f) false && not b)
    by true = sym (and-false _)
    by false = sym (and-true _)

-- A colour put in over a known one keeps the file known.
there_put : (cs : Map Color) (x : ℕ) (c : Color) (f : ℕ) → map.contains_key cs x ≡ true → map.contains_key (map.insert cs x c) f ≡ map.contains_key cs f
there_put cs x c f known = ap is_some (map.get-insert nat_cmp_total cs x c f ∙ ap (λ b. cond b (Some c) (map.get cs f)) (unsigned_tied f x)) ∙ by (nat_eq f x) refl where
  by : (b : Bool) → nat_eq f x ≡ b → is_some (cond b (Some c) (map.get cs f)) ≡ map.contains_key cs f
  by true e = sym known ∙ ap (map.contains_key cs) (sym (eqb-true f x e))
  by false e = refl

-- The marks with a colour put in.
abbrev put : MarksView → ℕ → Color → MarksView
put m x c = record m { colors = map.insert m.colors x c }

module _ (m : MarksView) (x : ℕ) where
  -- A file that was not born before the pass is not shaded.
  pub shaded_beyond : m.bound ≤ x → shaded x m ≡ m
  shaded_beyond high = ap (λ b. cond (b && is_white m x) (put m x Grey) m) (le-ltb x m.bound high)

  -- A marked file stays as it is when shaded.
  pub shaded_marked : is_marked m x ≡ true → shaded x m ≡ m
  shaded_marked e =
      ap (λ b. cond (nat_lt x m.bound && (knows m x && not b)) (put m x Grey) m) e
      ∙ ap (λ b. cond (nat_lt x m.bound && b) (put m x Grey) m) (and-false (knows m x))
      ∙ ap (λ b. cond b (put m x Grey) m) (and-false (nat_lt x m.bound))

  -- A known, unmarked file becomes grey when shaded.
  shaded_white : knows m x ≡ true → x < m.bound → is_marked m x ≡ false → shaded x m ≡ put m x Grey
  shaded_white known low e = λ i. cond (lt-ltb x m.bound low i && (known i && not (e i))) (put m x Grey) m

  -- Where a file is shaded it is marked too, and no other is.
  pub marked_shaded : knows m x ≡ true → x < m.bound → is_marked (shaded x m) ≡ also (is_marked m) x
  marked_shaded known low = λ i f. at f (is_marked m x) refl i where
    held : (f : ℕ) → is_marked m x ≡ true → (b : Bool) → nat_eq x f ≡ b → is_marked m f ≡ (is_marked m f || b)
    held f e true d = ap (is_marked m) (sym (eqb-true x f d)) ∙ e ∙ sym (or-true (is_marked m f))
    held f e false d = sym (or-false (is_marked m f))

    more : (b c : Bool) → cond b true c ≡ (c || b)
    more true c = sym (or-true c)
    more false c = sym (or-false c)

    at : (f : ℕ) (b : Bool) → is_marked m x ≡ b → is_marked (shaded x m) f ≡ (is_marked m f || nat_eq x f)
    at f true e = ap (λ n. is_marked n f) (shaded_marked e) ∙ held f e (nat_eq x f) refl
    at f false e = ap (λ n. is_marked n f) (shaded_white known low e) ∙ seen_put is_mark m.colors x Grey f ∙ more (nat_eq x f) (is_marked m f)

  -- Where a file is shaded it is grey too if it was not marked, and no other is.
  pub grey_shaded : knows m x ≡ true → x < m.bound → is_grey (shaded x m) ≡ also_grey (is_marked m) (is_grey m) x
  grey_shaded known low = λ i f. at f (is_marked m x) refl i where
    held : (f : ℕ) → is_marked m x ≡ true → (b : Bool) → nat_eq x f ≡ b → is_grey m f ≡ (is_grey m f || (b && not (is_marked m f)))
    held f e true d = sym (ap (λ c. is_grey m f || not c) (ap (is_marked m) (sym (eqb-true x f d)) ∙ e) ∙ or-false (is_grey m f))
    held f e false d = sym (or-false (is_grey m f))

    more : (f : ℕ) → is_marked m x ≡ false → (b : Bool) → nat_eq x f ≡ b → cond b true (is_grey m f) ≡ (is_grey m f || (b && not (is_marked m f)))
    more f e true d = sym (ap (λ c. is_grey m f || not c) (ap (is_marked m) (sym (eqb-true x f d)) ∙ e) ∙ or-true (is_grey m f))
    more f e false d = sym (or-false (is_grey m f))

    at : (f : ℕ) (b : Bool) → is_marked m x ≡ b → is_grey (shaded x m) f ≡ (is_grey m f || (nat_eq x f && not (is_marked m f)))
    at f true e = ap (λ n. is_grey n f) (shaded_marked e) ∙ held f e (nat_eq x f) refl
    at f false e = ap (λ n. is_grey n f) (shaded_white known low e) ∙ seen_put is_grey_color m.colors x Grey f ∙ more f e (nat_eq x f) refl

  -- Where a file is shaded the same files are known.
  pub knows_shaded : (f : ℕ) → knows (shaded x m) f ≡ knows m f
  knows_shaded f = by (nat_lt x m.bound && is_white m x) refl where
    by : (b : Bool) → (nat_lt x m.bound && is_white m x) ≡ b → knows (cond b (put m x Grey) m) f ≡ knows m f
    by true e = there_put m.colors x Grey f (both _ _ (both _ _ e).1).0
    by false e = refl

  -- Where a file is shaded the bound stays.
  pub bound_shaded : (shaded x m).bound ≡ m.bound
  bound_shaded = by (nat_lt x m.bound && is_white m x) where
    by : (b : Bool) → (cond b (put m x Grey) m).bound ≡ m.bound
    by true = refl
    by false = refl

  -- A scanned file is no longer grey.
  pub grey_blackened : is_grey (blackened x m) ≡ but (is_grey m) x
  grey_blackened = λ i f. at f (is_grey m x) refl i where
    less : (b c : Bool) → cond b false c ≡ (c && not b)
    less true c = sym (and-false c)
    less false c = sym (and-true c)

    none : (f : ℕ) → is_grey m x ≡ false → (b : Bool) → nat_eq x f ≡ b → is_grey m f ≡ (is_grey m f && not b)
    none f e true d = ap (is_grey m) (sym (eqb-true x f d)) ∙ e ∙ sym (and-false (is_grey m f))
    none f e false d = sym (and-true (is_grey m f))

    at : (f : ℕ) (b : Bool) → is_grey m x ≡ b → is_grey (cond b (put m x Black) m) f ≡ (is_grey m f && not (nat_eq x f))
    at f true e = seen_put is_grey_color m.colors x Black f ∙ less (nat_eq x f) (is_grey m f)
    at f false e = none f e (nat_eq x f) refl

  -- Where a file was scanned the same files are marked.
  pub marked_blackened : is_marked (blackened x m) ≡ is_marked m
  marked_blackened = λ i f. at f (is_grey m x) refl i where
    still : (f : ℕ) → is_grey m x ≡ true → (b : Bool) → nat_eq x f ≡ b → cond b true (is_marked m f) ≡ is_marked m f
    still f e true d = sym (grey_marked m x e) ∙ ap (is_marked m) (eqb-true x f d)
    still f e false d = refl

    at : (f : ℕ) (b : Bool) → is_grey m x ≡ b → is_marked (cond b (put m x Black) m) f ≡ is_marked m f
    at f true e = seen_put is_mark m.colors x Black f ∙ still f e (nat_eq x f) refl
    at f false e = refl

  -- Where a file was scanned the same files are known.
  pub knows_blackened : (f : ℕ) → knows (blackened x m) f ≡ knows m f
  knows_blackened f = by (is_grey m x) refl where
    by : (b : Bool) → is_grey m x ≡ b → knows (cond b (put m x Black) m) f ≡ knows m f
    by true e = there_put m.colors x Black f (marked_known m x (grey_marked m x e))
    by false e = refl

  -- Where a file was scanned the bound stays.
  pub bound_blackened : (blackened x m).bound ≡ m.bound
  bound_blackened = by (is_grey m x) where
    by : (b : Bool) → (cond b (put m x Black) m).bound ≡ m.bound
    by true = refl
    by false = refl

  module _ (white : (nat_lt x m.bound && is_white m x) ≡ true) where
    grey_then : shaded x m ≡ put m x Grey
    grey_then = ap (λ b. cond b (put m x Grey) m) white

    -- A white file is grey where it is shaded.
    pub shaded_grey : is_grey (shaded x m) x ≡ true
    shaded_grey = ap (λ n. is_grey n x) grey_then ∙ ap (λ o. option_map_or is_grey_color o false) (insert-here m.colors x Grey)

    -- And black where it is scanned then.
    pub shaded_black : blackened x (shaded x m) ≡ put m x Black
    shaded_black =
        ap (λ b. cond b (put (shaded x m) x Black) (shaded x m)) shaded_grey ∙ ap (λ n. put n x Black) grey_then
        ∙ ap (λ cs. record m { colors = cs }) (map.same_map nat_cmp_total nat_cmp-IsAntisymmetric _ _ (λ q.
        map.get-insert nat_cmp_total (map.insert m.colors x Grey) x Black q ∙ ap (cond (eq_by_cmp nat_cmp q x) (Some Black)) (map.get-insert nat_cmp_total m.colors x Grey q) ∙ each q (eq_by_cmp nat_cmp q x) ∙ sym (map.get-insert nat_cmp_total m.colors x Black q))) where
          each : (q : ℕ) (b : Bool) → cond b (Some Black) (cond b (Some Grey) (map.get m.colors q)) ≡ cond b (Some Black) (map.get m.colors q)
          each q true = refl
          each q false = refl

-- x is scanned and y is shaded.
module _ (m : MarksView) (x y : ℕ) (grey : is_grey m x ≡ true) where
  -- Two colours of two files are put in, in either order.
  put_both : nat_eq x y ≡ false → nat_eq y x ≡ false → map.insert (map.insert m.colors x Black) y Grey ≡ map.insert (map.insert m.colors y Grey) x Black
  put_both apart other = map.same_map nat_cmp_total nat_cmp-IsAntisymmetric _ _ (λ q. each q (same_or_not q x) (same_or_not q y)) where
    each : (q : ℕ) → (q ≡ x) ⊎ (nat_eq q x ≡ false) → (q ≡ y) ⊎ (nat_eq q y ≡ false) → map.get (map.insert (map.insert m.colors x Black) y Grey) q ≡ map.get (map.insert (map.insert m.colors y Grey) x Black) q
    each q (inl here) b =
        ap (map.get (map.insert (map.insert m.colors x Black) y Grey)) here ∙ insert-other (map.insert m.colors x Black) y Grey x apart ∙ insert-here m.colors x Black
        ∙ sym (ap (map.get (map.insert (map.insert m.colors y Grey) x Black)) here ∙ insert-here (map.insert m.colors y Grey) x Black)
    each q (inr off) (inl here) =
        ap (map.get (map.insert (map.insert m.colors x Black) y Grey)) here ∙ insert-here (map.insert m.colors x Black) y Grey
        ∙ sym (ap (map.get (map.insert (map.insert m.colors y Grey) x Black)) here ∙ insert-other (map.insert m.colors y Grey) x Black y other ∙ insert-here m.colors y Grey)
    each q (inr off) (inr beside) =
        insert-other (map.insert m.colors x Black) y Grey q beside ∙ insert-other m.colors x Black q off ∙ sym (insert-other (map.insert m.colors y Grey) x Black q off ∙ insert-other m.colors y Grey q beside)

  -- It does not matter whether a grey file is scanned before another is shaded, or after.
  pub shaded_after : shaded y (blackened x m) ≡ blackened x (shaded y m)
  shaded_after = by (is_marked m y) refl where
    by : (b : Bool) → is_marked m y ≡ b → shaded y (blackened x m) ≡ blackened x (shaded y m)
    by true e = shaded_marked (blackened x m) y (ap (λ t. t y) (marked_blackened m x) ∙ e) ∙ sym (ap (blackened x) (shaded_marked m y e))
    by false e =
        ap (λ b. cond b (put (blackened x m) y Grey) (blackened x m)) (λ i. nat_lt y (bound_blackened m x i) && (knows_blackened m x y i && not (marked_blackened m x i y)))
        ∙ cases (nat_lt y m.bound && is_white m y) where
          apart : nat_eq x y ≡ false
          apart = told_apart x y (λ same. false≢true (sym e ∙ ap (is_marked m) (sym same) ∙ grey_marked m x grey))

          other : nat_eq y x ≡ false
          other = turned y x ∙ apart

          still : is_grey (put m y Grey) x ≡ true
          still = seen_put is_grey_color m.colors y Grey x ∙ ap (λ b. cond b true (is_grey m x)) other ∙ grey

          cases : (b : Bool) → cond b (put (blackened x m) y Grey) (blackened x m) ≡ blackened x (cond b (put m y Grey) m)
          cases true =
              ap (λ b. put (cond b (put m x Black) m) y Grey) grey ∙ ap (λ cs. record m { colors = cs }) (put_both apart other)
              ∙ sym (ap (λ b. cond b (put (put m y Grey) x Black) (put m y Grey)) still)
          cases false = refl

-- x is forgotten.
module _ (m : MarksView) (x : ℕ) where
  -- A forgotten file is no longer marked.
  pub marked_forgotten : is_marked (forgotten x m) ≡ but (is_marked m) x
  marked_forgotten = λ i f. seen_taken is_mark m.colors x f i

  -- A forgotten file is no longer grey.
  pub grey_forgotten : is_grey (forgotten x m) ≡ but (is_grey m) x
  grey_forgotten = λ i f. seen_taken is_grey_color m.colors x f i

  -- A forgotten file is no longer known.
  pub knows_forgotten : (f : ℕ) → knows (forgotten x m) f ≡ (knows m f && not (nat_eq x f))
  knows_forgotten f = ap is_some (map.get-remove nat_cmp_total m.colors x f ∙ ap (λ b. cond b None (map.get m.colors f)) (unsigned_tied f x ∙ turned f x)) ∙ by (nat_eq x f) where
    by : (b : Bool) → is_some (cond b None (map.get m.colors f)) ≡ (knows m f && not b)
    by true = sym (and-false (knows m f))
    by false = sym (and-true (knows m f))

-- x is born.
module _ (m : MarksView) (x : ℕ) (stranger : knows m x ≡ false) where
  -- A test that no white file passes, and no unknown one.
  same_test : (t : Color → Bool) → t White ≡ false → (f : ℕ) → option_map_or t (map.get (map.insert m.colors x White) f) false ≡ option_map_or t (map.get m.colors f) false
  same_test t white f = seen_put t m.colors x White f ∙ by (nat_eq x f) refl where
    unseen : (o : Option Color) → is_some o ≡ false → option_map_or t o false ≡ false
    unseen None d = refl
    unseen (Some c) d = absurd (false≢true (sym d))

    by : (b : Bool) → nat_eq x f ≡ b → cond b (t White) (option_map_or t (map.get m.colors f) false) ≡ option_map_or t (map.get m.colors f) false
    by true d = white ∙ sym (unseen (map.get m.colors x) stranger) ∙ ap (λ y. option_map_or t (map.get m.colors y) false) (eqb-true x f d)
    by false d = refl

  -- Where a file is born the same files are marked.
  pub marked_born : is_marked (born x m) ≡ is_marked m
  marked_born = λ i f. same_test is_mark refl f i

  -- Where a file is born the same files are grey.
  pub grey_born : is_grey (born x m) ≡ is_grey m
  grey_born = λ i f. same_test is_grey_color refl f i

-- Where the same files are live, the marks know them still.
pub known_world : (v w : World) (m : MarksView) → ((f : ℕ) → is_live v f ≡ is_live w f) → AreKnown w m → AreKnown v m
known_world v w m live h f = h f ∙ sym (live f)

-- Marks that know the same know the live files too.
pub known_marks : (w : World) (m n : MarksView) → ((f : ℕ) → knows n f ≡ knows m f) → AreKnown w m → AreKnown w n
known_marks w m n same h f = same f ∙ h f

-- ---- which files the marks know

-- A map with a value put in has it, beside what it had.
pub has_put : {X : Type 0} (m : Map X) (k : ℕ) (v : X) (f : ℕ) → map.contains_key (map.insert m k v) f ≡ cond (nat_eq f k) true (map.contains_key m f)
has_put m k v f = ap is_some (map.get-insert nat_cmp_total m k v f ∙ ap (λ b. cond b (Some v) (map.get m f)) (unsigned_tied f k)) ∙ by (nat_eq f k) where
  by : (b : Bool) → is_some (cond b (Some v) (map.get m f)) ≡ cond b true (map.contains_key m f)
  by true = refl
  by false = refl

-- Where a file is made, the marks with it born know the live files.
pub known_made : (w : World) (x : File) (m : MarksView) → AreKnown w m → AreKnown (add_file w x) (born w.next_ino m)
known_made w x m h f = has_put m.colors w.next_ino White f ∙ ap (cond (nat_eq f w.next_ino) true) (h f) ∙ sym (has_put w.files w.next_ino x f)

-- Where a file is gone, the marks with it forgotten know the live files.
pub known_gone : (w : World) (x : ℕ) (m : MarksView) → AreKnown w m → AreKnown (without (nat_eq x) w) (forgotten x m)
known_gone w x m h f = knows_forgotten m x f ∙ ap (λ b. b && not (nat_eq x f)) (h f) ∙ by (nat_eq x f) (is_live w f) ∙ sym (live-without (nat_eq x) w f) where
  by : (b l : Bool) → (l && not b) ≡ cond (not b) l false
  by true l = and-false l
  by false l = and-true l

-- Marks without a colour know the live files of the empty world: none.
pub known_empty : (m : MarksView) → m.colors ≡ map.empty → AreKnown empty_world m
known_empty m none f = ap (λ cs. map.contains_key cs f) none ∙ ap is_some (map.get-empty nat_cmp f) ∙ sym (ap is_some (map.get-empty nat_cmp f))
