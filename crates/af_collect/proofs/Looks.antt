-- Marks that come from a look at some files.
use Rattle.std.proofs.Common.{◌≡◌, ◌≤◌, ◌+◌, ◌&&◌, ◌⊎◌, ℕ, Bool, true, false, inl, inr, List, [], ◌∷◌, ◌++◌, refl, sym, ap, ◌∙◌, subst, arith}
use Rattle.std.specs.Prelude.{nat_lt, if◌then◌else◌}
use Rattle.std.specs.List.{Contains}
use Rattle.std.specs.FinMap as map
use Rattle.std.specs.Option.{option_map_or}
use Rattle.std.proofs.lemmas.List.Elements.{Contains-append_left, Contains-append_right}
use Rattle.std.proofs.lemmas.List.{length-append}
use Rattle.af_base.specs.Places.{Holds, held_by}
use Rattle.af_base.specs.World.{World}
use Rattle.af_base.proofs.Elements.{Contains-first, Contains-later}
use Rattle.af_base.proofs.Lookups.{insert-other, same_or_not}
use Rattle.af_mark.specs.MarksView.{MarksView, blackened, is_mark, is_marked, is_white, marked_once, shaded, visited}
use Rattle.af_mark.specs.declared.color.Color.{Color}
use Rattle.af_mark.specs.declared.color.Color.TheVariants.{Black, Grey}
use Rattle.af_collect.specs.Keeping.{after_visit, shaded_all}
use Rattle.af_collect.specs.Looks.{MarksByLooks, OnlyMarks}
use Rattle.af_collect.specs.StoreView.{StoreView}
use Rattle.af_collect.proofs.MarkTests.{marked_blackened}

module _ (m : MarksView) (x f : ℕ) where
  -- A file that is marked once x has a colour was marked, or is x.
  once : (b : Bool) (c : Color) → is_marked (if b then record m { colors = map.insert m.colors x c } else m) f ≡ true → (is_marked m f ≡ true) ⊎ (f ≡ x)
  once false c e = inl e
  once true c e = elim (same_or_not f x) [
    | inl same ↦ inr same
    | inr apart ↦ inl (sym (ap (λ o. option_map_or is_mark o false) (insert-other m.colors x c f apart)) ∙ e)
  ]

  -- So it is once x was visited.
  visited_one : (scanned : Bool) (tabled : ℕ) → is_marked (visited scanned tabled x m) f ≡ true → (is_marked m f ≡ true) ⊎ (f ≡ x)
  visited_one scanned tabled = by (nat_lt 0 tabled) where
    by : (b : Bool) → is_marked (if b then marked_once scanned x m else m) f ≡ true → (is_marked m f ≡ true) ⊎ (f ≡ x)
    by true e = once (nat_lt x m.bound && is_white m x) (if scanned then Black else Grey) e
    by false e = inl e

-- A file that is marked once these are shaded was marked, or is one of them.
shaded_some : (fs : List ℕ) (m : MarksView) (f : ℕ) → is_marked (shaded_all fs m) f ≡ true → (is_marked m f ≡ true) ⊎ Contains fs f
shaded_some [] m f e = inl e
shaded_some (x ∷ fs) m f e = elim (shaded_some fs (shaded x m) f e) [
  | inl was ↦ elim (once m x f (nat_lt x m.bound && is_white m x) Grey was) [
    | inl it ↦ inl it
    | inr same ↦ inr (subst (Contains (x ∷ fs)) (sym same) (Contains-first x fs))
  ]
  | inr h ↦ inr (Contains-later x fs f h)
]

module _ (w : World) where
  -- Nothing was marked.
  pub looks-none : (n : ℕ) (m : MarksView) → MarksByLooks w n m m
  looks-none n m = record { looked = []; few = omega arith; marked = λ f e. inl e }

  -- One look after others.
  pub looks-join : (a b n : ℕ) → a + b ≤ n → (x y z : MarksView) → MarksByLooks w a x y → MarksByLooks w b y z → MarksByLooks w n x z
  looks-join a b n most x y z p q = record {
    looked = p.looked ++ q.looked;
    few = omega (arith, p.few, q.few, most, length-append p.looked q.looked);
    marked = λ f e. elim (q.marked f e) [
      | inl was ↦ elim (p.marked f was) [
        | inl it ↦ inl it
        | inr by ↦ inr (by.0, Contains-append_left p.looked q.looked by.0 by.1, by.2)
      ]
      | inr by ↦ inr (by.0, Contains-append_right p.looked q.looked by.0 by.1, by.2)
    ];
  }

  -- One file was looked at.
  one : (s : ℕ) (old new : MarksView) → ((f : ℕ) → is_marked new f ≡ true → (is_marked old f ≡ true) ⊎ ((f ≡ s) ⊎ Holds w s f)) → MarksByLooks w 1 old new
  one s old new h = record {
    looked = s ∷ [];
    few = omega arith;
    marked = λ f e. elim (h f e) [ inl was ↦ inl was | inr by ↦ inr (s, Contains-first s [], by) ];
  }

  -- A visit looks at its file.
  pub looks-visit : (scanned : Bool) (x tabled : ℕ) (m : MarksView) → MarksByLooks w 1 m (after_visit scanned (held_by w x) tabled x m)
  looks-visit false x tabled m = one x m (visited false tabled x m) (λ f e. elim (visited_one m x f false tabled e) [ inl was ↦ inl was | inr same ↦ inr (inl same) ])
  looks-visit true x tabled m = one x m (shaded_all (held_by w x) (visited true tabled x m)) (λ f e. elim (shaded_some (held_by w x) (visited true tabled x m) f e) [
    | inl once ↦ elim (visited_one m x f true tabled once) [ inl was ↦ inl was | inr same ↦ inr (inl same) ]
    | inr h ↦ inr (inr h)
  ])

  -- So does a scan.
  pub looks-scan : (x : ℕ) (m : MarksView) → MarksByLooks w 1 m (shaded_all (held_by w x) (blackened x m))
  looks-scan x m = one x m (shaded_all (held_by w x) (blackened x m)) (λ f e. elim (shaded_some (held_by w x) (blackened x m) f e) [
    | inl was ↦ inl (sym (ap (λ t. t f) (marked_blackened m x)) ∙ was)
    | inr h ↦ inr (inr h)
  ])

-- Nothing changed.
pub only-none : (n : ℕ) (p : StoreView) → OnlyMarks n p p
only-none n p t = (t, refl, looks-none p.world n p.marks)

-- One change after another.
pub only-join : (a b n : ℕ) → a + b ≤ n → (p q r : StoreView) → OnlyMarks a p q → OnlyMarks b q r → OnlyMarks n p r
only-join a b n most p q r x y t =
    let second = y t in
    let first = x second.0 in
    let here = subst (λ w. MarksByLooks w b q.marks r.marks) first.1 second.2 in
    (first.0, second.1 ∙ first.1, looks-join p.world a b n most p.marks q.marks r.marks first.2 here)
