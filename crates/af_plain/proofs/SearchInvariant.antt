-- The invariant of a search, file by file.
use Rattle.std.proofs.Common.{◌≡◌, ◌<◌, ◌≤◌, ℕ, ◌+◌, Bool, true, false, inl, inr, List, [], ◌∷◌, ◌++◌, length, take, get_or, refl, sym, ap, ◌∙◌, subst, cond, nat_eq, arith, length-append, append-nil}
use Rattle.std.specs.Prelude.{not}
use Rattle.std.specs.List.{Contains, count_by, flat_map}
use Rattle.std.specs.Ordering.{nat_cmp}
use Rattle.std.specs.Cmp.{unsigned_tied}
use Rattle.std.specs.BTreeSet as tree
use Rattle.std.proofs.lemmas.Bool.{eq-eqb, false≢true}
use Rattle.std.proofs.lemmas.Grind.{flat_map-append}
use Rattle.std.proofs.lemmas.List.{take_all, take_more}
use Rattle.std.proofs.lemmas.List.Elements.{Contains-append_cases, Contains-append_left, Contains-append_right, Contains-push}
use Rattle.std.proofs.lemmas.List.Sums.{sum_by-cons}
use Rattle.af_base.proofs.Elements.{Contains-first, Contains-none, Contains-rest}
use Rattle.af_base.proofs.Lookups.{same_or_not}
use Rattle.af_plain.specs.Marking.{Marks}
use Rattle.af_plain.specs.declared.reach.Marking.{Marking}

-- An element of a list of one.
only_one : (x f : ℕ) → Contains (x ∷ []) f → f ≡ x
only_one x f h = elim (same_or_not f x) [
  | inl e ↦ e
  | inr d ↦ absurd (Contains-none f (Contains-rest x [] f h (λ e. false≢true (sym d ∙ eq-eqb f x (sym e)))))
]

-- One where the test fails.
abbrev weight : Bool → ℕ
weight b = cond (not b) 1 0

module _ (s n : ℕ → Bool) (x : ℕ) (more : (q : ℕ) → n q ≡ cond (nat_eq x q) true (s q)) where
  -- A number leaves at most as many.
  one-le : (y : ℕ) → weight (n y) ≤ weight (s y)
  one-le y = subst (λ t. weight t ≤ weight (s y)) (sym (more y)) (either (nat_eq x y) (s y)) where
    either : (b t : Bool) → weight (cond b true t) ≤ weight t
    either true t = omega arith
    either false t = omega arith

  -- A list leaves at most as many.
  left-le : (xs : List ℕ) → count_by (λ y. not (n y)) xs ≤ count_by (λ y. not (s y)) xs
  left-le [] = omega arith
  left-le (y ∷ ys) = omega (arith, one-le y, left-le ys, sum_by-cons (λ z. weight (n z)) y ys, sum_by-cons (λ z. weight (s z)) y ys)

  -- One that is new is one less.
  pub left-falls : s x ≡ false → (xs : List ℕ) → Contains xs x → count_by (λ y. not (n y)) xs + 1 ≤ count_by (λ y. not (s y)) xs
  left-falls out [] h = absurd (Contains-none x h)
  left-falls out (y ∷ ys) h = elim (same_or_not y x) [
    | inl e ↦
        let now : weight (n y) ≡ 0 = ap weight (more y ∙ ap (λ t. cond t true (s y)) (eq-eqb x y (sym e))) in
        let was : weight (s y) ≡ 1 = ap weight (ap s e ∙ out) in
        omega (arith, now, was, left-le ys, sum_by-cons (λ z. weight (n z)) y ys, sum_by-cons (λ z. weight (s z)) y ys)
    | inr d ↦
        let rest = left-falls out ys (Contains-rest y ys x h (λ e. false≢true (sym d ∙ eq-eqb y x e))) in
        omega (arith, one-le y, rest, sum_by-cons (λ z. weight (n z)) y ys, sum_by-cons (λ z. weight (s z)) y ys)
  ]

-- The state after a failed look-up.
pub was_new : (a b : Bool) → a ≡ not b → a ≡ true → b ≡ false
was_new a true e t = absurd (false≢true (sym e ∙ t))
was_new a false e t = refl

-- Nothing was found.
pub marks-none : (m : Marking) → Marks m m []
marks-none m = record {
  marked = λ f h. absurd (Contains-none f h);
  kept = λ f e. e;
  only = λ f e. inl e;
  fresh = λ f e. inl e;
  stays = λ f h. h;
  ahead = λ f h. inl h;
  less = λ all h. omega arith;
}

-- Some files were found, and then others.
pub marks-both : (a b c : Marking) (xs ys : List ℕ) → Marks a b xs → Marks b c ys → Marks a c (xs ++ ys)
marks-both a b c xs ys h k = record {
  marked = λ f e. elim (Contains-append_cases xs ys f e) [ inl e ↦ k.kept f (h.marked f e) | inr e ↦ k.marked f e ];
  kept = λ f e. k.kept f (h.kept f e);
  only = λ f e. elim (k.only f e) [
    | inl e ↦ elim (h.only f e) [ inl e ↦ inl e | inr e ↦ inr (Contains-append_left xs ys f e) ]
    | inr e ↦ inr (Contains-append_right xs ys f e)
  ];
  fresh = λ f e. elim (k.fresh f e) [
    | inl e ↦ elim (h.fresh f e) [ inl e ↦ inl e | inr e ↦ inr (k.stays f e) ]
    | inr e ↦ inr e
  ];
  stays = λ f e. k.stays f (h.stays f e);
  ahead = λ f e. elim (k.ahead f e) [
    | inl e ↦ elim (h.ahead f e) [ inl e ↦ inl e | inr e ↦ inr (Contains-append_left xs ys f e) ]
    | inr e ↦ inr (Contains-append_right xs ys f e)
  ];
  less = λ all inside.
      let first = h.less all (λ f e. inside f (Contains-append_left xs ys f e)) in
      let then = k.less all (λ f e. inside f (Contains-append_right xs ys f e)) in
      omega (arith, first, then);
}

-- A file was found that is new.
pub marks-new : (a b : Marking) (x : ℕ) → tree.contains nat_cmp a.marked x ≡ false → tree.Updates nat_cmp a.marked b.marked x true → b.ahead.items ≡ a.ahead.items ++ x ∷ [] → Marks a b (x ∷ [])
marks-new a b x was updates ahead = record {
  marked = λ f e. more f ∙ ap (λ t. cond t true (tree.contains nat_cmp a.marked f)) (eq-eqb x f (sym (only_one x f e)));
  kept = λ f e. more f ∙ ap (cond (nat_eq x f) true) e ∙ either (nat_eq x f);
  only = λ f e. elim (same_or_not f x) [ inl s ↦ inr (subst (λ y. Contains (x ∷ []) y) (sym s) (Contains-first x [])) | inr d ↦ inl (before f d e) ];
  fresh = λ f e. elim (same_or_not f x) [
    | inl s ↦ inr (subst (λ xs. Contains xs f) (sym ahead) (subst (λ y. Contains (a.ahead.items ++ x ∷ []) y) (sym s) (Contains-push a.ahead.items x)))
    | inr d ↦ inl (before f d e)
  ];
  stays = λ f e. subst (λ xs. Contains xs f) (sym ahead) (Contains-append_left a.ahead.items (x ∷ []) f e);
  ahead = λ f e. Contains-append_cases a.ahead.items (x ∷ []) f (subst (λ xs. Contains xs f) ahead e);
  less = λ all inside.
      let falls = left-falls (tree.contains nat_cmp a.marked) (tree.contains nat_cmp b.marked) x more was all (inside x (Contains-first x [])) in
      omega (arith, falls, ap length ahead, length-append a.ahead.items (x ∷ []));
} where
  more : (q : ℕ) → tree.contains nat_cmp b.marked q ≡ cond (nat_eq x q) true (tree.contains nat_cmp a.marked q)
  more q = updates.0 q ∙ ap (λ t. cond t true (tree.contains nat_cmp a.marked q)) (unsigned_tied x q)

  either : (b : Bool) → cond b true true ≡ true
  either true = refl
  either false = refl

  before : (f : ℕ) → nat_eq f x ≡ false → tree.contains nat_cmp b.marked f ≡ true → tree.contains nat_cmp a.marked f ≡ true
  before f d e = elim (same_or_not x f) [
    | inl s ↦ absurd (false≢true (sym d ∙ eq-eqb f x (sym s)))
    | inr apart ↦ sym (more f ∙ ap (λ t. cond t true (tree.contains nat_cmp a.marked f)) apart) ∙ e
  ]

module _ {A : Type 0} (h : A → List ℕ) (xs : List A) (i : ℕ) where
  -- The files found with one item more.
  pub marks-more : (a b c : Marking) (x : A) → i < length xs → x ≡ get_or xs i x → Marks a b (flat_map h (take i xs)) → Marks b c (h x) → Marks a c (flat_map h (take (i + 1) xs))
  marks-more a b c x l is so_far one =
      let step : flat_map h (take (i + 1) xs) ≡ flat_map h (take i xs) ++ h x =
      ap (flat_map h) (take_more xs i x l) ∙ flat_map-append h (take i xs) (get_or xs i x ∷ []) ∙ ap (λ ys. flat_map h (take i xs) ++ ys) (append-nil (h (get_or xs i x)) ∙ ap h (sym is)) in
      subst (Marks a c) (sym step) (marks-both a b c (flat_map h (take i xs)) (h x) so_far one)

  -- The files found with all items.
  pub marks-end : (a b : Marking) → length xs ≤ i → Marks a b (flat_map h (take i xs)) → Marks a b (flat_map h xs)
  marks-end a b end so_far = subst (λ ys. Marks a b (flat_map h ys)) (take_all i xs end) so_far
