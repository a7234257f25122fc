-- Places change, marks are set, files are scanned, visited and swept: what a running pass keeps.
use Rattle.std.proofs.Common.{◌≡◌, ◌<◌, ℕ, ◌+◌, Bool, not, ◌&&◌, ◌⊎◌, inl, inr, sym, ap, ◌∙◌, subst, arith, true, false, ◌||◌, refl, nat_eq}
use Rattle.std.specs.Prelude.{is_some}
use Rattle.std.proofs.Math.Bool.{and-true}
use Rattle.af_base.specs.World.{World, IsLive, is_live}
use Rattle.af_base.specs.Reached.{IsGarbageCount, is_socket, Garbage}
use Rattle.af_base.specs.Whole.{IsWhole}
use Rattle.af_base.specs.Places.{Holds, InTable}
use Rattle.af_base.proofs.Lookups.{itself, same_or_not, told_apart}
use Rattle.af_collect.specs.Since.{AreCounted, Covers, IsMarking, IsSince, IsSweeping, Moves, left_count, live_count, also, also_grey, but, is_scanned}
use Rattle.af_collect.proofs.Tallies.{count_same, live_agree, live_less, live_more}

-- A file that is chosen or is no garbage is chosen if it is garbage.
stray_in : {A G : Type 0} → A ⊎ (¬ G) → G → A
stray_in (inl a) g = a
stray_in (inr n) g = absurd (n g)

module _ {begun old new : World} (m : Moves begun old new) where
  -- A file of the begin that is live afterwards was live before.
  back : (f : ℕ) → IsLive begun f → IsLive new f → IsLive old f
  back f b l = sym (m.live_same f b) ∙ l

  -- The world stays one since the begin, if no file below the bound is made.
  pub since_moves : (bound : ℕ) → ((f : ℕ) → IsLive new f → f < bound → IsLive old f) → IsSince begun old bound → IsSince begun new bound
  since_moves bound was s = record {
    sound = s.sound;
    below = s.below;
    old = λ f l b. s.old f (was f l b) b;
    kinds = λ f b l. m.kind_same f b ∙ s.kinds f b (back f b l);
    stray = record {
      queues = λ q f h g. s.stray.queues q f (stray_in (m.queues_gain q f h) g) g;
      tables = λ f g t. s.stray.tables f g (stray_in (m.tables_gain f t) g);
    };
  }

  -- Marking continues, if files that lose a place are marked.
  pub marking_moves : (marked grey visited : ℕ → Bool) → IsWhole begun → Covers begun old new marked visited → IsMarking begun old marked grey visited → IsMarking begun new marked grey visited
  marking_moves marked grey visited whole c i = record {
    marks = record {
      queues = λ s f r h. elim (i.marks.queues s f r h) [
        | inl e ↦ inl e
        | inr (inl e) ↦ inr (inl (m.live_same f (whole.queues_live s f h) ∙ e))
        | inr (inr e) ↦ elim (c.queues_lose s f (whole.queues_live s f h) e.2) [
          | inl k ↦ inr (inr (m.live_stay s e.0, e.1, k))
          | inr k ↦ inl k
        ]
      ];
      tables = λ f t. elim (i.marks.tables f t) [
        | inl e ↦ inl e
        | inr (inl e) ↦ inr (inl (m.live_same f (whole.tables_live f t) ∙ e))
        | inr (inr e) ↦ elim (c.tables_lose f (whole.tables_live f t) e.0 e.1) [
          | inl k ↦ inr (inr (e.0, k))
          | inr k ↦ inl k
        ]
      ];
      only_reached = i.marks.only_reached;
    };
    live = λ f g. m.live_stay f (i.live f g);
    queues = λ s f g h. c.queues_keep s f g (i.queues s f g h);
  }

  -- As many live files of the begin pass a test as before.
  as_many : (test : ℕ → Bool) → live_count begun new test ≡ live_count begun old test
  as_many test = count_same begun.files (λ e. is_live new e.0 && test e.0) (λ e. is_live old e.0 && test e.0) (λ k v is. ap (λ b. b && test k) (m.live_same k (ap is_some is)))

  -- As many live sockets of the begin are unmarked as before.
  left_count_same : (marked : ℕ → Bool) → left_count begun new marked ≡ left_count begun old marked
  left_count_same marked =
      count_same begun.files (λ e. is_socket e.1 && (is_live new e.0 && not (marked e.0))) (λ e. is_socket e.1 && (is_live old e.0 && not (marked e.0))) (λ k v is. ap (λ b. is_socket v && (b && not (marked k))) (m.live_same k (ap is_some is)))

  -- Sweeping continues.
  pub sweeping_moves : (marked swept : ℕ → Bool) (reclaimed : ℕ) → IsSweeping begun old marked swept reclaimed → IsSweeping begun new marked swept reclaimed
  sweeping_moves marked swept reclaimed i = record {
    unmarked = λ f b l e. i.unmarked f b (back f b l) e;
    only_reached = i.only_reached;
    empty = λ s f e h g. i.empty s f e (stray_in (m.queues_gain s f h) g) g;
    counted = subst (λ n. IsGarbageCount begun (reclaimed + n)) (sym (left_count_same marked)) i.counted;
  }

  -- The units stay counted.
  pub counted_moves : (visited scanned swept : ℕ → Bool) (looked : ℕ) → AreCounted begun old visited scanned swept looked → AreCounted begun new visited scanned swept looked
  counted_moves visited scanned swept looked i = record {
    at_least = omega (arith, i.at_least, as_many visited, as_many scanned, as_many swept);
    at_most =
        let a = as_many (λ f. not (visited f)) in
        let b = as_many (λ f. not (scanned f)) in
        let c = as_many (λ f. not (swept f)) in
        omega (arith, i.at_most, a, b, c);
  }

-- ---- units

-- A test without x says of any other file what it said.
pub but_other : (test : ℕ → Bool) (x f : ℕ) → nat_eq x f ≡ false → but test x f ≡ test f
but_other test x f e = ap (λ b. test f && not b) e ∙ and-true (test f)

-- With x marked too, and grey if it was not marked, the same files are scanned.
pub scanned_also : (marked grey : ℕ → Bool) (x f : ℕ) → is_scanned (also marked x) (also_grey marked grey x) f ≡ is_scanned marked grey f
scanned_also marked grey x f = by (marked f) (grey f) (nat_eq x f) where
  by : (m g e : Bool) → ((m || e) && not (g || (e && not m))) ≡ (m && not g)
  by true true true = refl
  by true true false = refl
  by true false true = refl
  by true false false = refl
  by false true true = refl
  by false true false = refl
  by false false true = refl
  by false false false = refl

-- A file that leaves the grey list changes nothing of another file.
scanned_other : (marked grey : ℕ → Bool) (x f : ℕ) → nat_eq x f ≡ false → is_scanned marked (but grey x) f ≡ is_scanned marked grey f
scanned_other marked grey x f e = ap (λ b. marked f && not b) (but_other grey x f e)

module _ {begun now : World} (marked grey visited : ℕ → Bool) (x : ℕ) where
  -- Marking continues when x is marked too, and x is no garbage of the begin.
  pub shade_marking : ¬ (Garbage begun x) → IsMarking begun now marked grey visited → IsMarking begun now (also marked x) (also_grey marked grey x) visited
  shade_marking reached i = record {
    marks = record {
      queues = λ s f r h. elim (i.marks.queues s f r h) [
        | inl e ↦ inl (ap (λ b. b || nat_eq x f) e)
        | inr (inl e) ↦ inr (inl e)
        | inr (inr e) ↦ inr (inr (e.0, scanned_also marked grey x s ∙ e.1, e.2))
      ];
      tables = λ f t. elim (i.marks.tables f t) [
        | inl e ↦ inl (ap (λ b. b || nat_eq x f) e)
        | inr e ↦ inr e
      ];
      only_reached = λ f g. ap (λ b. b || nat_eq x f) (i.marks.only_reached f g) ∙ unlike f g;
    };
    live = i.live;
    queues = i.queues;
  } where
    unlike : (f : ℕ) → Garbage begun f → nat_eq x f ≡ false
    unlike f g = told_apart x f (λ e. reached (subst (Garbage begun) (sym e) g))

  -- To mark x counts nothing.
  pub shade_counted : (swept : ℕ → Bool) (looked : ℕ) → AreCounted begun now visited (is_scanned marked grey) swept looked → AreCounted begun now visited (is_scanned (also marked x) (also_grey marked grey x)) swept looked
  shade_counted swept looked a = subst (λ s. AreCounted begun now visited s swept looked) (λ i f. sym (scanned_also marked grey x f) i) a

  -- Marking continues when x is scanned, after all that it holds was marked.
  pub scan_marking : IsWhole begun → ((f : ℕ) → IsLive begun f → Holds now x f → marked f ≡ true) → IsMarking begun now marked grey visited → IsMarking begun now marked (but grey x) visited
  scan_marking whole held i = record {
    marks = record {
      queues = λ s f r h. elim (i.marks.queues s f r h) [
        | inl e ↦ inl e
        | inr (inl e) ↦ inr (inl e)
        | inr (inr e) ↦ elim (same_or_not x s) [
          | inl same ↦ inl (held f (whole.queues_live s f h) (subst (λ y. Holds now y f) (sym same) e.2))
          | inr apart ↦ inr (inr (e.0, scanned_other marked grey x s apart ∙ e.1, e.2))
        ]
      ];
      tables = i.marks.tables;
      only_reached = i.marks.only_reached;
    };
    live = i.live;
    queues = i.queues;
  }

  -- To scan x, which was grey, counts one file more.
  pub scan_counted : (swept : ℕ → Bool) (looked : ℕ) → IsLive begun x → IsLive now x → marked x ≡ true → grey x ≡ true
      → AreCounted begun now visited (is_scanned marked grey) swept looked → AreCounted begun now visited (is_scanned marked (but grey x)) swept (looked + 1)
  scan_counted swept looked b l m g a =
      let before = is_scanned marked grey in
      let after = is_scanned marked (but grey x) in
      let miss : before x ≡ false = λ i. m i && not (g i) in
      let hit : after x ≡ true = λ i. m i && not (g i && not (itself x i)) in
      let other : (f : ℕ) → IsLive now f → nat_eq x f ≡ false → before f ≡ after f = λ f _ d. sym (scanned_other marked grey x f d) in
      let more = live_more begun now before after x b l miss hit other in
      let less = live_less begun now before after x b l miss hit other in
      record { at_least = omega (arith, a.at_least, more); at_most = omega (arith, a.at_most, less) }

module _ {begun now : World} (marked grey visited visited' : ℕ → Bool) where
  -- Marking continues where each file that is newly visited is marked or in no table.
  visits : ((f : ℕ) → visited f ≡ false → InTable now f → (marked f ≡ true) ⊎ (visited' f ≡ false)) → IsMarking begun now marked grey visited → IsMarking begun now marked grey visited'
  visits each i = record {
    marks = record {
      queues = i.marks.queues;
      tables = λ f t. elim (i.marks.tables f t) [
        | inl e ↦ inl e
        | inr (inl e) ↦ inr (inl e)
        | inr (inr e) ↦ elim (each f e.0 e.1) [
          | inl m ↦ inl m
          | inr v ↦ inr (inr (v, e.1))
        ]
      ];
      only_reached = i.marks.only_reached;
    };
    live = i.live;
    queues = i.queues;
  }

  -- Marking continues when x is visited, which is marked if a table holds it.
  pub visit_marking : (x : ℕ) → IsWhole now → (InTable now x → marked x ≡ true) → ((f : ℕ) → IsLive now f → nat_eq x f ≡ false → visited f ≡ visited' f)
      → IsMarking begun now marked grey visited → IsMarking begun now marked grey visited'
  visit_marking x whole tabled same i = visits (λ f e t. elim (same_or_not x f) [
    | inl s ↦ inl (ap marked (sym s) ∙ tabled (subst (InTable now) (sym s) t))
    | inr a ↦ inr (sym (same f (whole.tables_live f t) a) ∙ e)
  ]) i

  -- Marking continues when the visits pass files that were freed.
  pub skip_marking : IsWhole now → ((f : ℕ) → IsLive now f → visited f ≡ visited' f) → IsMarking begun now marked grey visited → IsMarking begun now marked grey visited'
  skip_marking whole same i = visits (λ f e t. inr (sym (same f (whole.tables_live f t)) ∙ e)) i

module _ {begun now : World} (visited visited' scanned swept swept' : ℕ → Bool) (looked : ℕ) where
  -- To visit x counts one file more.
  pub visit_counted : (x : ℕ) → IsLive begun x → IsLive now x → visited x ≡ false → visited' x ≡ true → ((f : ℕ) → IsLive now f → nat_eq x f ≡ false → visited f ≡ visited' f)
      → AreCounted begun now visited scanned swept looked → AreCounted begun now visited' scanned swept (looked + 1)
  visit_counted x b l miss hit other a =
      let more = live_more begun now visited visited' x b l miss hit other in
      let less = live_less begun now visited visited' x b l miss hit other in
      record { at_least = omega (arith, a.at_least, more); at_most = omega (arith, a.at_most, less) }

  -- To sweep x counts one file more.
  pub sweep_counted : (x : ℕ) → IsLive begun x → IsLive now x → swept x ≡ false → swept' x ≡ true → ((f : ℕ) → IsLive now f → nat_eq x f ≡ false → swept f ≡ swept' f)
      → AreCounted begun now visited scanned swept looked → AreCounted begun now visited scanned swept' (looked + 1)
  sweep_counted x b l miss hit other a =
      let more = live_more begun now swept swept' x b l miss hit other in
      let less = live_less begun now swept swept' x b l miss hit other in
      record { at_least = omega (arith, a.at_least, more); at_most = omega (arith, a.at_most, less) }

  -- To go past files that are gone counts nothing.
  pub skip_counted : ((f : ℕ) → IsLive now f → visited f ≡ visited' f) → ((f : ℕ) → IsLive now f → swept f ≡ swept' f) → AreCounted begun now visited scanned swept looked → AreCounted begun now visited' scanned swept' looked
  skip_counted v s a =
      let vs = live_agree begun now visited visited' v in
      let ss = live_agree begun now swept swept' s in
      let nv = live_agree begun now (λ f. not (visited f)) (λ f. not (visited' f)) (λ f l. ap not (v f l)) in
      let ns = live_agree begun now (λ f. not (swept f)) (λ f. not (swept' f)) (λ f l. ap not (s f l)) in
      record { at_least = omega (arith, a.at_least, vs, ss); at_most = omega (arith, a.at_most, nv, ns) }
