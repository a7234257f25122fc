-- The invariant of a running pass when an unheld file is freed.
use Rattle.std.proofs.Common.{◌≡◌, ◌≤◌, ℕ, ◌+◌, Bool, true, false, not, ◌&&◌, inl, inr, refl, sym, ap, ◌∙◌, subst, cond, nat_eq, arith}
use Rattle.std.specs.Prelude.{Option, Some, None, option_map, is_some, if◌then◌else◌}
use Rattle.std.specs.Option.{option_map_or}
use Rattle.std.specs.FinMap as map
use Rattle.std.proofs.lemmas.Bool.{and_left, and_parts, and_right}
use Rattle.af_base.specs.World.{AsSocket, File, IsLive, Plain, World, is_live}
use Rattle.af_base.specs.Places.{Holds, InTable}
use Rattle.af_base.specs.Unheld.{Goes, Unheld, file_without, without}
use Rattle.af_base.specs.Reached.{ByTable, BySocket, Garbage, IsGarbageCount, is_socket}
use Rattle.af_base.proofs.Lookups.{itself, same_or_not, there, told_apart}
use Rattle.af_base.proofs.PlaceMoves.{holds-there}
use Rattle.af_base.proofs.SettledWorlds.{from_without, get-without, live-without, stays, to_without}
use Rattle.af_collect.specs.Since.{AreCounted, IsMarking, IsSince, IsSweeping, but, is_scanned, is_socket_at, left_count, live_count}
use Rattle.af_collect.proofs.PassUnits.{but_other}
use Rattle.af_collect.proofs.Tallies.{count_le, count_one, count_same}

-- A file that holds another is live.
pub holder_live : (w : World) (s f : ℕ) → Holds w s f → IsLive w s
holder_live w s f h = ap is_some (holds-there w s f h).1

module _ {begun old : World} (bound : ℕ) (s : IsSince begun old bound) (marked grey visited : ℕ → Bool) (i : IsMarking begun old marked grey visited) where
  -- Garbage of the begin that is unheld was unheld at the begin.
  goes : (f : ℕ) → Unheld old f → Garbage begun f → Unheld begun f
  goes _ (Goes f l t hs) g = Goes f g.0 (λ t. g.1 (ByTable f t)) (λ q h. goes q (hs q (i.queues q f g h)) (holder_live begun q f h, λ r. g.1 (BySocket q f r h)))

  -- While marking, an unheld file is no garbage of the begin: it would have been unheld then too.
  pub never_garbage : (x : ℕ) → IsLive old x → ¬ (InTable old x) → ((q : ℕ) → ¬ (Holds old q x)) → ¬ (Garbage begun x)
  never_garbage x l t hs g = s.sound.settled x (goes x (Goes x l t (λ q h. absurd (hs q h))) g)

module _ (begun old : World) (x : ℕ) where
  -- The world after x is freed.
  abbrev rest : World
  rest = without (nat_eq x) old

  -- A file that is live there is another, and was live.
  live_was : (f : ℕ) → IsLive rest f → (nat_eq x f ≡ false) × IsLive old f
  live_was f l = stays (nat_eq x f) (is_live old f) (sym (live-without (nat_eq x) old f) ∙ l)

  -- Another file is live there exactly if it was.
  live_other : (f : ℕ) → nat_eq x f ≡ false → is_live rest f ≡ is_live old f
  live_other f e = live-without (nat_eq x) old f ∙ ap (λ b. cond (not b) (is_live old f) false) e

  -- x is not live there.
  live_gone : is_live rest x ≡ false
  live_gone = live-without (nat_eq x) old x ∙ ap (λ b. cond (not b) (is_live old x) false) (itself x)

  -- Another file is a socket there exactly if it was.
  kind_other : (f : ℕ) → nat_eq x f ≡ false → is_socket_at rest f ≡ is_socket_at old f
  kind_other f e = ap (λ o. option_map_or is_socket o false) (get-without (nat_eq x) old f ∙ ap (λ b. cond (not b) (option_map (file_without (nat_eq x)) (map.get old.files f)) None) e) ∙ each (map.get old.files f) where
    each : (o : Option File) → option_map_or is_socket (option_map (file_without (nat_eq x)) o) false ≡ option_map_or is_socket o false
    each None = refl
    each (Some Plain) = refl
    each (Some (AsSocket s)) = refl

  -- Whether freeing x is counted while sweeping: it is an unmarked socket of the begin.
  abbrev pub is_reclaimed : (ℕ → Bool) → Bool
  is_reclaimed marked = is_socket_at old x && (is_live begun x && not (marked x))

  module _ (bound : ℕ) (s : IsSince begun old bound) where
    -- The world stays one since the begin.
    pub since_drop : IsSince begun rest bound
    since_drop = record {
      sound = s.sound;
      below = s.below;
      old = λ f l b. s.old f (live_was f l).1 b;
      kinds = λ f b l. let at = live_was f l in kind_other f at.0 ∙ s.kinds f b at.1;
      stray = record { queues = λ q f h g. s.stray.queues q f (from_without (nat_eq x) old q f h).1 g; tables = s.stray.tables };
    }

    -- Marking continues, if x is no garbage of the begin and the files that it held are marked.
    pub marking_drop : (marked grey visited : ℕ → Bool) → ¬ (Garbage begun x) → ((f : ℕ) → IsLive begun f → Holds old x f → marked f ≡ true)
        → IsMarking begun old marked grey visited → IsMarking begun rest (but marked x) (but grey x) visited
    marking_drop marked grey visited reached held i = record {
      marks = record {
        queues = λ q f r h. elim (same_or_not x f) [
          | inl e ↦ inr (inl (ap (is_live rest) (sym e) ∙ live_gone))
          | inr e ↦ elim (i.marks.queues q f r h) [
            | inl m ↦ inl (but_other marked x f e ∙ m)
            | inr (inl d) ↦ inr (inl (live_other f e ∙ d))
            | inr (inr d) ↦ elim (same_or_not x q) [
              | inl c ↦ inl (but_other marked x f e ∙ held f (s.sound.whole.queues_live q f h) (subst (λ y. Holds old y f) (sym c) d.2))
              | inr c ↦ inr (inr (live_other q c ∙ d.0, (λ j. but_other marked x q c j && not (but_other grey x q c j)) ∙ d.1, to_without (nat_eq x) old q f c d.2))
            ]
          ]
        ];
        tables = λ f t. elim (same_or_not x f) [
          | inl e ↦ inr (inl (ap (is_live rest) (sym e) ∙ live_gone))
          | inr e ↦ elim (i.marks.tables f t) [
            | inl m ↦ inl (but_other marked x f e ∙ m)
            | inr (inl d) ↦ inr (inl (live_other f e ∙ d))
            | inr (inr d) ↦ inr (inr d)
          ]
        ];
        only_reached = λ f g. and_left (marked f) (not (nat_eq x f)) (i.marks.only_reached f g);
      };
      live = λ f g. live_other f (other f g) ∙ i.live f g;
      queues = λ q f g h.
          let kept = i.queues q f g h in
          to_without (nat_eq x) old q f (other q (s.stray.queues q f kept g)) kept;
    } where
      other : (f : ℕ) → Garbage begun f → nat_eq x f ≡ false
      other f g = told_apart x f (λ e. reached (subst (Garbage begun) (sym e) g))

    module _ (marked : ℕ → Bool) where
      abbrev left : ℕ × File → Bool
      left e = is_socket e.1 && (is_live old e.0 && not (marked e.0))

      abbrev left_then : ℕ × File → Bool
      left_then e = is_socket e.1 && (is_live rest e.0 && not (but marked x e.0))

      left_other : (k : ℕ) (v : File) → nat_eq x k ≡ false → left_then (k, v) ≡ left (k, v)
      left_other k v e = λ j. is_socket v && (live_other k e j && not (but_other marked x k e j))

      left_gone : (v : File) → left_then (x, v) ≡ false
      left_gone v = and_right (is_socket v) (is_live rest x && not (but marked x x)) (and_left (is_live rest x) (not (but marked x x)) live_gone)

      left_here : (v : File) → IsLive old x → map.get begun.files x ≡ Some v → left (x, v) ≡ is_reclaimed marked
      left_here v l is =
          let kind : is_socket_at old x ≡ is_socket v = s.kinds x (ap is_some is) l ∙ ap (λ o. option_map_or is_socket o false) is in
          let live : is_live old x ≡ is_live begun x = l ∙ sym (ap is_some is) in
          λ j. sym kind j && (live j && not (marked x))

      -- One live unmarked socket of the begin less is left where x is one, and else as many.
      pub left_drop : IsLive old x → left_count begun old marked ≡ left_count begun rest (but marked x) + (if is_reclaimed marked then 1 else 0)
      left_drop l = by (is_reclaimed marked) refl where
        by : (b : Bool) → is_reclaimed marked ≡ b → left_count begun old marked ≡ left_count begun rest (but marked x) + (if b then 1 else 0)
        by true e =
            let live = (and_parts (is_live begun x) (not (marked x)) (and_parts (is_socket_at old x) (is_live begun x && not (marked x)) e).1).0 in
            let v = there (map.get begun.files x) live in
            count_one begun.files x v.0 left_then left v.1 (left_gone v.0) (left_here v.0 l v.1 ∙ e) (λ k w is d. left_other k w d)
        by false e =
            let n = count_same begun.files left left_then (λ k w is. elim (same_or_not x k) [
              | inl same ↦ subst (λ y. left (y, w) ≡ left_then (y, w)) same (left_here w l (ap (map.get begun.files) same ∙ is) ∙ e ∙ sym (left_gone w))
              | inr apart ↦ sym (left_other k w apart)
            ]) in
            omega (arith, n)

      -- Sweeping continues, and x is counted if it is an unmarked socket of the begin.
      pub sweeping_drop : (swept : ℕ → Bool) (reclaimed : ℕ) → IsLive old x → IsSweeping begun old marked swept reclaimed → IsSweeping begun rest (but marked x) swept (reclaimed + (if is_reclaimed marked then 1 else 0))
      sweeping_drop swept reclaimed l i = record {
        unmarked = λ f b c e. let at = live_was f c in i.unmarked f b at.1 (sym (but_other marked x f at.0) ∙ e);
        only_reached = λ f g. and_left (marked f) (not (nat_eq x f)) (i.only_reached f g);
        empty = λ q f e h. i.empty q f e (from_without (nat_eq x) old q f h).1;
        counted =
            let n = left_drop l in
            let m : reclaimed + left_count begun old marked ≡ (reclaimed + (if is_reclaimed marked then 1 else 0)) + left_count begun rest (but marked x) = omega (arith, n) in
            subst (IsGarbageCount begun) m i.counted;
      }

  -- Where tests agree but at x, at most as many live files of the begin pass.
  fewer : (p p' : ℕ → Bool) → ((f : ℕ) → nat_eq x f ≡ false → p' f ≡ p f) → live_count begun rest p' ≤ live_count begun old p
  fewer p p' same = count_le (λ e. is_live rest e.0 && p' e.0) (λ e. is_live old e.0 && p e.0) (map.entries begun.files) (λ e d.
      let parts = and_parts (is_live rest e.0) (p' e.0) d in
      let at = live_was e.0 parts.0 in
      ap (λ b. b && p e.0) at.1 ∙ sym (same e.0 at.0) ∙ parts.1)

  -- The units stay counted.
  pub counted_drop : (marked grey visited swept : ℕ → Bool) (looked : ℕ) → AreCounted begun old visited (is_scanned marked grey) swept looked → AreCounted begun rest visited (is_scanned (but marked x) (but grey x)) swept looked
  counted_drop marked grey visited swept looked a =
      let scanned : (f : ℕ) → nat_eq x f ≡ false → is_scanned (but marked x) (but grey x) f ≡ is_scanned marked grey f = λ f e j. but_other marked x f e j && not (but_other grey x f e j) in
      let v = fewer visited visited (λ f _. refl) in
      let c = fewer (is_scanned marked grey) (is_scanned (but marked x) (but grey x)) scanned in
      let w = fewer swept swept (λ f _. refl) in
      let nv = fewer (λ f. not (visited f)) (λ f. not (visited f)) (λ f _. refl) in
      let nc = fewer (λ f. not (is_scanned marked grey f)) (λ f. not (is_scanned (but marked x) (but grey x) f)) (λ f e. ap not (scanned f e)) in
      let nw = fewer (λ f. not (swept f)) (λ f. not (swept f)) (λ f _. refl) in
      record { at_least = omega (arith, a.at_least, v, c, w); at_most = omega (arith, a.at_most, nv, nc, nw) }
