-- Where a pass begins, where marking ends, a file is swept, and where all are.
use Rattle.std.proofs.Common.{◌≡◌, ◌<◌, ℕ, Bool, true, false, not, ◌&&◌, ◌↔◌, refl, sym, ap, ◌∙◌, inl, inr, ◌≤◌, ◌+◌, List, [], ◌∷◌, subst, nat_eq, arith, zero-add}
use Rattle.std.proofs.lemmas.Bool.{false≢true, cases_Bool, eqb-true}
use Rattle.std.specs.Prelude.{Option, Some, None, option_map, is_some, if◌then◌else◌}
use Rattle.std.specs.Option.{option_map_or}
use Rattle.std.specs.List.{count_by}
use Rattle.std.specs.FinMap as map
use Rattle.std.proofs.lemmas.List.Sums.{count_by-le-length}
use Rattle.std.proofs.Math.Bool.{and-false}
use Rattle.af_base.specs.World.{World, IsLive, is_live, AsSocket, File, Plain}
use Rattle.af_base.specs.Places.{InTable}
use Rattle.af_base.specs.Reached.{ByTable, BySocket, Garbage, Reached, IsGarbageCount, is_socket}
use Rattle.af_base.specs.Unheld.{Goes, IsSettled}
use Rattle.af_base.specs.Pass.{emptied, empty_file}
use Rattle.af_base.specs.Whole.{IsSound}
use Rattle.af_base.proofs.PurgeOrder.{from_emptied, get-emptied, live-emptied}
use Rattle.af_collect.specs.Since.{AreMarks, is_scanned, AreCounted, IsMarking, IsSince, IsSweeping, Moves, NoneStray, is_socket_at, left_count, live_count}
use Rattle.af_collect.proofs.PassFrees.{holder_live}
use Rattle.af_collect.proofs.PassUnits.{sweeping_moves}
use Rattle.af_collect.proofs.Tallies.{count_same}

module _ {begun now : World} {marked grey visited : ℕ → Bool} (bound : ℕ) (m : AreMarks begun now marked grey visited)
    (all_visited : (f : ℕ) → f < bound → visited f ≡ true) (none_grey : (f : ℕ) → grey f ≡ false)
    (below : (f : ℕ) → InTable begun f → f < bound) where
  -- Where none is grey, what is marked was scanned.
  scanned : (s : ℕ) → marked s ≡ true → is_scanned marked grey s ≡ true
  scanned s e = ap (λ b. b && not (grey s)) e ∙ ap not (none_grey s)

  -- Where marking has ended, what was reached is marked, or gone.
  pub reached_marked : (f : ℕ) → Reached begun f → IsLive now f → marked f ≡ true
  reached_marked _ (ByTable f t) live =
      elim (m.tables f t) [
        | inl e ↦ e
        | inr (inl gone) ↦ absurd (false≢true (sym gone ∙ live))
        | inr (inr waits) ↦ absurd (false≢true (sym waits.0 ∙ all_visited f (below f t)))
      ]
  reached_marked _ (BySocket s f r h) live =
      elim (m.queues s f r h) [
        | inl e ↦ e
        | inr (inl gone) ↦ absurd (false≢true (sym gone ∙ live))
        | inr (inr waits) ↦ absurd (false≢true (sym waits.1 ∙ scanned s (reached_marked s r waits.0)))
      ]

  -- Where marking has ended, a live file of the begin is unmarked exactly where it was garbage.
  pub exact : (f : ℕ) → IsLive begun f → IsLive now f → (marked f ≡ false) ↔ Garbage begun f
  exact f was live = (λ e. (was, λ r. false≢true (sym e ∙ reached_marked f r live)), λ g. m.only_reached f g)

-- Three tests together.
all_three : (a b c : Bool) → (a && (b && not c)) ≡ true → (a ≡ true) × (b ≡ true) × (c ≡ false)
all_three true true false e = (refl, refl, refl)
all_three true true true e = absurd (false≢true e)
all_three true false c e = absurd (false≢true e)
all_three false b c e = absurd (false≢true e)

-- No garbage was lost before.
module _ {begun now : World} {marked grey visited : ℕ → Bool} (bound : ℕ) (m : AreMarks begun now marked grey visited)
    (all_visited : (f : ℕ) → f < bound → visited f ≡ true) (none_grey : (f : ℕ) → grey f ≡ false)
    (below : (f : ℕ) → InTable begun f → f < bound) (kept : (f : ℕ) → Garbage begun f → IsLive now f) where
  -- Whether the file was live, is live, and is not marked.
  abbrev pub is_left : ℕ → Bool
  is_left f = is_live begun f && (is_live now f && not (marked f))

  -- Where marking has ended and no garbage was lost, what is live and not marked is the garbage.
  pub left_garbage : (f : ℕ) → (is_left f ≡ true) ↔ Garbage begun f
  left_garbage f = (to, from) where
    to : is_left f ≡ true → Garbage begun f
    to e =
        let first = all_three (is_live begun f) (is_live now f) (marked f) e in
        (exact bound m all_visited none_grey below f first.0 first.1).0 first.2

    from : Garbage begun f → is_left f ≡ true
    from g = ap (λ b. b && (is_live now f && not (marked f))) g.0 ∙ ap (λ b. b && not (marked f)) (kept f g) ∙ ap not (m.only_reached f g)

-- Nothing passes a test that always fails.
count_none : {X : Type 0} (es : List X) → count_by (λ _. false) es ≡ 0
count_none [] = refl
count_none (e ∷ es) = count_none es

-- A pass begins.
module _ (w : World) (bound : ℕ) (sound : IsSound w) (below : (f : ℕ) → IsLive w f → f < bound) where
  -- A sound world is one since itself.
  pub since_begin : IsSince w w bound
  since_begin = record {
    sound = sound;
    below = below;
    old = λ f l b. l;
    kinds = λ f b l. refl;
    stray = record {
      queues = λ s f h g. (holder_live w s f h, λ r. g.1 (BySocket s f r h));
      tables = λ f g t. g.1 (ByTable f t);
    };
  }

-- Nothing is marked and nothing visited.
module _ (w : World) (marked grey visited : ℕ → Bool) (unmarked : (f : ℕ) → marked f ≡ false) (unvisited : (f : ℕ) → visited f ≡ false) where
  -- Where nothing is marked and nothing visited, marking may begin.
  pub marking_begin : IsMarking w w marked grey visited
  marking_begin = record {
    marks = record {
      queues = λ s f r h. inr (inr (holder_live w s f h, ap (λ b. b && not (grey s)) (unmarked s), h));
      tables = λ f t. inr (inr (unvisited f, t));
      only_reached = λ f g. unmarked f;
    };
    live = λ f g. g.0;
    queues = λ s f g h. h;
  }

  -- Where nothing is marked, visited or swept, nothing was looked at.
  pub counted_begin : (swept : ℕ → Bool) → ((f : ℕ) → swept f ≡ false) → AreCounted w w visited (is_scanned marked grey) swept 0
  counted_begin swept unswept =
      let none : (p : ℕ → Bool) → ((f : ℕ) → p f ≡ false) → live_count w w p ≡ 0 = λ p h. nothing p h (map.entries w.files) in
      let most : (p : ℕ → Bool) → live_count w w p ≤ map.len w.files = λ p. subst (λ n. live_count w w p ≤ n) (sym (map.len-entries w.files)) (count_by-le-length (λ e. is_live w e.0 && p e.0) (map.entries w.files)) in
      let a = none visited unvisited in
      let b = none (is_scanned marked grey) (λ f. ap (λ b. b && not (grey f)) (unmarked f)) in
      let c = none swept unswept in
      let d = most (λ f. not (visited f)) in
      let e = most (λ f. not (is_scanned marked grey f)) in
      let g = most (λ f. not (swept f)) in
      record { at_least = omega (arith, a, b, c); at_most = omega (arith, d, e, g) } where
        nothing : (p : ℕ → Bool) → ((f : ℕ) → p f ≡ false) → (es : List (ℕ × File)) → count_by (λ e. is_live w e.0 && p e.0) es ≡ 0
        nothing p h es = (λ i. count_by (λ e. is_live w e.0 && h e.0 i) es) ∙ (λ i. count_by (λ e. and-false (is_live w e.0) i) es) ∙ count_none es

-- Marking has ended.
module _ {begun now : World} (bound : ℕ) (s : IsSince begun now bound) (marked grey visited : ℕ → Bool) (i : IsMarking begun now marked grey visited)
    (all_visited : (f : ℕ) → f < bound → visited f ≡ true) (none_grey : (f : ℕ) → grey f ≡ false) where
  -- Where all below the bound was visited and none is grey, sweeping may begin.
  pub sweeping_begin : (swept : ℕ → Bool) → ((f : ℕ) → swept f ≡ false) → IsSweeping begun now marked swept 0
  sweeping_begin swept unswept = record {
    unmarked = λ f b l e. (exact bound i.marks all_visited none_grey (λ g t. s.below g (s.sound.whole.tables_live g t)) f b l).0 e;
    only_reached = i.marks.only_reached;
    empty = λ q f e. absurd (false≢true (sym (unswept q) ∙ e));
    counted = (
      is_left bound i.marks all_visited none_grey (λ g t. s.below g (s.sound.whole.tables_live g t)) i.live,
      left_garbage bound i.marks all_visited none_grey (λ g t. s.below g (s.sound.whole.tables_live g t)) i.live,
      zero-add (left_count begun now marked) ∙ count_same begun.files (λ e. is_socket e.1 && (is_live now e.0 && not (marked e.0))) (λ e. is_socket e.1 && (is_live begun e.0 && (is_live now e.0 && not (marked e.0))))
          (λ k v is. ap (λ b. is_socket v && (b && (is_live now k && not (marked k)))) (sym (ap is_some is))),
    );
  }

-- x is swept: its queue and backlog are emptied.
module _ (begun old : World) (x : ℕ) where
  -- The world with x emptied.
  abbrev rest : World
  rest = emptied (nat_eq x) old

  -- The same files are sockets where x was emptied.
  kind_same : (f : ℕ) → is_socket_at rest f ≡ is_socket_at old f
  kind_same f = ap (λ o. option_map_or is_socket o false) (get-emptied (nat_eq x) old f) ∙ each (nat_eq x f) (map.get old.files f) where
    each : (b : Bool) (o : Option File) → option_map_or is_socket (option_map (λ y. if b then empty_file y else y) o) false ≡ option_map_or is_socket o false
    each b None = refl
    each true (Some Plain) = refl
    each true (Some (AsSocket y)) = refl
    each false (Some y) = refl

  -- To empty a file is a change of places.
  pub moves_sweep : Moves begun old rest
  moves_sweep = record {
    live_same = λ f _. live-emptied (nat_eq x) old f;
    live_stay = λ f l. live-emptied (nat_eq x) old f ∙ l;
    kind_same = λ f _. kind_same f;
    queues_gain = λ q f h. inl (from_emptied (nat_eq x) old q f h).1;
    tables_gain = λ f t. inl t;
  }

  -- Where x is emptied, x is swept too.
  pub sweeping_sweep : (marked swept swept' : ℕ → Bool) (reclaimed : ℕ) → ((f : ℕ) → IsLive old f → nat_eq x f ≡ false → swept f ≡ swept' f)
      → IsSweeping begun old marked swept reclaimed → IsSweeping begun rest marked swept' reclaimed
  sweeping_sweep marked swept swept' reclaimed same i =
      let j = sweeping_moves moves_sweep marked swept reclaimed i in
      record {
        unmarked = j.unmarked;
        only_reached = j.only_reached;
        empty = λ q f e h.
            let at = from_emptied (nat_eq x) old q f h in
            i.empty q f (same q (holder_live old q f at.1) at.0 ∙ e) at.1;
        counted = j.counted;
      }

  -- Where x is marked, x is swept too, and the world stays.
  pub sweeping_marked : (marked swept swept' : ℕ → Bool) (reclaimed : ℕ) → NoneStray begun old → marked x ≡ true → ((f : ℕ) → IsLive old f → nat_eq x f ≡ false → swept f ≡ swept' f)
      → IsSweeping begun old marked swept reclaimed → IsSweeping begun old marked swept' reclaimed
  sweeping_marked marked swept swept' reclaimed stray is same i = record {
    unmarked = i.unmarked;
    only_reached = i.only_reached;
    empty = λ q f e h g. elim (cases_Bool (nat_eq x q)) [
      | inl d ↦ false≢true (sym (i.only_reached q (stray.queues q f h g)) ∙ ap marked (sym (eqb-true x q d)) ∙ is)
      | inr d ↦ i.empty q f (same q (holder_live old q f h) d ∙ e) h g
    ];
    counted = i.counted;
  }

-- All are swept, and nothing is to be freed.
module _ {begun now : World} (bound : ℕ) (s : IsSince begun now bound) (marked swept : ℕ → Bool) (reclaimed : ℕ) (i : IsSweeping begun now marked swept reclaimed)
    (settled : IsSettled now) (all : (f : ℕ) → IsLive now f → f < bound → swept f ≡ true) where
  -- Where all are swept, no garbage of the begin is live.
  pub none_left : (f : ℕ) → Garbage begun f → ¬ (IsLive now f)
  none_left f g l = settled f (Goes f l (s.stray.tables f g) (λ q h. absurd (i.empty q f (all q (holder_live now q f h) (s.below q (s.stray.queues q f h g).0)) h g)))

-- No garbage of the begin is live.
module _ {begun now : World} (none : (f : ℕ) → Garbage begun f → ¬ (IsLive now f)) where
  -- While sweeping, the sockets that were counted are the garbage of the begin.
  pub reclaimed_all : (marked swept : ℕ → Bool) (reclaimed : ℕ) → IsSweeping begun now marked swept reclaimed → IsGarbageCount begun reclaimed
  reclaimed_all marked swept reclaimed i =
      let none_left : left_count begun now marked ≡ 0 = count_same begun.files (λ e. is_socket e.1 && (is_live now e.0 && not (marked e.0))) (λ _. false) each ∙ count_none (map.entries begun.files) in
      let n : reclaimed + left_count begun now marked ≡ reclaimed = omega (arith, none_left) in
      subst (IsGarbageCount begun) n i.counted where
        each : (k : ℕ) (v : File) → map.get begun.files k ≡ Some v → (is_socket v && (is_live now k && not (marked k))) ≡ false
        each k v is = by (is_live now k) refl (marked k) refl where
          by : (l : Bool) → is_live now k ≡ l → (m : Bool) → marked k ≡ m → (is_socket v && (is_live now k && not (marked k))) ≡ false
          by false e m d = ap (λ b. is_socket v && (b && not (marked k))) e ∙ and-false (is_socket v)
          by true e true d = ap (λ b. is_socket v && (b && not (marked k))) e ∙ ap (λ b. is_socket v && not b) d ∙ and-false (is_socket v)
          by true e false d = absurd (none k (i.unmarked k (ap is_some is) e d) e)

  -- While marking, none was counted.
  pub reclaimed_none : (marked grey visited : ℕ → Bool) → IsMarking begun now marked grey visited → IsGarbageCount begun 0
  reclaimed_none marked grey visited i = (
    λ _. false,
    λ f. (λ e. absurd (false≢true e), λ g. absurd (none f g (i.live f g))),
    sym ((λ j. count_by (λ e. and-false (is_socket e.1) j) (map.entries begun.files)) ∙ count_none (map.entries begun.files)),
  )
