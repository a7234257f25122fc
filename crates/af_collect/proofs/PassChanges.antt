-- Each change, and each unit of a pass, keeps what is kept.
use Rattle.std.proofs.Common.{◌≡◌, ◌<◌, ◌≤◌, ℕ, ◌+◌, Bool, true, false, not, ◌&&◌, inl, inr, List, [], ◌∷◌, refl, sym, ap, ◌∙◌, subst, nat_eq, nat_lt, arith, add-zero}
use Rattle.std.specs.Prelude.{if◌then◌else◌}
use Rattle.std.specs.FinMap as map
use Rattle.std.specs.List.{Contains}
use Rattle.std.proofs.lemmas.Bool.{and_parts, cases_Bool, cases_lt, eqb-true, false≢true, le-ltb, lt-ltb, ltb-false, ltb-true, or_cases}
use Rattle.af_base.specs.World.{IsLive, World, is_live}
use Rattle.af_base.specs.Counts.{tabled}
use Rattle.af_base.specs.Pass.{emptied}
use Rattle.af_base.specs.Places.{Holds, InTable, held_by}
use Rattle.af_base.specs.Reached.{Garbage, IsGarbageCount}
use Rattle.af_base.specs.Unheld.{IsSettled, without}
use Rattle.af_base.specs.Whole.{IsSound, IsWhole}
use Rattle.af_base.proofs.Elements.{Contains-first, Contains-later, Contains-none}
use Rattle.af_base.proofs.PlacesAndCounts.{InTable-tabled, tabled-InTable}
use Rattle.af_base.proofs.Lookups.{not_same}
use Rattle.af_base.proofs.PurgeOrder.{live-emptied}
use Rattle.af_mark.specs.MarksView.{blackened, forgotten, is_grey, is_marked, is_white, knows, MarksView, shaded, visited}
use Rattle.af_mark.specs.declared.color.Color.TheVariants.{Black}
use Rattle.af_collect.specs.declared.progress.Stage.{Stage}
use Rattle.af_collect.specs.declared.progress.Stage.TheVariants.{Marking, Resting, Sweeping}
use Rattle.af_collect.specs.declared.progress.PassProgress.{PassProgress}
use Rattle.af_collect.specs.Since.{AreCounted, Covers, IsMarking, IsSince, IsSweeping, Moves, is_scanned, is_socket_at}
use Rattle.af_collect.specs.Keeping.{AreKnown, after_visit, IsInMarking, IsInSweeping, PassInvariant, IsRunning, IsStage, below, counted, is_counted, is_due, is_marking, is_running, is_sweeping, shaded_all, units_of}
use Rattle.af_collect.proofs.PassFrees.{counted_drop, is_reclaimed, marking_drop, never_garbage, since_drop, sweeping_drop}
use Rattle.af_collect.proofs.MarkTests.{known_gone, known_marks, known_world, bound_blackened, bound_shaded, grey_blackened, grey_forgotten, grey_marked, grey_shaded, knows_blackened, knows_shaded, marked_blackened, marked_forgotten, marked_known, marked_shaded, shaded_beyond, shaded_black, shaded_grey}
use Rattle.af_collect.proofs.PassUnits.{counted_moves, marking_moves, since_moves, sweeping_moves, scan_counted, scan_marking, shade_counted, shade_marking, skip_counted, skip_marking, sweep_counted, visit_counted, visit_marking}
use Rattle.af_collect.proofs.ShadedMarks.{all_marked, bound_shaded_all, itself_marked, shaded_all_after, stays_grey_all, stays_marked_all}
use Rattle.af_collect.proofs.PassStages.{counted_begin, marking_begin, moves_sweep, none_left, reclaimed_all, reclaimed_none, since_begin, sweeping_begin, sweeping_marked, sweeping_sweep}

-- Marking continues in one stage only.
pub marking_only : (s : Stage) → is_marking s ≡ true → s ≡ Marking
marking_only Resting e = absurd (false≢true e)
marking_only Marking e = refl
marking_only Sweeping e = absurd (false≢true e)

-- No file is below the number 0.
none_below : (n f : ℕ) → n ≡ 0 → below n f ≡ false
none_below n f e = le-ltb f n (omega (arith, e))

-- Of two numbers above f it does not matter which one f is compared with.
lt_same : (f a b : ℕ) → f < a → f < b → nat_lt f a ≡ nat_lt f b
lt_same f a b x y = lt-ltb f a x ∙ sym (lt-ltb f b y)

-- Nor of two numbers that are not above it.
ge_same : (f a b : ℕ) → a ≤ f → b ≤ f → nat_lt f a ≡ nat_lt f b
ge_same f a b x y = le-ltb f a x ∙ sym (le-ltb f b y)

-- A pass that continues over x, and passes by no live file, looks at no other live file.
past_one : (w : World) (x from : ℕ) → from ≤ x → ((f : ℕ) → from ≤ f → f < x → is_live w f ≡ false) → (f : ℕ) → IsLive w f → nat_eq x f ≡ false → below from f ≡ below (x + 1) f
past_one w x from le none f l apart = elim (cases_lt f from) [
  | inl b ↦ lt_same f from (x + 1) b (omega (arith, b, le))
  | inr b ↦ elim (cases_lt f x) [
    | inl d ↦ absurd (false≢true (sym (none f b d) ∙ l))
    | inr d ↦ elim (cases_lt x f) [
      | inl g ↦ ge_same f from (x + 1) b (omega (arith, g))
      | inr g ↦ absurd (not_same x f apart (omega (arith, d, g)))
    ]
  ]
]

-- A pass runs, with marks that pass these tests.
running_of : {w begun : World} {marked grey : ℕ → Bool} {bound : ℕ} (n : MarksView) (d : PassProgress) → is_marked n ≡ marked → is_grey n ≡ grey → n.bound ≡ bound → IsSince begun w bound → ((f : ℕ) → marked f ≡ true → IsLive begun f)
    → AreCounted begun w (below d.visited) (is_scanned marked grey) (below d.swept) d.looked → bound ≤ w.next_ino → IsRunning w begun n d
running_of {w = w} {begun = begun} n d is waits same since old counted low = record {
  since = subst (IsSince begun w) (sym same) since;
  marked = λ f e. old f (ap (λ t. t f) (sym is) ∙ e);
  counted = subst (λ t. AreCounted begun w (below d.visited) t (below d.swept) d.looked) (λ i. is_scanned (sym is i) (sym waits i)) counted;
  low = omega (arith, same, low);
}

-- Marking continues with equal tests.
marking_of : {begun now : World} {a a' b b' : ℕ → Bool} (visited : ℕ → Bool) → a' ≡ a → b' ≡ b → IsMarking begun now a b visited → IsMarking begun now a' b' visited
marking_of {begun = begun} {now = now} visited is waits i = subst (λ t. t) (λ j. IsMarking begun now (sym is j) (sym waits j) visited) i

module _ {w w' begun : World} where
  -- Where files are made and places change, what is kept is kept, by marks that mark the same.
  pub kept_born : (m m' : MarksView) (c : PassProgress) → AreKnown w' m' → is_marked m' ≡ is_marked m → is_grey m' ≡ is_grey m → m'.bound ≡ m.bound
      → w.next_ino ≤ w'.next_ino → ((f : ℕ) → IsLive w' f → f < w.next_ino → IsLive w f)
      → (is_running c.stage ≡ true → Moves begun w w') → (is_marking c.stage ≡ true → Covers begun w w' (is_marked m) (below c.visited)) → PassInvariant w begun m c → PassInvariant w' begun m' c
  kept_born m m' c known is waits same next old moves covers k = record { known = known; stage = by c.stage refl k.stage } where
    running : Moves begun w w' → IsRunning w begun m c → IsRunning w' begun m' c
    running v r =
        let low = r.low in
        running_of m' c is waits same (since_moves v m.bound (λ f l b. old f l (omega (arith, b, low))) r.since) r.marked
        (counted_moves v (below c.visited) (is_scanned (is_marked m) (is_grey m)) (below c.swept) c.looked r.counted) (omega (arith, low, next))

    by : (s : Stage) → c.stage ≡ s → IsStage s w begun m c → IsStage s w' begun m' c
    by Resting e p = tt
    by Marking e p =
        let v = moves (ap is_running e) in
        record {
          running = running v p.running;
          marking = marking_of (below c.visited) is waits (marking_moves v (is_marked m) (is_grey m) (below c.visited) p.running.since.sound.whole (covers (ap is_marking e)) p.marking);
          unswept = p.unswept;
          none_reclaimed = p.none_reclaimed;
          visited_low = let low = p.visited_low in omega (arith, low, same);
        }
    by Sweeping e p =
        let v = moves (ap is_running e) in
        record { running = running v p.running; sweeping = subst (λ t. IsSweeping begun w' t (below c.swept) c.reclaimed) (sym is) (sweeping_moves v (is_marked m) (below c.swept) c.reclaimed p.sweeping) }

  -- A change of places keeps what is kept.
  pub kept_moves : (m : MarksView) (c : PassProgress) → w.next_ino ≤ w'.next_ino → ((f : ℕ) → is_live w' f ≡ is_live w f)
      → (is_running c.stage ≡ true → Moves begun w w') → (is_marking c.stage ≡ true → Covers begun w w' (is_marked m) (below c.visited)) → PassInvariant w begun m c → PassInvariant w' begun m c
  kept_moves m c next same moves covers k = kept_born m m c (known_world w' w m same k.known) refl refl refl next (λ f l _. sym (same f) ∙ l) moves covers k

module _ {w begun : World} where
  -- The invariant while marking.
  pub in_marking : {m : MarksView} {c : PassProgress} → c.stage ≡ Marking → PassInvariant w begun m c → IsInMarking w begun m c
  in_marking {m = m} {c = c} e k = subst (λ s. IsStage s w begun m c) e k.stage

  -- The invariant while sweeping.
  pub in_sweeping : {m : MarksView} {c : PassProgress} → c.stage ≡ Sweeping → PassInvariant w begun m c → IsInSweeping w begun m c
  in_sweeping {m = m} {c = c} e k = subst (λ s. IsStage s w begun m c) e k.stage

  -- A grey file is no garbage of the begin.
  pub grey_spared : {m : MarksView} {c : PassProgress} (x : ℕ) → c.stage ≡ Marking → is_grey m x ≡ true → PassInvariant w begun m c → ¬ (Garbage begun x)
  grey_spared {m = m} x e grey k g = false≢true (sym ((in_marking e k).marking.marks.only_reached x g) ∙ grey_marked m x grey)

  -- The files held by a file that is no garbage of the begin are live, and no garbage of it.
  held_kept : {m : MarksView} {c : PassProgress} (x : ℕ) → IsWhole w → IsRunning w begun m c → ¬ (Garbage begun x) → (f : ℕ) → Holds w x f → IsLive w f × (¬ (Garbage begun f))
  held_kept x whole r spared f h = (whole.queues_live x f h, λ g. spared (r.since.stray.queues x f h g))

  -- A live file that is no garbage of the begin is shaded.
  pub kept_shaded : (m : MarksView) (c : PassProgress) (x : ℕ) → is_marking c.stage ≡ true → IsLive w x → ¬ (Garbage begun x) → PassInvariant w begun m c → PassInvariant w begun (shaded x m) c
  kept_shaded m c x t l spared k = elim (cases_lt x m.bound) [
    | inr high ↦ subst (λ n. PassInvariant w begun n c) (sym (shaded_beyond m x high)) k
    | inl low ↦
        let e = marking_only c.stage t in
        let p = in_marking e k in
        let r = p.running in
        let known = k.known x ∙ l in
        let is = marked_shaded m x known low in
        let waits = grey_shaded m x known low in
        let q : IsInMarking w begun (shaded x m) c = record {
          running = running_of (shaded x m) c is waits (bound_shaded m x) r.since
              (λ f d. elim (or_cases (is_marked m f) (nat_eq x f) d) [ inl y ↦ r.marked f y | inr y ↦ subst (IsLive begun) (eqb-true x f y) (r.since.old x l low) ])
              (shade_counted (is_marked m) (is_grey m) (below c.visited) x (below c.swept) c.looked r.counted) r.low;
          marking = marking_of (below c.visited) is waits (shade_marking (is_marked m) (is_grey m) (below c.visited) x spared p.marking);
          unswept = p.unswept;
          none_reclaimed = p.none_reclaimed;
          visited_low = subst (λ b. c.visited ≤ b) (sym (bound_shaded m x)) p.visited_low;
        } in
        record { known = known_marks w m (shaded x m) (knows_shaded m x) k.known; stage = subst (λ s. IsStage s w begun (shaded x m) c) (sym e) q }
  ]

  -- Live files that are no garbage of the begin are shaded.
  pub kept_shaded_all : (fs : List ℕ) (m : MarksView) (c : PassProgress) → is_marking c.stage ≡ true → ((f : ℕ) → Contains fs f → IsLive w f × (¬ (Garbage begun f))) → PassInvariant w begun m c → PassInvariant w begun (shaded_all fs m) c
  kept_shaded_all [] m c t each k = k
  kept_shaded_all (x ∷ fs) m c t each k =
      let at = each x (Contains-first x fs) in
      kept_shaded_all fs (shaded x m) c t (λ f h. each f (Contains-later x fs f h)) (kept_shaded m c x t at.0 at.1 k)

  -- A grey file is scanned, where all that it holds is marked.
  scan_held : (m : MarksView) (c : PassProgress) (x : ℕ) → c.stage ≡ Marking → is_grey m x ≡ true → ((f : ℕ) → IsLive begun f → Holds w x f → is_marked m f ≡ true) → PassInvariant w begun m c → PassInvariant w begun (blackened x m) (record c { looked = c.looked + 1 })
  scan_held m c x e grey held k =
      let p = in_marking e k in
      let r = p.running in
      let marked = grey_marked m x grey in
      let live : IsLive w x = sym (k.known x) ∙ marked_known m x marked in
      let is = marked_blackened m x in
      let waits = grey_blackened m x in
      let d : PassProgress = record c { looked = c.looked + 1 } in
      let q : IsInMarking w begun (blackened x m) d = record {
        running = running_of (blackened x m) d is waits (bound_blackened m x) r.since r.marked (scan_counted (is_marked m) (is_grey m) (below c.visited) x (below c.swept) c.looked (r.marked x marked) live marked grey r.counted) r.low;
        marking = marking_of (below c.visited) is waits (scan_marking (is_marked m) (is_grey m) (below c.visited) x r.since.sound.whole held p.marking);
        unswept = p.unswept;
        none_reclaimed = p.none_reclaimed;
        visited_low = subst (λ b. c.visited ≤ b) (sym (bound_blackened m x)) p.visited_low;
      } in
      record { known = known_marks w m (blackened x m) (knows_blackened m x) k.known; stage = subst (λ s. IsStage s w begun (blackened x m) d) (sym e) q }

  -- A grey file is scanned: the files that it holds are shaded, and it becomes black.
  pub kept_scan : (m : MarksView) (c : PassProgress) (x : ℕ) → IsWhole w → c.stage ≡ Marking → is_grey m x ≡ true → PassInvariant w begun m c → PassInvariant w begun (blackened x (shaded_all (held_by w x) m)) (record c { looked = c.looked + 1 })
  kept_scan m c x whole e grey k =
      let r = (in_marking e k).running in
      scan_held (shaded_all (held_by w x) m) c x e (stays_grey_all (held_by w x) m x grey)
      (λ f b h. all_marked (held_by w x) m f h (k.known f ∙ whole.queues_live x f h) (r.since.below f b))
      (kept_shaded_all (held_by w x) m c (ap is_marking e) (held_kept x whole r (grey_spared x e grey k)) k)

  -- A live file is visited, which is marked if a table holds it.
  visit_tabled : (m : MarksView) (c : PassProgress) (x : ℕ) → IsWhole w → c.stage ≡ Marking → IsLive w x → c.visited ≤ x → x < m.bound → ((g : ℕ) → c.visited ≤ g → g < x → is_live w g ≡ false) → (InTable w x → is_marked m x ≡ true)
      → PassInvariant w begun m c → PassInvariant w begun m (record c { visited = x + 1; looked = c.looked + 1 })
  visit_tabled m c x whole e l from low none is k =
      let p = in_marking e k in
      let r = p.running in
      let d : PassProgress = record c { visited = x + 1; looked = c.looked + 1 } in
      let same = past_one w x c.visited from none in
      let q : IsInMarking w begun m d = record {
        running = record {
          since = r.since;
          marked = r.marked;
          counted = visit_counted (below c.visited) (below (x + 1)) (is_scanned (is_marked m) (is_grey m)) (below c.swept) (below c.swept) c.looked x (r.since.old x l low) l (le-ltb x c.visited from) (lt-ltb x (x + 1) (omega arith)) same r.counted;
          low = r.low;
        };
        marking = visit_marking (is_marked m) (is_grey m) (below c.visited) (below (x + 1)) x whole is same p.marking;
        unswept = p.unswept;
        none_reclaimed = p.none_reclaimed;
        visited_low = omega (arith, low);
      } in
      record { known = k.known; stage = subst (λ s. IsStage s w begun m d) (sym e) q }

  -- The next live file is visited: it is marked if a table holds it. If it was not marked it may be
  -- scanned by the same look, which then counts as two.
  pub kept_visit : (scanned : Bool) (m : MarksView) (c : PassProgress) (x : ℕ) → (scanned ≡ true → is_due w m x ≡ true) → IsWhole w → c.stage ≡ Marking → IsLive w x → c.visited ≤ x → x < m.bound → ((g : ℕ) → c.visited ≤ g → g < x → is_live w g ≡ false)
      → PassInvariant w begun m c → PassInvariant w begun (after_visit scanned (held_by w x) (tabled w x) x m) (record c { visited = x + 1; looked = c.looked + units_of scanned })
  kept_visit scanned m c x may whole e l from low none k = by scanned refl where
    known : knows m x ≡ true
    known = k.known x ∙ l

    grey : InTable w x → PassInvariant w begun (shaded x m) c
    grey t = kept_shaded m c x (ap is_marking e) l (λ g. (in_marking e k).running.since.stray.tables x g t) k

    here : (n : MarksView) (d : PassProgress) → d.stage ≡ Marking → d.visited ≤ x → ((g : ℕ) → d.visited ≤ g → g < x → is_live w g ≡ false) → n.bound ≡ m.bound → (InTable w x → is_marked n x ≡ true) → PassInvariant w begun n d → PassInvariant w begun n (record d { visited = x + 1; looked = d.looked + 1 })
    here n d y f g same is i = visit_tabled n d x whole y l f (subst (λ b. x < b) (sym same) low) g is i

    marks : PassInvariant w begun (visited false (tabled w x) x m) (record c { visited = x + 1; looked = c.looked + 1 })
    marks = cases (nat_lt 0 (tabled w x)) refl where
      cases : (b : Bool) → nat_lt 0 (tabled w x) ≡ b → PassInvariant w begun (if b then shaded x m else m) (record c { visited = x + 1; looked = c.looked + 1 })
      cases true d = here (shaded x m) c e from none (bound_shaded m x) (λ _. itself_marked m x known low) (grey (InTable-tabled w x (ltb-true 0 (tabled w x) d)))
      cases false d =
          let untabled = ltb-false 0 (tabled w x) d in
          here m c e from none refl (λ t. let some = tabled-InTable w x t in absurd (omega (arith, untabled, some))) k

    held : List ℕ
    held = held_by w x

    scans : is_due w m x ≡ true → PassInvariant w begun (shaded_all held (visited true (tabled w x) x m)) (record c { visited = x + 1; looked = c.looked + 2 })
    scans h =
        let due = and_parts (nat_lt 0 (tabled w x)) (nat_lt x m.bound && is_white m x) h in
        let t = InTable-tabled w x (ltb-true 0 (tabled w x) due.0) in
        let all = shaded_all held (shaded x m) in
        let black = kept_scan (shaded x m) c x whole e (shaded_grey m x due.1) (grey t) in
        let marked = ap (λ t. t x) (marked_blackened all x) ∙ stays_marked_all held (shaded x m) x (itself_marked m x known low) in
        let past = here (blackened x all) (record c { looked = c.looked + 1 }) e from none (bound_blackened all x ∙ bound_shaded_all held (shaded x m) ∙ bound_shaded m x) (λ _. marked) black in
        let once : visited true (tabled w x) x m ≡ blackened x (shaded x m) = (λ i. if due.0 i then (if due.1 i then record m { colors = map.insert m.colors x Black } else m) else m) ∙ sym (shaded_black m x due.1) in
        let is : blackened x all ≡ shaded_all held (visited true (tabled w x) x m) = sym (ap (shaded_all held) once ∙ shaded_all_after held (shaded x m) x (shaded_grey m x due.1)) in
        let counts : c.looked + 1 + 1 ≡ c.looked + 2 = omega arith in
        subst (λ n. PassInvariant w begun (shaded_all held (visited true (tabled w x) x m)) (record c { visited = x + 1; looked = n })) counts (subst (λ n. PassInvariant w begun n (record c { visited = x + 1; looked = c.looked + 1 + 1 })) is past)

    by : (s : Bool) → scanned ≡ s → PassInvariant w begun (after_visit s (held_by w x) (tabled w x) x m) (record c { visited = x + 1; looked = c.looked + units_of s })
    by true y = scans (may y)
    by false y = marks

  -- Marking ends, where all are visited and none is grey.
  pub kept_finish : (m : MarksView) (c : PassProgress) → IsWhole w → c.stage ≡ Marking → ((f : ℕ) → c.visited ≤ f → f < m.bound → is_live w f ≡ false) → ((f : ℕ) → is_grey m f ≡ false)
      → PassInvariant w begun m c → PassInvariant w begun m (record c { stage = Sweeping; visited = m.bound })
  kept_finish m c whole e none greys k =
      let p = in_marking e k in
      let r = p.running in
      let same : (f : ℕ) → IsLive w f → below c.visited f ≡ below m.bound f = λ f live. elim (cases_lt f c.visited) [
        | inl d ↦ let low = p.visited_low in lt_same f c.visited m.bound d (omega (arith, d, low))
        | inr d ↦ elim (cases_lt f m.bound) [
          | inl g ↦ absurd (false≢true (sym (none f d g) ∙ live))
          | inr g ↦ ge_same f c.visited m.bound d g
        ]
      ] in
      record {
        known = k.known;
        stage = record {
          running = record {
            since = r.since;
            marked = r.marked;
            counted = skip_counted (below c.visited) (below m.bound) (is_scanned (is_marked m) (is_grey m)) (below c.swept) (below c.swept) c.looked same (λ f l. refl) r.counted;
            low = r.low;
          };
          sweeping = subst (IsSweeping begun w (is_marked m) (below c.swept)) (sym p.none_reclaimed)
              (sweeping_begin m.bound r.since (is_marked m) (is_grey m) (below m.bound) (skip_marking (is_marked m) (is_grey m) (below c.visited) (below m.bound) whole same p.marking)
              (λ f b. lt-ltb f m.bound b) greys (below c.swept) (λ f. none_below c.swept f p.unswept));
        };
      }

  -- A live file more is swept, which counts one file more.
  counted_swept : (m : MarksView) (c : PassProgress) (x : ℕ) → IsLive w x → c.swept ≤ x → x < m.bound → ((g : ℕ) → c.swept ≤ g → g < x → is_live w g ≡ false)
      → IsRunning w begun m c → AreCounted begun w (below c.visited) (is_scanned (is_marked m) (is_grey m)) (below (x + 1)) (c.looked + 1)
  counted_swept m c x l from low none r =
      sweep_counted (below c.visited) (below c.visited) (is_scanned (is_marked m) (is_grey m)) (below c.swept) (below (x + 1)) c.looked x (r.since.old x l low) l (le-ltb x c.swept from) (lt-ltb x (x + 1) (omega arith)) (past_one w x c.swept from none) r.counted

  -- The next live file is swept, where it is marked: it stays as it is.
  pub kept_swept_marked : (m : MarksView) (c : PassProgress) (x : ℕ) → c.stage ≡ Sweeping → IsLive w x → c.swept ≤ x → x < m.bound → ((g : ℕ) → c.swept ≤ g → g < x → is_live w g ≡ false) → is_marked m x ≡ true
      → PassInvariant w begun m c → PassInvariant w begun m (record c { swept = x + 1; looked = c.looked + 1 })
  kept_swept_marked m c x e l from low none is k =
      let p = in_sweeping e k in
      let r = p.running in
      let d : PassProgress = record c { swept = x + 1; looked = c.looked + 1 } in
      let same = past_one w x c.swept from none in
      let q : IsInSweeping w begun m d = record {
        running = record { since = r.since; marked = r.marked; counted = counted_swept m c x l from low none r; low = r.low };
        sweeping = sweeping_marked begun w x (is_marked m) (below c.swept) (below (x + 1)) c.reclaimed r.since.stray is same p.sweeping;
      } in
      record { known = k.known; stage = subst (λ s. IsStage s w begun m d) (sym e) q }

  -- The next live file is swept: it is emptied.
  pub kept_swept : (m : MarksView) (c : PassProgress) (x : ℕ) → c.stage ≡ Sweeping → IsLive w x → c.swept ≤ x → x < m.bound → ((g : ℕ) → c.swept ≤ g → g < x → is_live w g ≡ false)
      → PassInvariant w begun m c → PassInvariant (emptied (nat_eq x) w) begun m (record c { swept = x + 1; looked = c.looked + 1 })
  kept_swept m c x e l from low none k =
      let p = in_sweeping e k in
      let r = p.running in
      let d : PassProgress = record c { swept = x + 1; looked = c.looked + 1 } in
      let v : Moves begun w (emptied (nat_eq x) w) = moves_sweep begun w x in
      let q : IsInSweeping (emptied (nat_eq x) w) begun m d = record {
        running = record {
          since = since_moves v m.bound (λ f l _. sym (live-emptied (nat_eq x) w f) ∙ l) r.since;
          marked = r.marked;
          counted = counted_moves v (below c.visited) (is_scanned (is_marked m) (is_grey m)) (below (x + 1)) (c.looked + 1) (counted_swept m c x l from low none r);
          low = r.low;
        };
        sweeping = sweeping_sweep begun w x (is_marked m) (below c.swept) (below (x + 1)) c.reclaimed (past_one w x c.swept from none) p.sweeping;
      } in
      record { known = known_world (emptied (nat_eq x) w) w m (live-emptied (nat_eq x) w) k.known; stage = subst (λ s. IsStage s (emptied (nat_eq x) w) begun m d) (sym e) q }

  -- While sweeping, a live unmarked file of the begin is garbage of the begin.
  pub swept_garbage : (m : MarksView) (c : PassProgress) (x : ℕ) → c.stage ≡ Sweeping → IsLive w x → x < m.bound → is_marked m x ≡ false → PassInvariant w begun m c → Garbage begun x
  swept_garbage m c x e l low unmarked k =
      let p = in_sweeping e k in
      p.sweeping.unmarked x (p.running.since.old x l low) l unmarked

  -- Where no garbage of the begin is live, the sockets of it were counted.
  pub counted_all : {m : MarksView} {c : PassProgress} → is_running c.stage ≡ true → ((f : ℕ) → Garbage begun f → ¬ (IsLive w f)) → PassInvariant w begun m c → IsGarbageCount begun c.reclaimed
  counted_all {m = m} {c = c} t none k = by c.stage refl k.stage where
    by : (s : Stage) → c.stage ≡ s → IsStage s w begun m c → IsGarbageCount begun c.reclaimed
    by Resting e p = absurd (false≢true (sym (ap is_running e) ∙ t))
    by Marking e p = subst (IsGarbageCount begun) (sym p.none_reclaimed) (reclaimed_none none (is_marked m) (is_grey m) (below c.visited) p.marking)
    by Sweeping e p = reclaimed_all none (is_marked m) (below c.swept) c.reclaimed p.sweeping

  -- Where a table holds each live file, no garbage of the begin is live.
  pub none_tabled : {m : MarksView} {c : PassProgress} → is_running c.stage ≡ true → ((f : ℕ) → IsLive w f → InTable w f) → PassInvariant w begun m c → (f : ℕ) → Garbage begun f → ¬ (IsLive w f)
  none_tabled {m = m} {c = c} t tabled k f g l = by c.stage t k.stage where
    by : (s : Stage) → is_running s ≡ true → IsStage s w begun m c → ⊥
    by Resting e p = false≢true e
    by Marking e p = p.running.since.stray.tables f g (tabled f l)
    by Sweeping e p = p.running.since.stray.tables f g (tabled f l)

  -- Where each live file of the begin is marked, no garbage of the begin is live.
  pub none_marked : {m : MarksView} {c : PassProgress} → is_running c.stage ≡ true → ((f : ℕ) → knows m f ≡ true → f < m.bound → is_marked m f ≡ true) → PassInvariant w begun m c → (f : ℕ) → Garbage begun f → ¬ (IsLive w f)
  none_marked {m = m} {c = c} t marked k f g l = by c.stage t k.stage where
    by : (s : Stage) → is_running s ≡ true → IsStage s w begun m c → ⊥
    by Resting e p = false≢true e
    by Marking e p = false≢true (sym (p.marking.marks.only_reached f g) ∙ marked f (k.known f ∙ l) (p.running.since.below f g.0))
    by Sweeping e p = false≢true (sym (p.sweeping.only_reached f g) ∙ marked f (k.known f ∙ l) (p.running.since.below f g.0))

  -- Where all are swept in a settled world, no garbage of the begin is live.
  pub kept_over : (m : MarksView) (c : PassProgress) → c.stage ≡ Sweeping → IsSettled w → ((f : ℕ) → c.swept ≤ f → f < m.bound → is_live w f ≡ false) → PassInvariant w begun m c → (f : ℕ) → Garbage begun f → ¬ (IsLive w f)
  kept_over m c e settled none k =
      let p = in_sweeping e k in
      let r = p.running in
      none_left m.bound r.since (is_marked m) (below c.swept) c.reclaimed p.sweeping settled (λ f l b. elim (cases_lt f c.swept) [
        | inl d ↦ lt-ltb f c.swept d
        | inr d ↦ absurd (false≢true (sym (none f d b) ∙ l))
      ])

module _ (w begun : World) (m : MarksView) (c : PassProgress) (x : ℕ) (l : IsLive w x) (t : ¬ (InTable w x)) (hs : (q : ℕ) → ¬ (Holds w q x)) (bare : held_by w x ≡ []) where
  -- With x forgotten the pass runs in the world without x.
  rest_running : IsRunning w begun m c → IsRunning (without (nat_eq x) w) begun (forgotten x m) (counted w m x c)
  rest_running r =
      running_of (forgotten x m) (counted w m x c) (marked_forgotten m x) (grey_forgotten m x) refl (since_drop begun w x m.bound r.since)
      (λ f e. r.marked f (and_parts (is_marked m f) (not (nat_eq x f)) e).0) (counted_drop begun w x (is_marked m) (is_grey m) (below c.visited) (below c.swept) c.looked r.counted) r.low

  -- An unheld and empty file is freed: it is forgotten, and counted if sweeping and it is an
  -- unmarked socket of the begin.
  pub kept_gone : PassInvariant w begun m c → PassInvariant (without (nat_eq x) w) begun (forgotten x m) (counted w m x c)
  kept_gone k = record { known = known_gone w x m k.known; stage = by c.stage refl k.stage } where
    by : (s : Stage) → c.stage ≡ s → IsStage s w begun m c → IsStage s (without (nat_eq x) w) begun (forgotten x m) (counted w m x c)
    by Resting e p = tt
    by Marking e p =
        let s = p.running.since in
        let spared = never_garbage m.bound s (is_marked m) (is_grey m) (below c.visited) p.marking x l t hs in
        record {
          running = rest_running p.running;
          marking = marking_of (below c.visited) (marked_forgotten m x) (grey_forgotten m x)
              (marking_drop begun w x m.bound s (is_marked m) (is_grey m) (below c.visited) spared (λ f _ h. absurd (Contains-none f (subst (λ fs. Contains fs f) bare h))) p.marking);
          unswept = p.unswept;
          none_reclaimed = ap (λ z. c.reclaimed + (if is_sweeping z && (is_socket_at w x && (nat_lt x m.bound && not (is_marked m x))) then 1 else 0)) e ∙ add-zero c.reclaimed ∙ p.none_reclaimed;
          visited_low = p.visited_low;
        }
    by Sweeping e p =
        let r = p.running in
        let of_begun : nat_lt x m.bound ≡ is_live begun x = elim (cases_lt x m.bound) [
          | inl b ↦ lt-ltb x m.bound b ∙ sym (r.since.old x l b)
          | inr b ↦ le-ltb x m.bound b ∙ sym (elim (cases_Bool (is_live begun x)) [ inl y ↦ let z = r.since.below x y in absurd (omega (arith, z, b)) | inr z ↦ z ])
        ] in
        let same : is_counted w m c x ≡ is_reclaimed begun w x (is_marked m) =
        ap (λ z. is_sweeping z && (is_socket_at w x && (nat_lt x m.bound && not (is_marked m x)))) e ∙ ap (λ b. is_socket_at w x && (b && not (is_marked m x))) of_begun in
        record {
          running = rest_running r;
          sweeping = subst (λ a. a) (λ i. IsSweeping begun (without (nat_eq x) w) (sym (marked_forgotten m x) i) (below c.swept) (c.reclaimed + (if sym same i then 1 else 0)))
              (sweeping_drop begun w x m.bound r.since (is_marked m) (below c.swept) c.reclaimed l p.sweeping);
        }

-- A pass begins in a sound world, with no file marked.
pub kept_begin : (w : World) (m n : MarksView) (d : PassProgress) → IsSound w → AreKnown w m → ((f : ℕ) → is_marked n f ≡ false) → ((f : ℕ) → knows n f ≡ knows m f) → n.bound ≡ w.next_ino
    → d ≡ record { stage = Marking; visited = 0; swept = 0; looked = 0; reclaimed = 0 } → PassInvariant w w n d
kept_begin w m n d sound known unmarked same bound is = subst (λ d. PassInvariant w w n d) (sym is) (record {
  known = known_marks w m n same known;
  stage = record {
    running = record {
      since = since_begin w n.bound sound (λ f l. let low = sound.whole.files_numbered f l in omega (arith, low, bound));
      marked = λ f e. absurd (false≢true (sym (unmarked f) ∙ e));
      counted = counted_begin w (is_marked n) (is_grey n) (below 0) unmarked (λ f. none_below 0 f refl) (below 0) (λ f. none_below 0 f refl);
      low = omega (arith, bound);
    };
    marking = marking_begin w (is_marked n) (is_grey n) (below 0) unmarked (λ f. none_below 0 f refl);
    unswept = refl;
    none_reclaimed = refl;
    visited_low = omega arith;
  };
})
