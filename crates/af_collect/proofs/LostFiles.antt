-- The files that a file is about to lose are shaded, and then lost.
use Rattle.std.proofs.Common.{◌≡◌, ◌<◌, ◌≤◌, ◌+◌, ℕ, Bool, true, false, List, [], ◌∷◌, ◌++◌, drop, refl, sym, ap, ◌∙◌, subst, nat_eq, arith, inl, inr}
use Rattle.std.specs.Prelude.{Option, Some, None, length, slice_get, take, unwrap_or, if◌then◌else◌}
use Rattle.std.specs.FinMap as map
use Rattle.std.specs.List.{Contains}
use Rattle.std.specs.Option.{option_map_or}
use Rattle.std.proofs.lemmas.Bool.{cases_lt}
use Rattle.std.proofs.lemmas.List.Elements.{Contains-append_cases, Contains-append_left, Contains-append_right}
use Rattle.af_base.specs.World.{File, IsLive, Message, World, is_live}
use Rattle.af_base.specs.Changes.{dequeued, with_queue, with_socket}
use Rattle.af_base.specs.Counts.{refs}
use Rattle.af_base.specs.Places.{Holds, InTable, attached_in, backlog_at, backlog_of, contents, held_by, queue_at, queue_of, table_at}
use Rattle.af_base.specs.Reached.{Garbage}
use Rattle.af_base.specs.Whole.{IsWhole}
use Rattle.af_base.proofs.Elements.{Contains-first}
use Rattle.af_base.proofs.PlacesAndCounts.{held_by_none}
use Rattle.af_base.proofs.Lookups.{none_some}
use Rattle.af_base.proofs.PlaceMoves.{live-changed}
use Rattle.af_base.proofs.SettledWorlds.{none_in}
use Rattle.af_collect.specs.Losing.{without_place}
use Rattle.af_mark.specs.MarksView.{MarksView, is_marked, shaded}
use Rattle.af_collect.specs.declared.progress.PassProgress.{PassProgress}
use Rattle.af_collect.specs.Since.{Covers, Moves}
use Rattle.af_collect.specs.Keeping.{PassInvariant, below, first_held, is_marking, shaded_all, shaded_in}
use Rattle.af_collect.proofs.PassChanges.{in_marking, kept_moves, kept_shaded, kept_shaded_all, marking_only}
use Rattle.af_collect.proofs.ShadedMarks.{all_marked, stays_marked}
use Rattle.af_collect.proofs.SocketChanges.{covers_dequeued, covers_popped, moves_dequeued, moves_popped}
use Rattle.af_collect.proofs.SparedFiles.{waiting_held}

-- The first of a list is in the list of it alone.
pub first_taken : (xs : List ℕ) (f : ℕ) → slice_get xs 0 ≡ Some f → Contains (take 1 xs) f
first_taken [] f e = absurd (none_some f e)
first_taken (x ∷ xs) f e = (0, omega arith, ap (λ o. unwrap_or o f) e)

-- The first message carries what a queue of it alone carries.
first_carried : (q : List Message) (m : Message) (f : ℕ) → slice_get q 0 ≡ Some m → Contains m.attached f → Contains (attached_in (take 1 q)) f
first_carried [] m f e h = absurd (none_some m e)
first_carried (x ∷ q) m f e h = Contains-append_left x.attached [] f (subst (λ y. Contains y.attached f) (sym (ap (λ o. unwrap_or o m) e)) h)

-- An element of the first of a list is in the list.
taken_there : (xs : List ℕ) (f : ℕ) → Contains (take 1 xs) f → Contains xs f
taken_there [] f h = h
taken_there (x ∷ xs) f h = Contains-append_left (x ∷ []) xs f h

-- The queue carries the files of its first message.
carried_there : (q : List Message) (f : ℕ) → Contains (attached_in (take 1 q)) f → Contains (attached_in q) f
carried_there [] f h = h
carried_there (m ∷ q) f h = elim (Contains-append_cases m.attached [] f h) [
  | inl y ↦ Contains-append_left m.attached (attached_in q) f y
  | inr y ↦ absurd (none_in f y)
]

module _ (w : World) (s : ℕ) where
  -- A file holds what its queue carries, and then its embryos.
  pub held_parts : held_by w s ≡ attached_in (queue_at w s) ++ backlog_at w s
  held_parts = by (map.get w.files s) where
    by : (o : Option File) → option_map_or contents o [] ≡ attached_in (option_map_or queue_of o []) ++ option_map_or backlog_of o []
    by None = refl
    by (Some x) = refl

  -- A file holds its first embryo.
  pub embryo_held : (f : ℕ) → Contains (take 1 (backlog_at w s)) f → Holds w s f
  embryo_held f h = subst (λ xs. Contains xs f) (sym held_parts) (Contains-append_right (attached_in (queue_at w s)) (backlog_at w s) f (taken_there (backlog_at w s) f h))

  -- A file holds what it would lose first.
  first_holds : (f : ℕ) → Contains (first_held w s) f → Holds w s f
  first_holds f h = by (nat_eq (length (queue_at w s)) 0) h where
    by : (b : Bool) → Contains (if b then take 1 (backlog_at w s) else attached_in (take 1 (queue_at w s))) f → Holds w s f
    by true y = embryo_held f y
    by false y = subst (λ xs. Contains xs f) (sym held_parts) (Contains-append_left (attached_in (queue_at w s)) (backlog_at w s) f (carried_there (queue_at w s) f y))

  -- A file that loses the first of what it holds: the same files are live.
  live_lost : (f : ℕ) → is_live (without_place w s) f ≡ is_live w f
  live_lost f = by (nat_eq (length (queue_at w s)) 0) where
    by : (b : Bool) → is_live (if b then with_socket w s dequeued else with_queue w s (drop 1 (queue_at w s))) f ≡ is_live w f
    by true = live-changed w s dequeued f
    by false = live-changed w s (λ x. record x { queue = drop 1 (queue_at w s) }) f

  -- And the next number is the same.
  next_lost : (without_place w s).next_ino ≡ w.next_ino
  next_lost = by (nat_eq (length (queue_at w s)) 0) where
    by : (b : Bool) → (if b then with_socket w s dequeued else with_queue w s (drop 1 (queue_at w s))).next_ino ≡ w.next_ino
    by true = refl
    by false = refl

  -- It comes to no new place.
  moves_lost : (begun : World) → Moves begun w (without_place w s)
  moves_lost begun = by (nat_eq (length (queue_at w s)) 0) where
    by : (b : Bool) → Moves begun w (if b then with_socket w s dequeued else with_queue w s (drop 1 (queue_at w s)))
    by true = moves_dequeued begun w s
    by false = moves_popped begun w s

  -- The lost files are no garbage, and are marked, if they are of the begin.
  covers_lost : (begun : World) (marked visited : ℕ → Bool) → ((f : ℕ) → Contains (first_held w s) f → (IsLive begun f → marked f ≡ true) × (¬ (Garbage begun f))) → Covers begun w (without_place w s) marked visited
  covers_lost begun marked visited was = by (nat_eq (length (queue_at w s)) 0) was where
    by : (b : Bool) → ((f : ℕ) → Contains (if b then take 1 (backlog_at w s) else attached_in (take 1 (queue_at w s))) f → (IsLive begun f → marked f ≡ true) × (¬ (Garbage begun f)))
        → Covers begun w (if b then with_socket w s dequeued else with_queue w s (drop 1 (queue_at w s))) marked visited
    by true each = covers_dequeued begun w s marked visited (λ f first l. (each f (first_taken (backlog_at w s) f first)).0 l) (λ f first. (each f (first_taken (backlog_at w s) f first)).1)
    by false each = covers_popped begun w s marked visited (λ m f first h. each f (first_carried (queue_at w s) m f first h))

module _ {w begun : World} {m : MarksView} {c : PassProgress} where
  -- A live file that is one of these is marked where they are shaded, if it is of the begin.
  pub marked_there : (fs : List ℕ) (f : ℕ) → is_marking c.stage ≡ true → Contains fs f → IsLive w f → PassInvariant w begun m c → IsLive begun f → is_marked (shaded_all fs m) f ≡ true
  marked_there fs f t h l k b = all_marked fs m f h (k.known f ∙ l) ((in_marking (marking_only c.stage t) k).running.since.below f b)

  -- The files of a table are shaded.
  pub kept_tabled : (f : ℕ) → IsWhole w → is_marking c.stage ≡ true → InTable w f → PassInvariant w begun m c → PassInvariant w begun (shaded f m) c
  kept_tabled f whole t h k = kept_shaded m c f t (whole.tables_live f h) (λ g. (in_marking (marking_only c.stage t) k).running.since.stray.tables f g h) k

  -- The file of a descriptor is marked when it is shaded, if it is of the begin.
  pub marked_number : (p n x f : ℕ) → IsWhole w → is_marking c.stage ≡ true → table_at w p n ≡ Some x → PassInvariant w begun m c → table_at w p n ≡ Some f → IsLive begun f → is_marked (shaded x m) f ≡ true
  marked_number p n x f whole t here k at b =
      let same : f ≡ x = ap (λ o. unwrap_or o f) (sym at ∙ here) in
      subst (λ y. is_marked (shaded y m) f ≡ true) same (marked_there (f ∷ []) f t (Contains-first f []) (whole.tables_live f (p, n, at)) k b)

  module _ (p n x : ℕ) (whole : IsWhole w) (here : table_at w p n ≡ Some x) where
    -- The file of a descriptor is shaded while marking, and the invariant is kept.
    pub kept_closed : PassInvariant w begun m c → PassInvariant w begun (shaded_in c.stage (x ∷ []) m) c
    kept_closed k = by (is_marking c.stage) refl where
      by : (b : Bool) → is_marking c.stage ≡ b → PassInvariant w begun (if b then shaded x m else m) c
      by true t = kept_tabled x whole t (p, n, here) k
      by false t = k

    -- It is marked then, if it is of the begin.
    pub marked_closed : is_marking c.stage ≡ true → PassInvariant w begun m c → (f : ℕ) → table_at w p n ≡ Some f → IsLive begun f → is_marked (shaded_in c.stage (x ∷ []) m) f ≡ true
    marked_closed t k f at b = ap (λ a. is_marked (if a then shaded x m else m) f) t ∙ marked_number p n x f whole t here k at b

  -- All descriptors up to one are done, if those before were, none follows, and its file is shaded.
  pub marked_next : (p next n x : ℕ) → IsWhole w → is_marking c.stage ≡ true → table_at w p n ≡ Some x → ((q : ℕ) → next ≤ q → q < n → table_at w p q ≡ None) → PassInvariant w begun m c
      → ((q f : ℕ) → q < next → table_at w p q ≡ Some f → IsLive begun f → is_marked m f ≡ true) → (q f : ℕ) → q < n + 1 → table_at w p q ≡ Some f → IsLive begun f → is_marked (shaded x m) f ≡ true
  marked_next p next n x whole t here least k before q f low at b = elim (cases_lt q next) [
    | inl y ↦ stays_marked m x f (before q f y at b)
    | inr y ↦ elim (cases_lt q n) [
      | inl z ↦ absurd (none_some f (sym (least q y z) ∙ at))
      | inr z ↦ let same : q ≡ n = omega (arith, low, z) in marked_number p n x f whole t here k (ap (table_at w p) (sym same) ∙ at) b
    ]
  ]

  -- The files held by a file that is no garbage are shaded.
  pub kept_held : (fs : List ℕ) (s : ℕ) → IsWhole w → is_marking c.stage ≡ true → ¬ (Garbage begun s) → ((f : ℕ) → Contains fs f → Holds w s f) → PassInvariant w begun m c → PassInvariant w begun (shaded_all fs m) c
  kept_held fs s whole t spared held k =
      kept_shaded_all fs m c t (λ f h. (whole.queues_live s f (held f h), λ g. spared ((in_marking (marking_only c.stage t) k).running.since.stray.queues s f (held f h) g))) k

  module _ (x : ℕ) (whole : IsWhole w) (l : IsLive w x) (none : refs w x ≡ 0) where
    -- While marking, an unheld file is no garbage, and nor are the files that it holds.
    unheld_spared : is_marking c.stage ≡ true → PassInvariant w begun m c → (¬ (Garbage begun x)) × ((f : ℕ) → Holds w x f → ¬ (Garbage begun f))
    unheld_spared t k = let no = held_by_none w x none in waiting_held x t l no.0 no.1 k

    -- The files that it would lose first are shaded.
    pub kept_first : is_marking c.stage ≡ true → PassInvariant w begun m c → PassInvariant w begun (shaded_all (first_held w x) m) c
    kept_first t k = kept_held (first_held w x) x whole t (unheld_spared t k).0 (first_holds w x) k

    -- It loses the first of its files, which are shaded while marking.
    pub kept_lost : (n : MarksView) → (is_marking c.stage ≡ true → n ≡ shaded_all (first_held w x) m) → PassInvariant w begun m c → PassInvariant w begun n c → PassInvariant (without_place w x) begun n c
    kept_lost n is k k' = kept_moves n c (omega (arith, next_lost w x)) (live_lost w x) (λ _. moves_lost w x begun)
        (λ t. covers_lost w x begun (is_marked n) (below c.visited) (λ f h. (
          λ b. subst (λ o. is_marked o f ≡ true) (sym (is t)) (marked_there (first_held w x) f t h (whole.queues_live x f (first_holds w x f h)) k b),
          (unheld_spared t k).1 f (first_holds w x f h),
        ))) k'
