-- Changes of a socket, and files that are made, as changes of places.
use Rattle.std.proofs.Common.{◌≡◌, ◌<◌, ℕ, ◌+◌, Bool, false, ◌⊎◌, inl, inr, [], sym, ap, ◌∙◌, subst, arith, zero, suc, true, List, ◌∷◌, ◌++◌, drop, length, refl, cond}
use Rattle.std.specs.Prelude.{is_some, Option, Some, None, option_map, slice_get}
use Rattle.std.specs.Option.{option_map_or}
use Rattle.std.specs.List.{Contains, slice_index_or}
use Rattle.std.specs.FinMap as map
use Rattle.std.specs.Ordering.{nat_cmp, eq_by_cmp}
use Rattle.std.proofs.lemmas.List.Elements.{Contains-append_cases, Contains-append_left, Contains-append_right, Contains-push_cases}
use Rattle.af_base.specs.World.{AsSocket, File, IsLive, World, Message, Plain, Socket}
use Rattle.af_base.specs.Places.{Holds, contents, attached_in, backlog_at, backlog_of, queue_at, queue_of}
use Rattle.af_base.specs.Reached.{is_socket, Garbage}
use Rattle.af_base.specs.Changes.{add_file, dequeued, file_with, push_message, pushed, queued, with_queue, with_socket}
use Rattle.af_base.proofs.Lookups.{insert-here, insert-other, same_or_not}
use Rattle.af_base.proofs.PlaceMoves.{holds-there, there-holds, held-changed, live-changed}
use Rattle.af_base.proofs.SettledWorlds.{none_in}
use Rattle.af_base.specs.Take.{take_from}
use Rattle.af_base.proofs.Embryos.{Contains-dropped}
use Rattle.af_base.proofs.Places.{carried-push}
use Rattle.af_base.proofs.AllowedSteps.{get-change_at}
use Rattle.af_base.proofs.ReceivedFiles.{AreWithin, leaves-taken}
use Rattle.af_collect.specs.Since.{Covers, Moves, is_socket_at}
use Rattle.af_collect.proofs.TablePlaces.{changed-then}

-- All files of the world have numbers below this one.
abbrev pub AreFilesBelow : World → ℕ → Type 0
AreFilesBelow w n = (f : ℕ) → IsLive w f → f < n

module _ (w : World) (x : File) where
  -- A descriptor refers to the new file, or to the same file as before.
  new_or_same : (q : ℕ) → (q ≡ w.next_ino) ⊎ (map.get (add_file w x).files q ≡ map.get w.files q)
  new_or_same q = elim (same_or_not q w.next_ino) [ inl e ↦ inl e | inr e ↦ inr (insert-other w.files w.next_ino x q e) ]

  -- A file with a lower number is unchanged.
  lower_same : (q : ℕ) → q < w.next_ino → map.get (add_file w x).files q ≡ map.get w.files q
  lower_same q low = elim (new_or_same q) [ inl e ↦ absurd (omega (arith, e, low)) | inr e ↦ e ]

  -- With a file more the numbers are below the next one again.
  pub below-add_file : AreFilesBelow w w.next_ino → AreFilesBelow (add_file w x) (w.next_ino + 1)
  below-add_file numbered f l = elim (new_or_same f) [
    | inl e ↦ omega (arith, e)
    | inr e ↦ let low = numbered f (sym (ap is_some e) ∙ l) in omega (arith, low)
  ]

  -- A file more, which holds nothing, and is none of the begin.
  pub moves_add_file : (begun : World) → contents x ≡ [] → AreFilesBelow begun w.next_ino → Moves begun w (add_file w x)
  moves_add_file begun empty below = record {
    live_same = λ f b. ap is_some (lower_same f (below f b));
    live_stay = λ f l. elim (new_or_same f) [ inl e ↦ ap is_some (ap (map.get (add_file w x).files) e ∙ insert-here w.files w.next_ino x) | inr e ↦ ap is_some e ∙ l ];
    kind_same = λ f b. ap (λ o. option_map_or is_socket o false) (lower_same f (below f b));
    queues_gain = λ q f h. elim (new_or_same q) [
      | inl e ↦ absurd (none_in f (subst (λ xs. Contains xs f) (ap (λ o. option_map_or contents o []) (ap (map.get (add_file w x).files) e ∙ insert-here w.files w.next_ino x) ∙ empty) h))
      | inr e ↦ inl (subst (λ o. Contains (option_map_or contents o []) f) e h)
    ];
    tables_gain = λ f t. inl t;
  }

  -- A file more, with a number above all: nothing is lost.
  pub covers_add_file : (begun : World) (marked visited : ℕ → Bool) → AreFilesBelow w w.next_ino → Covers begun w (add_file w x) marked visited
  covers_add_file begun marked visited numbered = record {
    queues_keep = λ q f g h. on q f h;
    queues_lose = λ q f l h. inl (on q f h);
    tables_lose = λ f l v t. inl t;
  } where
    on : (q f : ℕ) → Holds w q f → Holds (add_file w x) q f
    on q f h = let was = holds-there w q f h in there-holds (add_file w x) q f was.0 (lower_same q (numbered q (ap is_some was.1)) ∙ was.1) was.2

-- ---- a changed socket

-- An element common to two lists is common to two others, or a fact holds, if so for each.
pairwise : {A : Type 0} (xs ys us vs : List ℕ) (f : ℕ) → (Contains xs f → Contains us f ⊎ A) → (Contains ys f → Contains vs f ⊎ A) → Contains (xs ++ ys) f → Contains (us ++ vs) f ⊎ A
pairwise xs ys us vs f left right h = elim (Contains-append_cases xs ys f h) [
  | inl y ↦ elim (left y) [ inl z ↦ inl (Contains-append_left us vs f z) | inr z ↦ inr z ]
  | inr y ↦ elim (right y) [ inl z ↦ inl (Contains-append_right us vs f z) | inr z ↦ inr z ]
]

-- An element of a list is in it without its first, or is the first.
first_or_later : (xs : List ℕ) (f : ℕ) → Contains xs f → Contains (drop 1 xs) f ⊎ (slice_get xs 0 ≡ Some f)
first_or_later [] f h = inl h
first_or_later (x ∷ xs) f h = by h.0 h.1 h.2 where
  by : (k : ℕ) → k < length (x ∷ xs) → slice_index_or (x ∷ xs) k f ≡ f → Contains xs f ⊎ (Some x ≡ Some f)
  by zero l is = inr (ap Some is)
  by (suc k) l is = inl (k, omega (arith, l), is)

module _ (w : World) (s : ℕ) (g : Socket → Socket) where
  -- A socket stays a socket.
  pub kind-changed : (q : ℕ) → is_socket_at (with_socket w s g) q ≡ is_socket_at w q
  kind-changed q = ap (λ o. option_map_or is_socket o false) (get-change_at (file_with g) w.files s q) ∙ each (eq_by_cmp nat_cmp q s) (map.get w.files q) where
    each : (b : Bool) (o : Option File) → option_map_or is_socket (option_map (λ x. cond b (file_with g x) x) o) false ≡ option_map_or is_socket o false
    each b None = refl
    each true (Some Plain) = refl
    each true (Some (AsSocket x)) = refl
    each false (Some x) = refl

  -- A file that was held before a socket's change is held after it, or the change removed it.
  pub held-left : {A : Type 0} (q f : ℕ)
      → ((x : Socket) → map.get w.files s ≡ Some (AsSocket x) → Contains (contents (AsSocket x)) f → Contains (contents (AsSocket (g x))) f ⊎ A) → Holds w q f → Holds (with_socket w s g) q f ⊎ A
  held-left {A = A} q f lose h =
      let was = holds-there w q f h in
      elim (changed-then (file_with g) w.files s q was.0 was.1) [
        | inl y ↦ by was.0 was.1 was.2 y.0 y.1
        | inr y ↦ inl (there-holds (with_socket w s g) q f was.0 y was.2)
      ] where
        by : (x : File) → map.get w.files q ≡ Some x → Contains (contents x) f → q ≡ s → map.get (with_socket w s g).files q ≡ Some (file_with g x) → Holds (with_socket w s g) q f ⊎ A
        by Plain at in_it same now = absurd (none_in f in_it)
        by (AsSocket x) at in_it same now = elim (lose x (ap (map.get w.files) (sym same) ∙ at) in_it) [
          | inl y ↦ inl (there-holds (with_socket w s g) q f (AsSocket (g x)) now y)
          | inr y ↦ inr y
        ]

  -- A socket changed, where what comes into it is no garbage.
  pub moves_sock : (begun : World) → ((x : Socket) (f : ℕ) → map.get w.files s ≡ Some (AsSocket x) → Contains (contents (AsSocket (g x))) f → Contains (contents (AsSocket x)) f ⊎ (¬ (Garbage begun f))) → Moves begun w (with_socket w s g)
  moves_sock begun gain = record {
    live_same = λ f l. live-changed w s g f;
    live_stay = λ f l. live-changed w s g f ∙ l;
    kind_same = λ f l. kind-changed f;
    queues_gain = λ q f h. held-changed w s g q f (λ x at k. gain x f at k) h;
    tables_gain = λ f t. inl t;
  }

  -- A change of a socket, if each file that leaves it is no garbage, and marked if of the begin.
  pub covers_sock : (begun : World) (marked visited : ℕ → Bool)
      → ((x : Socket) (f : ℕ) → map.get w.files s ≡ Some (AsSocket x) → Contains (contents (AsSocket x)) f → Contains (contents (AsSocket (g x))) f ⊎ ((IsLive begun f → marked f ≡ true) × (¬ (Garbage begun f)))) → Covers begun w (with_socket w s g) marked visited
  covers_sock begun marked visited lose = record {
    queues_keep = λ q f b h. elim (held-left q f (λ x at k. lose x f at k) h) [ inl y ↦ y | inr y ↦ absurd (y.1 b) ];
    queues_lose = λ q f l h. elim (held-left q f (λ x at k. lose x f at k) h) [ inl y ↦ inl y | inr y ↦ inr (y.0 l) ];
    tables_lose = λ f l v t. inl t;
  }

  module _ (same : (x : Socket) → contents (AsSocket (g x)) ≡ contents (AsSocket x)) where
    -- A socket that holds what it held.
    pub moves_same : (begun : World) → Moves begun w (with_socket w s g)
    moves_same begun = moves_sock begun (λ x f at h. inl (subst (λ xs. Contains xs f) (same x) h))

    -- A socket that holds what it held: nothing is lost.
    pub covers_same : (begun : World) (marked visited : ℕ → Bool) → Covers begun w (with_socket w s g) marked visited
    covers_same begun marked visited = covers_sock begun marked visited (λ x f at h. inl (subst (λ xs. Contains xs f) (sym (same x)) h))

module _ (begun w : World) (s : ℕ) where
  -- A message more, whose files are no garbage.
  pub moves_push : (m : Message) → ((f : ℕ) → Contains m.attached f → ¬ (Garbage begun f)) → Moves begun w (push_message w s m)
  moves_push m spared = moves_sock w s (pushed m) begun (λ x f at h.
      pairwise (attached_in (x.queue ++ m ∷ [])) x.backlog (attached_in x.queue) x.backlog f (λ y. elim (Contains-append_cases (attached_in x.queue) m.attached f (subst (λ xs. Contains xs f) (carried-push x.queue m) y)) [ inl z ↦ inl z | inr z ↦ inr (spared f z) ]) (λ y. inl y) h)

  -- A message more: nothing is lost.
  pub covers_push : (m : Message) (marked visited : ℕ → Bool) → Covers begun w (push_message w s m) marked visited
  covers_push m marked visited = covers_sock w s (pushed m) begun marked visited (λ x f at h.
      pairwise (attached_in x.queue) x.backlog (attached_in (x.queue ++ m ∷ [])) x.backlog f (λ y. inl (subst (λ xs. Contains xs f) (sym (carried-push x.queue m)) (Contains-append_left (attached_in x.queue) m.attached f y))) (λ y. inl y) h)

  -- An embryo more, which is no garbage.
  pub moves_queued : (n : ℕ) → ¬ (Garbage begun n) → Moves begun w (with_socket w s (queued n))
  moves_queued n spared = moves_sock w s (queued n) begun (λ x f at h.
      pairwise (attached_in x.queue) (x.backlog ++ n ∷ []) (attached_in x.queue) x.backlog f (λ y. inl y) (λ y. elim (Contains-push_cases x.backlog n f y) [ inl z ↦ inl z | inr z ↦ inr (subst (λ k. ¬ (Garbage begun k)) z spared) ]) h)

  -- An embryo more: nothing is lost.
  pub covers_queued : (n : ℕ) (marked visited : ℕ → Bool) → Covers begun w (with_socket w s (queued n)) marked visited
  covers_queued n marked visited = covers_sock w s (queued n) begun marked visited (λ x f at h.
      pairwise (attached_in x.queue) x.backlog (attached_in x.queue) (x.backlog ++ n ∷ []) f (λ y. inl y) (λ y. inl (Contains-append_left x.backlog (n ∷ []) f y)) h)

  -- The first embryo gone.
  pub moves_dequeued : Moves begun w (with_socket w s dequeued)
  moves_dequeued = moves_sock w s dequeued begun (λ x f at h. pairwise (attached_in x.queue) (drop 1 x.backlog) (attached_in x.queue) x.backlog f (λ y. inl y) (λ y. inl (Contains-dropped x.backlog f y)) h)

  -- The first embryo gone, which is no garbage, and is marked, if it is of the begin.
  pub covers_dequeued : (marked visited : ℕ → Bool) → ((f : ℕ) → slice_get (backlog_at w s) 0 ≡ Some f → IsLive begun f → marked f ≡ true) → ((f : ℕ) → slice_get (backlog_at w s) 0 ≡ Some f → ¬ (Garbage begun f)) → Covers begun w (with_socket w s dequeued) marked visited
  covers_dequeued marked visited was spared = covers_sock w s dequeued begun marked visited (λ x f at h.
      pairwise (attached_in x.queue) x.backlog (attached_in x.queue) (drop 1 x.backlog) f (λ y. inl y) (λ y. elim (first_or_later x.backlog f y) [
        | inl z ↦ inl z
        | inr z ↦ let first = ap (λ o. slice_get (option_map_or backlog_of o []) 0) at ∙ z in inr (was f first, spared f first)
      ]) h)

  -- Another queue in place of one, with no file that was not in it.
  pub moves_queue : (rest : List Message) → ((f : ℕ) → Contains (attached_in rest) f → Contains (attached_in (queue_at w s)) f) → Moves begun w (with_queue w s rest)
  moves_queue rest fewer = moves_sock w s (λ x. record x { queue = rest }) begun (λ x f at h.
      pairwise (attached_in rest) x.backlog (attached_in x.queue) x.backlog f (λ y. inl (subst (λ o. Contains (attached_in (option_map_or queue_of o [])) f) at (fewer f y))) (λ y. inl y) h)

  -- Another queue in place of one, if what is taken is no garbage, and marked if of the begin.
  pub covers_queue : (rest : List Message) (taken : List ℕ) (marked visited : ℕ → Bool)
      → ((f : ℕ) → Contains (attached_in (queue_at w s)) f → Contains (attached_in rest) f ⊎ Contains taken f) → ((f : ℕ) → Contains taken f → (IsLive begun f → marked f ≡ true) × (¬ (Garbage begun f))) → Covers begun w (with_queue w s rest) marked visited
  covers_queue rest taken marked visited parts was = covers_sock w s (λ x. record x { queue = rest }) begun marked visited (λ x f at h.
      pairwise (attached_in x.queue) x.backlog (attached_in rest) x.backlog f (λ y. elim (parts f (subst (λ o. Contains (attached_in (option_map_or queue_of o [])) f) (sym at) y)) [ inl z ↦ inl z | inr z ↦ inr (was f z) ]) (λ y. inl y) h)

  -- A queue of which these files were taken.
  pub moves_left : (rest : List Message) (taken : List ℕ) → taken ++ attached_in rest ≡ attached_in (queue_at w s) → Moves begun w (with_queue w s rest)
  moves_left rest taken is = moves_queue rest (λ f h. subst (λ xs. Contains xs f) is (Contains-append_right taken (attached_in rest) f h))

  -- A queue without these files, which are no garbage, and marked if they are of the begin.
  pub covers_left : (rest : List Message) (taken : List ℕ) (marked visited : ℕ → Bool) → taken ++ attached_in rest ≡ attached_in (queue_at w s) → ((f : ℕ) → Contains taken f → (IsLive begun f → marked f ≡ true) × (¬ (Garbage begun f))) → Covers begun w (with_queue w s rest) marked visited
  covers_left rest taken marked visited is was = covers_queue rest taken marked visited (λ f h. elim (Contains-append_cases taken (attached_in rest) f (subst (λ xs. Contains xs f) (sym is) h)) [ inl y ↦ inr y | inr y ↦ inl y ]) was

  -- The first message gone.
  pub moves_popped : Moves begun w (with_queue w s (drop 1 (queue_at w s)))
  moves_popped = by (queue_at w s) refl where
    by : (q : List Message) → queue_at w s ≡ q → Moves begun w (with_queue w s (drop 1 q))
    by [] e = moves_left [] [] (sym (ap attached_in e))
    by (m ∷ q) e = moves_left q m.attached (sym (ap attached_in e))

  -- The first message gone, whose files are no garbage, and marked, if they are of the begin.
  pub covers_popped : (marked visited : ℕ → Bool) → ((m : Message) (f : ℕ) → slice_get (queue_at w s) 0 ≡ Some m → Contains m.attached f → (IsLive begun f → marked f ≡ true) × (¬ (Garbage begun f))) → Covers begun w (with_queue w s (drop 1 (queue_at w s))) marked visited
  covers_popped marked visited was = by (queue_at w s) refl where
    by : (q : List Message) → queue_at w s ≡ q → Covers begun w (with_queue w s (drop 1 q)) marked visited
    by [] e = covers_left [] [] marked visited (sym (ap attached_in e)) (λ f h. absurd (none_in f h))
    by (m ∷ q) e = covers_left q m.attached marked visited (sym (ap attached_in e)) (λ f h. was m f (ap (λ q. slice_get q 0) e) h)

  module _ (x : Socket) (max : ℕ) (at : map.get w.files s ≡ Some (AsSocket x)) (within : AreWithin x.queue) where
    -- The files taken by a receive and those left are those of the queue.
    parted : (take_from x.kind x.queue max).attached ++ attached_in (take_from x.kind x.queue max).rest ≡ attached_in (queue_at w s)
    parted = (leaves-taken x.kind x.queue max within).carried ∙ sym (ap (λ o. attached_in (option_map_or queue_of o [])) at)

    -- The queue after a receive.
    pub moves_receive : Moves begun w (with_queue w s (take_from x.kind x.queue max).rest)
    moves_receive = moves_left (take_from x.kind x.queue max).rest (take_from x.kind x.queue max).attached parted

    -- The queue after a receive, if each taken file is no garbage, and marked if of the begin.
    pub covers_receive : (marked visited : ℕ → Bool) → ((f : ℕ) → Contains (take_from x.kind x.queue max).attached f → (IsLive begun f → marked f ≡ true) × (¬ (Garbage begun f))) → Covers begun w (with_queue w s (take_from x.kind x.queue max).rest) marked visited
    covers_receive marked visited was = covers_left (take_from x.kind x.queue max).rest (take_from x.kind x.queue max).attached marked visited parted was
