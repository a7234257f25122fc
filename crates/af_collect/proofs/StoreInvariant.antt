-- The invariant of a store: its counts are exact, and each change keeps the invariant of the pass.
use Rattle.std.proofs.Common.{◌≡◌, ◌≤◌, ℕ, Bool, true, false, List, [], ◌∷◌, ◌++◌, inl, inr, nat_eq, refl, sym, ap, ◌∙◌, subst, arith}
use Rattle.std.specs.Prelude.{IsTrue, is_none, is_some, unwrap_or, if◌then◌else◌, Err, Ok, OnErr, OnOk, Result}
use Rattle.std.specs.List.{Contains, list_any, zip}
use Rattle.std.specs.FinMap as map
use Rattle.std.proofs.lemmas.Bool.{cases_Bool, false≢true}
use Rattle.std.proofs.lemmas.List.Elements.{Contains-append_left}
use Rattle.af_base.specs.World.{AsSocket, File, IsLive, Socket, World, is_live}
use Rattle.af_base.specs.Changes.{add_file, add_process, install_all, set_limit, with_queue, with_socket}
use Rattle.af_base.specs.Places.{Holds, attached_in, contents}
use Rattle.af_base.specs.Reached.{Garbage}
use Rattle.af_base.specs.Refusals.{no_socket, process_at, socket_at}
use Rattle.af_base.specs.Steps.{spawned}
use Rattle.af_base.specs.Table.{lowest_free}
use Rattle.af_base.proofs.Lookups.{insert-other, told_apart}
use Rattle.af_base.proofs.PlaceMoves.{live-changed, there-holds}
use Rattle.af_base.proofs.ReceivedFiles.{leaves-taken}
use Rattle.af_ledger.specs.Tally.{Tally, LedgerView, kept_of}
use Rattle.af_mark.specs.MarksView.{MarksView, born, is_marked, knows}
use Rattle.af_table.specs.Procs.{Procs}
use Rattle.af_desc.specs.FilesView.{FilesView, changed}
use Rattle.af_collect.specs.Agreement.{IsExact}
use Rattle.af_collect.specs.Receiving.{taken_at}
use Rattle.af_collect.proofs.Exact.{install-filled, exact-same}
use Rattle.af_collect.proofs.SocketStates.{is-socket}
use Rattle.af_collect.specs.declared.progress.Stage.{Stage}
use Rattle.af_collect.specs.declared.progress.Stage.TheVariants.{Marking, Resting, Sweeping}
use Rattle.af_collect.specs.declared.progress.PassProgress.{PassProgress}
use Rattle.af_collect.specs.Since.{Covers, Moves}
use Rattle.af_collect.specs.Keeping.{PassInvariant, IsRunning, NotBegunGarbage, below, is_marking, is_running, pass_of, shaded_all, shaded_in}
use Rattle.af_collect.proofs.SocketChanges.{AreFilesBelow, covers_add_file, moves_add_file, covers_receive, moves_receive, covers_same, moves_same}
use Rattle.af_collect.proofs.PassChanges.{in_marking, in_sweeping, kept_born, kept_moves, kept_shaded_all}
use Rattle.af_collect.proofs.MarkTests.{known_made, grey_born, marked_born}
use Rattle.af_collect.proofs.TablePlaces.{covers_install_lowest, covers_limited, moves_install_files, moves_limited}
use Rattle.af_collect.proofs.SparedFiles.{held_spared, marking_runs, spared_running}
use Rattle.af_collect.proofs.LostFiles.{marked_there}
use Rattle.af_collect.specs.HoldingsView.{AreExact, HoldingsView, world_of}
use Rattle.af_collect.specs.StoreView.{KeepsPass, MarksAll, StoreView}
use Rattle.af_collect.specs.contracts.holdings.Holdings.{the_view}
use Rattle.af_collect.specs.declared.holdings.Holdings.TheInside.{Inside}
use Rattle.af_collect.specs.declared.store.Store.TheInside.{Inside as StoreInside}

-- A process started changes no file.
pub files_spawned : (w : World) (uid nofile : ℕ) (privileged : Bool) → ((spawned w uid nofile privileged).files ≡ w.files) × ((spawned w uid nofile privileged).next_ino ≡ w.next_ino)
files_spawned w uid nofile privileged = by (add_process w (record { user = uid; limit = nofile; privileged = privileged; table = map.empty })) (list_any (nat_eq uid) w.users) where
  by : (v : World) (b : Bool) → ((if b then v else record v { users = v.users ++ uid ∷ [] }).files ≡ v.files) × ((if b then v else record v { users = v.users ++ uid ∷ [] }).next_ino ≡ v.next_ino)
  by v true = (refl, refl)
  by v false = (refl, refl)

-- The files that a receive or a peek gives are held by the socket.
taken_held : {j : Tally} (w : World) (s max : ℕ) → IsExact w j → is_none (socket_at w s) ≡ false → (f : ℕ) → Contains (taken_at w s max).attached f → Holds w s f
taken_held w s max exact socket f h =
    let x = unwrap_or (socket_at w s) no_socket in
    let at = is-socket w s socket in
    let t = taken_at w s max in
    there-holds w s f (AsSocket x) at (Contains-append_left (attached_in x.queue) x.backlog f
    (subst (λ xs. Contains xs f) (leaves-taken x.kind x.queue max (exact.within.sockets s x at).messages).carried (Contains-append_left t.attached (attached_in t.rest) f h)))

module _ {w begun : World} {m : MarksView} {c : PassProgress} where
  -- A change of tables keeps what is kept.
  pub kept_tables : (v : World) → v.files ≡ w.files → v.next_ino ≡ w.next_ino → (is_running c.stage ≡ true → Moves begun w v) → (is_marking c.stage ≡ true → Covers begun w v (is_marked m) (below c.visited)) → PassInvariant w begun m c → PassInvariant v begun m c
  kept_tables v files next moves covers k = kept_moves m c (omega (arith, next)) (λ f. ap (λ fs. map.contains_key fs f) files) moves covers k

  -- A change of a socket keeps what is kept.
  pub kept_socket : (s : ℕ) (g : Socket → Socket) → (is_running c.stage ≡ true → Moves begun w (with_socket w s g)) → (is_marking c.stage ≡ true → Covers begun w (with_socket w s g) (is_marked m) (below c.visited)) → PassInvariant w begun m c → PassInvariant (with_socket w s g) begun m c
  kept_socket s g moves covers k = kept_moves m c (omega arith) (live-changed w s g) moves covers k

  -- Where a pass runs, the files of its begin have numbers that the next file does not have.
  begun_below : PassInvariant w begun m c → is_running c.stage ≡ true → AreFilesBelow begun w.next_ino
  begun_below k e = by c.stage refl e where
    low : IsRunning w begun m c → AreFilesBelow begun w.next_ino
    low r f l = let a = r.since.below f l in let b = r.low in omega (arith, a, b)

    by : (s : Stage) → c.stage ≡ s → is_running s ≡ true → AreFilesBelow begun w.next_ino
    by Resting d e = absurd (false≢true e)
    by Marking d e = low (in_marking d k).running
    by Sweeping d e = low (in_sweeping d k).running

  -- A file made since is no garbage of the begin.
  pub made_spared : PassInvariant w begun m c → is_running c.stage ≡ true → (f : ℕ) → w.next_ino ≤ f → ¬ (Garbage begun f)
  made_spared k e f high g = let low = begun_below k e f g.0 in omega (arith, high, low)

  -- A file more, which holds nothing and is born, keeps what is kept.
  pub kept_made : (x : File) → contents x ≡ [] → AreFilesBelow w w.next_ino → PassInvariant w begun m c → PassInvariant (add_file w x) begun (born w.next_ino m) c
  kept_made x empty numbered k =
      let n = w.next_ino in
      let new : knows m n ≡ false = k.known n ∙ elim (cases_Bool (is_live w n)) [ inl l ↦ let low = numbered n l in absurd (omega (arith, low)) | inr none ↦ none ] in
      kept_born m (born n m) c (known_made w x m k.known) (marked_born m n new) (grey_born m n new) refl (omega arith)
      (λ f l low. sym (ap is_some (insert-other w.files n x f (told_apart f n (λ e. omega (arith, e, low))))) ∙ l)
      (λ e. moves_add_file w x begun empty (begun_below k e)) (λ _. covers_add_file w x begun (is_marked m) (below c.visited) numbered) k

  -- The files taken out of a queue are shaded while marking.
  kept_shaded_in : (fs : List ℕ) → ((f : ℕ) → Contains fs f → IsLive w f × (is_running c.stage ≡ true → ¬ (Garbage begun f))) → PassInvariant w begun m c → PassInvariant w begun (shaded_in c.stage fs m) c
  kept_shaded_in fs each k = by (is_marking c.stage) refl where
    by : (b : Bool) → is_marking c.stage ≡ b → PassInvariant w begun (if b then shaded_all fs m else m) c
    by true e = kept_shaded_all fs m c e (λ f h. ((each f h).0, (each f h).1 (marking_runs c.stage e))) k
    by false e = k

module _ {w begun : World} {m : MarksView} {c : PassProgress} where
  -- Another limit of a process keeps what is kept.
  pub kept_limited : (p n : ℕ) → PassInvariant w begun m c → PassInvariant (set_limit w p n) begun m c
  kept_limited p n k = kept_tables (set_limit w p n) refl refl (λ _. moves_limited begun w p n) (λ _. covers_limited begun w p n (is_marked m) (below c.visited)) k

  module _ {j : Tally} (exact : IsExact w j) (s max : ℕ) (socket : is_none (socket_at w s) ≡ false) where
    -- A peek of a spared socket, installed at the lowest free descriptors, keeps the invariant.
    pub kept_peeked : (n p : ℕ) (ns : List ℕ) → NotBegunGarbage (pass_of c.stage begun n) s → IsTrue (map.contains_key w.processes p) → (k : ℕ) × (ns ≡ lowest_free k (process_at w p)) → PassInvariant w begun m c
        → PassInvariant (install_all w p (zip ns (taken_at w s max).attached)) begun m c
    kept_peeked n p ns spared there lowest k =
        let t = taken_at w s max in
        let none : (f : ℕ) → Contains t.attached f → is_running c.stage ≡ true → ¬ (Garbage begun f) = λ f h e. spared_running c.stage begun n f e (held_spared n s f k (taken_held w s max exact socket f h) spared) in
        let filled = install-filled w p (zip ns t.attached) in
        kept_tables (install_all w p (zip ns t.attached)) (ap (λ (y : World). y.files) filled) (ap (λ (y : World). y.next_ino) filled)
        (λ e. moves_install_files begun w p ns t.attached (λ f h. none f h e)) (λ e. covers_install_lowest begun w p ns t.attached (is_marked m) (below c.visited) there lowest) k

    -- A receive from a spared socket, its files shaded while marking, keeps the invariant.
    pub kept_taken : (n p : ℕ) (ns : List ℕ) → NotBegunGarbage (pass_of c.stage begun n) s → IsTrue (map.contains_key w.processes p) → (k : ℕ) × (ns ≡ lowest_free k (process_at w p)) → PassInvariant w begun m c
        → PassInvariant (install_all (with_queue w s (taken_at w s max).rest) p (zip ns (taken_at w s max).attached)) begun (shaded_in c.stage (taken_at w s max).attached m) c
    kept_taken n p ns spared there lowest k =
        let x = unwrap_or (socket_at w s) no_socket in
        let at = is-socket w s socket in
        let within = (exact.within.sockets s x at).messages in
        let t = taken_at w s max in
        let o = shaded_in c.stage t.attached m in
        let v = with_queue w s t.rest in
        let none : (f : ℕ) → Contains t.attached f → is_running c.stage ≡ true → ¬ (Garbage begun f) = λ f h e. spared_running c.stage begun n f e (held_spared n s f k (taken_held w s max exact socket f h) spared) in
        let live : (f : ℕ) → Contains t.attached f → IsLive w f = λ f h. exact.whole.queues_live s f (taken_held w s max exact socket f h) in
        let marked : (f : ℕ) → Contains t.attached f → is_marking c.stage ≡ true → IsLive begun f → is_marked o f ≡ true = λ f h e b.
        ap (λ a. is_marked (if a then shaded_all t.attached m else m) f) e ∙ marked_there t.attached f e h (live f h) k b in
        let left : PassInvariant v begun o c = kept_socket s (λ y. record y { queue = t.rest })
        (λ e. moves_receive begun w s x max at within)
        (λ e. covers_receive begun w s x max at within (is_marked o) (below c.visited) (λ f h. (marked f h e, none f h (marking_runs c.stage e))))
        (kept_shaded_in t.attached (λ f h. (live f h, none f h)) k) in
        let filled = install-filled v p (zip ns t.attached) in
        kept_tables (install_all v p (zip ns t.attached)) (ap (λ (y : World). y.files) filled) (ap (λ (y : World). y.next_ino) filled)
        (λ e. moves_install_files begun v p ns t.attached (λ f h. none f h e)) (λ e. covers_install_lowest begun v p ns t.attached (is_marked o) (below c.visited) there lowest) left

-- ---- the store

-- The view of this store with other holdings.
abbrev pub shown : StoreInside → HoldingsView → StoreView
shown p t = record { world = t.world; rows = t.rows; message_room = t.message_room; begun = p.begun.value.world; pass = pass_of p.progress.stage p.begun.value.world p.progress.looked; marks = t.marks; progress = p.progress; since = t.since }

-- These processes, files and charges are exact, and the invariant of the pass holds with them.
abbrev pub BothInvariants : StoreInside → Procs → FilesView → LedgerView → Type 0
BothInvariants p procs files ledger = AreExact procs files ledger × PassInvariant (world_of procs files ledger) p.begun.value.world files.marks p.progress

-- So it is where the holdings of a store are opened.
pub stood : (p : StoreInside) (h : Inside) → the_view h ≡ p.holdings → AreExact h.procs h.files h.ledger → KeepsPass (shown p p.holdings) → BothInvariants p h.procs h.files h.ledger
stood p h seen exact kept = (exact, subst (λ (t : HoldingsView). KeepsPass (shown p t)) (sym seen) kept)

module _ {begun : World} {c : PassProgress} where
  -- The invariant of a world is one of its equals.
  pub kept-same : (v w : World) (m n : MarksView) → v ≡ w → m ≡ n → PassInvariant w begun n c → PassInvariant v begun m c
  kept-same v w m n world marks kept = subst (λ x. PassInvariant x begun m c) (sym world) (subst (λ y. PassInvariant w begun y c) (sym marks) kept)

  -- And so it is with what is exact besides.
  pub both-same : (v w : World) (k l : Tally) (m n : MarksView) → v ≡ w → k ≡ l → m ≡ n → IsExact w l → PassInvariant w begun n c → IsExact v k × PassInvariant v begun m c
  both-same v w k l m n world numbers marks exact kept = (exact-same v w k l world numbers exact, kept-same v w m n world marks kept)

module _ {T E : Type 0} (r : Result T E) (p : StoreInside) (h : Inside) (new : FilesView) (err : OnErr r (new ≡ h.files)) (was : BothInvariants p h.procs h.files h.ledger) where
  -- A call has left these files, with which the invariant holds, or everything as it was.
  pub stands-either : (to : FilesView) → OnOk r (new ≡ to) → BothInvariants p h.procs to h.ledger → BothInvariants p h.procs new h.ledger
  stands-either to ok stands = by r ok err where
    by : (r : Result T E) → OnOk r (new ≡ to) → OnErr r (new ≡ h.files) → BothInvariants p h.procs new h.ledger
    by (Ok t) ok err = subst (λ fs. BothInvariants p h.procs fs h.ledger) (sym ok) stands
    by (Err e) ok err = subst (λ fs. BothInvariants p h.procs fs h.ledger) (sym err) was

  -- It has changed a socket, which holds what it held, or nothing.
  pub stands-socket : (s : ℕ) (g : Socket → Socket) → ((x : Socket) → contents (AsSocket (g x)) ≡ contents (AsSocket x)) → OnOk r (new ≡ changed g s h.files) → IsExact (with_socket (the_view h).world s g) (kept_of h.files.counts h.ledger) → BothInvariants p h.procs new h.ledger
  stands-socket s g same ok exact =
      let w = (the_view h).world in
      let begun = p.begun.value.world in
      stands-either (changed g s h.files) ok (exact, kept_socket s g (λ _. moves_same w s g same begun) (λ _. covers_same w s g same begun (is_marked h.files.marks) (below p.progress.visited)) was.1)

-- Where the world alone is changed, a caller sees it change so.
pub seen-changed : (p : StoreInside) (h : Inside) (o : StoreView) (f : World → World) → the_view h ≡ p.holdings → shown p p.holdings ≡ o → shown p (record (the_view h) { world = f (the_view h).world }) ≡ record o { world = f o.world }
seen-changed p h o f opened is = ap {A = HoldingsView} {B = StoreView} (λ t. shown p (record t { world = f t.world })) opened ∙ ap {A = StoreView} {B = StoreView} (λ t. record t { world = f t.world }) is

-- The same, where other files are marked then, and there is room for a message more or less.
pub seen-moved : (p : StoreInside) (h : Inside) (o : StoreView) (f : World → World) (m : MarksView) (b : Bool) → the_view h ≡ p.holdings → shown p p.holdings ≡ o → shown p (record (the_view h) { world = f (the_view h).world; marks = m; message_room = b }) ≡ record o { world = f o.world; marks = m; message_room = b }
seen-moved p h o f m b opened is = ap {A = HoldingsView} {B = StoreView} (λ t. shown p (record t { world = f t.world; marks = m; message_room = b })) opened ∙ ap {A = StoreView} {B = StoreView} (λ t. record t { world = f t.world; marks = m; message_room = b }) is

-- And a caller sees that world.
pub seen-world : (p : StoreInside) (h : Inside) (o : StoreView) → the_view h ≡ p.holdings → shown p p.holdings ≡ o → o.world ≡ (the_view h).world
seen-world p h o opened is = sym (ap (λ (t : HoldingsView). t.world) opened ∙ ap (λ (t : StoreView). t.world) is)

-- Where nothing but marks changed, the files that were marked are marked in what is opened then.
pub marks-shown : (these : World → ℕ → Type 0) (old new t : StoreView) → t ≡ new → new ≡ record old { marks = new.marks } → MarksAll (these old.world) old new → MarksAll (these t.world) t t
marks-shown these old new t seen frame all = subst (λ (r : StoreView). MarksAll (these r.world) r r) (sym seen) (subst (λ (r : StoreView). MarksAll (these r.world) r new) (sym frame) all)
