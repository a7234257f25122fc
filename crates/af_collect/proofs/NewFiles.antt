-- Files that are made with their first places.
use Rattle.std.proofs.Common.{◌≡◌, ◌<◌, ◌≤◌, ◌⊎◌, ℕ, ◌+◌, [], ◌∷◌, false, inl, inr, refl, sym, ap, ◌∙◌, subst, nat_eq, length, not, arith}
use Rattle.std.specs.Prelude.{IfSome, IsTrue, None, Option, Some, is_none, is_some, unwrap_or}
use Rattle.std.specs.Cmp.{nat_cmp_total}
use Rattle.std.specs.FinMap as map
use Rattle.std.specs.FinMap.{nat_cmp-IsAntisymmetric}
use Rattle.std.specs.List.{Contains, zip}
use Rattle.std.specs.Option.{option_and_then}
use Rattle.std.proofs.lemmas.Bool.{false≢true}
use Rattle.std.proofs.lemmas.List.Elements.{Contains-push_cases}
use Rattle.af_base.specs.declared.events.SockType.{SockType}
use Rattle.af_base.specs.declared.events.State.TheVariants as state
use Rattle.af_base.specs.Changes.{add_file, change_at, connected, install, install_all, installed, queued, with_socket}
use Rattle.af_base.specs.Counts.{waiting}
use Rattle.af_base.specs.Places.{contents, table_at}
use Rattle.af_base.specs.Refusals.{is_datagram, is_full, no_socket, process_at, room_of, socket_at, socket_of}
use Rattle.af_base.specs.Steps.{connected_socket, paired_socket, with_pair}
use Rattle.af_base.specs.Table.{lowest_free}
use Rattle.af_base.specs.World.{AsSocket, File, IsLive, Map, Socket, World}
use Rattle.af_base.proofs.Elements.{Contains-none}
use Rattle.af_base.proofs.Embryos.{waiting-add_file, waiting-changed, waiting-none}
use Rattle.af_base.proofs.Free.{AreFree, free-lowest_free}
use Rattle.af_base.proofs.Lookups.{insert-here, insert-other, same_or_not, told_apart}
use Rattle.af_base.proofs.PlaceMoves.{live-changed, others-changed}
use Rattle.af_base.proofs.BlankFiles.{blank-connected, still-blank}
use Rattle.af_base.proofs.SoundSteps.{process-there}
use Rattle.af_ledger.specs.Counted.{CountView, more, uncounted}
use Rattle.af_ledger.specs.Tally.{Tally, count_in_map, kept_of, with_ref, with_refs}
use Rattle.af_ledger.specs.declared.place.Place.{Place}
use Rattle.af_ledger.specs.declared.place.Place.TheVariants.{Backlog, Table}
use Rattle.af_desc.specs.FilesView.{FilesView, changed, entered, paired}
use Rattle.af_mark.specs.MarksView.{born, is_marked}
use Rattle.af_table.specs.Procs.{Procs}
use Rattle.af_collect.specs.Agreement.{IsExact}
use Rattle.af_collect.specs.Limits.{IsBelowLimit}
use Rattle.af_collect.proofs.SocketStates.{exact-embryo, exact-queued, is-socket}
use Rattle.af_collect.proofs.Exact.{exact-install_all, exact-opened, exact-pair, world-is}
use Rattle.af_collect.proofs.ProcessTables.{insert_twice}
use Rattle.af_collect.specs.Keeping.{below}
use Rattle.af_collect.specs.StoreView.{StoreView}
use Rattle.af_collect.proofs.SocketChanges.{below-add_file, covers_queued, covers_same, moves_queued, moves_same}
use Rattle.af_collect.proofs.TablePlaces.{covers_install, covers_install_lowest, moves_install, moves_install_files}
use Rattle.af_collect.specs.contracts.holdings.Holdings.{the_view}
use Rattle.af_collect.specs.declared.holdings.Holdings.TheInside.{Inside}
use Rattle.af_collect.specs.declared.store.Store.TheInside.{Inside as StoreInside}
use Rattle.af_collect.proofs.StoreInvariant.{kept_made, kept_socket, kept_tables, made_spared, BothInvariants, both-same, seen-world, shown}

-- The needs of connect(2): room for a file, a client for connections that was never connected, and a
-- listener with room.
abbrev pub Connects : World → ℕ → ℕ → Type 0
Connects w s l = (is_full w 1 ≡ false) × (is_none (socket_at w s) ≡ false)
    × IfSome (socket_at w s) (λ x. is_datagram x.kind ≡ false)
    × IfSome (socket_at w s) (λ x. x.state ≡ state.Idle) × (is_none (socket_at w l) ≡ false)
    × IfSome (socket_at w l) (λ x. length x.backlog < room_of x.state)

-- The needs of a new file: room for it, a process, and a free descriptor below its limit (open(2)).
abbrev pub Opens : World → ℕ → ℕ → Type 0
Opens w pid fd = (is_full w 1 ≡ false) × IsTrue (map.contains_key w.processes pid) × IsBelowLimit w pid fd × (table_at w pid fd ≡ None)

-- The needs of two: room for both, a process, and its two lowest free descriptors (socketpair(2)).
abbrev pub Pairs : World → ℕ → ℕ → ℕ → Type 0
Pairs w pid lower higher = (is_full w 2 ≡ false) × IsTrue (map.contains_key w.processes pid) × (lower ∷ higher ∷ [] ≡ lowest_free 2 (process_at w pid))

-- One of two is the first or the second.
of_two : (a b f : ℕ) → Contains (a ∷ b ∷ []) f → (f ≡ a) ⊎ (f ≡ b)
of_two a b f h = elim (Contains-push_cases (a ∷ []) b f h) [
  | inl one ↦ elim (Contains-push_cases [] a f one) [ inl none ↦ absurd (Contains-none f none) | inr here ↦ inl (sym here) ]
  | inr here ↦ inr (sym here)
]

module _ (p : Place) (m : Map CountView) (a : ℕ) where
  -- A file that is counted with no place, and then with one, is one that is counted with one.
  entered-held : map.insert m a (more p uncounted) ≡ map.insert (map.insert m a uncounted) a (more p (count_in_map (map.insert m a uncounted) a))
  entered-held = sym (insert_twice m a uncounted (more p (count_in_map (map.insert m a uncounted) a)) ∙ ap (λ o. map.insert m a (more p (unwrap_or o uncounted))) (insert-here m a uncounted))

  module _ (b : ℕ) (apart : nat_eq a b ≡ false) where
    abbrev both : Map CountView
    both = map.insert (map.insert m a uncounted) b uncounted

    -- The same of two, whatever these are counted with.
    put_both : (x : CountView) → map.insert (map.insert m a x) b x ≡ map.insert (map.insert both a x) b x
    put_both x = map.same_map nat_cmp_total nat_cmp-IsAntisymmetric _ _ (λ q. elim (same_or_not q b) [
      | inl e ↦ ap (map.get (map.insert (map.insert m a x) b x)) e ∙ insert-here (map.insert m a x) b x ∙ sym (ap (map.get (map.insert (map.insert both a x) b x)) e ∙ insert-here (map.insert both a x) b x)
      | inr out ↦ insert-other (map.insert m a x) b x q out ∙ elim (same_or_not q a) [
        | inl e ↦ ap (map.get (map.insert m a x)) e ∙ insert-here m a x ∙ sym (ap (map.get (map.insert both a x)) e ∙ insert-here both a x)
        | inr off ↦ insert-other m a x q off ∙ sym (insert-other both a x q off ∙ insert-other (map.insert m a uncounted) b uncounted q out ∙ insert-other m a uncounted q off)
      ] ∙ sym (insert-other (map.insert both a x) b x q out)
    ])

    abbrev one : Map CountView
    one = map.insert both a (more p (count_in_map both a))

    first : uncounted ≡ count_in_map both a
    first = sym (ap (λ o. unwrap_or o uncounted) (insert-other (map.insert m a uncounted) b uncounted a apart ∙ insert-here m a uncounted))

    second : (other : nat_eq b a ≡ false) → uncounted ≡ count_in_map one b
    second other = sym (ap (λ o. unwrap_or o uncounted) (insert-other both a (more p (count_in_map both a)) b other ∙ insert-here (map.insert m a uncounted) b uncounted))

    -- Two that are counted with no place, and then with one each, are counted with one.
    pair-held : nat_eq b a ≡ false → map.insert (map.insert m a (more p uncounted)) b (more p uncounted) ≡ map.insert one b (more p (count_in_map one b))
    pair-held other =
        put_both (more p uncounted) ∙ ap (λ c. map.insert (map.insert both a (more p c)) b (more p uncounted)) first
        ∙ ap (λ c. map.insert one b (more p c)) (second other)

module _ (p : StoreInside) (h : Inside) (was : BothInvariants p h.procs h.files h.ledger) where
  -- The world before.
  abbrev w : World
  w = (the_view h).world

  -- The number of the next file.
  abbrev n : ℕ
  n = w.next_ino

  -- The counts and charges kept before.
  abbrev k : Tally
  k = kept_of h.files.counts h.ledger

  -- The world when the pass began.
  abbrev begun : World
  begun = p.begun.value.world

  -- A file more, which holds nothing, at a free number.
  pub stands-made : (o : StoreView) → the_view h ≡ p.holdings → shown p p.holdings ≡ o → (pid fd : ℕ) → Opens o.world pid fd → (x : File) → contents x ≡ [] → (is_full w 1 ≡ false → IsExact w k → IsExact (add_file w x) (record k { counts = map.insert k.counts n uncounted }))
      → (procs : Procs) (f : ℕ) → procs.processes ≡ change_at (installed fd f) h.procs.processes pid → procs.next_pid ≡ h.procs.next_pid → f ≡ n → (fs : FilesView) → fs ≡ entered Table x h.files → BothInvariants p procs fs h.ledger
  stands-made o opened seen pid fd needs x empty exact procs f processes next is fs files =
      let v = add_file w x in
      let asked : Opens w pid fd = subst (λ u. Opens u pid fd) (seen-world p h o opened seen) needs in
      let made : Tally = record k { counts = map.insert k.counts n uncounted } in
      let known = exact asked.0 was.0 in
      subst (λ u. BothInvariants p procs u h.ledger) (sym files)
      (both-same _ (install v pid fd n) _ (with_ref Table n made) _ (born n h.files.marks)
      (world-is _ _ (processes ∙ ap (λ g. change_at (installed fd g) h.procs.processes pid) is) refl refl next refl) (ap (λ m. kept_of m h.ledger) (entered-held Table h.files.counts n)) refl
      (exact-opened v pid fd n made (asked.1, asked.2, asked.3) (ap is_some (insert-here w.files n x)) known)
      (kept_tables (install v pid fd n) refl refl (λ e. moves_install begun v pid fd n (made_spared was.1 e n (omega arith))) (λ _. covers_install begun v pid fd n (is_marked (born n h.files.marks)) (below p.progress.visited) asked.3)
      (kept_made x empty was.0.whole.files_numbered was.1)))

  -- Two sockets more, connected to each other, at the two lowest free numbers.
  pub stands-pair : (o : StoreView) → the_view h ≡ p.holdings → shown p p.holdings ≡ o → (kind : SockType) (pid lower higher : ℕ) → Pairs o.world pid lower higher
      → (procs : Procs) → procs.processes ≡ (install (install w pid lower n) pid higher (n + 1)).processes → procs.next_pid ≡ h.procs.next_pid → (files : FilesView) → files ≡ paired Table kind h.files → BothInvariants p procs files h.ledger
  stands-pair o opened seen kind pid lower higher needs procs processes next files is =
      let v = with_pair w kind in
      let ns = lower ∷ higher ∷ [] in
      let fs = n ∷ (n + 1) ∷ [] in
      let q = process_at w pid in
      let asked : Pairs w pid lower higher = subst (λ u. Pairs u pid lower higher) (seen-world p h o opened seen) needs in
      let one = AsSocket (paired_socket kind (n + 1)) in
      let two = AsSocket (paired_socket kind n) in
      let made : Tally = record k { counts = map.insert (map.insert k.counts n uncounted) (n + 1) uncounted } in
      let numbered = was.0.whole.files_numbered in
      let apart = told_apart n (n + 1) (λ e. omega (arith, e)) in
      let other = told_apart (n + 1) n (λ e. omega (arith, e)) in
      let last : IsLive v (n + 1) = ap is_some (insert-here (add_file w one).files (n + 1) two) in
      let first : IsLive v n = ap is_some (insert-other (add_file w one).files (n + 1) two n apart ∙ insert-here w.files n one) in
      let live : (f : ℕ) → Contains fs f → IsLive v f = λ f c. elim (of_two n (n + 1) f c) [ inl e ↦ subst (IsLive v) (sym e) first | inr e ↦ subst (IsLive v) (sym e) last ] in
      let later : (f : ℕ) → Contains fs f → n ≤ f = λ f c. elim (of_two n (n + 1) f c) [ inl e ↦ omega (arith, e) | inr e ↦ omega (arith, e) ] in
      subst (λ u. BothInvariants p procs u h.ledger) (sym is)
      (both-same _ (install_all v pid (zip ns fs)) _ (with_refs Table fs made) _ (born (n + 1) (born n h.files.marks))
      (world-is _ _ processes refl refl next refl) (ap (λ m. kept_of m h.ledger) (pair-held Table h.files.counts n (n + 1) apart other)) refl
      (exact-install_all v pid q ns fs made (process-there w pid (ap not asked.1)) (subst (AreFree q) (sym asked.2) (free-lowest_free 2 q)) live (exact-pair w kind k asked.0 was.0))
      (kept_tables (install_all v pid (zip ns fs)) refl refl (λ e. moves_install_files begun v pid ns fs (λ f c. made_spared was.1 e f (later f c))) (λ _. covers_install_lowest begun v pid ns fs (is_marked (born (n + 1) (born n h.files.marks))) (below p.progress.visited) asked.1 (2, asked.2))
      (kept_made two refl (below-add_file w one numbered) (kept_made one refl numbered was.1))))

  -- A socket that was never connected has no room for embryos.
  no_room : (o : Option Socket) → is_none o ≡ false → IfSome o (λ x. x.state ≡ state.Idle) → ¬ (IfSome o (λ x. length x.backlog < room_of x.state))
  no_room None there idle room = false≢true (sym there)
  no_room (Some x) there idle room = let none : room_of x.state ≡ 0 = ap room_of idle in omega (arith, room, none)

  module _ (kind : SockType) (stream : is_datagram kind
      ≡ false) (s l : ℕ) (asked : Connects w s l) where
    abbrev embryo : File
    embryo = AsSocket (connected_socket kind s)

    abbrev v : World
    v = with_socket (add_file w embryo) s (connected n)

    -- The embryo waits nowhere before.
    new : waiting v n ≡ 0
    new =
        let none : waiting w n ≡ 0 = waiting-none w n (λ q c. let low = was.0.whole.files_numbered n (was.0.whole.queues_live q n c) in omega (arith, low)) in
        let same = waiting-changed (add_file w embryo) s (connected n) (λ x. refl) n in
        omega (arith, none, waiting-add_file w embryo refl n, same)

    -- The listener is another socket than the client, and stays as it is.
    pub stays : map.get v.files l ≡ map.get w.files l
    stays =
        let apart = told_apart l s
        (λ same. no_room (socket_at w s) asked.1 asked.3
        (subst (λ q. IfSome (socket_at w q) (λ x. length x.backlog < room_of x.state)) same
        asked.5)) in
        let at = is-socket w l asked.4 in
        others-changed (add_file w embryo) s (connected n) l apart ∙ still-blank w embryo (blank-connected kind s) was.0.whole l (ap is_some at)

    -- An embryo more, which is the last in the backlog of a listener that has room for it.
    pub stands-embryo : BothInvariants p h.procs (changed (queued n) l (changed (connected n) s (entered Backlog embryo h.files))) h.ledger
    stands-embryo =
        let at = is-socket w s asked.1 in
        let client = subst (λ o. IfSome (option_and_then socket_of o) (λ x. is_datagram x.kind
        ≡ false)) at asked.2 in
        let alone = subst (λ o. IfSome (option_and_then socket_of o) (λ x. x.state
        ≡ state.Idle)) at asked.3 in
        let heard = is-socket w l asked.4 in
        let fit = subst (λ o. IfSome (option_and_then socket_of o)
        (λ x. length x.backlog < room_of x.state)) heard asked.5 in
        let made : Tally = record k { counts = map.insert k.counts n uncounted } in
        let live : IsLive v n = live-changed (add_file w embryo) s (connected n) n ∙ ap is_some (insert-here w.files n embryo) in
        both-same _ (with_socket v l (queued n)) _ (with_ref Backlog n made) _ (born n h.files.marks)
        refl (ap (λ m. kept_of m h.ledger) (entered-held Backlog h.files.counts n)) refl
        (exact-queued v l n (unwrap_or (socket_at w l) no_socket) made (stays
        ∙ heard) live new fit
        (exact-embryo w s kind (unwrap_or (socket_at w s) no_socket) k at client alone stream
        asked.0 was.0))
        (kept_socket l (queued n) (λ e. moves_queued begun v l n (made_spared was.1 e n (omega arith))) (λ _. covers_queued begun v l n (is_marked (born n h.files.marks)) (below p.progress.visited))
        (kept_socket s (connected n) (λ _. moves_same (add_file w embryo) s (connected n) (λ y. refl) begun) (λ _. covers_same (add_file w embryo) s (connected n) (λ y. refl) begun (is_marked (born n h.files.marks)) (below p.progress.visited))
        (kept_made embryo refl was.0.whole.files_numbered was.1)))
