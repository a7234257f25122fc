-- A socket that is no garbage loses all that it holds, and a datagram socket gets another target.
use Rattle.std.proofs.Common.{◌≡◌, ◌<◌, ℕ, Bool, true, false, inl, inr, [], refl, sym, ap, ◌∙◌, subst, nat_eq, arith}
use Rattle.std.specs.Prelude.{Option, Some, None, is_none, option_map, unwrap_or, IfSome, if◌then◌else◌}
use Rattle.std.specs.Option.{option_map_or}
use Rattle.std.specs.Cmp.{nat_cmp_total}
use Rattle.std.specs.FinMap as map
use Rattle.std.specs.FinMap.{nat_cmp-IsAntisymmetric}
use Rattle.std.proofs.lemmas.Bool.{cases_Bool, eqb-true}
use Rattle.std.proofs.lemmas.List.{nil_from_length}
use Rattle.af_base.specs.World.{AsSocket, File, IsLive, Socket, World}
use Rattle.af_base.specs.Changes.{aimed, file_with, sends_elsewhere, with_socket}
use Rattle.af_base.specs.Pass.{emptied, empty_file}
use Rattle.af_base.specs.Places.{Holds}
use Rattle.af_base.specs.Reached.{Garbage}
use Rattle.af_base.specs.Refusals.{is_datagram, no_socket, socket_at}
use Rattle.af_base.specs.Whole.{IsWhole, IsWithin}
use Rattle.af_base.proofs.Datagrams.{datagram-alone, whole-aimed, within-aimed}
use Rattle.af_base.proofs.Lookups.{insert-here, insert-other, itself, same_or_not}
use Rattle.af_base.proofs.PurgeOrder.{get-emptied, live-emptied, to_emptied}
use Rattle.af_base.proofs.StaysWithin.{no_room}
use Rattle.af_base.proofs.TypedFiles.{typed-whole}
use Rattle.af_desc.specs.FilesView.{turned}
use Rattle.af_ledger.specs.Tally.{Tally}
use Rattle.af_mark.specs.MarksView.{MarksView, is_marked}
use Rattle.af_collect.specs.declared.progress.PassProgress.{PassProgress}
use Rattle.af_collect.specs.Agreement.{IsExact}
use Rattle.af_collect.specs.Since.{Covers}
use Rattle.af_collect.specs.Keeping.{NotBegunGarbage, PassInvariant, below, is_marking, pass_of}
use Rattle.af_collect.proofs.MarkTests.{turned as reversed}
use Rattle.af_collect.proofs.PassChanges.{in_marking, kept_moves, marking_only}
use Rattle.af_collect.proofs.PassStages.{moves_sweep}
use Rattle.af_collect.proofs.ProcessTables.{insert_twice}
use Rattle.af_collect.proofs.SocketStates.{exact-altered, if-there, is-socket}
use Rattle.af_collect.proofs.SparedFiles.{marking_runs, spared_running}

-- A socket that is emptied, if each file that it held is no garbage, and marked if of the begin.
covers_drained : (w begun : World) (s : ℕ) (marked visited : ℕ → Bool)
    → ((f : ℕ) → Holds w s f → (IsLive begun f → marked f ≡ true) × (¬ (Garbage begun f)))
    → Covers begun w (emptied (nat_eq s) w) marked visited
covers_drained w begun s marked visited was = record {
  queues_keep = λ q f g h. elim (cases_Bool (nat_eq s q)) [
    | inl e ↦ absurd ((was f (subst (λ x. Holds w x f) (sym (eqb-true s q e)) h)).1 g)
    | inr e ↦ to_emptied (nat_eq s) w q f e h
  ];
  queues_lose = λ q f l h. elim (cases_Bool (nat_eq s q)) [
    | inl e ↦ inr ((was f (subst (λ x. Holds w x f) (sym (eqb-true s q e)) h)).0 l)
    | inr e ↦ inl (to_emptied (nat_eq s) w q f e h)
  ];
  tables_lose = λ f l v t. inl t;
}

module _ {w begun : World} {m : MarksView} {c : PassProgress} where
  -- A spared socket is emptied, and what it held was marked, while marking.
  pub kept_drained : (s n : ℕ) → NotBegunGarbage (pass_of c.stage begun n) s
      → (is_marking c.stage ≡ true → (f : ℕ) → Holds w s f → IsLive begun f → is_marked m f
      ≡ true) → PassInvariant w begun m c → PassInvariant (emptied (nat_eq s) w) begun m c
  kept_drained s n spared was k =
      kept_moves m c (omega arith) (live-emptied (nat_eq s) w) (λ _. moves_sweep begun w s)
      (λ t. covers_drained w begun s (is_marked m) (below c.visited) (λ f h. (
        was t f h,
        λ g. spared_running c.stage begun n s (marking_runs c.stage t) spared
            ((in_marking (marking_only c.stage t) k).running.since.stray.queues s f h g),
      ))) k

-- ---- another target

-- The world with this socket at s.
abbrev put : World → ℕ → Socket → World
put w s x = record w { files = map.insert w.files s (AsSocket x) }

-- To change a socket is to put another in its place.
socket-put : (w : World) (s : ℕ) (g : Socket → Socket) (x : Socket) → map.get w.files s
    ≡ Some (AsSocket x) → with_socket w s g ≡ put w s (g x)
socket-put w s g x at =
    ap (λ o. record w {
      files =
          option_map_or (λ y. map.insert w.files s (file_with g y)) o w.files;
    }) at

-- Changes that make the same of it are one change.
same-put : (w : World) (s : ℕ) (g h : Socket → Socket) (x : Socket) → map.get w.files s
    ≡ Some (AsSocket x) → g x ≡ h x → with_socket w s g ≡ with_socket w s h
same-put w s g h x at same = socket-put w s g x at ∙ ap (put w s) same ∙ sym (socket-put w s h x at)

-- To empty it is to put an empty one there.
emptied-put : (w : World) (s : ℕ) (x : Socket) → map.get w.files s ≡ Some (AsSocket x)
    → emptied (nat_eq s) w ≡ put w s (record x { queue = []; backlog = [] })
emptied-put w s x at =
    ap (λ fs. record w {
      files =
          fs;
    }) (map.same_map nat_cmp_total nat_cmp-IsAntisymmetric _ _ (λ q. get-emptied (nat_eq s) w q
    ∙ elim (same_or_not q s) [
      | inl e ↦ ap after e ∙ (λ i. option_map (λ y. if itself s i then empty_file y else y) (at i)) ∙ sym (ap (map.get (put w s none).files) e ∙ insert-here w.files s (AsSocket none))
      | inr a ↦ ap (λ b. option_map (λ y. if b then empty_file y else y) (map.get w.files q)) (reversed s q ∙ a) ∙ same (map.get w.files q) ∙ sym (insert-other w.files s (AsSocket none) q a)
    ])) where
      none : Socket
      none = record x { queue = []; backlog = [] }

      after : ℕ → Option File
      after q = option_map (λ y. if nat_eq s q then empty_file y else y) (map.get w.files q)

      same : (o : Option File) → option_map (λ y. y) o ≡ o
      same None = refl
      same (Some y) = refl

-- The needs of another target: a datagram socket, and a target that is live, or none (connect(2)).
abbrev pub Aims : World → ℕ → Option ℕ → Bool → Type 0
Aims w s target loses = (is_none (socket_at w s) ≡ false)
    × IfSome (socket_at w s) (λ x. is_datagram x.kind ≡ true) × IfSome target (IsLive w)
    × IfSome (socket_at w s) (λ x. loses ≡ sends_elsewhere (unwrap_or target 0) x.state)

-- What a datagram socket loses with another target is lost already, so that nothing of it changes but
-- its state.
abbrev pub IsCleared : World → World → ℕ → Option ℕ → Type 0
IsCleared old w s target = let to = unwrap_or target 0 in (x : Socket)
    × (map.get w.files s ≡ Some (AsSocket x)) × (is_datagram x.kind ≡ true)
    × (turned to x ≡ aimed to x)
    × IfSome target (IsLive w) × (with_socket w s (turned to) ≡ with_socket old s (aimed to))

module _ (w : World) (s : ℕ) (target : Option ℕ) where
  -- The number of the target, or 0.
  abbrev to : ℕ
  to = unwrap_or target 0

  -- Nothing is lost where it did not send to another.
  pub cleared-still : Aims w s target false → IsCleared w w s target
  cleared-still asked =
      let x = unwrap_or (socket_at w s) no_socket in
      let at = is-socket w s asked.0 in
      let stays = if-there (λ y. false ≡ sends_elsewhere to y.state) w s x at asked.3 in
      let same : turned to x ≡ aimed to x =
      λ i. record (turned to x) { queue = if stays i then [] else x.queue } in (
        x,
        at,
        if-there (λ y. is_datagram y.kind ≡ true) w s x at asked.1,
        same,
        asked.2,
        same-put w s (turned to) (aimed to) x at same,
      )

  -- All is lost where it did: the socket, which has no backlog, is emptied.
  pub cleared-drained : IsWhole w → IsWithin w → Aims w s target true
      → IsCleared w (emptied (nat_eq s) w) s target
  cleared-drained whole within asked =
      let x = unwrap_or (socket_at w s) no_socket in
      let y : Socket = record x { queue = []; backlog = [] } in
      let at = is-socket w s asked.0 in
      let datagram = if-there (λ y. is_datagram y.kind ≡ true) w s x at asked.1 in
      let lost = if-there (λ y. true ≡ sends_elsewhere to y.state) w s x at asked.3 in
      let none = no_room x.state
      (datagram-alone x.kind x.state (typed-whole whole s (AsSocket x) at).fits datagram).0 in
      let alone : x.backlog ≡ [] =
      nil_from_length x.backlog (omega (arith, none, (within.sockets s x at).backlog)) in
      let is = emptied-put w s x at in
      let here = insert-here w.files s (AsSocket y) in (
        y,
        ap (λ (v : World). map.get v.files s) is ∙ here,
        datagram,
        (λ i. record (turned to y) { queue = if lost i then [] else [] }),
        subst (IfSome target) (λ i f. sym (live-emptied (nat_eq s) w f) i ≡ true) asked.2,
        ap (λ v. with_socket v s (turned to)) is ∙ socket-put (put w s y) s (turned to) y here
            ∙ ap (λ fs. record w {
              files =
                  fs;
            }) (insert_twice w.files s (AsSocket y) (AsSocket (turned to y)))
            ∙ ap (put w s) (λ i. record (turned to x) {
              queue = if lost i then [] else x.queue;
              backlog = sym alone i;
            }) ∙ sym (socket-put w s (aimed to) x at),
      )

  -- A live target has a number that was given, and where there is none 0 is below the next one.
  target-given : IsWhole w → IfSome target (IsLive w) → to < w.next_ino
  target-given whole = by target where
    by : (o : Option ℕ) → IfSome o (IsLive w) → unwrap_or o 0 < w.next_ino
    by None live = whole.next_ino
    by (Some f) live = whole.files_numbered f live

  -- With another target all is exact.
  pub exact-turned : (old : World) (k : Tally) → IsCleared old w s target → IsExact w k
      → IsExact (with_socket w s (turned to)) k
  exact-turned old k clear h =
      let x = clear.0 in
      let at = clear.1 in
      let same = same-put w s (turned to) (aimed to) x at clear.3 in
      let silent = (datagram-alone x.kind x.state (typed-whole h.whole s (AsSocket x) at).fits
      clear.2).0 in
      exact-altered w s (turned to) (λ y. refl) (λ y. refl) k (λ y _. (
        subst IsWhole (sym same)
            (whole-aimed w s to x at clear.2 (target-given h.whole clear.4) h.whole),
        subst IsWithin (sym same) (within-aimed w s to x h.within at silent),
      )) h
