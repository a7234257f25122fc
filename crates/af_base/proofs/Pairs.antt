-- Two sockets that are new, connected to each other.
use Rattle.std.proofs.Common.{◌≡◌, ◌<◌, ℕ, ◌+◌, false, ◌⊎◌, inl, inr, List, [], refl, sym, ap, ◌∙◌, subst, nat_eq, arith}
use Rattle.std.specs.Prelude.{Option, Some, None, is_some, IsTrue}
use Rattle.std.specs.Option.{option_map_or}
use Rattle.std.specs.List.{Contains}
use Rattle.std.specs.FinMap as map
use Rattle.af_base.specs.declared.events.SockType.{SockType}
use Rattle.af_base.specs.declared.events.SockType.TheVariants.{Dgram, Seqpacket, Stream}
use Rattle.af_base.specs.declared.events.State.TheVariants as state
use Rattle.af_base.specs.World.{AsSocket, File, IsLive, Map, World}
use Rattle.af_base.specs.Places.{Holds, contents}
use Rattle.af_base.specs.Counts.{count_in, refs}
use Rattle.af_base.specs.Changes.{add_file}
use Rattle.af_base.specs.Steps.{paired_socket, paired_state, with_pair}
use Rattle.af_base.specs.Whole.{AreMutual, IsWhole, bound_at, state_at, state_of}
use Rattle.af_base.proofs.Lookups.{insert-here, insert-other, none_some, same_or_not, some_same, told_apart}
use Rattle.af_base.proofs.Embryos.{waiting-add_file}
use Rattle.af_base.proofs.SocketNames.{name-there, names-kept}
use Rattle.af_base.proofs.SettledWorlds.{none_in}
use Rattle.af_base.proofs.Sums.{total-insert}
use Rattle.af_base.proofs.StaysWhole.{not_connected, peer_or}
use Rattle.af_base.proofs.TypedFiles.{AreTyped, IsTyped, target_or, targets-typed, typed-aimless, typed-more, typed-whole, types-typed}

-- With a file more come the places that it has.
pub refs-add_file : (w : World) (x : File) (f : ℕ) → map.get w.files w.next_ino ≡ None → refs (add_file w x) f ≡ refs w f + count_in f (contents x)
refs-add_file w x f none =
    let before : option_map_or (λ y. count_in f (contents y)) (map.get w.files w.next_ino) 0 ≡ 0 = ap (λ o. option_map_or (λ y. count_in f (contents y)) o 0) none in
    omega (arith, before, total-insert (λ y. count_in f (contents y)) w.files w.next_ino x)

-- A socket of a pair that is connected is connected to the other, and so is that one.
paired_peer : (kind : SockType) (other p : ℕ) → paired_state kind other ≡ state.Connected p
    → (other ≡ p) × ((q : ℕ) → paired_state kind q ≡ state.Connected q)
paired_peer Stream other p e = (ap (peer_or p) e, λ q. refl)
paired_peer Seqpacket other p e = (ap (peer_or p) e, λ q. refl)
paired_peer Dgram other p e = not_connected (state.Sends other) p refl e

-- The state of a socket of a pair fits its type, and its target is the other.
typed-paired : (n : ℕ) (kind : SockType) (other : ℕ) → 0 < other → other < n
    → IsTyped n (AsSocket (paired_socket kind other))
typed-paired n Stream other some low = typed-aimless _ refl refl
typed-paired n Seqpacket other some low = typed-aimless _ refl refl
typed-paired n Dgram other some low =
    record {
      fits = refl;
      target = λ q e. let same : other ≡ q = ap (target_or 0) e in
          (omega (arith, same, some), omega (arith, same, low));
    }

module _ (w : World) (kind : SockType) where
  -- The number of the first socket.
  abbrev a : ℕ
  a = w.next_ino

  -- The number of the second socket.
  abbrev b : ℕ
  b = w.next_ino + 1

  -- The files with the first socket.
  abbrev first : Map File
  first = map.insert w.files a (AsSocket (paired_socket kind b))

  -- The world with both sockets.
  abbrev new : World
  new = with_pair w kind

  -- The second socket is there.
  pub second_there : map.get new.files b ≡ Some (AsSocket (paired_socket kind a))
  second_there = insert-here first b (AsSocket (paired_socket kind a))

  -- The first socket is there.
  pub first_there : map.get new.files a ≡ Some (AsSocket (paired_socket kind b))
  first_there = insert-other first b (AsSocket (paired_socket kind a)) a
      (told_apart a b (λ e. omega (arith, e)))
      ∙ insert-here w.files a (AsSocket (paired_socket kind b))

  -- The other files are there as before.
  others_there : (q : ℕ) → nat_eq q a ≡ false → nat_eq q b ≡ false → map.get new.files q ≡ map.get w.files q
  others_there q e d = insert-other first b (AsSocket (paired_socket kind a)) q d
      ∙ insert-other w.files a (AsSocket (paired_socket kind b)) q e

  -- A number is that of the one, or of the other, or neither.
  which : (q : ℕ) → (q ≡ a) ⊎ ((q ≡ b) ⊎ (map.get new.files q ≡ map.get w.files q))
  which q = elim (same_or_not q a) [
    | inl e ↦ inl e
    | inr e ↦ elim (same_or_not q b) [ inl d ↦ inr (inl d) | inr d ↦ inr (inr (others_there q e d)) ]
  ]

  -- A file that was live is live.
  pub live-pair : IsWhole w → (f : ℕ) → IsLive w f → IsLive new f
  live-pair k f l = let low = k.files_numbered f l in ap is_some (others_there f (told_apart f a (λ e. omega (arith, e, low))) (told_apart f b (λ e. omega (arith, e, low)))) ∙ l

  -- The new sockets hold nothing.
  held_before : (q f : ℕ) → Holds new q f → Holds w q f
  held_before q f h = elim (which q) [
    | inl e ↦ absurd (none_in f (subst (λ o. Contains (option_map_or contents o []) f) (ap (map.get new.files) e ∙ first_there) h))
    | inr r ↦ elim r [
      | inl e ↦ absurd (none_in f (subst (λ o. Contains (option_map_or contents o []) f) (ap (map.get new.files) e ∙ second_there) h))
      | inr e ↦ subst (λ o. Contains (option_map_or contents o []) f) e h
    ]
  ]

  -- The connection state of a live file.
  state_there : (q : ℕ) (o : Option File) → map.get new.files q ≡ o → state_at new q ≡ option_map_or state_of o state.Idle
  state_there q o e = ap (λ o. option_map_or state_of o state.Idle) e

  -- A connected file is live.
  connected_live : (q p : ℕ) → state_at w q ≡ state.Connected p → IsLive w q
  connected_live q p = by (map.get w.files q) where
    by : (o : Option File) → option_map_or state_of o state.Idle ≡ state.Connected p → IsTrue (is_some o)
    by None e = not_connected state.Idle p refl e
    by (Some x) e = refl

  -- Peers are mutual, the two new ones too.
  mutual-pair : IsWhole w → AreMutual new
  mutual-pair k f p e = elim (which f) [
    | inl s ↦
        let to = paired_peer kind b p (sym (ap (state_at new) s ∙ state_there a _ first_there)
        ∙ e) in
        ap (state_at new) (sym to.0) ∙ state_there b _ second_there ∙ to.1 a
        ∙ ap state.Connected (sym s)
    | inr r ↦ elim r [
      | inl s ↦
          let to = paired_peer kind a p (sym (ap (state_at new) s ∙ state_there b _ second_there)
          ∙ e) in
          ap (state_at new) (sym to.0) ∙ state_there a _ first_there ∙ to.1 b
          ∙ ap state.Connected (sym s)
      | inr s ↦
          let back : state_at w p ≡ state.Connected f = k.peers f p (sym (ap (λ o. option_map_or state_of o state.Idle) s) ∙ e) in
          let low = k.files_numbered p (connected_live p f back) in
          ap (λ o. option_map_or state_of o state.Idle) (others_there p (told_apart p a (λ d. omega (arith, d, low))) (told_apart p b (λ d. omega (arith, d, low)))) ∙ back
    ]
  ]

  -- Their states fit their type.
  typed-pair : IsWhole w → AreTyped new
  typed-pair k f x is = elim (which f) [
    | inl s ↦ subst (IsTyped new.next_ino) (some_same _ x (sym (ap (map.get new.files) s ∙ first_there) ∙ is)) (typed-paired new.next_ino kind b (omega arith) (omega arith))
    | inr r ↦ elim r [
      | inl s ↦ let next = k.next_ino in subst (IsTyped new.next_ino) (some_same _ x (sym (ap (map.get new.files) s ∙ second_there) ∙ is)) (typed-paired new.next_ino kind a (omega (arith, next)) (omega arith))
      | inr s ↦ typed-more x (omega arith) (typed-whole k f x (sym s ∙ is))
    ]
  ]

  -- The new sockets have no name.
  name_before : (f : ℕ) (name : ℕ × List ℕ) → bound_at new f ≡ Some name → bound_at w f ≡ Some name
  name_before f name e = elim (which f) [
    | inl s ↦ absurd (none_some name (sym (name-there new f (Some (AsSocket (paired_socket kind b))) (ap (map.get new.files) s ∙ first_there)) ∙ e))
    | inr r ↦ elim r [
      | inl s ↦ absurd (none_some name (sym (name-there new f (Some (AsSocket (paired_socket kind a))) (ap (map.get new.files) s ∙ second_there)) ∙ e))
      | inr s ↦ name-there w f (map.get new.files f) (sym s) ∙ e
    ]
  ]

  -- Two sockets more.
  pub whole-pair : IsWhole w → IsWhole new
  whole-pair k = record {
    tables_live = λ f t. live-pair k f (k.tables_live f t);
    queues_live = λ q f h. live-pair k f (k.queues_live q f (held_before q f h));
    files_numbered = λ f l. elim (which f) [
      | inl e ↦ omega (arith, e)
      | inr r ↦ elim r [
        | inl e ↦ omega (arith, e)
        | inr e ↦ let low = k.files_numbered f (sym (ap is_some e) ∙ l) in omega (arith, low)
      ]
    ];
    processes_numbered = k.processes_numbered;
    files_begin = λ f l. elim (which f) [
      | inl e ↦ let next = k.next_ino in omega (arith, e, next)
      | inr r ↦ elim r [
        | inl e ↦ omega (arith, e)
        | inr e ↦ k.files_begin f (sym (ap is_some e) ∙ l)
      ]
    ];
    next_ino = omega arith;
    next_pid = k.next_pid;
    peers = mutual-pair k;
    targets = targets-typed new (typed-pair k);
    types = types-typed new (typed-pair k);
    names = names-kept w new (λ f name e. name_before f name e) k.names;
    embryos = λ f.
        let once = k.embryos f in
        let one_more = waiting-add_file w (AsSocket (paired_socket kind b)) refl f in
        let two_more = waiting-add_file (add_file w (AsSocket (paired_socket kind b)))
        (AsSocket (paired_socket kind a)) refl f in
        omega (arith, once, one_more, two_more);
  }
