-- A file that is new, with nothing in it and no name, and with a number that was free.
use Rattle.std.proofs.Common.{◌≡◌, ℕ, ◌+◌, false, ◌⊎◌, inl, inr, List, [], length, refl, sym, ap, ◌∙◌, subst, arith}
use Rattle.std.specs.Prelude.{Some, None, is_some}
use Rattle.std.specs.Option.{option_map_or}
use Rattle.std.specs.List.{Contains, sum_by}
use Rattle.std.specs.FinMap as map
use Rattle.std.proofs.lemmas.Bool.{ltb-false}
use Rattle.af_base.specs.declared.events.SockType.{SockType}
use Rattle.af_base.specs.declared.events.State.TheVariants as state
use Rattle.af_base.specs.declared.limits.TheConstants.{MAX_FILES, MAX_INO}
use Rattle.af_base.specs.World.{AsSocket, File, IsLive, Plain, Socket, World}
use Rattle.af_base.specs.Places.{Holds, backlog_of, contents, queue_of}
use Rattle.af_base.specs.Counts.{count_in, refs}
use Rattle.af_base.specs.Changes.{add_file}
use Rattle.af_base.specs.Refusals.{is_full, is_listening, socket_of}
use Rattle.af_base.specs.Steps.{connected_socket, idle_socket, paired_socket}
use Rattle.af_base.specs.Whole.{IsWhole, IsWithin, bound_at, state_at, state_of}
use Rattle.af_base.proofs.NewFiles.{fresh_file}
use Rattle.af_base.proofs.Embryos.{waiting-add_file}
use Rattle.af_base.proofs.SocketNames.{bound_of, name-there, names-kept}
use Rattle.af_base.proofs.Lookups.{insert-here, insert-other, none_some, same_or_not, some_same, told_apart}
use Rattle.af_base.proofs.Pairs.{refs-add_file}
use Rattle.af_base.proofs.SettledWorlds.{none_in}
use Rattle.af_base.proofs.TypedFiles.{AreTyped, targets-typed, typed-added, typed-idle, typed-whole, types-typed}
use Rattle.af_base.proofs.Sums.{total-insert}
use Rattle.af_base.proofs.StaysWithin.{len-insert_most, neither, within-add_file}

-- A file with nothing in it and no name.
pub record IsBlank (x : File) : Type 0 where
  pub empty : contents x ≡ []
  pub none_waits : backlog_of x ≡ []
  pub unnamed : bound_of x ≡ None

-- A plain file is blank.
pub blank-plain : IsBlank Plain
blank-plain = record { empty = refl; none_waits = refl; unnamed = refl }

-- So is a socket that was never connected.
pub blank-idle : (kind : SockType) → IsBlank (AsSocket (idle_socket kind))
blank-idle kind = record { empty = refl; none_waits = refl; unnamed = refl }

-- So is a new one of a pair.
pub blank-paired : (kind : SockType) (other : ℕ) → IsBlank (AsSocket (paired_socket kind other))
blank-paired kind other = record { empty = refl; none_waits = refl; unnamed = refl }

-- So is a new one that is connected.
pub blank-connected : (kind : SockType) (peer : ℕ) → IsBlank (AsSocket (connected_socket kind peer))
blank-connected kind peer = record { empty = refl; none_waits = refl; unnamed = refl }

module _ (w : World) (x : File) (blank : IsBlank x) where
  -- The number of the new file.
  abbrev a : ℕ
  a = w.next_ino

  -- The world with the new file, which has no place yet.
  abbrev new : World
  new = add_file w x

  -- The new file is there.
  pub blank-there : map.get new.files a ≡ Some x
  blank-there = insert-here w.files a x

  -- A descriptor refers to the new file, or to the file that it referred to.
  pub which-blank : (q : ℕ) → (q ≡ a) ⊎ (map.get new.files q ≡ map.get w.files q)
  which-blank q = elim (same_or_not q a) [ inl e ↦ inl e | inr e ↦ inr (insert-other w.files a x q e) ]

  -- A file that was live is unchanged.
  pub still-blank : IsWhole w → (f : ℕ) → IsLive w f → map.get new.files f ≡ map.get w.files f
  still-blank k f l = let low = k.files_numbered f l in insert-other w.files a x f (told_apart f a (λ e. omega (arith, e, low)))

  -- A file that was live is live.
  pub live-blank : IsWhole w → (f : ℕ) → IsLive w f → IsLive new f
  live-blank k f l = ap is_some (still-blank k f l) ∙ l

  -- The new file holds nothing.
  pub held-blank : (q f : ℕ) → Holds new q f → Holds w q f
  held-blank q f h = elim (which-blank q) [
    | inl e ↦ absurd (none_in f (subst (λ xs. Contains xs f) (ap (λ o. option_map_or contents o []) (ap (map.get new.files) e ∙ blank-there) ∙ blank.empty) h))
    | inr e ↦ subst (λ o. Contains (option_map_or contents o []) f) e h
  ]

  -- The new file has no name.
  pub name-blank : (f : ℕ) (name : ℕ × List ℕ) → bound_at new f ≡ Some name
      → bound_at w f ≡ Some name
  name-blank f name e = elim (which-blank f) [
    | inl s ↦ absurd (none_some name (sym (name-there new f (Some x) (ap (map.get new.files) s ∙ blank-there) ∙ blank.unnamed) ∙ e))
    | inr s ↦ name-there w f (map.get new.files f) (sym s) ∙ e
  ]

  -- Each file keeps its peer, since the new file has none.
  state-blank : state_of x ≡ state.Idle → IsWhole w → (q : ℕ) → state_at new q ≡ state_at w q
  state-blank idle k q = elim (which-blank q) [
    | inl e ↦
        let before : map.get w.files q ≡ None = ap (map.get w.files) e ∙ fresh_file w a k (omega arith) in
        ap (λ o. option_map_or state_of o state.Idle) (ap (map.get new.files) e ∙ blank-there) ∙ idle ∙ sym (ap (λ o. option_map_or state_of o state.Idle) before)
    | inr e ↦ ap (λ o. option_map_or state_of o state.Idle) e
  ]

  -- A file more that talks to nobody.
  pub whole-blank : state_of x ≡ state.Idle → IsWhole w → IsWhole new
  whole-blank idle k = record {
    tables_live = λ f t. live-blank k f (k.tables_live f t);
    queues_live = λ q f h. live-blank k f (k.queues_live q f (held-blank q f h));
    files_numbered = λ f l. elim (which-blank f) [
      | inl e ↦ omega (arith, e)
      | inr e ↦ let low = k.files_numbered f (sym (ap is_some e) ∙ l) in omega (arith, low)
    ];
    processes_numbered = k.processes_numbered;
    files_begin = λ f l. elim (which-blank f) [
      | inl e ↦ let next = k.next_ino in omega (arith, e, next)
      | inr e ↦ k.files_begin f (sym (ap is_some e) ∙ l)
    ];
    next_ino = omega arith;
    next_pid = k.next_pid;
    peers = λ f p e. state-blank idle k p ∙ k.peers f p (sym (state-blank idle k f) ∙ e);
    targets = targets-typed new typed;
    types = types-typed new typed;
    names = names-kept w new (λ f name e. name-blank f name e) k.names;
    embryos = λ f. let once = k.embryos f in omega (arith, once, waiting-add_file w x blank.none_waits f);
  } where
    typed : AreTyped new
    typed = typed-added w x (typed-idle x idle) (typed-whole k)

  -- It has no place yet, and adds none.
  pub refs-blank : IsWhole w → (f : ℕ) → refs new f ≡ refs w f
  refs-blank k f = let none : count_in f (contents x) ≡ 0 = ap (count_in f) blank.empty in omega (arith, none, refs-add_file w x f (fresh_file w a k (omega arith)))

module _ (w : World) where
  -- A plain file more.
  pub whole-plain : IsWhole w → IsWhole (add_file w Plain)
  whole-plain k = whole-blank w Plain blank-plain refl k

  -- A plain file more, where there is room for one.
  pub within-plain : IsWithin w → is_full w 1 ≡ false → IsWithin (add_file w Plain)
  within-plain k room =
      let parts = neither _ _ room in
      let few = ltb-false MAX_FILES (map.len w.files + 1) parts.0 in
      let low = ltb-false (MAX_INO + 1) (w.next_ino + 1) parts.1 in
      let more = len-insert_most w.files w.next_ino Plain in
      let places : File → ℕ = λ y. sum_by (λ n. length n.attached) (queue_of y) in
      let nothing : places Plain ≡ 0 = refl in
      let most = k.flying in
      record {
        process_count = k.process_count;
        file_count = omega (arith, few, more);
        flying = omega (arith, nothing, most, total-insert places w.files w.next_ino Plain);
        pids = k.pids;
        inos = omega (arith, low);
        processes = k.processes;
        sockets = λ f s is. elim (same_or_not f w.next_ino) [
          | inl same ↦ absurd (none_some s (ap socket_of (some_same Plain (AsSocket s) (sym (insert-here w.files w.next_ino Plain) ∙ ap (map.get (map.insert w.files w.next_ino Plain)) (sym same) ∙ is))))
          | inr apart ↦ k.sockets f s (sym (insert-other w.files w.next_ino Plain f apart) ∙ is)
        ];
      }

  -- A blank socket more that does not listen, where there is room for one.
  pub within-blank : (s : Socket) → IsWithin w → is_full w 1 ≡ false → s.queue ≡ [] → s.backlog ≡ [] → s.name ≡ None → is_listening s.state ≡ false → IsWithin (add_file w (AsSocket s))
  within-blank s k room bare none_waits unnamed silent =
      let parts = neither _ _ room in
      let few = ltb-false MAX_FILES (map.len w.files + 1) parts.0 in
      let low = ltb-false (MAX_INO + 1) (w.next_ino + 1) parts.1 in
      within-add_file w s k few (omega (arith, low)) bare none_waits unnamed silent
