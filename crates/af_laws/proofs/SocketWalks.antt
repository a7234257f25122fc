-- What each event keeps of each socket.
use Rattle.std.proofs.Common.{◌≡◌, ℕ, ◌+◌, ◌≤◌, Bool, true, false, ◌⊎◌, inl, inr, List, [], ◌∷◌, ◌++◌, refl, sym, ap, ◌∙◌, subst, cond, nat_eq, arith}
use Rattle.std.specs.Prelude.{Option, Some, None, if◌then◌else◌, option_map, unwrap_or}
use Rattle.std.specs.Option.{option_and_then}
use Rattle.std.specs.List.{list_any, zip}
use Rattle.std.specs.FinMap as map
use Rattle.std.proofs.lemmas.Bool.{false≢true}
use Rattle.af_base.specs.declared.events.Event.{Event}
use Rattle.af_base.specs.declared.events.Event.TheVariants as event
use Rattle.af_base.specs.declared.events.Reply.{Reply}
use Rattle.af_base.specs.declared.events.Reply.TheVariants as reply
use Rattle.af_base.specs.declared.events.SockType.{SockType}
use Rattle.af_base.specs.declared.events.SockType.TheVariants.{Dgram, Seqpacket, Stream}
use Rattle.af_base.specs.declared.events.State.{State}
use Rattle.af_base.specs.declared.events.State.TheVariants as state
use Rattle.af_base.specs.declared.events.Step.{Step}
use Rattle.af_base.specs.declared.events.Step.TheVariants as step
use Rattle.af_base.specs.World.{AsSocket, File, Map, Plain, Socket, World, open_ends}
use Rattle.af_base.specs.Changes.{add_file, add_process, aimed, connected, dequeued, file_with, install, listening, pushed, queued, shut, with_name, with_queue, with_socket}
use Rattle.af_base.specs.Pass.{Begins, GoesOn, Idle, Machine, Pass, PassesWhole, Purges, Running, empty_file, emptied}
use Rattle.af_base.specs.Refusals.{connected_to, ino_named, ino_on, is_datagram, no_socket, peer_of, refusal, socket_at, socket_named, socket_of, socket_on, spawn_refusal}
use Rattle.af_base.specs.Run.{Step as MachineStep}
use Rattle.af_base.specs.Steps.{answer, closes_input, closes_output, connected_socket, effect, got_at, idle_socket, needs_no_memory, paired_socket, paired_state, spawned, taken_on, with_embryo, with_pair}
use Rattle.af_base.specs.Unheld.{Settles, file_without, state_without}
use Rattle.af_base.specs.Names.{named, set_of}
use Rattle.af_base.specs.Places.{table_at}
use Rattle.af_base.proofs.FreedCounts.{without-was}
use Rattle.af_base.proofs.TypedFiles.{has_target}
use Rattle.af_base.proofs.Lookups.{changed-was, insert-here, insert-other, none_some, same_or_not, some_same}
use Rattle.af_base.proofs.PurgedWorlds.{slice-by}
use Rattle.af_base.proofs.PurgeOrder.{get-emptied}
use Rattle.af_laws.proofs.Outcomes.{outcome_keeps}
use Rattle.af_laws.proofs.Peeks.{same-files}

-- A new socket: its ends are open, and it has no target, unless it is a datagram socket.
pub record IsMade (x : Socket) : Type 0 where
  pub ends : x.ends ≡ open_ends
  pub aimless : is_datagram x.kind ≡ false → has_target x.state ≡ false

-- A socket after an event that is no shutdown: its ends and its type are what they were, and it
-- gets no target, unless it is a datagram socket.
pub record IsAfter (x y : Socket) : Type 0 where
  pub ends : y.ends ≡ x.ends
  pub kind : y.kind ≡ x.kind
  pub aimless : is_datagram x.kind ≡ false → has_target x.state ≡ false → has_target y.state ≡ false

-- A type of sockets for connections, or that of a socket with the property.
abbrev pub IsKindOf : (ℕ → Socket → Type 0) → SockType → Type 0
IsKindOf P kind = (is_datagram kind ≡ false) ⊎ ((g : ℕ) × (z : Socket) × P g z × (z.kind ≡ kind))

-- A property of sockets by number which each socket has that is new from this number on and of such
-- a type, and which stays where no shutdown is made.
pub record IsLasting (next : ℕ) (P : ℕ → Socket → Type 0) : Type 0 where
  pub made : (f : ℕ) (x : Socket) → next ≤ f → IsMade x → IsKindOf P x.kind → P f x
  pub stays : (f : ℕ) (x y : Socket) → IsAfter x y → P f x → P f y

-- It stays where ends are closed.
abbrev pub AllowsShut : (ℕ → Socket → Type 0) → Type 0
AllowsShut P = (f : ℕ) (x : Socket) (input output : Bool) → P f x → P f (shut input output x)

-- Each new socket of this type has it.
abbrev pub AllowsKind : ℕ → (ℕ → Socket → Type 0) → SockType → Type 0
AllowsKind next P kind = (f : ℕ) (x : Socket) → next ≤ f → IsMade x → x.kind ≡ kind → P f x

-- The step is no shutdown, or this stays where ends are closed; and it makes no socket, or one of a
-- type of which each new one has it.
abbrev pub AllowsStep : ℕ → (ℕ → Socket → Type 0) → Step → Type 0
AllowsStep next P (step.Shutdown n how) = AllowsShut P
AllowsStep next P (step.Pair kind) = AllowsKind next P kind
AllowsStep next P (step.Socket kind) = AllowsKind next P kind
AllowsStep next P s = Unit {0}

-- The same of an event.
abbrev pub AllowsEvent : ℕ → (ℕ → Socket → Type 0) → Event → Type 0
AllowsEvent next P (event.Spawn uid nofile privileged) = Unit {0}
AllowsEvent next P (event.Proc p s) = AllowsStep next P s
AllowsEvent next P event.Begin = Unit {0}
AllowsEvent next P (event.Slice b) = Unit {0}
AllowsEvent next P event.Pass = Unit {0}

-- Each socket of these files has the property.
abbrev pub Have : (ℕ → Socket → Type 0) → Map File → Type 0
Have P files = (f : ℕ) (s : Socket) → map.get files f ≡ Some (AsSocket s) → P f s

-- The socket that a file is.
file_socket : (x y : Socket) → AsSocket x ≡ AsSocket y → x ≡ y
file_socket x y e = some_same x y (ap socket_of e)

-- A file that a change leaves a socket was one.
was_socket : {X : Type 0} (g : Socket → Socket) (x : File) (y : Socket) → file_with g x ≡ AsSocket y
    → ((s : Socket) → x ≡ AsSocket s → g s ≡ y → X) → X
was_socket g Plain y e go = absurd (none_some y (ap socket_of e))
was_socket g (AsSocket s) y e go = go s refl (file_socket (g s) y e)

module _ (next : ℕ) (P : ℕ → Socket → Type 0) (lasts : IsLasting next P) where
  -- A changed socket.
  have_changed : (w : World) (s : ℕ) (g : Socket → Socket)
      → ((x : Socket) → map.get w.files s ≡ Some (AsSocket x) → P s x → P s (g x))
      → Have P w.files → Have P (with_socket w s g).files
  have_changed w s g keeps have f y is =
      let was = changed-was (file_with g) w.files s f (AsSocket y) is in
      elim was.2 [
        | inl both ↦ was_socket g was.0 y (sym both.1) (λ x e d. subst (λ k. P k y) (sym both.0) (subst (P s) d (keeps x (ap (map.get w.files) (sym both.0) ∙ was.1 ∙ ap Some e) (subst (λ k. P k x) both.0 (have f x (was.1 ∙ ap Some e))))))
        | inr same ↦ have f y (was.1 ∙ ap Some (sym same))
      ]

  -- A socket that is changed by no shutdown.
  have_kept : (w : World) (s : ℕ) (g : Socket → Socket)
      → ((x : Socket) → map.get w.files s ≡ Some (AsSocket x) → IsAfter x (g x)) → Have P w.files
      → Have P (with_socket w s g).files
  have_kept w s g same = have_changed w s g (λ x is. lasts.stays s x (g x) (same x is))

  -- A file more.
  have_added : (w : World) (x : File)
      → ((f : ℕ) (s : Socket) → next ≤ f → x ≡ AsSocket s → P f s) → next ≤ w.next_ino
      → Have P w.files → Have P (add_file w x).files
  have_added w x has low have f y is = elim (same_or_not f w.next_ino) [
    | inl same ↦ has f y (omega (arith, same, low)) ((some_same x (AsSocket y) (sym (insert-here w.files w.next_ino x) ∙ ap (map.get (add_file w x).files) (sym same) ∙ is)))
    | inr apart ↦ have f y (sym (insert-other w.files w.next_ino x f apart) ∙ is)
  ]

  -- A socket more that has it.
  have_socket : (w : World) (s : Socket) → ((f : ℕ) → next ≤ f → P f s) → next ≤ w.next_ino
      → Have P w.files → Have P (add_file w (AsSocket s)).files
  have_socket w s has =
      have_added w (AsSocket s) (λ f y low e. subst (P f) (file_socket s y e) (has f low))

  -- A changed socket whose type, ends and target are as they were.
  have_plain : (w : World) (s : ℕ) (g : Socket → Socket) → ((x : Socket) → (g x).ends ≡ x.ends)
      → ((x : Socket) → (g x).kind ≡ x.kind)
      → ((x : Socket) → has_target x.state ≡ false → has_target (g x).state ≡ false)
      → Have P w.files → Have P (with_socket w s g).files
  have_plain w s g ends kind aimless =
      have_kept w s g (λ x is. record { ends = ends x; kind = kind x; aimless = λ d. aimless x })

  -- A connect: the embryo has the type of a listener that is there, and a datagram socket gets its
  -- target.
  have_connected : (w : World) (p n : ℕ) (name : List ℕ) → next ≤ w.next_ino → Have P w.files
      → Have P (effect w p (step.Connect n name)).files
  have_connected w p n name low have = by (is_datagram s.kind) refl where
    s : Socket
    s = socket_on w p n

    c : ℕ
    c = ino_on w p n

    l : ℕ
    l = ino_named w s.kind name

    kind : SockType
    kind = (socket_named w s.kind name).kind

    -- The socket at the descriptor, where it is a datagram socket.
    same : (x : Socket) → map.get w.files c ≡ Some (AsSocket x) → is_datagram s.kind ≡ true
        → s ≡ x
    same x = at (table_at w p n) where
      at : (t : Option ℕ) → map.get w.files (unwrap_or t 0) ≡ Some (AsSocket x)
          → is_datagram (unwrap_or (option_and_then (socket_at w) t) no_socket).kind ≡ true
          → unwrap_or (option_and_then (socket_at w) t) no_socket ≡ x
      at None e d = absurd (false≢true d)
      at (Some f) e d = ap (λ o. unwrap_or (option_and_then socket_of o) no_socket) e

    -- The type of the embryo.
    known : IsKindOf P kind
    known = at (named w.files (set_of s.kind) name) where
      there : (f : ℕ) (o : Option File) → map.get w.files f ≡ o
          → IsKindOf P (unwrap_or (option_and_then socket_of o) no_socket).kind
      there f None e = inl refl
      there f (Some Plain) e = inl refl
      there f (Some (AsSocket x)) e = inr (f, x, have f x e, refl)

      at : (t : Option ℕ) → IsKindOf P (unwrap_or (option_and_then (socket_at w) t) no_socket).kind
      at None = inl refl
      at (Some f) = there f (map.get w.files f) refl

    by : (b : Bool) → is_datagram s.kind ≡ b
        → Have P (if b then with_socket w c (aimed l) else with_embryo w c l kind).files
    by true d = have_kept w c (aimed l) (λ x is. record {
      ends = refl;
      kind = refl;
      aimless =
          λ e. absurd (false≢true (sym e ∙ ap (λ y. is_datagram y.kind) (sym (same x is d))
          ∙ d));
    }) have
    by false d =
        let base = add_file w (AsSocket (connected_socket kind c)) in
        have_plain (with_socket base c (connected w.next_ino)) l (queued w.next_ino) (λ x. refl)
        (λ x. refl) (λ x h. h)
        (have_plain base c (connected w.next_ino) (λ x. refl) (λ x. refl) (λ x h. refl)
        (have_socket w (connected_socket kind c)
        (λ f high. lasts.made f (connected_socket kind c) high (record {
          ends = refl;
          aimless = λ e. refl;
        }) known) low have))

  -- A pair: two sockets of its type.
  have_paired : (w : World) (kind : SockType) → AllowsKind next P kind → next ≤ w.next_ino
      → Have P w.files → Have P (with_pair w kind).files
  have_paired w kind allows low have =
      let one = paired_socket kind (w.next_ino + 1) in
      have_socket (add_file w (AsSocket one)) (paired_socket kind w.next_ino)
      (λ f high. allows f _ high (made w.next_ino) refl) (omega (
        arith,
        low,
      )) (have_socket w one (λ f high. allows f _ high (made (w.next_ino + 1)) refl) low
      have) where
        aimless : (kind : SockType) (other : ℕ) → is_datagram kind ≡ false
            → has_target (paired_state kind other) ≡ false
        aimless Stream other e = refl
        aimless Seqpacket other e = refl
        aimless Dgram other e = absurd (false≢true (sym e))

        made : (other : ℕ) → IsMade (paired_socket kind other)
        made other = record { ends = refl; aimless = aimless kind other }

  -- The effect of a step.
  pub have_effect : (w : World) (p : ℕ) (s : Step) → AllowsStep next P s → next ≤ w.next_ino
      → Have P w.files → Have P (effect w p s).files
  have_effect w p step.Open allows low have =
      have_added w Plain (λ f s high e. absurd (none_some s (ap socket_of e))) low have
  have_effect w p (step.Dup n) allows low have = have
  have_effect w p (step.Dup2 n m) allows low have = by (nat_eq m n) where
    by : (b : Bool) → Have P (if b then w else install w p m (ino_on w p n)).files
    by true = have
    by false = have
  have_effect w p (step.Close n) allows low have = have
  have_effect w p step.Fork allows low have = have
  have_effect w p step.Exit allows low have = have
  have_effect w p (step.Pair kind) allows low have =
      have_paired w kind allows low have
  have_effect w p (step.Socket kind) allows low have =
      have_socket w (idle_socket kind)
      (λ f high. allows f (idle_socket kind) high (record {
        ends = refl;
        aimless =
            λ e. refl;
      }) refl) low have
  have_effect w p (step.Bind n name) allows low have =
      have_plain w (ino_on w p n) (with_name name) (λ x. refl) (λ x. refl) (λ x h. h) have
  have_effect w p (step.Listen n b) allows low have =
      have_plain w (ino_on w p n) (listening b) (λ x. refl) (λ x. refl) (λ x h. refl) have
  have_effect w p (step.Connect n name) allows low have = have_connected w p n name low have
  have_effect w p (step.Accept n) allows low have =
      have_plain w (ino_on w p n) dequeued (λ x. refl) (λ x. refl) (λ x h. h) have
  have_effect w p (step.Send n bytes attach) allows low have =
      have_plain w (peer_of (socket_on w p n).state) (pushed _) (λ x. refl) (λ x. refl) (λ x h. h)
      have
  have_effect w p (step.Recv n max_bytes max_fds) allows low have =
      let taken = taken_on w p n max_bytes in
      subst (Have P) (sym (same-files (with_queue w (ino_on w p n) taken.rest) p
      (zip (got_at w p n max_bytes max_fds) taken.attached)))
      (have_plain w (ino_on w p n) (λ x. record x {
        queue =
            taken.rest;
      }) (λ x. refl) (λ x. refl) (λ x h. h) have)
  have_effect w p (step.Peek n max_bytes max_fds) allows low have = subst (Have P) (sym (same-files w p (zip (got_at w p n max_bytes max_fds) (taken_on w p n max_bytes).attached))) have
  have_effect w p (step.Limit n) allows low have = have
  have_effect w p (step.Shutdown n how) allows low have =
      let f = ino_on w p n in
      let own = shut (closes_input how) (closes_output how) in
      have_changed (with_socket w f own) (connected_to (socket_on w p n).state)
      (shut (closes_output how) (closes_input how)) (λ x is h. allows _ x _ _ h)
      (have_changed w f own (λ x is h. allows f x _ _ h) have)
  have_effect w p (step.Unconnect n) allows low have =
      have_plain w (ino_on w p n) (aimed 0) (λ x. refl) (λ x. refl) (λ x h. refl) have

  -- Files that are freed.
  have_settled : (mid new : World) → Settles mid new → Have P mid.files → Have P new.files
  have_settled mid new s have f y is =
      let was = without-was s.0 mid f (AsSocket y) (sym (ap (λ v. map.get v.files f) s.2) ∙ is) in
      by was.0 was.1 was.3 where
        by : (x : File) → map.get mid.files f ≡ Some x → file_without s.0 x ≡ AsSocket y → P f y
        by Plain e d = absurd (none_some y (ap socket_of d))
        by (AsSocket x) e d =
            lasts.stays f x y (subst (IsAfter x) (file_socket _ y d) (record {
              ends = refl;
              kind =
                  refl;
              aimless = λ k h. aimless x.state h;
            })) (have f x e) where
              aimless : (t : State) → has_target t ≡ false
                  → has_target (state_without s.0 t) ≡ false
              aimless state.Idle h = refl
              aimless (state.Listening b) h = refl
              aimless (state.Connected q) h =
                  elim (s.0 q) as (λ b. has_target (cond b state.HungUp (state.Connected q))
                  ≡ false) [ true ↦ refl | false ↦ refl ]
              aimless state.HungUp h = refl
              aimless (state.Sends q) h = h

  -- Files that are emptied, and then others freed.
  have_purged : (test : ℕ → Bool) (old new : World) → Purges test old new → Have P old.files
      → Have P new.files
  have_purged test old new purged have = have_settled (emptied test old) new purged bare where
    bare : Have P (emptied test old).files
    bare f y is = by (test f) (map.get old.files f) refl (sym (get-emptied test old f) ∙ is) where
      by : (b : Bool) (o : Option File) → map.get old.files f ≡ o
          → option_map (λ x. if b then empty_file x else x) o ≡ Some (AsSocket y) → P f y
      by b None e d = absurd (none_some _ d)
      by true (Some Plain) e d = absurd (none_some y (ap (option_and_then socket_of) d))
      by true (Some (AsSocket x)) e d =
          lasts.stays f x y (subst (IsAfter x) (file_socket _ y (some_same _ _ d))
          (record { ends = refl; kind = refl; aimless = λ k h. h })) (have f x e)
      by false (Some x) e d = have f y (e ∙ d)

  -- A process that starts.
  have_spawned : (w : World) (uid nofile : ℕ) (privileged : Bool) → Have P w.files
      → Have P (spawned w uid nofile privileged).files
  have_spawned w uid nofile privileged have = by (list_any (nat_eq uid) w.users) where
    made : World
    made = add_process w (record { user = uid; limit = nofile; privileged = privileged; table = map.empty })

    by : (b : Bool)
        → Have P (if b then made else record made { users = made.users ++ uid ∷ [] }).files
    by true = have
    by false = have

  module _ (old new : Machine) (r : Reply) (have : Have P old.world.files) where
    -- Where the machine stays.
    have_same : new ≡ old → Have P new.world.files
    have_same e = subst (λ m. Have P m.world.files) (sym e) have

    -- A pass that is to begin.
    have_begun : (p : Pass) → Begins p old r new → Have P new.world.files
    have_begun Idle h = subst (λ m. Have P m.world.files) (sym h.1) have
    have_begun (Running begun spent) h = have_same h.1

    -- A slice.
    have_sliced : (p : Pass) (b : ℕ) → GoesOn p old b r new → Have P new.world.files
    have_sliced Idle b h = have_same h.1
    have_sliced (Running begun spent) b h = elim (slice-by begun spent b old new r h) [
      | inl refused ↦ have_same refused.1
      | inr made ↦ have_purged _ old.world new.world made.0.purged have
    ]

    -- A whole pass.
    have_passed : (p : Pass) → PassesWhole p old r new → Have P new.world.files
    have_passed Idle h = have_purged h.0.test old.world new.world h.0.purged have
    have_passed (Running begun spent) h = have_same h.1

  -- Each event.
  pub have_event : (old new : Machine) (e : Event) (r : Reply) → AllowsEvent next P e
      → next ≤ old.world.next_ino → Have P old.world.files → MachineStep old e r new
      → Have P new.world.files
  have_event old new (event.Spawn uid nofile privileged) r allows low have h =
      let now = spawned old.world uid nofile privileged in
      outcome_keeps (λ v. Have P v.files) (spawn_refusal old.world nofile) false (reply.Pid old.world.next_pid) now old.world r new.world have (λ none t. have_settled now new.world t (have_spawned old.world uid nofile privileged have)) h.0
  have_event old new (event.Proc p s) r allows low have h =
      let now = effect old.world p s in
      outcome_keeps (λ v. Have P v.files) (refusal old.world p s) (needs_no_memory s) (answer old.world p s) now old.world r new.world have (λ none t. have_settled now new.world t (have_effect old.world p s allows low have)) h.0
  have_event old new event.Begin r allows low have h = have_begun old new r have old.pass h
  have_event old new (event.Slice b) r allows low have h = have_sliced old new r have old.pass b h
  have_event old new event.Pass r allows low have h = have_passed old new r have old.pass h
