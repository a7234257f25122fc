-- A socket that gets a name, listens, is connected to or accepts: the world stays whole and within
-- the limits.
use Rattle.std.proofs.Common.{◌≡◌, ◌<◌, ◌≤◌, ℕ, Bool, true, false, ◌⊎◌, inl, inr, List, [], ◌∷◌, ◌++◌, drop, length, refl, sym, ap, ◌∙◌, subst, cond, nat_eq, arith, length-append}
use Rattle.std.specs.Prelude.{Some, is_some, not}
use Rattle.std.specs.Option.{option_map_or}
use Rattle.std.specs.List.{Contains, sum_by}
use Rattle.std.specs.FinMap as map
use Rattle.std.proofs.lemmas.Bool.{false≢true}
use Rattle.std.proofs.lemmas.List.Elements.{Contains-append_cases, Contains-append_left, Contains-append_right, Contains-push_cases}
use Rattle.af_base.specs.declared.events.SockType.{SockType}
use Rattle.af_base.specs.declared.events.State.TheVariants as state
use Rattle.af_base.specs.declared.limits.TheConstants.{MAX_BACKLOG}
use Rattle.af_base.specs.World.{AsSocket, IsLive, Socket, World, is_live}
use Rattle.af_base.specs.Places.{Holds, attached_in, contents, queue_of}
use Rattle.af_base.specs.Counts.{one, waiting}
use Rattle.af_base.specs.Changes.{dequeued, add_file, with_name, connected, listening, queued, shut, with_socket}
use Rattle.af_base.specs.Names.{is_name, set_of}
use Rattle.af_base.specs.Refusals.{is_datagram, is_full, room_of}
use Rattle.af_base.specs.Steps.{connected_socket, with_embryo}
use Rattle.af_base.specs.Whole.{AreMutual, IsSocketWithin, IsWhole, IsWithin, bound_at, state_at, state_of}
use Rattle.af_base.proofs.NewFiles.{fresh_file}
use Rattle.af_base.proofs.Embryos.{Contains-dropped, length-drop_most, waiting-accepted, waiting-add_file, waiting-changed, waiting-none, waiting-queued}
use Rattle.af_base.proofs.PlacesAndCounts.{one-most}
use Rattle.af_base.proofs.Lookups.{insert-other, same_or_not, some_same, told_apart}
use Rattle.af_base.proofs.PlaceMoves.{held-changed, live-changed, others-changed, state-others, state-there, there-changed, there-holds, total-changed}
use Rattle.af_base.proofs.SocketNames.{name-changed, names-bound, names-changed, names-kept}
use Rattle.af_base.proofs.BlankFiles.{blank-connected, blank-there, held-blank, live-blank, name-blank, still-blank, which-blank, within-blank}
use Rattle.af_base.proofs.StaysWhole.{has_peer, mutual-alone, mutual-changed, not_peer, once-changed, peer_or, whole-changed, whole-socket}
use Rattle.af_base.proofs.TypedFiles.{AreTyped, targets-typed, typed-added, typed-aimless, typed-changed, typed-same, typed-whole, types-typed}
use Rattle.af_base.proofs.StaysWithin.{socket_same, within-changed}

-- A socket changed within its limits, in all but its queue.
within-still : (w : World) (s : ℕ) (g : Socket → Socket) (x : Socket) → IsWithin w → map.get w.files s ≡ Some (AsSocket x) → ((y : Socket) → (g y).queue ≡ y.queue) → (IsSocketWithin x → IsSocketWithin (g x)) → IsWithin (with_socket w s g)
within-still w s g x k at same fits = within-changed w s g k (λ y is. subst (λ z. IsSocketWithin (g z)) (socket_same x y (some_same _ _ (sym at ∙ is))) (fits (k.sockets s x at)))
    (let most = k.flying in omega (arith, most, total-changed (λ y. sum_by (λ m. length m.attached) (queue_of y)) w s g (λ y. ap (sum_by (λ m. length m.attached)) (same y))))

-- A socket that got a name that nobody had in its set.
pub whole-bound : (w : World) (s : ℕ) (given : List ℕ) (x : Socket)
    → map.get w.files s ≡ Some (AsSocket x)
    → ((f : ℕ) → ¬ (bound_at w f ≡ Some (set_of x.kind, given))) → IsWhole w
    → IsWhole (with_socket w s (with_name given))
whole-bound w s given x at none k =
    whole-socket w s (with_name given) (λ x f is h. inl h)
    (mutual-changed w s (with_name given) (λ x. refl) k.peers)
    (typed-same w s (with_name given) (λ x. refl) (λ x. refl) (typed-whole k))
    (names-bound w s given x at none k.names)
    (once-changed w s (with_name given) (λ x. refl) k.embryos) k

-- A socket that got a name.
pub within-bound : (w : World) (s : ℕ) (given : List ℕ) (x : Socket) → IsWithin w → map.get w.files s ≡ Some (AsSocket x) → is_name given ≡ true → IsWithin (with_socket w s (with_name given))
within-bound w s given x k at fits = within-still w s (with_name given) x k at (λ y. refl) (λ before. record {
  queue = before.queue;
  least = before.least;
  room = before.room;
  backlog = before.backlog;
  name = λ name is. subst (λ n. is_name n ≡ true) (some_same given name is) fits;
  messages = before.messages;
})

-- A socket that is found twice is for connections, if it is once.
for_connections : (x y : Socket) → is_datagram x.kind ≡ false → Some (AsSocket x)
    ≡ Some (AsSocket y) → not (is_datagram y.kind) ≡ true
for_connections x y stream same =
    ap (λ z. not (is_datagram z.kind)) (sym (socket_same x y (some_same _ _ same))) ∙ ap not stream

-- A socket for connections that was never connected, and listens now.
pub whole-listening : (w : World) (s b : ℕ) (x : Socket) → map.get w.files s ≡ Some (AsSocket x)
    → is_datagram x.kind ≡ false → x.state ≡ state.Idle → IsWhole w
    → IsWhole (with_socket w s (listening b))
whole-listening w s b x at stream idle k =
    whole-socket w s (listening b) (λ y f is h. inl h)
    (mutual-alone w s (listening b) x at (ap has_peer idle) refl k.peers)
    (typed-changed w s (listening b)
    (λ y is h. typed-aimless (AsSocket (listening b y)) (for_connections x y stream (sym at
    ∙ is)) refl) (typed-whole k))
    (names-changed w s (listening b) (λ y. refl) k.names)
    (once-changed w s (listening b) (λ y. refl) k.embryos) k

-- A socket that was never connected, and listens now, with room for one embryo at least.
pub within-listening : (w : World) (s b : ℕ) (x : Socket) → IsWithin w → map.get w.files s ≡ Some (AsSocket x) → x.state ≡ state.Idle → 1 ≤ b → b ≤ MAX_BACKLOG → IsWithin (with_socket w s (listening b))
within-listening w s b x k at idle some low = within-still w s (listening b) x k at (λ y. refl) (λ before. record {
  queue = before.queue;
  least = λ l. some;
  room = low;
  backlog = let none : room_of x.state ≡ 0 = ap room_of idle in let most = before.backlog in omega (arith, none, most);
  name = before.name;
  messages = before.messages;
})

-- A socket whose ends are closed.
pub whole-shut : (w : World) (s : ℕ) (input output : Bool) → IsWhole w → IsWhole (with_socket w s (shut input output))
whole-shut w s input output k =
    whole-changed w s (shut input output) (λ x. refl) (λ x. refl) (λ x. refl) (λ x. refl)
    (λ x f is h. inl h) k

-- A socket whose ends are closed.
pub within-shut : (w : World) (s : ℕ) (input output : Bool) → IsWithin w → IsWithin (with_socket w s (shut input output))
within-shut w s input output k = within-changed w s (shut input output) k
    (λ y is. let before = k.sockets s y is in record {
      queue = before.queue;
      least = before.least;
      room = before.room;
      backlog = before.backlog;
      name = before.name;
      messages = before.messages;
    })
    (let most = k.flying in omega (arith, most, total-changed (λ y. sum_by (λ m. length m.attached) (queue_of y)) w s (shut input output) (λ y. refl)))

-- A socket that was never connected, and is connected now.
within-connected : (w : World) (s p : ℕ) (x : Socket) → IsWithin w → map.get w.files s ≡ Some (AsSocket x) → x.state ≡ state.Idle → IsWithin (with_socket w s (connected p))
within-connected w s p x k at idle = within-still w s (connected p) x k at (λ y. refl) (λ before. record {
  queue = before.queue;
  least = λ l. absurd (false≢true l);
  room = omega arith;
  backlog = let none : room_of x.state ≡ 0 = ap room_of idle in let most = before.backlog in omega (arith, none, most);
  name = before.name;
  messages = before.messages;
})

-- A listener with an embryo more, which is live and waited nowhere.
pub whole-queued : (w : World) (s n : ℕ) (x : Socket) → map.get w.files s ≡ Some (AsSocket x) → IsLive w n → waiting w n ≡ 0 → IsWhole w → IsWhole (with_socket w s (queued n))
whole-queued w s n x at live none k =
    whole-socket w s (queued n) gain (mutual-changed w s (queued n) (λ y. refl) k.peers)
    (typed-same w s (queued n) (λ y. refl) (λ y. refl) (typed-whole k))
    (names-changed w s (queued n) (λ y. refl) k.names) once k where
      gain : (y : Socket) (f : ℕ) → map.get w.files s ≡ Some (AsSocket y) → Contains (contents (AsSocket (queued n y))) f → Contains (contents (AsSocket y)) f ⊎ IsLive w f
      gain y f is h = elim (Contains-append_cases (attached_in y.queue) (y.backlog ++ n ∷ []) f h) [
        | inl z ↦ inl (Contains-append_left (attached_in y.queue) y.backlog f z)
        | inr z ↦ elim (Contains-push_cases y.backlog n f z) [ inl b ↦ inl (Contains-append_right (attached_in y.queue) y.backlog f b) | inr b ↦ inr (subst (IsLive w) b live) ]
      ]

      once : (f : ℕ) → waiting (with_socket w s (queued n)) f ≤ 1
      once f = elim (same_or_not f n) [
        | inl e ↦
            let before : waiting w f ≡ 0 = ap (waiting w) e ∙ none in
            omega (arith, before, one-most f n, waiting-queued w s n x at f)
        | inr e ↦
            let other : one f n ≡ 0 = ap {B = ℕ} (λ b. cond b 1 0) e in
            let before = k.embryos f in
            omega (arith, other, before, waiting-queued w s n x at f)
      ]

-- A listener with room, and an embryo more.
pub within-queued : (w : World) (s n : ℕ) (x : Socket) → IsWithin w → map.get w.files s ≡ Some (AsSocket x) → length x.backlog < room_of x.state → IsWithin (with_socket w s (queued n))
within-queued w s n x k at room = within-still w s (queued n) x k at (λ y. refl) (λ before. record {
  queue = before.queue;
  least = before.least;
  room = before.room;
  backlog = omega (arith, room, length-append x.backlog (n ∷ []));
  name = before.name;
  messages = before.messages;
})

-- A listener without its first embryo.
pub whole-accepted : (w : World) (s : ℕ) (x : Socket) → map.get w.files s ≡ Some (AsSocket x) → IsWhole w → IsWhole (with_socket w s dequeued)
whole-accepted w s x at k = whole-socket w s dequeued
    (λ y f is h. inl (elim (Contains-append_cases (attached_in y.queue) (drop 1 y.backlog) f h) [
      | inl z ↦ Contains-append_left (attached_in y.queue) y.backlog f z
      | inr z ↦ Contains-append_right (attached_in y.queue) y.backlog f (Contains-dropped y.backlog f z)
    ]))
    (mutual-changed w s dequeued (λ y. refl) k.peers)
    (typed-same w s dequeued (λ y. refl) (λ y. refl) (typed-whole k))
    (names-changed w s dequeued (λ y. refl) k.names) (λ f. let once = k.embryos f in
    omega (arith, once, waiting-accepted w s x at f)) k

-- A listener without its first embryo.
pub within-accepted : (w : World) (s : ℕ) (x : Socket) → IsWithin w → map.get w.files s ≡ Some (AsSocket x) → IsWithin (with_socket w s dequeued)
within-accepted w s x k at = within-still w s dequeued x k at (λ y. refl) (λ before. record {
  queue = before.queue;
  least = before.least;
  room = before.room;
  backlog = let most = before.backlog in omega (arith, most, length-drop_most x.backlog);
  name = before.name;
  messages = before.messages;
})

-- The embryos of a listener are live.
pub live-embryo : (w : World) (s f : ℕ) (x : Socket) → IsWhole w → map.get w.files s ≡ Some (AsSocket x) → Contains x.backlog f → IsLive w f
live-embryo w s f x k at h = k.queues_live s f (there-holds w s f (AsSocket x) at (Contains-append_right (attached_in x.queue) x.backlog f h))

-- A client that was never connected.
module _ (w : World) (c : ℕ) (kind : SockType) (client : Socket) (k : IsWhole w) (client_there : map.get w.files c ≡ Some (AsSocket client)) (idle : client.state ≡ state.Idle) where
  -- The number of the embryo.
  abbrev n : ℕ
  n = w.next_ino

  -- The embryo.
  abbrev embryo : Socket
  embryo = connected_socket kind c

  -- The world with the embryo, which has no place yet and to which nobody is connected.
  abbrev base : World
  base = add_file w (AsSocket embryo)

  -- The client is connected to it.
  abbrev made : World
  made = with_socket base c (connected n)

  -- The client is live.
  client_live : IsLive w c
  client_live = ap is_some client_there

  -- It is there after the embryo is made.
  client_in_base : map.get base.files c ≡ Some (AsSocket client)
  client_in_base = still-blank w (AsSocket embryo) (blank-connected kind c) k c client_live ∙ client_there

  -- The client is connected to the embryo.
  state_client : state_at made c ≡ state.Connected n
  state_client = state-there made c (AsSocket (connected n client)) (there-changed base c (connected n) client client_in_base)

  -- The embryo is connected to the client.
  state_embryo : state_at made n ≡ state.Connected c
  state_embryo = state-others base c (connected n) n (told_apart n c (λ e. let low = k.files_numbered c client_live in omega (arith, e, low)))
      ∙ state-there base n (AsSocket embryo) (blank-there w (AsSocket embryo) (blank-connected kind c))

  -- Every other file has the state that it had.
  state_other : (q : ℕ) → nat_eq q c ≡ false → nat_eq q n ≡ false → state_at made q ≡ state_at w q
  state_other q off_client off_embryo = state-others base c (connected n) q off_client ∙ ap (λ o. option_map_or state_of o state.Idle) (insert-other w.files n (AsSocket embryo) q off_embryo)

  -- The client had no peer.
  client_alone : has_peer (state_at w c) ≡ false
  client_alone = ap has_peer (state-there w c (AsSocket client) client_there ∙ idle)

  -- The embryo's number had no peer.
  embryo_alone : has_peer (state_at w n) ≡ false
  embryo_alone = ap (λ o. has_peer (option_map_or state_of o state.Idle)) (fresh_file w n k (omega arith))

  -- Peers are mutual, the client and the embryo too.
  mutual-made : AreMutual made
  mutual-made f p e = elim (same_or_not f n) [
    | inl s ↦
        let to : c ≡ p = ap (peer_or p) (sym (ap (state_at made) s ∙ state_embryo) ∙ e) in
        ap (state_at made) (sym to) ∙ state_client ∙ ap state.Connected (sym s)
    | inr off_embryo ↦ elim (same_or_not f c) [
      | inl s ↦
          let to : n ≡ p = ap (peer_or p) (sym (ap (state_at made) s ∙ state_client) ∙ e) in
          ap (state_at made) (sym to) ∙ state_embryo ∙ ap state.Connected (sym s)
      | inr off_client ↦
          let before : state_at w f ≡ state.Connected p = sym (state_other f off_client off_embryo) ∙ e in
          state_other p (told_apart p c (λ s. not_peer w c f k.peers client_alone (before ∙ ap state.Connected s))) (told_apart p n (λ s. not_peer w n f k.peers embryo_alone (before ∙ ap state.Connected s)))
          ∙ k.peers f p before
    ]
  ]

  -- The same files are live as in the world with the embryo.
  live_base : (f : ℕ) → is_live made f ≡ is_live base f
  live_base f = live-changed base c (connected n) f

  -- A file that was live is live afterwards.
  live_before : (f : ℕ) → IsLive w f → IsLive made f
  live_before f live = live_base f ∙ live-blank w (AsSocket embryo) (blank-connected kind c) k f live

  -- A file that is live afterwards is the embryo, or was live.
  live_was : (f : ℕ) → IsLive made f → (f ≡ n) ⊎ IsLive w f
  live_was f live = elim (which-blank w (AsSocket embryo) (blank-connected kind c) f) [
    | inl e ↦ inl e
    | inr e ↦ inr (sym (ap is_some e) ∙ sym (live_base f) ∙ live)
  ]

  -- A file that is held afterwards was held.
  held_was : (q f : ℕ) → Holds made q f → Holds w q f
  held_was q f h = elim (held-changed {A = ⊥} base c (connected n) q f (λ x is d. inl d) h) [
    | inl z ↦ held-blank w (AsSocket embryo) (blank-connected kind c) q f z
    | inr z ↦ absurd z
  ]

  -- The embryo is live.
  pub live-made : IsLive made n
  live-made = live_base n ∙ ap is_some (blank-there w (AsSocket embryo) (blank-connected kind c))

  -- It waits nowhere yet.
  pub waiting-made : waiting made n ≡ 0
  waiting-made = waiting-none made n (λ q h. let low = k.files_numbered n (k.queues_live q n (held_was q n h)) in omega (arith, low))

  -- Files other than the client are unchanged.
  pub still-made : (f : ℕ) → nat_eq f c ≡ false → IsLive w f → map.get made.files f ≡ map.get w.files f
  still-made f apart live = others-changed base c (connected n) f apart ∙ still-blank w (AsSocket embryo) (blank-connected kind c) k f live

  -- The states of the client and of the embryo fit their types, where those are for connections.
  typed-made : is_datagram client.kind ≡ false → is_datagram kind ≡ false → AreTyped made
  typed-made stream same =
      typed-changed base c (connected n)
      (λ y is h. typed-aimless (AsSocket (connected n y))
      (for_connections client y stream (sym client_in_base
      ∙ is)) refl) (typed-added w (AsSocket embryo)
      (typed-aimless (AsSocket embryo) (ap not same) refl) (typed-whole k))

  -- The client and the embryo are connected to each other, and the embryo has no place yet.
  pub whole-made : is_datagram client.kind ≡ false → is_datagram kind ≡ false → IsWhole made
  whole-made stream same = record {
    tables_live = λ f t. live_before f (k.tables_live f t);
    queues_live = λ q f h. live_before f (k.queues_live q f (held_was q f h));
    files_numbered = λ f live. elim (live_was f live) [
      | inl e ↦ omega (arith, e)
      | inr before ↦ let low = k.files_numbered f before in omega (arith, low)
    ];
    processes_numbered = k.processes_numbered;
    files_begin = λ f live. elim (live_was f live) [
      | inl e ↦ let next = k.next_ino in omega (arith, e, next)
      | inr before ↦ k.files_begin f before
    ];
    next_ino = omega arith;
    next_pid = k.next_pid;
    peers = mutual-made;
    targets = targets-typed made (typed-made stream same);
    types = types-typed made (typed-made stream same);
    names = names-kept w made (λ f name e. name-blank w (AsSocket embryo) (blank-connected kind c) f name (name-changed base c (connected n) (λ x. refl) f name e)) k.names;
    embryos = λ f. let once = k.embryos f in omega (arith, once, waiting-changed base c (connected n) (λ x. refl) f, waiting-add_file w (AsSocket embryo) refl f);
  }

  -- They are within the limits, where there is room for one file more.
  pub within-made : IsWithin w → is_full w 1 ≡ false → IsWithin made
  within-made fits room = within-connected base c n client (within-blank w embryo fits room refl refl refl refl) client_in_base idle

-- A client that was never connected, and a listener.
module _ (w : World) (c l : ℕ) (kind : SockType) (client listener : Socket) (k : IsWhole w) (client_there : map.get w.files c ≡ Some (AsSocket client)) (idle : client.state ≡ state.Idle)
    (listener_there : map.get w.files l ≡ Some (AsSocket listener)) (apart : nat_eq l c ≡ false) where
  -- The world where the client and the embryo are connected to each other.
  abbrev before : World
  before = with_socket (add_file w (AsSocket (connected_socket kind c))) c (connected w.next_ino)

  -- The listener is as it was.
  listener_before : map.get before.files l ≡ Some (AsSocket listener)
  listener_before = still-made w c kind client k client_there idle l apart (ap is_some listener_there) ∙ listener_there

  -- The client and the embryo are connected to each other, and the embryo waits at the listener.
  pub whole-embryo : is_datagram client.kind ≡ false → is_datagram kind ≡ false
      → IsWhole (with_embryo w c l kind)
  whole-embryo stream same =
      whole-queued before l w.next_ino listener listener_before
      (live-made w c kind client k client_there idle)
      (waiting-made w c kind client k client_there idle)
      (whole-made w c kind client k client_there idle stream same)

  -- They are within the limits, where there is room for one file more and one embryo more.
  pub within-embryo : IsWithin w → is_full w 1 ≡ false → length listener.backlog < room_of listener.state → IsWithin (with_embryo w c l kind)
  within-embryo fits room waits = within-queued before l w.next_ino listener (within-made w c kind client k client_there idle fits room) listener_before waits
