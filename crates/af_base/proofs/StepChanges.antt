-- The changes of a step, one after the other, each with its requirements.
use Rattle.std.proofs.Common.{◌≡◌, ◌<◌, ◌≤◌, ℕ, ◌+◌, Bool, true, false, ◌⊎◌, inl, inr, List, [], ◌∷◌, ◌++◌, length, refl, ap, subst, nat_eq, arith}
use Rattle.std.specs.Prelude.{Some, None, if◌then◌else◌}
use Rattle.std.specs.Option.{option_and_then}
use Rattle.std.specs.List.{Contains, list_any, zip}
use Rattle.std.specs.FinMap as map
use Rattle.af_base.specs.declared.events.SockType.{SockType}
use Rattle.af_base.specs.declared.events.State.TheVariants as state
use Rattle.af_base.specs.declared.limits.TheConstants.{MAX_BACKLOG, MAX_INFLIGHT, MAX_MESSAGES, MAX_NOFILE}
use Rattle.af_base.specs.World.{AsSocket, File, IsLive, Map, Message, Plain, Process, Socket, World}
use Rattle.af_base.specs.Places.{Holds, InTable, contents}
use Rattle.af_base.specs.Counts.{total}
use Rattle.af_base.specs.Changes.{add_file, add_process, add_user, aimed, connected, dequeued, install, install_all, listening, push_message, pushed, queued, remove_process, set_limit, shut, uninstall, with_name, with_queue, with_socket}
use Rattle.af_base.specs.Names.{is_name, named, set_of}
use Rattle.af_base.specs.Reached.{Reached}
use Rattle.af_base.specs.Refusals.{is_at_process_limit, is_datagram, is_full, room_of, socket_of}
use Rattle.af_base.specs.Steps.{connected_socket, idle_socket, with_embryo, with_pair}
use Rattle.af_base.specs.Take.{take_from}
use Rattle.af_base.specs.Whole.{IsMessageWithin, IsProcessWithin, IsWhole, IsWithin}
use Rattle.af_base.proofs.NewFiles.{whole-add_process, whole-add_user}
use Rattle.af_base.proofs.Connections.{whole-accepted, whole-bound, whole-embryo, whole-listening, whole-shut, within-accepted, within-bound, within-embryo, within-listening, within-shut}
use Rattle.af_base.proofs.Datagrams.{datagram-alone, held-aimed, whole-aimed, within-aimed}
use Rattle.af_base.proofs.Elements.{Contains-first, Contains-later}
use Rattle.af_base.proofs.ProcessExits.{tabled-remove, whole-remove_process, within-remove_process}
use Rattle.af_base.proofs.Free.{AreFree, first-low, rest-free}
use Rattle.af_base.proofs.ProcessLimits.{tabled-limited, whole-limited, within-limited}
use Rattle.af_base.proofs.PlaceMoves.{tabled-install, tabled-uninstall, there-install}
use Rattle.af_base.proofs.SocketNames.{named-none}
use Rattle.af_base.proofs.BlankFiles.{IsBlank, blank-connected, blank-idle, blank-paired, blank-plain, whole-blank, whole-plain, within-blank, within-plain}
use Rattle.af_base.proofs.Pairs.{whole-pair}
use Rattle.af_base.proofs.AllowedSteps.{held-with_socket}
use Rattle.af_base.proofs.HeldFiles.{held-dequeued, held-pushed, held-queued, held-taken, tabled-more}
use Rattle.af_base.proofs.ReceivedFiles.{leaves-taken}
use Rattle.af_base.proofs.StaysWhole.{whole-install, whole-left, whole-push, whole-uninstall}
use Rattle.af_base.proofs.StaysWithin.{below-most, within-add_process, within-add_user, within-install, within-left, within-pair, within-push, within-uninstall}

-- A file that a chain of places led to at first, or whose number was not given yet.
abbrev pub IsKnown : World → ℕ → Type 0
IsKnown old f = Reached old f ⊎ (old.next_ino ≤ f)

-- A world that is whole, and within the limits.
abbrev pub Fits : World → Type 0
Fits w = IsWhole w × IsWithin w

-- How the places of a world come of those of the old one: what a table or a socket holds afterwards
-- it held, or it was known; and a new file holds nothing.
pub data Places (old : World) : World → Type 0 where
  Same : Places old old
  Tables : (w : World) (ps : Map Process) (pid : ℕ) (us : List ℕ) → Places old w → ((f : ℕ) → InTable (record w { processes = ps }) f → InTable w f ⊎ IsKnown old f) → Places old (record w { processes = ps; next_pid = pid; users = us })
  Adds : (w : World) (x : File) → Places old w → IsBlank x → Places old (add_file w x)
  Sets : (w : World) (s : ℕ) (g : Socket → Socket) → Places old w → ((q f : ℕ) → Holds (with_socket w s g) q f → Holds w q f ⊎ IsKnown old f) → Places old (with_socket w s g)

-- A world that changes lead to from the old one.
pub record Changed (old now : World) : Type 0 where
  pub places : Places old now
  pub fits : Fits old → Fits now

-- Where nothing changed.
pub unchanged : (w : World) → Changed w w
unchanged w = record { places = Same; fits = λ k. k }

-- A change that keeps all holders adds no held file.
still-holds : (old w : World) (s : ℕ) (g : Socket → Socket) → ((x : Socket) → contents (AsSocket (g x)) ≡ contents (AsSocket x)) → (q f : ℕ) → Holds (with_socket w s g) q f → Holds w q f ⊎ IsKnown old f
still-holds old w s g same q f h = inl (subst (λ xs. Contains xs f) (held-with_socket w s g same q) h)

module _ {old w : World} (c : Changed old w) where
  -- Changed processes.
  tables : (ps : Map Process) (pid : ℕ) (us : List ℕ) → ((f : ℕ) → InTable (record w { processes = ps }) f → InTable w f ⊎ IsKnown old f) → (Fits w → Fits (record w { processes = ps; next_pid = pid; users = us })) → Changed old (record w { processes = ps; next_pid = pid; users = us })
  tables ps pid us gain fits = record { places = Tables w ps pid us c.places gain; fits = λ k. fits (c.fits k) }

  -- A file more that holds nothing.
  adds : (x : File) → IsBlank x → (Fits w → Fits (add_file w x)) → Changed old (add_file w x)
  adds x blank fits = record { places = Adds w x c.places blank; fits = λ k. fits (c.fits k) }

  -- A changed socket.
  sets : (s : ℕ) (g : Socket → Socket) → ((q f : ℕ) → Holds (with_socket w s g) q f → Holds w q f ⊎ IsKnown old f) → (Fits w → Fits (with_socket w s g)) → Changed old (with_socket w s g)
  sets s g gain fits = record { places = Sets w s g c.places gain; fits = λ k. fits (c.fits k) }

  -- A descriptor is set to a known live file.
  pub changed-install : (p n f : ℕ) (q : Process) → map.get w.processes p ≡ Some q → n < q.limit → IsLive w f → IsKnown old f → Changed old (install w p n f)
  changed-install p n f q at low live known =
      tables (install w p n f).processes w.next_pid w.users (λ g t. elim (tabled-install w p n f g t) [ inl y ↦ inl y | inr y ↦ inr (subst (IsKnown old) y known) ])
      (λ k. (whole-install w p n f k.0 live, within-install w p n f k.1 (below-most w p n q k.1 at low)))

  -- A descriptor is freed.
  pub changed-uninstall : (p n : ℕ) → Changed old (uninstall w p n)
  changed-uninstall p n = tables (uninstall w p n).processes w.next_pid w.users (λ f t. inl (tabled-uninstall w p n f t)) (λ k. (whole-uninstall w p n k.0, within-uninstall w p n k.1))

  -- A process starts, whose files were in a table.
  pub changed-process : (q : Process) → is_at_process_limit w ≡ false → (IsWithin w → IsProcessWithin q) → ((n f : ℕ) → map.get q.table n ≡ Some f → InTable w f) → Changed old (add_process w q)
  changed-process q room fits had =
      tables (add_process w q).processes (w.next_pid + 1) w.users (λ f t. inl (tabled-more w q had f t)) (λ k. (whole-add_process w q k.0 (λ n f is. k.0.tables_live f (had n f is)), within-add_process w q k.1 room (fits k.1)))

  -- A user is added.
  pub changed-user : (u : ℕ) → Changed old (add_user w u)
  changed-user u = record { places = by (list_any (nat_eq u) w.users); fits = λ k. let j = c.fits k in (whole-add_user w u j.0, within-add_user w u j.1) } where
    by : (b : Bool) → Places old (if b then w else record w { users = w.users ++ u ∷ [] })
    by true = c.places
    by false = Tables w w.processes w.next_pid (w.users ++ u ∷ []) c.places (λ f t. inl t)

  -- A process ends.
  pub changed-exit : (p : ℕ) → Changed old (remove_process w p)
  changed-exit p = tables (remove_process w p).processes w.next_pid w.users (λ f t. inl (tabled-remove w p f t)) (λ k. (whole-remove_process w p k.0, within-remove_process w p k.1))

  -- A limit is changed.
  pub changed-limit : (p n : ℕ) → n ≤ MAX_NOFILE → Changed old (set_limit w p n)
  changed-limit p n low = tables (set_limit w p n).processes w.next_pid w.users (λ f t. inl (tabled-limited w p n f t)) (λ k. (whole-limited w p n k.0, within-limited w p n k.1 low))

  -- A plain file is made.
  pub changed-plain : is_full w 1 ≡ false → Changed old (add_file w Plain)
  changed-plain room = adds Plain blank-plain (λ k. (whole-plain w k.0, within-plain w k.1 room))

  -- A socket is made.
  pub changed-socket : (kind : SockType) → is_full w 1 ≡ false → Changed old (add_file w (AsSocket (idle_socket kind)))
  changed-socket kind room = adds (AsSocket (idle_socket kind)) (blank-idle kind) (λ k. (whole-blank w (AsSocket (idle_socket kind)) (blank-idle kind) refl k.0, within-blank w (idle_socket kind) k.1 room refl refl refl refl))

  -- Two connected sockets are made.
  pub changed-pair : (kind : SockType) → is_full w 2 ≡ false → Changed old (with_pair w kind)
  changed-pair kind room = record {
    places = Adds _ _ (Adds w _ c.places (blank-paired kind (w.next_ino + 1)))
        (blank-paired kind w.next_ino);
    fits = λ k. let j = c.fits k in (whole-pair w kind j.0, within-pair w kind j.1 room);
  }

  -- A client is connected to an embryo, which waits at a listener.
  pub changed-embryo : (s l : ℕ) (kind : SockType) (x y : Socket) → map.get w.files s
      ≡ Some (AsSocket x) → x.state ≡ state.Idle → is_datagram x.kind ≡ false → is_datagram kind
      ≡ false → map.get w.files l ≡ Some (AsSocket y) → nat_eq l s ≡ false → is_full w 1 ≡ false
      → length y.backlog < room_of y.state → old.next_ino ≤ w.next_ino
      → Changed old (with_embryo w s l kind)
  changed-embryo s l kind x y there idle stream same listens apart room waits low =
      let base = add_file w (AsSocket (connected_socket kind s)) in
      record {
        places = Sets (with_socket base s (connected w.next_ino)) l (queued w.next_ino) (Sets base s (connected w.next_ino) (Adds w _ c.places (blank-connected kind s)) (still-holds old base s (connected w.next_ino) (λ z. refl)))
            (λ q f h. elim (held-queued (with_socket base s (connected w.next_ino)) l w.next_ino q f h) [ inl z ↦ inl z | inr e ↦ inr (inr (omega (arith, low, e))) ]);
        fits = λ k. let j = c.fits k in (
          whole-embryo w s l kind x y j.0 there idle listens apart stream same,
          within-embryo w s l kind x y j.0 there idle listens apart j.1 room waits,
        );
      }

  -- A socket gets a name, which is free in its set.
  pub changed-name : (s : ℕ) (name : List ℕ) (x : Socket) → map.get w.files s ≡ Some (AsSocket x)
      → is_name name ≡ true → named w.files (set_of x.kind) name ≡ None
      → Changed old (with_socket w s (with_name name))
  changed-name s name x at fits free = sets s (with_name name) (still-holds old w s (with_name name) (λ z. refl)) (λ k. (whole-bound w s name x at (named-none w (set_of x.kind) name free) k.0, within-bound w s name x k.1 at fits))

  -- A socket becomes a listener.
  pub changed-listen : (s b : ℕ) (x : Socket) → map.get w.files s ≡ Some (AsSocket x)
      → is_datagram x.kind ≡ false → x.state ≡ state.Idle → 1 ≤ b → b ≤ MAX_BACKLOG
      → Changed old (with_socket w s (listening b))
  changed-listen s b x at stream idle some low =
      sets s (listening b) (still-holds old w s (listening b) (λ z. refl))
      (λ k. (
        whole-listening w s b x at stream idle k.0,
        within-listening w s b x k.1 at idle some low,
      ))

  -- A datagram socket gets another target, whose number was given, or none.
  pub changed-aimed : (s to : ℕ) (x : Socket) → map.get w.files s ≡ Some (AsSocket x)
      → is_datagram x.kind ≡ true → (IsWhole w → to < w.next_ino)
      → Changed old (with_socket w s (aimed to))
  changed-aimed s to x at datagram low =
      sets s (aimed to) (λ q f h. inl (held-aimed w s to q f h)) (λ k.
      let alone = datagram-alone x.kind x.state
      (k.0.types s x (ap (option_and_then socket_of) at)) datagram in
      (whole-aimed w s to x at datagram (low k.0) k.0, within-aimed w s to x k.1 at alone.0))

  -- Ends of a socket are closed.
  pub changed-shut : (s : ℕ) (input output : Bool) → Changed old (with_socket w s (shut input output))
  changed-shut s input output = sets s (shut input output) (still-holds old w s (shut input output) (λ z. refl)) (λ k. (whole-shut w s input output k.0, within-shut w s input output k.1))

  -- The first embryo leaves a backlog.
  pub changed-accept : (s : ℕ) (x : Socket) → map.get w.files s ≡ Some (AsSocket x) → Changed old (with_socket w s dequeued)
  changed-accept s x at = sets s dequeued (λ q f h. inl (held-dequeued w s q f h)) (λ k. (whole-accepted w s x at k.0, within-accepted w s x k.1 at))

  -- A message with known live files joins a queue.
  pub changed-push : (s : ℕ) (m : Message) (x : Socket) → map.get w.files s ≡ Some (AsSocket x) → ((f : ℕ) → Contains m.attached f → IsLive w f × IsKnown old f) → IsMessageWithin m → length x.queue < MAX_MESSAGES → total w + length m.attached ≤ MAX_INFLIGHT
      → Changed old (push_message w s m)
  changed-push s m x at known fits room few = sets s (pushed m) (λ q f h. elim (held-pushed w s m q f h) [ inl y ↦ inl y | inr y ↦ inr (known f y).1 ]) (λ k. (whole-push w s m k.0 (λ f h. (known f h).0), within-push w s m x k.1 at fits room few))

  -- A receive takes its part of a queue.
  pub changed-take : (s n : ℕ) (x : Socket) → map.get w.files s ≡ Some (AsSocket x) → Changed old (with_queue w s (take_from x.kind x.queue n).rest)
  changed-take s n x at = sets s (λ y. record y { queue = (take_from x.kind x.queue n).rest }) (λ q f h. inl (held-taken w s n x at q f h)) (λ k.
      let left = leaves-taken x.kind x.queue n (k.1.sockets s x at).messages in
      (whole-left w s x _ _ k.0 at left, within-left w s x _ _ k.1 at left))

-- Files installed at free numbers, one after the other.
pub changed-installs : (old w : World) (p : ℕ) (q : Process) (ns fs : List ℕ) → Changed old w → map.get w.processes p ≡ Some q → AreFree q ns → ((f : ℕ) → Contains fs f → IsLive w f × IsKnown old f) → Changed old (install_all w p (zip ns fs))
changed-installs old w p q [] fs c at free all = c
changed-installs old w p q (n ∷ ns) [] c at free all = c
changed-installs old w p q (n ∷ ns) (f ∷ fs) c at free all =
    let first = all f (Contains-first f fs) in
    changed-installs old (install w p n f) p (record q { table = map.insert q.table n f }) ns fs (changed-install c p n f q at (first-low q n ns free) first.0 first.1) (there-install w p n f q at) (rest-free q n ns f free) (λ g h. all g (Contains-later f fs g h))
