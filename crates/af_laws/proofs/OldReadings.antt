-- In an old world each definition reads as it did.
use Rattle.std.proofs.Common.{◌≡◌, ◌↔◌, ℕ, ◌+◌, T, Bool, true, false, not, ◌&&◌, ◌||◌, List, [], ◌∷◌, ◌++◌, length, refl, sym, ap, ◌∙◌, subst, cond, nat_eq}
use Rattle.std.specs.Prelude.{Option, Some, None, is_none, nat_le, option_map, unwrap_or, if◌then◌else◌}
use Rattle.std.specs.Option.{option_and_then, option_map_or}
use Rattle.std.specs.List.{All, find}
use Rattle.std.specs.Ordering.{nat_cmp}
use Rattle.std.specs.Str.{bytes_eq}
use Rattle.std.specs.FinMap as map
use Rattle.std.specs.FinMap.{entries_sorted, is_sorted}
use Rattle.std.specs.FinMap.Entries.{below_all}
use Rattle.std.proofs.Math.Bool.{or-false}
use Rattle.std.proofs.lemmas.Bool.{false≢true}
use Rattle.af_base.specs.declared.errno.Errno.TheVariants.{EAGAIN, ECONNREFUSED, EINVAL, ENOTCONN, EOPNOTSUPP, EPIPE, EPROTOTYPE}
use Rattle.af_base.specs.declared.events.Event.{Event}
use Rattle.af_base.specs.declared.events.Event.TheVariants as event
use Rattle.af_base.specs.declared.events.Reply.{Reply}
use Rattle.af_base.specs.declared.events.SockType.{SockType}
use Rattle.af_base.specs.declared.events.SockType.TheVariants.{Dgram, Seqpacket, Stream}
use Rattle.af_base.specs.declared.events.State.TheVariants as state
use Rattle.af_base.specs.declared.events.Step.{Step}
use Rattle.af_base.specs.declared.events.Step.TheVariants as step
use Rattle.af_base.specs.declared.limits.TheConstants.{MAX_BYTES}
use Rattle.af_base.specs.World.{AsSocket, File, Plain, Socket, World, open_ends}
use Rattle.af_base.specs.Changes.{aimed, install, with_socket}
use Rattle.af_base.specs.Counts.{charged, total}
use Rattle.af_base.specs.Names.{bound_to, has_name, is_between, named, set_of}
use Rattle.af_base.specs.Pass.{Machine}
use Rattle.af_base.specs.Places.{queue_at, queue_in, queue_of, table_at}
use Rattle.af_base.specs.Ready.{found, has_room, is_cut_off, reaches, ready_in, ready_of, waits, writes}
use Rattle.af_base.specs.Refusals.{RefusalRow, at_socket, first_fit, ino_named, ino_on, is_connected, is_datagram, is_deaf, is_ended, is_hung_up, is_linked, is_listening, is_same_type, no_socket, on_bind, on_charge, on_client, on_files, on_free, on_input, on_listener, on_name, on_parts, on_peer, on_process, on_receive, on_room, on_target, peer_of, process_at, refusal, room_of, socket_at, socket_in, socket_named, socket_of, socket_on, target_named}
use Rattle.af_base.specs.Run.{Run, RunEntry, Step as MachineStep}
use Rattle.af_base.specs.Steps.{Outcome, answer, effect, free_at, needs_no_memory, with_embryo, with_pair}
use Rattle.af_base.specs.Whole.{IsSound, IsWhole, bound_at, name_at}
use Rattle.af_base.proofs.PlacesAndCounts.{here, later}
use Rattle.af_base.proofs.SoundSteps.{none-fits, passes-on, socket-there}
use Rattle.af_base.proofs.Sums.{first, second}
use Rattle.af_base.proofs.TypedFiles.{not_sending}
use Rattle.af_laws.proofs.Logs.{events_keep_sound}
use Rattle.af_laws.proofs.OldWorlds.{effect_old, event_old, first_old}
use Rattle.af_laws.proofs.Peers.{peer-takes}
use Rattle.af_laws.specs.Keeping.{AreOld, IsOldEvent, IsOldMachine, IsOldSocket, IsOldStep, OldRunsAreRunsThen, OldWorldsReadAsThen, RunThen, StepThen, effect_then, found_then, has_name_then, named_then, on_accept_then, on_listen_then, on_listener_then, on_peer_then, on_receive_then, ready_in_then, ready_of_then, refusal_then, socket_named_then, with_pair_then, writes_then}

-- Two rows with the same beginning, where the rest is read only if nothing in that fits.
guarded : (row more rest : RefusalRow) → (first_fit row ≡ None → first_fit more ≡ first_fit rest)
    → first_fit (row ++ more) ≡ first_fit (row ++ rest)
guarded [] more rest go = go refl
guarded (r ∷ rs) more rest go = by r.0 go (λ on. guarded rs more rest on) where
  by : (b : Bool)
      → ((if b then Some r.1 else first_fit rs) ≡ None → first_fit more ≡ first_fit rest)
      → ((first_fit rs ≡ None → first_fit more ≡ first_fit rest)
      → first_fit (rs ++ more) ≡ first_fit (rs ++ rest))
      → (if b then Some r.1 else first_fit (rs ++ more))
      ≡ (if b then Some r.1 else first_fit (rs ++ rest))
  by true go later = refl
  by false go later = later go

-- No test of two rows fits exactly if none fits of either.
both_pass : (rows more : RefusalRow)
    → (is_none (first_fit rows) && is_none (first_fit more)) ≡ is_none (first_fit (rows ++ more))
both_pass [] more = refl
both_pass (r ∷ rs) more = by r.0 (both_pass rs more) where
  by : (b : Bool)
      → (is_none (first_fit rs) && is_none (first_fit more)) ≡ is_none (first_fit (rs ++ more))
      → (is_none (if b then Some r.1 else first_fit rs) && is_none (first_fit more))
      ≡ is_none (if b then Some r.1 else first_fit (rs ++ more))
  by true later = refl
  by false later = later

-- A socket for connections whose ends are open.
module _ (s : Socket) (opened : s.ends ≡ open_ends) (kind : is_datagram s.kind ≡ false) where
  -- It is connected to as it was.
  listener_same : (kind : SockType) → on_listener s kind ≡ on_listener_then s kind
  listener_same kind =
      let silent : (not (is_listening s.state) || s.ends.no_input) ≡ not (is_listening s.state) = ap (λ e. not (is_listening s.state) || e.no_input) opened ∙ or-false (not (is_listening s.state)) in
      λ i. (silent i, ECONNREFUSED) ∷ (not (is_same_type s.kind kind), EPROTOTYPE) ∷ (nat_le (room_of s.state) (length s.backlog), EAGAIN) ∷ []

  -- Messages come to it where they did.
  linked_same : is_linked s ≡ is_connected s.state
  linked_same = ap (λ b. is_connected s.state || b) kind ∙ or-false (is_connected s.state)

  -- It has ended where it had.
  ended_same : is_ended s ≡ is_hung_up s.state
  ended_same =
      ap (λ e. is_hung_up s.state || (e.no_input && not (is_datagram s.kind))) opened
      ∙ or-false (is_hung_up s.state)

  -- It is received from as it was.
  receive_same : (max_bytes : ℕ) → on_receive s max_bytes ≡ on_receive_then s max_bytes
  receive_same max_bytes =
      λ i. (not (is_between 1 MAX_BYTES max_bytes), EINVAL) ∷ (
        not (linked_same i),
        ENOTCONN,
      ) ∷ (nat_eq (length s.queue) 0 && not (ended_same i), EAGAIN) ∷ []

  -- It is cut off where its peer was freed.
  cut_same : is_cut_off s ≡ is_hung_up s.state
  cut_same =
      ap (λ e. is_hung_up s.state || (e.no_input && e.no_output)) opened
      ∙ or-false (is_hung_up s.state)

-- An old world that is whole.
module _ (w : World) (whole : IsWhole w) (old : AreOld w.files) where
  -- No input is closed.
  hears : (q : ℕ) → is_deaf w q ≡ false
  hears q = by (map.get w.files q) refl where
    by : (o : Option File) → map.get w.files q ≡ o
        → option_map_or (λ s. s.ends.no_input) (option_and_then socket_of o) false ≡ false
    by None e = refl
    by (Some Plain) e = refl
    by (Some (AsSocket s)) e = ap (λ d. d.no_input) (old q s e).ends

  -- A socket has somebody to talk to as it did: its peer is there, and takes from it.
  peer_same : (f : ℕ) (s : Socket) → map.get w.files f ≡ Some (AsSocket s) → (rest : RefusalRow)
      → first_fit (on_peer s ++ on_target f (socket_at w (peer_of s.state)) ++ rest)
      ≡ first_fit (on_peer_then s ++ rest)
  peer_same f s is rest = by (is_connected s.state) refl (is_hung_up s.state) refl where
    there : RefusalRow
    there =
        (nat_eq (peer_of s.state) 0, ENOTCONN) ∷ on_target f (socket_at w (peer_of s.state))

    by : (c : Bool) → is_connected s.state ≡ c → (h : Bool) → is_hung_up s.state ≡ h
        → first_fit ((not (c || is_datagram s.kind), ENOTCONN) ∷ (
          h || s.ends.no_output,
          EPIPE,
        ) ∷ (there ++ rest))
        ≡ first_fit ((not c, ENOTCONN) ∷ (h, EPIPE) ∷ rest)
    by false e h d = λ i. first_fit ((not ((old f s is).kind i), ENOTCONN) ∷ (
      h
          || s.ends.no_output,
      EPIPE,
    ) ∷ (there ++ rest))
    by true e true d = refl
    by true e false d =
        (λ i. first_fit ((((old f s is).ends i).no_output, EPIPE) ∷ (there ++ rest)))
        ∙ passes-on there rest (peer-takes w f s whole is e d)

  -- The queue of the file where it sends is that of the socket.
  queue_there : (q : ℕ)
      → option_map_or (λ t. t.queue) (socket_in w.files q) [] ≡ queue_in w.files q
  queue_there q = by (map.get w.files q) where
    by : (o : Option File)
        → option_map_or (λ t. t.queue) (option_and_then socket_of o) []
        ≡ option_map_or queue_of o []
    by None = refl
    by (Some Plain) = refl
    by (Some (AsSocket t)) = refl

  -- It can send where it could.
  writes_same : (f : ℕ) (s : Socket) → map.get w.files f ≡ Some (AsSocket s)
      → writes f s (socket_in w.files (peer_of s.state))
      ≡ writes_then s (queue_in w.files (peer_of s.state))
  writes_same f s is =
      (λ i. if (old f s is).kind i then not (reaches f s target)
      || has_room target else reaches f s target && has_room target)
      ∙ (λ i. is_none (peer_same f s is (on_input (is_deaf w q)) i) && has_room target)
      ∙ (λ i. is_none (first_fit (on_peer_then s ++ on_input (hears q i))) && has_room target)
      ∙ both_pass (on_peer_then s) (on_room (option_map_or (λ t. t.queue) target []))
      ∙ (λ i. is_none (first_fit (on_peer_then s ++ on_room (queue_there q i)))) where
        q : ℕ
        q = peer_of s.state

        target : Option Socket
        target = socket_in w.files q

  -- Each file is ready for what it was.
  ready_same : (f : ℕ) → ready_in w.files f ≡ ready_in_then w.files f
  ready_same f = by (map.get w.files f) refl where
    by : (o : Option File) → map.get w.files f ≡ o
        → option_map (ready_of w.files f) o ≡ option_map (ready_of_then w.files) o
    by None e = refl
    by (Some Plain) e = refl
    by (Some (AsSocket s)) e =
        let h = old f s e in
        λ i. Some (record {
          readable = is_none (first_fit (receive_same s h.ends h.kind 1 i))
              || is_none (first_fit ((h.kind i, EOPNOTSUPP) ∷ on_accept_then s));
          writable = writes_same f s e i;
          hung_up = cut_same s h.ends h.kind i;
        })

-- What a socket of this name is bound to.
abbrev in_one_set : List ℕ → ℕ × List ℕ
in_one_set name = (0, name)

-- Tests that agree on each entry of a map find the same.
find_same : {X : Type 0} (P Q : ℕ × X → Bool) (es : List (ℕ × X)) → T (is_sorted nat_cmp es)
    → ((k : ℕ) (x : X) → map.find nat_cmp k es ≡ Some x → P (k, x) ≡ Q (k, x))
    → find P es ≡ find Q es
find_same P Q [] s h = refl
find_same P Q (e ∷ es) s h =
    λ i. cond (h e.0 e.1 (here e es) i) (Some e)
    (find_same P Q es (second (below_all nat_cmp e.0 es) (is_sorted nat_cmp es) s)
    (λ k x is. h k x (later e es k x (first _ _ s) is (nat_cmp k e.0) refl)) i)

-- Sockets for connections have their names in one set.
one_set : (kind : SockType) → is_datagram kind ≡ false → set_of kind ≡ 0
one_set Stream e = refl
one_set Seqpacket e = refl
one_set Dgram e = absurd (false≢true (sym e))

-- An old world.
module _ (w : World) (old : AreOld w.files) where
  -- What is looked up is old.
  old_at : (t : Option ℕ) → IsOldSocket (unwrap_or (option_and_then (socket_at w) t) no_socket)
  old_at t = by t where
    none : IsOldSocket no_socket
    none = record { ends = refl; kind = refl; target = λ q e. not_sending state.Idle q refl e }

    at : (f : ℕ) (o : Option File) → map.get w.files f ≡ o
        → IsOldSocket (unwrap_or (option_and_then socket_of o) no_socket)
    at f None e = none
    at f (Some Plain) e = none
    at f (Some (AsSocket s)) e = old f s e

    by : (t : Option ℕ) → IsOldSocket (unwrap_or (option_and_then (socket_at w) t) no_socket)
    by None = none
    by (Some f) = at f (map.get w.files f) refl

  -- So is the socket at a descriptor.
  old_on : (p n : ℕ) → IsOldSocket (socket_on w p n)
  old_on p n = old_at (table_at w p n)

  -- A name finds whom it found, since all types of sockets for connections have their names in one
  -- set.
  named_same : (kind : SockType) (name : List ℕ) → is_datagram kind ≡ false
      → named w.files (set_of kind) name ≡ named_then w.files name
  named_same kind name stream =
      ap (option_map (λ e. e.0))
      (find_same (λ e. has_name (set_of kind) name e.1) (λ e. has_name_then name e.1)
      (map.entries w.files) (entries_sorted w.files)
      (λ f x is. each f x (map.get-entries w.files f ∙ is))) where
        each : (f : ℕ) (x : File) → map.get w.files f ≡ Some x
            → has_name (set_of kind) name x ≡ has_name_then name x
        each f Plain is = refl
        each f (AsSocket s) is =
            λ i. nat_eq (one_set kind stream i) (one_set s.kind (old f s is).kind i)
            && option_map_or (bytes_eq name) s.name false

  -- What a file is bound to is its name, in the one set.
  bound : (f : ℕ) → bound_at w f ≡ option_map in_one_set (name_at w f)
  bound f = by (map.get w.files f) refl where
    by : (o : Option File) → map.get w.files f ≡ o
        → option_and_then bound_to (option_and_then socket_of o)
        ≡ option_map in_one_set (option_and_then (λ s. s.name) (option_and_then socket_of o))
    by None e = refl
    by (Some Plain) e = refl
    by (Some (AsSocket s)) e =
        λ i. option_map (λ name. (one_set s.kind (old f s e).kind i, name)) s.name

  -- Files are bound to the same exactly if they have the same name.
  bound_same : (f g : ℕ) → (bound_at w f ≡ bound_at w g) ↔ (name_at w f ≡ name_at w g)
  bound_same f g = (
    λ e. sym (again (name_at w f)) ∙ ap (option_map (λ b. b.1)) (sym (bound f) ∙ e ∙ bound g) ∙ again (name_at w g),
    λ e. bound f ∙ ap (option_map in_one_set) e ∙ sym (bound g),
  ) where
    again : (o : Option (List ℕ))
        → option_map (λ (b : ℕ × List ℕ). b.1) (option_map in_one_set o) ≡ o
    again None = refl
    again (Some name) = refl

-- Steps in an old world that is whole.
module _ (w : World) (whole : IsWhole w) (old : AreOld w.files) where
  -- A receive is refused as it was.
  receive_refused : (p n max_bytes max_fds : ℕ) → refusal w p (step.Recv n max_bytes max_fds) ≡ refusal_then w p (step.Recv n max_bytes max_fds)
  receive_refused p n max_bytes max_fds =
      let is = old_on w old p n in
      λ i. first_fit (on_process (map.get w.processes p) ++ at_socket w p n
      ++ receive_same (socket_on w p n) is.ends is.kind max_bytes i)

  -- So is each old step.
  refused_same : (p : ℕ) (s : Step) → IsOldStep s → refusal w p s ≡ refusal_then w p s
  refused_same p (step.Bind n name) is =
      let s = socket_on w p n in
      λ i. first_fit (on_process (map.get w.processes p) ++ at_socket w p n ++ on_bind s name
      ++ on_name (named_same w old s.kind name (old_on w old p n).kind i))
  refused_same p (step.Listen n b) is =
      λ i. first_fit (on_process (map.get w.processes p) ++ at_socket w p n
      ++ ((old_on w old p n).kind i, EOPNOTSUPP) ∷ on_listen_then (socket_on w p n) b)
  refused_same p (step.Connect n name) is =
      let s = socket_on w p n in
      let stream = (old_on w old p n).kind in
      let heard = old_at w old (named_then w.files name) in
      let listener = listener_same (socket_named_then w name) heard.ends heard.kind s.kind in
      (λ i. first_fit (on_process (map.get w.processes p) ++ at_socket w p n ++ on_client s.state
      ++ (if stream i then on_target (ino_on w p n) (target_named w s.kind name) else
      on_listener (socket_named w s.kind name) s.kind ++ on_files w 1)))
      ∙ (λ i. first_fit (on_process (map.get w.processes p) ++ at_socket w p n
      ++ on_client s.state ++ on_listener
      (unwrap_or (option_and_then (socket_at w) (named_same w old s.kind name stream i))
      no_socket) s.kind ++ on_files w 1))
      ∙ (λ i. first_fit (on_process (map.get w.processes p) ++ at_socket w p n ++ on_client s.state ++ listener i ++ on_files w 1))
  refused_same p (step.Accept n) is =
      λ i. first_fit (on_process (map.get w.processes p) ++ at_socket w p n
      ++ ((old_on w old p n).kind i, EOPNOTSUPP) ∷ on_accept_then (socket_on w p n)
      ++ on_free (process_at w p) 1)
  refused_same p (step.Send n bytes attach) is =
      let s = socket_on w p n in
      let user = process_at w p in
      let q = peer_of s.state in
      let parts = on_parts (table_at w p) bytes attach in
      let charge = on_charge (charged w user.user) (total w) user.limit user.privileged
      (length attach) in
      guarded (on_process (map.get w.processes p) ++ at_socket w p n) (parts ++ on_peer s
      ++ on_target (ino_on w p n) (socket_at w q) ++ charge ++ on_input (is_deaf w q)
      ++ on_room (queue_at w q)) (parts ++ on_peer_then s ++ charge
      ++ on_room (queue_at w q)) (λ fits.
      let row = none-fits (on_process (map.get w.processes p) ++ at_socket w p n) fits in
      guarded parts (on_peer s ++ on_target (ino_on w p n) (socket_at w q) ++ charge
      ++ on_input (is_deaf w q) ++ on_room (queue_at w q)) (on_peer_then s ++ charge
      ++ on_room (queue_at w q)) (λ valid.
      peer_same w whole old (ino_on w p n) s (socket-there w p n row.rest.here row.rest.rest.here)
      (charge ++ on_input (is_deaf w q) ++ on_room (queue_at w q))
      ∙ (λ i. first_fit (on_peer_then s ++ charge ++ on_input (hears w whole old q i)
      ++ on_room (queue_at w q)))))
  refused_same p (step.Recv n max_bytes max_fds) is = receive_refused p n max_bytes max_fds
  refused_same p (step.Peek n max_bytes max_fds) is = receive_refused p n max_bytes max_fds
  refused_same p s is = refl

  -- A pair is made as it was.
  pair_same : (kind : SockType) → is_datagram kind ≡ false → with_pair w kind
      ≡ with_pair_then w kind
  pair_same Stream e = refl
  pair_same Seqpacket e = refl
  pair_same Dgram e = absurd (false≢true (sym e))

  -- An old step changes what it changed.
  changed_same : (p : ℕ) (s : Step) → IsOldStep s → effect w p s ≡ effect_then w p s
  changed_same p (step.Pair kind) is =
      ap (λ v. install (install v p (free_at w p 0) w.next_ino) p (free_at w p 1)
      (w.next_ino + 1)) (pair_same kind is)
  changed_same p (step.Connect n name) is =
      let kind = (socket_on w p n).kind in
      let stream = (old_on w old p n).kind in
      (λ i. if stream i then with_socket w (ino_on w p n) (aimed (ino_named w kind name)) else
      with_embryo w (ino_on w p n) (ino_named w kind name) (socket_named w kind name).kind)
      ∙ (λ i.
      let found = named_same w old kind name stream i in
      with_embryo w (ino_on w p n) (unwrap_or found 0)
      (unwrap_or (option_and_then (socket_at w) found) no_socket).kind)
  changed_same p s is = refl

  -- Steps find what they found.
  found_same : (p n : ℕ) → found w p n ≡ found_then w p n
  found_same p n =
      let is = old_on w old p n in
      let sent = refusal w p (step.Send n (0 ∷ []) []) in
      (λ i. record {
        readable = is_none (refused_same p (step.Recv n 1 0) tt i)
            || is_none (first_fit (on_process (map.get w.processes p)
            ++ (at_socket w p n ++ ((is.kind i, EOPNOTSUPP) ∷ on_accept_then (socket_on w p n)))));
        writable = if is.kind i then not (waits sent) else is_none sent;
        hung_up = cut_same (socket_on w p n) is.ends is.kind i;
      })
      ∙ (λ i. record {
        readable = (found_then w p n).readable;
        writable = is_none (refused_same p (step.Send n (0 ∷ []) []) tt i);
        hung_up = (found_then w p n).hung_up;
      })

pub old_worlds_read_as_then : OldWorldsReadAsThen
old_worlds_read_as_then w whole old = record {
  names = named_same w old;
  bindings = bound_same w old;
  refusals = refused_same w whole old;
  changes = changed_same w whole old;
  effects = λ p s is. effect_old w p s is old;
  readiness = ready_same w whole old;
  findings = found_same w whole old;
}

-- An old event leads by the definitions as they were where it leads.
module _ (old new : Machine) (r : Reply) (sound : IsSound old.world) (is : IsOldMachine old) where
  leads_then : (e : Event) → IsOldEvent e → MachineStep old e r new → StepThen old e r new
  leads_then (event.Proc p s) was h = (
    subst (λ (w : World). Outcome (refusal_then old.world p s) (needs_no_memory s)
        (answer old.world p s) w old.world r new.world)
        (changed_same old.world sound.whole is.world p s was)
        (subst (λ o. Outcome o (needs_no_memory s) (answer old.world p s) (effect old.world p s)
        old.world r new.world) (refused_same old.world sound.whole is.world p s was) h.0),
    h.1,
  )
  leads_then (event.Spawn uid nofile privileged) was h = h
  leads_then event.Begin was h = h
  leads_then (event.Slice b) was h = h
  leads_then event.Pass was h = h

  -- And it leads there where it led.
  leads_now : (e : Event) → IsOldEvent e → StepThen old e r new → MachineStep old e r new
  leads_now (event.Proc p s) was h = (
    subst (λ o. Outcome o (needs_no_memory s) (answer old.world p s) (effect old.world p s)
        old.world r new.world) (sym (refused_same old.world sound.whole is.world p s was))
        (subst (λ (w : World). Outcome (refusal_then old.world p s) (needs_no_memory s)
        (answer old.world p s) w old.world r new.world)
        (sym (changed_same old.world sound.whole is.world p s was)) h.0),
    h.1,
  )
  leads_now (event.Spawn uid nofile privileged) was h = h
  leads_now event.Begin was h = h
  leads_now (event.Slice b) was h = h
  leads_now event.Pass was h = h

-- A run is one by the definitions as they were.
run_then : (old new : Machine) (log : List RunEntry) → IsSound old.world → IsOldMachine old
    → All (λ (x : RunEntry). IsOldEvent x.0) log → Run old log new → RunThen old log new
run_then old new [] sound is all run = run
run_then old new (e ∷ log) sound is all run =
    let each = first_old e log all in (
      run.0,
      leads_then old run.0 e.1 sound is e.0 each.0 run.1,
      run_then run.0 new log (events_keep_sound old run.0 e.0 e.1 sound run.1)
          (event_old old run.0 e.0 e.1 is each.0 run.1) each.1 run.2,
    )

-- And what was a run is one.
run_now : (old new : Machine) (log : List RunEntry) → IsSound old.world → IsOldMachine old
    → All (λ (x : RunEntry). IsOldEvent x.0) log → RunThen old log new → Run old log new
run_now old new [] sound is all run = run
run_now old new (e ∷ log) sound is all run =
    let each = first_old e log all in
    let h = leads_now old run.0 e.1 sound is e.0 each.0 run.1 in (
      run.0,
      h,
      run_now run.0 new log (events_keep_sound old run.0 e.0 e.1 sound h)
          (event_old old run.0 e.0 e.1 is each.0 h) each.1 run.2,
    )

pub old_runs_are_runs_then : OldRunsAreRunsThen
old_runs_are_runs_then old new log sound is all =
    (run_then old new log sound is all, run_now old new log sound is all)
