-- Each step of a process, and each start of one, leaves the world sound.
use Rattle.std.proofs.Common.{◌≡◌, ◌<◌, ◌≤◌, ℕ, zero, suc, ◌+◌, Bool, true, false, not, ◌&&◌, inl, inr, List, [], ◌∷◌, ◌++◌, length, refl, sym, ap, ◌∙◌, subst, nat_eq, arith}
use Rattle.std.specs.Prelude.{Option, Some, None, is_some, is_none, unwrap_or, filter_map, nat_le, slice_get, if◌then◌else◌, ⊤}
use Rattle.std.specs.Option.{option_and_then, option_map_or, option_or}
use Rattle.std.specs.List.{Contains, cons_option}
use Rattle.std.specs.Ordering.{nat_cmp}
use Rattle.std.specs.FinMap as map
use Rattle.std.proofs.lemmas.Bool.{false≢true, leb-false, leb-true, ltb-false}
use Rattle.std.proofs.lemmas.List.Elements.{Contains-append_left, Contains-append_right}
use Rattle.af_base.specs.declared.errno.Errno.{Errno}
use Rattle.af_base.specs.declared.errno.Errno.TheVariants.{ESRCH}
use Rattle.af_base.specs.declared.events.Reply.{Reply}
use Rattle.af_base.specs.declared.events.SockType.{SockType}
use Rattle.af_base.specs.declared.events.State.{State}
use Rattle.af_base.specs.declared.events.State.TheVariants as state
use Rattle.af_base.specs.declared.events.Step.{Step}
use Rattle.af_base.specs.declared.events.Step.TheVariants as step
use Rattle.af_base.specs.declared.limits.TheConstants.{MAX_BACKLOG, MAX_BYTES, MAX_INFLIGHT, MAX_MESSAGES, MAX_NOFILE, SCM_MAX_FD}
use Rattle.af_base.specs.World.{AsSocket, File, IsLive, Plain, Process, Socket, World}
use Rattle.af_base.specs.Places.{InTable, attached_in, contents, queue_at, queue_of, table_at}
use Rattle.af_base.specs.Counts.{total}
use Rattle.af_base.specs.Changes.{aimed, dequeued, add_file, install, with_queue, with_socket}
use Rattle.af_base.specs.Names.{named, set_of}
use Rattle.af_base.specs.Reached.{ByTable, BySocket}
use Rattle.af_base.specs.Refusals.{RefusalRow, connected_to, first_fit, ino_named, ino_on, is_connected, is_datagram, is_listening, is_short, no_process, no_socket, on_files, on_listener, on_target, peer_of, process_at, refusal, room_of, socket_at, socket_named, socket_of, socket_on, spawn_refusal, spawn_row, step_row, target_named}
use Rattle.af_base.specs.Steps.{Outcome, ProcessStep, SpawnStep, answer, closes_input, closes_output, effect, first_embryo, free_at, got_at, idle_socket, needs_no_memory, spawned, taken_on, with_embryo, with_pair}
use Rattle.af_base.specs.Table.{free_numbers}
use Rattle.af_base.specs.Take.{TakeResult}
use Rattle.af_base.specs.Whole.{IsSound, IsWhole, fits_type, state_at, state_of}
use Rattle.af_base.proofs.StepChanges.{Changed, IsKnown, changed-accept, changed-aimed, changed-embryo, changed-exit, changed-install, changed-installs, changed-limit, changed-listen, changed-name, changed-pair, changed-plain, changed-process, changed-push, changed-shut, changed-socket, changed-take, changed-uninstall, changed-user, unchanged}
use Rattle.af_base.proofs.Elements.{Contains-first, Contains-none, Contains-rest}
use Rattle.af_base.proofs.Free.{free-free_numbers, free-lowest_free}
use Rattle.af_base.proofs.Lookups.{insert-here, none_some, not_same, same_or_not, some_same, told_apart}
use Rattle.af_base.proofs.PlaceMoves.{live-changed, there-holds, there-install, there-table}
use Rattle.af_base.proofs.Pairs.{first_there, second_there}
use Rattle.af_base.proofs.Datagrams.{listens-stream}
use Rattle.af_base.proofs.DerivedEquality.{both}
use Rattle.af_base.proofs.Soundness.{sound-settles}
use Rattle.af_base.proofs.ReceivedFiles.{taken-before}
use Rattle.af_base.proofs.Trees.{insert_same}
use Rattle.af_base.proofs.StaysWhole.{not_connected}
use Rattle.af_base.proofs.StaysWithin.{neither, socket_same}

-- A test that does not fit, and what follows it.
pub record Passed (test : Bool) (Rest : Type 0) : Type 0 where
  pub here : test ≡ false
  pub rest : Rest

-- No test of the row fits.
abbrev pub NoneFits : RefusalRow → Type 0
NoneFits [] = ⊤
NoneFits (r ∷ rs) = Passed r.0 (NoneFits rs)

-- A row without an error is one of which no test fits.
pub none-fits : (row : RefusalRow) → first_fit row ≡ None → NoneFits row
none-fits [] is = tt
none-fits (r ∷ rs) is = by r.0 is (λ k. none-fits rs k) where
  by : (b : Bool) → (if b then Some r.1 else first_fit rs) ≡ None → (first_fit rs ≡ None → NoneFits rs) → Passed b (NoneFits rs)
  by true e go = absurd (none_some r.1 (sym e))
  by false e go = record { here = refl; rest = go e }

-- A process that is there is the one that its number gives.
pub process-there : (w : World) (p : ℕ) → not (map.contains_key w.processes p) ≡ false → map.get w.processes p ≡ Some (process_at w p)
process-there w p = by (map.get w.processes p) where
  by : (o : Option Process) → not (is_some o) ≡ false → o ≡ Some (unwrap_or o no_process)
  by None e = absurd (false≢true (sym e))
  by (Some q) e = refl

-- A descriptor of a socket refers to the one that it gives.
pub socket-there : (w : World) (p n : ℕ) → is_none (table_at w p n) ≡ false → is_none (socket_at w (ino_on w p n)) ≡ false → map.get w.files (ino_on w p n) ≡ Some (AsSocket (socket_on w p n))
socket-there w p n = by (table_at w p n) where
  at : (o : Option File) → is_none (option_and_then socket_of o) ≡ false → o ≡ Some (AsSocket (unwrap_or (option_and_then socket_of o) no_socket))
  at None e = absurd (false≢true (sym e))
  at (Some Plain) e = absurd (false≢true (sym e))
  at (Some (AsSocket s)) e = refl

  by : (t : Option ℕ) → is_none t ≡ false → is_none (socket_at w (unwrap_or t 0)) ≡ false → map.get w.files (unwrap_or t 0) ≡ Some (AsSocket (unwrap_or (option_and_then (socket_at w) t) no_socket))
  by None e d = absurd (false≢true (sym e))
  by (Some f) e d = at (map.get w.files f) d

-- The first of two rows with a test that fits decides.
joined : (rows more : RefusalRow) → first_fit (rows ++ more) ≡ option_or (first_fit rows) (first_fit more)
joined [] more = refl
joined (r ∷ rs) more = by r.0 (joined rs more) where
  by : (b : Bool) → first_fit (rs ++ more) ≡ option_or (first_fit rs) (first_fit more) → (if b then Some r.1 else first_fit (rs ++ more)) ≡ option_or (if b then Some r.1 else first_fit rs) (first_fit more)
  by true go = refl
  by false go = go

-- A test of the first fits.
pub goes-on : (rows more : RefusalRow) (e : Errno) → first_fit rows ≡ Some e → first_fit (rows ++ more) ≡ Some e
goes-on rows more e is = joined rows more ∙ ap (λ o. option_or o (first_fit more)) is

-- No test of the first fits: the second decides.
pub passes-on : (rows more : RefusalRow) → first_fit rows ≡ None → first_fit (rows ++ more) ≡ first_fit more
passes-on rows more is = joined rows more ∙ ap (λ o. option_or o (first_fit more)) is

-- A socket for connections that was never connected and does not listen is idle.
pub never-connected : (kind : SockType) (t : State) → is_datagram kind ≡ false → fits_type kind t
    ≡ true → is_connected t ≡ false → is_listening t ≡ false → t ≡ state.Idle
never-connected kind state.Idle stream fits e d = refl
never-connected kind (state.Listening b) stream fits e d = absurd (false≢true (sym d))
never-connected kind (state.Connected p) stream fits e d = absurd (false≢true (sym e))
never-connected kind state.HungUp stream fits e d = absurd (false≢true (sym e))
never-connected kind (state.Sends q) stream fits e d = absurd (false≢true (sym stream ∙ fits))

-- Where the denial of a test does not fit, the test does.
holds : {b : Bool} → not b ≡ false → b ≡ true
holds {b = true} e = refl
holds {b = false} e = absurd (false≢true (sym e))

-- Where a test for somebody does not fit, there is nobody.
pub no_one : (o : Option ℕ) → not (is_none o) ≡ false → o ≡ None
no_one None e = refl
no_one (Some f) e = absurd (false≢true (sym e))

-- A name that gives a listener is that of a socket that is there.
pub listener-there : (w : World) (kind : SockType) (name : List ℕ)
    → not (is_listening (socket_named w kind name).state) ≡ false
    → map.get w.files (ino_named w kind name) ≡ Some (AsSocket (socket_named w kind name))
listener-there w kind name = by (named w.files (set_of kind) name) where
  at : (o : Option File) → not (is_listening (unwrap_or (option_and_then socket_of o) no_socket).state) ≡ false → o ≡ Some (AsSocket (unwrap_or (option_and_then socket_of o) no_socket))
  at None e = absurd (false≢true (sym e))
  at (Some Plain) e = absurd (false≢true (sym e))
  at (Some (AsSocket s)) e = refl

  by : (t : Option ℕ) → not (is_listening (unwrap_or (option_and_then (socket_at w) t) no_socket).state) ≡ false → map.get w.files (unwrap_or t 0) ≡ Some (AsSocket (unwrap_or (option_and_then (socket_at w) t) no_socket))
  by None e = absurd (false≢true (sym e))
  by (Some f) e = at (map.get w.files f) e

-- A file that is a socket is there.
pub target-there : (w : World) (q : ℕ) → is_none (socket_at w q) ≡ false → (x : Socket)
    × (map.get w.files q ≡ Some (AsSocket x))
target-there w q = by (map.get w.files q) refl where
  by : (o : Option File) → map.get w.files q ≡ o → is_none (option_and_then socket_of o) ≡ false
      → (x : Socket) × (map.get w.files q ≡ Some (AsSocket x))
  by None e d = absurd (false≢true (sym d))
  by (Some Plain) e d = absurd (false≢true (sym d))
  by (Some (AsSocket x)) e d = (x, e)

-- A name that gives a socket gives a number that was given out.
pub named-given : (w : World) (kind : SockType) (name : List ℕ) → IsWhole w
    → is_none (target_named w kind name) ≡ false → ino_named w kind name < w.next_ino
named-given w kind name k = by (named w.files (set_of kind) name) where
  by : (t : Option ℕ) → is_none (option_and_then (socket_at w) t) ≡ false
      → unwrap_or t 0 < w.next_ino
  by None e = absurd (false≢true (sym e))
  by (Some f) e = k.files_numbered f (ap is_some (target-there w f e).1)

-- A connected file is a socket.
pub connected-socket : (w : World) (f p : ℕ) → state_at w f ≡ state.Connected p → (x : Socket) × (map.get w.files f ≡ Some (AsSocket x))
connected-socket w f p = by (map.get w.files f) refl where
  by : (o : Option File) → map.get w.files f ≡ o → option_map_or state_of o state.Idle ≡ state.Connected p → (x : Socket) × (map.get w.files f ≡ Some (AsSocket x))
  by None e d = not_connected state.Idle p refl d
  by (Some Plain) e d = not_connected state.Idle p refl d
  by (Some (AsSocket x)) e d = (x, e)

-- A file that descriptors refer to is in a table.
pub attached-tabled : (w : World) (p : ℕ) (ns : List ℕ) (f : ℕ) → Contains (filter_map (table_at w p) ns) f → (n : ℕ) × (table_at w p n ≡ Some f)
attached-tabled w p [] f h = absurd (Contains-none f h)
attached-tabled w p (n ∷ ns) f h = by (λ k. attached-tabled w p ns f k) (table_at w p n) refl h where
  by : (Contains (filter_map (table_at w p) ns) f → (k : ℕ) × (table_at w p k ≡ Some f)) → (o : Option ℕ) → table_at w p n ≡ o → Contains (cons_option o (filter_map (table_at w p) ns)) f → (k : ℕ) × (table_at w p k ≡ Some f)
  by rest None e h = rest h
  by rest (Some g) e h = elim (same_or_not g f) [
    | inl same ↦ (n, e ∙ ap Some same)
    | inr apart ↦ rest (Contains-rest g _ f h (not_same g f apart))
  ]

-- No more files than numbers.
pub attached-most : (w : World) (p : ℕ) (ns : List ℕ) → length (filter_map (table_at w p) ns) ≤ length ns
attached-most w p [] = omega arith
attached-most w p (n ∷ ns) = let rest = attached-most w p ns in by (table_at w p n) rest where
  by : (o : Option ℕ) → length (filter_map (table_at w p) ns) ≤ length ns → length (cons_option o (filter_map (table_at w p) ns)) ≤ length (n ∷ ns)
  by None h = omega (arith, h)
  by (Some g) h = omega (arith, h)

-- The queue that a socket has in place of its queue changes nothing.
pub same-with_queue : (w : World) (s : ℕ) (x : Socket) → map.get w.files s ≡ Some (AsSocket x) → with_queue w s x.queue ≡ w
same-with_queue w s x at = ap (λ fs. record w { files = fs }) (ap (λ o. option_map_or (λ y. map.insert w.files s (queued y)) o w.files) at ∙ insert_same w.files s (AsSocket x) at) where
  queued : File → File
  queued Plain = Plain
  queued (AsSocket y) = AsSocket (record y { queue = x.queue })

-- The first of a backlog that is not empty waits there.
pub first-waits : (fs : List ℕ) → nat_eq (length fs) 0 ≡ false → Contains fs (unwrap_or (slice_get fs 0) 0)
first-waits [] e = absurd (false≢true (sym e))
first-waits (g ∷ gs) e = Contains-first g gs

-- An open descriptor refers to the file that it gives.
number-there : (w : World) (p n : ℕ) → is_none (table_at w p n) ≡ false → table_at w p n ≡ Some (ino_on w p n)
number-there w p n = by (table_at w p n) where
  by : (o : Option ℕ) → is_none o ≡ false → o ≡ Some (unwrap_or o 0)
  by None e = absurd (false≢true (sym e))
  by (Some f) e = refl

-- A step that nothing refuses, of a process that is there.
module _ (w : World) (p : ℕ) (whole : IsWhole w) (at : map.get w.processes p ≡ Some (process_at w p)) where
  -- The process.
  abbrev q : Process
  q = process_at w p

  -- The lowest free number of a process that has one is below its limit.
  lowest-low : is_short q 1 ≡ false → free_at w p 0 < q.limit
  lowest-low some = let one = ltb-false (length (free_numbers q)) 1 some in (free-free_numbers q).low 0 0 (omega (arith, one))

  -- The files that a descriptor's socket holds are live and known.
  held-on : (n f : ℕ) → is_none (table_at w p n) ≡ false → map.get w.files (ino_on w p n) ≡ Some (AsSocket (socket_on w p n)) → Contains (contents (AsSocket (socket_on w p n))) f → IsLive w f × IsKnown w f
  held-on n f there is h =
      let holds = there-holds w (ino_on w p n) f (AsSocket (socket_on w p n)) is h in
      (whole.queues_live (ino_on w p n) f holds, inl (BySocket (ino_on w p n) f (ByTable (ino_on w p n) (p, n, number-there w p n there)) holds))

  -- The state of a socket fits its type.
  fits : (f : ℕ) (s : Socket) → map.get w.files f ≡ Some (AsSocket s) → fits_type s.kind s.state
      ≡ true
  fits f s is = whole.types f s (ap (option_and_then socket_of) is)

  -- A file more, with a number.
  opens : (x : File) → is_short q 1 ≡ false → Changed w (add_file w x) → Changed w (install (add_file w x) p (free_at w p 0) w.next_ino)
  opens x some c = changed-install c p (free_at w p 0) w.next_ino q at (lowest-low some) (ap is_some (insert-here w.files w.next_ino x)) (inr (omega arith))

  -- One descriptor more for a file that has one.
  copies : (n m : ℕ) → is_none (table_at w p n) ≡ false → m < q.limit → Changed w (install w p m (ino_on w p n))
  copies n m there low =
      let t : InTable w (ino_on w p n) = (p, n, number-there w p n there) in
      changed-install (unchanged w) p m (ino_on w p n) q at low (whole.tables_live (ino_on w p n) t) (inl (ByTable (ino_on w p n) t))

  -- A number in place of another.
  replaces : (n m : ℕ) → NoneFits (step_row w p (step.Dup2 n m)) → Changed w (effect w p (step.Dup2 n m))
  replaces n m row = by (nat_eq m n) row.rest.here where
    by : (b : Bool) → (not b && nat_le q.limit m) ≡ false → Changed w (if b then w else install w p m (ino_on w p n))
    by true e = unchanged w
    by false e = copies n m row.here (leb-false q.limit m e)

  -- Two sockets more, with their numbers.
  pairs : (kind : SockType) → NoneFits (step_row w p (step.Pair kind)) → Changed w (effect w p (step.Pair kind))
  pairs kind row =
      let two = ltb-false (length (free_numbers q)) 2 row.here in
      let free = free-free_numbers q in
      let first = changed-install (changed-pair (unchanged w) kind row.rest.here) p (free_at w p 0) w.next_ino q at (free.low 0 0 (omega (arith, two))) (ap is_some (first_there w kind)) (inr (omega arith)) in
      changed-install first p (free_at w p 1) (w.next_ino + 1) (record q { table = map.insert q.table (free_at w p 0) w.next_ino }) (there-install (with_pair w kind) p (free_at w p 0) w.next_ino q at) (free.low 1 0 (omega (arith, two))) (ap is_some (second_there w kind)) (inr (omega arith))

  -- A name.
  names : (n : ℕ) (name : List ℕ) → NoneFits (step_row w p (step.Bind n name)) → Changed w (effect w p (step.Bind n name))
  names n name row =
      let fresh = row.rest.rest in
      let parts = neither _ _ fresh.here in
      changed-name (unchanged w) (ino_on w p n) name (socket_on w p n) (socket-there w p n row.here row.rest.here) (holds parts.1) (no_one (named w.files (set_of (socket_on w p n).kind) name) fresh.rest.here)

  -- A socket that listens.
  listens : (n b : ℕ) → NoneFits (step_row w p (step.Listen n b)) → Changed w (effect w p (step.Listen n b))
  listens n b row =
      let s = socket_on w p n in
      let stream = row.rest.rest.here in
      let parts = neither _ _ row.rest.rest.rest.here in
      let quiet = neither _ _ parts.0 in
      let unconnected = neither _ _ quiet.0 in
      let low = both (nat_le 1 b) (nat_le b MAX_BACKLOG) (holds parts.1) in
      let there = socket-there w p n row.here row.rest.here in
      changed-listen (unchanged w) (ino_on w p n) b s there stream
      (never-connected s.kind s.state stream (fits (ino_on w p n) s there) unconnected.1
      quiet.1) (leb-true 1 b low.0) (leb-true b MAX_BACKLOG low.1)

  -- A client and its embryo, or a datagram socket with its target.
  connects : (n : ℕ) (name : List ℕ) → NoneFits (step_row w p (step.Connect n name)) → Changed w (effect w p (step.Connect n name))
  connects n name row = by (is_datagram s.kind) refl row.rest.rest.rest.rest where
    s : Socket
    s = socket_on w p n

    l : ℕ
    l = ino_named w s.kind name

    listener : Socket
    listener = socket_named w s.kind name

    there : map.get w.files (ino_on w p n) ≡ Some (AsSocket s)
    there = socket-there w p n row.here row.rest.here

    by : (b : Bool) → is_datagram s.kind ≡ b
        → NoneFits (if b then on_target (ino_on w p n) (target_named w s.kind name) else
        on_listener listener s.kind ++ on_files w 1)
        → Changed w (if b then with_socket w (ino_on w p n) (aimed l) else with_embryo w
        (ino_on w p n) l listener.kind)
    by true datagram more =
        changed-aimed (unchanged w) (ino_on w p n) l s there datagram
        (λ k. named-given w s.kind name k more.here)
    by false stream more =
        let deaf = row.rest.rest in
        let listens = (neither _ _ more.here).0 in
        let listener_is = listener-there w s.kind name listens in
        let room = more.rest.rest in
        let apart = told_apart l (ino_on w p n) (λ same.
        let one_socket : listener ≡ s =
        socket_same listener s (some_same _ _ (sym listener_is ∙ ap (map.get w.files) same
        ∙ there)) in
        false≢true (sym deaf.here ∙ ap (λ x. is_listening x.state) (sym one_socket)
        ∙ holds listens)) in
        changed-embryo (unchanged w) (ino_on w p n) l listener.kind s listener there
        (never-connected s.kind s.state stream (fits (ino_on w p n) s there) deaf.rest.here
        deaf.here) stream (listens-stream listener.kind listener.state
        (fits l listener listener_is) (holds listens))
        listener_is apart room.rest.here
        (leb-false (room_of listener.state) (length listener.backlog) room.here) (omega arith)

  -- An embryo accepted.
  accepts : (n : ℕ) → NoneFits (step_row w p (step.Accept n)) → Changed w (effect w p (step.Accept n))
  accepts n row =
      let s = socket_on w p n in
      let f = ino_on w p n in
      let there = socket-there w p n row.here row.rest.here in
      let waits = row.rest.rest.rest.rest in
      let first = held-on n (first_embryo w p n) row.here there (Contains-append_right (attached_in s.queue) s.backlog (first_embryo w p n) (first-waits s.backlog waits.here)) in
      changed-install (changed-accept (unchanged w) f s there) p (free_at w p 0) (first_embryo w p n) q at (lowest-low waits.rest.here) (live-changed w f dequeued (first_embryo w p n) ∙ first.0) first.1

  -- A message sent.
  sends : (n : ℕ) (bytes attach : List ℕ) → NoneFits (step_row w p (step.Send n bytes attach)) → Changed w (effect w p (step.Send n bytes attach))
  sends n bytes attach given =
      let numbers = given.rest.rest in
      let target = numbers.rest.rest.rest.rest.rest.rest in
      let room = target.rest.rest.rest in
      let s = socket_on w p n in
      let peer = target-there w (peer_of s.state) target.here in
      let some = neither _ _ numbers.here in
      let few = attached-most w p attach in
      let low = ltb-false SCM_MAX_FD (length attach) some.1 in
      let flying = ltb-false MAX_INFLIGHT (total w + length attach) room.here in
      let waiting : length peer.0.queue < MAX_MESSAGES = subst (λ o. length (option_map_or queue_of o []) < MAX_MESSAGES) peer.1 (leb-false MAX_MESSAGES (length (queue_at w (peer_of s.state))) room.rest.rest.here) in
      changed-push (unchanged w) (peer_of s.state) _ peer.0 peer.1 (λ g h. let t = attached-tabled w p attach g h in (whole.tables_live g (p, t.0, t.1), inl (ByTable g (p, t.0, t.1))))
      (record { some = positive (length bytes) some.0; bytes = ltb-false MAX_BYTES (length bytes) numbers.rest.here; attached = omega (arith, few, low) }) waiting (omega (arith, few, flying)) where
        positive : (k : ℕ) → nat_eq k 0 ≡ false → 1 ≤ k
        positive zero e = absurd (false≢true (sym e))
        positive (suc k) e = omega arith

  module _ (n max_bytes max_fds : ℕ) (row : NoneFits (step_row w p (step.Recv n max_bytes max_fds))) where
    abbrev taken : TakeResult
    taken = taken_on w p n max_bytes

    there : map.get w.files (ino_on w p n) ≡ Some (AsSocket (socket_on w p n))
    there = socket-there w p n row.here row.rest.here

    -- A received file is live and known.
    taken-on : (f : ℕ) → Contains taken.attached f → IsLive w f × IsKnown w f
    taken-on f h =
        let s = socket_on w p n in
        held-on n f row.here there (Contains-append_left (attached_in s.queue) s.backlog f (taken-before s.kind s.queue max_bytes f (Contains-append_left taken.attached (attached_in taken.rest) f h)))

    -- The result of a receive.
    receives : Changed w (effect w p (step.Recv n max_bytes max_fds))
    receives =
        changed-installs w (with_queue w (ino_on w p n) taken.rest) p q (got_at w p n max_bytes max_fds) taken.attached (changed-take (unchanged w) (ino_on w p n) max_bytes (socket_on w p n) there) at (free-lowest_free _ q)
        (λ f h. let k = taken-on f h in (live-changed w (ino_on w p n) (λ y. record y { queue = taken.rest }) f ∙ k.0, k.1))

    -- The result of a peek.
    peeks : Changed w (effect w p (step.Peek n max_bytes max_fds))
    peeks = changed-installs w w p q (got_at w p n max_bytes max_fds) taken.attached (unchanged w) at (free-lowest_free _ q) taken-on

  -- The change of a step.
  changes-row : (s : Step) → NoneFits (step_row w p s) → Changed w (effect w p s)
  changes-row step.Open row = opens Plain row.here (changed-plain (unchanged w) row.rest.here)
  changes-row (step.Dup n) row = copies n (free_at w p 0) row.here (lowest-low row.rest.here)
  changes-row (step.Dup2 n m) row = replaces n m row
  changes-row (step.Close n) row = changed-uninstall (unchanged w) p n
  changes-row step.Fork row = changed-process (unchanged w) q row.here (λ k. k.processes p q at) (λ n f is. (p, n, there-table w p n q at ∙ is))
  changes-row step.Exit row = changed-exit (unchanged w) p
  changes-row (step.Pair kind) row = pairs kind row
  changes-row (step.Socket kind) row = opens (AsSocket (idle_socket kind)) row.here (changed-socket (unchanged w) kind row.rest.here)
  changes-row (step.Bind n name) row = names n name row
  changes-row (step.Listen n b) row = listens n b row
  changes-row (step.Connect n name) row = connects n name row
  changes-row (step.Accept n) row = accepts n row
  changes-row (step.Send n bytes attach) row = sends n bytes attach row
  changes-row (step.Recv n max_bytes max_fds) row = receives n max_bytes max_fds row
  changes-row (step.Peek n max_bytes max_fds) row = peeks n max_bytes max_fds row
  changes-row (step.Limit n) row = changed-limit (unchanged w) p n (ltb-false MAX_NOFILE n row.here)
  changes-row (step.Shutdown n how) row =
      changed-shut (changed-shut (unchanged w) (ino_on w p n) (closes_input how)
      (closes_output how)) (connected_to (socket_on w p n).state) (closes_output how)
      (closes_input how)
  changes-row (step.Unconnect n) row =
      changed-aimed (unchanged w) (ino_on w p n) 0 (socket_on w p n)
      (socket-there w p n row.here row.rest.here) (holds row.rest.rest.here) (λ k. k.next_ino)

-- The change of a step that is not refused, before the world settles.
pub effect-changes : (w : World) (p : ℕ) (s : Step) → IsWhole w → refusal w p s ≡ None → Changed w (effect w p s)
effect-changes w p s whole none =
    let row = none-fits ((not (map.contains_key w.processes p), ESRCH) ∷ step_row w p s) none in
    changes-row w p whole (process-there w p row.here) s row.rest

-- The change of a start that is not refused.
pub spawn-changes : (w : World) (uid nofile : ℕ) (privileged : Bool) → spawn_refusal w nofile ≡ None → Changed w (spawned w uid nofile privileged)
spawn-changes w uid nofile privileged none =
    let row = none-fits (spawn_row w nofile) none in
    changed-user
    (changed-process (unchanged w) (record { user = uid; limit = nofile; privileged = privileged; table = map.empty }) row.rest.here (λ k. record { limit = ltb-false MAX_NOFILE nofile row.here; numbers = λ n l. absurd (false≢true (sym (ap is_some (map.get-empty nat_cmp n)) ∙ l)) }) (λ n f is. absurd (none_some f (sym (map.get-empty nat_cmp n) ∙ is)))) uid

-- An outcome whose effect fits leaves the world sound.
outcome-sound : (o : Option Errno) (frugal : Bool) (a : Reply) (w old : World) (r : Reply) (new : World) → IsSound old → (o ≡ None → Changed old w) → Outcome o frugal a w old r new → IsSound new
outcome-sound (Some e) frugal a w old r new k leads out = subst IsSound (sym out.1) k
outcome-sound None true a w old r new k leads out = let fit = (leads refl).fits (k.whole, k.within) in sound-settles w new out.1 fit.0 fit.1
outcome-sound None false a w old r new k leads out = let fit = (leads refl).fits (k.whole, k.within) in elim out [
  | inl y ↦ sound-settles w new y.1 fit.0 fit.1
  | inr y ↦ subst IsSound (sym y.1) k
]

-- A step of a process leaves the world sound.
pub sound-step : (old : World) (p : ℕ) (s : Step) (r : Reply) (new : World) → IsSound old → ProcessStep old p s r new → IsSound new
sound-step old p s r new k = outcome-sound (refusal old p s) (needs_no_memory s) (answer old p s) (effect old p s) old r new k (effect-changes old p s k.whole)

-- A start of a process leaves the world sound.
pub sound-spawn : (old : World) (uid nofile : ℕ) (privileged : Bool) (r : Reply) (new : World) → IsSound old → SpawnStep old uid nofile privileged r new → IsSound new
sound-spawn old uid nofile privileged r new k = outcome-sound (spawn_refusal old nofile) false _ (spawned old uid nofile privileged) old r new k (spawn-changes old uid nofile privileged)
