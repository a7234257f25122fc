-- Connects and accepts: the place of an embryo, from the backlog to a table.
use Rattle.std.proofs.Common.{◌≡◌, inl, inr, ℕ, suc, ◌+◌, false, not, List, [], ◌∷◌, ◌++◌, drop, length, refl, sym, ap, ◌∙◌, subst, cond, nat_eq, arith}
use Rattle.std.specs.Prelude.{Some, None, is_some, slice_get, unwrap_or, if◌then◌else◌}
use Rattle.std.specs.Option.{option_map_or}
use Rattle.std.specs.List.{Contains, sum_by}
use Rattle.std.specs.FinMap as map
use Rattle.std.proofs.lemmas.Bool.{eq-eqb, false≢true, ltb-false}
use Rattle.std.proofs.lemmas.List.Elements.{Contains-append_right}
use Rattle.af_base.specs.declared.errno.Errno.TheVariants.{ESRCH}
use Rattle.af_base.specs.declared.events.Reply.{Reply}
use Rattle.af_base.specs.declared.events.Reply.TheVariants as reply
use Rattle.af_base.specs.declared.events.Step.TheVariants as step
use Rattle.af_base.specs.World.{AsSocket, File, Message, Socket, World, is_live}
use Rattle.af_base.specs.Places.{attached_in, backlog_at, backlog_of, contents, queue_of, table_at}
use Rattle.af_base.specs.Counts.{charge, charged, count_in, inflight, one, refs, total, total_of, waiting}
use Rattle.af_base.specs.Unheld.{IsSettled, Settles}
use Rattle.af_base.specs.Changes.{add_file, aimed, connected, dequeued, file_with, queued, with_socket}
use Rattle.af_base.specs.Refusals.{ino_named, ino_on, is_datagram, is_listening, on_files, on_listener, on_target, process_at, refusal, socket_named, socket_on, step_row, target_named}
use Rattle.af_base.specs.Steps.{ProcessStep, connected_socket, effect, first_embryo, free_at, with_embryo}
use Rattle.af_base.specs.Table.{free_numbers}
use Rattle.af_base.specs.Whole.{IsSound}
use Rattle.af_base.proofs.NewFiles.{fresh_file}
use Rattle.af_base.proofs.Elements.{Contains-first}
use Rattle.af_base.proofs.Free.{free-free_numbers}
use Rattle.af_base.proofs.PlacesAndCounts.{count-cons, held_by_some}
use Rattle.af_base.proofs.Lookups.{insert-here, insert-other, same_or_not, some_same, told_apart}
use Rattle.af_base.proofs.PlaceMoves.{live-changed, others-changed, there-changed, there-install, there-table, total-changed}
use Rattle.af_base.proofs.BlankFiles.{blank-connected, blank-there, refs-blank, still-blank}
use Rattle.af_base.proofs.SettledPlaces.{settled-counted, settled-held}
use Rattle.af_base.proofs.Places.{count-append, refs-install}
use Rattle.af_base.proofs.SoundSteps.{NoneFits, listener-there, none-fits, process-there, socket-there}
use Rattle.af_base.proofs.Sums.{total-change_at, total-insert}
use Rattle.af_base.proofs.StaysWithin.{neither, socket_same}
use Rattle.af_laws.proofs.Bindings.{settled_alike}
use Rattle.af_laws.proofs.PlaceCounts.{none_or_some, references_add_up}
use Rattle.af_laws.proofs.Logs.{number_is_done, ok_is_done, outcome_done}
use Rattle.af_laws.proofs.Outcomes.{settled_stays}
use Rattle.af_laws.specs.Connecting.{AcceptKeepsReferences, AcceptTakesTheFirstEmbryo, AcceptedNumberIsTheEmbryo, ConnectChargesNobody, ConnectCounts, ConnectMakesAnEmbryo, IsEmbryoOf}

-- A connect that nothing refuses.
module _ (w : World) (p n : ℕ) (name : List ℕ) (sound : IsSound w)
    (fits : refusal w p (step.Connect n name) ≡ None) (stream : is_datagram (socket_on w p n).kind
    ≡ false) where
  -- The embryo's number.
  abbrev e : ℕ
  e = w.next_ino

  -- The client's number.
  abbrev c : ℕ
  c = ino_on w p n

  -- The client.
  abbrev client : Socket
  client = socket_on w p n

  -- The listener's number.
  abbrev l : ℕ
  l = ino_named w client.kind name

  -- The listener.
  abbrev listener : Socket
  listener = socket_named w client.kind name

  -- The embryo.
  abbrev embryo : File
  embryo = AsSocket (connected_socket listener.kind c)

  -- The world with the embryo, to which nobody is connected yet.
  abbrev base : World
  base = add_file w embryo

  -- The world with the client connected to it.
  abbrev mid : World
  mid = with_socket base c (connected e)

  -- The world after the connect.
  abbrev now : World
  now = with_embryo w c l listener.kind

  -- It is the effect of the connect.
  leads : effect w p (step.Connect n name) ≡ now
  leads = ap (λ b. if b then with_socket w c (aimed l) else now) stream

  -- No test of the row fits.
  row : NoneFits (step_row w p (step.Connect n name))
  row = (none-fits ((not (map.contains_key w.processes p), ESRCH) ∷ step_row w p (step.Connect n name)) fits).rest

  -- The client is live.
  client_there : map.get w.files c ≡ Some (AsSocket client)
  client_there = socket-there w p n row.here row.rest.here

  -- The listener listens.
  hears : not (is_listening listener.state) ≡ false
  hears = (neither _ _ (subst
      (λ b. NoneFits (if b then on_target c (target_named w client.kind name) else on_listener
      listener client.kind ++ on_files w 1)) stream row.rest.rest.rest.rest).here).0

  -- The listener is live.
  listener_there : map.get w.files l ≡ Some (AsSocket listener)
  listener_there = listener-there w client.kind name hears

  -- The listener is not the client.
  listens : is_listening client.state ≡ false → ¬ (listener ≡ client)
  listens deaf same = false≢true (sym hears ∙ ap not (ap (λ x. is_listening x.state) same ∙ deaf))

  -- They are two sockets.
  apart : nat_eq l c ≡ false
  apart = told_apart l c (λ same. listens row.rest.rest.here (socket_same listener client (some_same _ _ (sym listener_there ∙ ap (map.get w.files) same ∙ client_there))))

  -- The listener is as it was when the client is connected.
  listener_in_mid : map.get mid.files l ≡ Some (AsSocket listener)
  listener_in_mid = others-changed base c (connected e) l apart ∙ still-blank w embryo (blank-connected listener.kind c) sound.whole l (ap is_some listener_there) ∙ listener_there

  -- The embryo has one reference more, and every other file as many as before.
  refs_now : (f : ℕ) → refs now f ≡ refs w f + one f e
  refs_now f =
      let none : count_in f [] ≡ 0 = refl in
      omega (
        arith,
        none,
        refs-blank w embryo (blank-connected listener.kind c) sound.whole f,
        total-changed (λ y. count_in f (contents y)) base c (connected e) (λ x. refl),
        total-change_at (λ y. count_in f (contents y)) (file_with (queued e)) mid.files l (AsSocket listener) listener_in_mid,
        count-append f (attached_in listener.queue) listener.backlog,
        count-append f (attached_in listener.queue) (listener.backlog ++ e ∷ []),
        count-append f listener.backlog (e ∷ []),
        count-cons f e [],
      )

  -- A sum over queues alone stays.
  queues_now : (F : List Message → ℕ) → F [] ≡ 0 → total_of (λ y. F (queue_of y)) now.files ≡ total_of (λ y. F (queue_of y)) w.files
  queues_now F none =
      let before : option_map_or (λ y. F (queue_of y)) (map.get w.files e) 0 ≡ 0 = ap (λ o. option_map_or (λ y. F (queue_of y)) o 0) (fresh_file w e sound.whole (omega arith)) in
      omega (
        arith,
        none,
        before,
        total-insert (λ y. F (queue_of y)) w.files e embryo,
        total-changed (λ y. F (queue_of y)) base c (connected e) (λ x. refl),
        total-changed (λ y. F (queue_of y)) mid l (queued e) (λ x. refl),
      )

  -- The same files are live as in the world with the embryo.
  live_base : (f : ℕ) → is_live now f ≡ is_live base f
  live_base f = live-changed mid l (queued e) f ∙ live-changed base c (connected e) f

  -- A number equals itself once.
  one_itself : one e e ≡ 1
  one_itself = ap {B = ℕ} (λ b. cond b 1 0) (eq-eqb e e refl)

  -- The world after the connect is settled.
  now_settled : IsSettled now
  now_settled = settled-counted now (λ f live. elim (same_or_not f e) [
    | inl same ↦ let counted : one f e ≡ 1 = ap {B = ℕ} (λ b. cond b 1 0) (eq-eqb f e same) in omega (arith, counted, refs_now f)
    | inr other ↦ let held = settled-held w f sound.settled (sym (live_base f ∙ ap is_some (insert-other w.files e embryo f other)) ∙ live) in omega (arith, held, refs_now f)
  ])

  -- The new number has no place before.
  none_before : refs w e ≡ 0
  none_before = elim (none_or_some (refs w e)) [
    | inl z ↦ z
    | inr some ↦ absurd (elim (held_by_some w e some) [
      | inl t ↦ let low = sound.whole.files_numbered e (sound.whole.tables_live e t) in omega (arith, low)
      | inr h ↦ let low = sound.whole.files_numbered e (sound.whole.queues_live h.0 e h.1) in omega (arith, low)
    ])
  ]

  -- The new file is an embryo of the listener.
  is_embryo : IsEmbryoOf now l e
  is_embryo = record {
    live = live_base e ∙ ap is_some (blank-there w embryo (blank-connected listener.kind c));
    waits = subst (λ o. Contains (option_map_or backlog_of o []) e) (sym (there-changed mid l (queued e) listener listener_in_mid)) (Contains-append_right listener.backlog (e ∷ []) e (Contains-first e []));
    reference = omega (arith, none_before, one_itself, refs_now e);
    grounded = omega (arith, none_before, references_add_up w e, queues_now (λ q. count_in e (attached_in q)) refl);
  }

-- The world after a connect that is answered is its effect.
module _ (old new : World) (p n : ℕ) (name : List ℕ) (sound : IsSound old)
    (stream : is_datagram (socket_on old p n).kind
    ≡ false) (h : ProcessStep old p (step.Connect n name) reply.Ok new) where
  -- The world after it.
  abbrev done : World
  done = with_embryo old (ino_on old p n) (ino_named old (socket_on old p n).kind name)
      (socket_named old (socket_on old p n).kind name).kind

  -- No test fits, and the world is that one.
  answered : (refusal old p (step.Connect n name) ≡ None) × (new ≡ done)
  answered =
      let out = outcome_done (refusal old p (step.Connect n name)) false reply.Ok
      (effect old p (step.Connect n name)) old reply.Ok new ok_is_done h in (
        out.0,
        (settled_stays done new (now_settled old p n name sound out.0 stream)).0
            (subst (λ v. Settles v new) (leads old p n name sound out.0 stream) out.2),
      )

pub connect_makes_an_embryo : ConnectMakesAnEmbryo
connect_makes_an_embryo old new p n name sound stream h =
    let done = answered old new p n name sound stream h in
    subst (λ x. IsEmbryoOf x (ino_named old (socket_on old p n).kind name) old.next_ino)
    (sym done.1) (is_embryo old p n name sound done.0 stream)

pub connect_counts : ConnectCounts
connect_counts old new p n f name sound stream h =
    let done = answered old new p n name sound stream h in (
      ap (λ x. refs x f) done.1 ∙ refs_now old p n name sound done.0 stream f,
      ap (λ x. inflight x f) done.1
          ∙ queues_now old p n name sound done.0 stream (λ q. count_in f (attached_in q)) refl,
    )

pub connect_charges_nobody : ConnectChargesNobody
connect_charges_nobody old new p n u name sound stream h =
    let done = answered old new p n name sound stream h in (
      ap (λ x. charged x u) done.1
          ∙ queues_now old p n name sound done.0 stream (λ q. sum_by (charge u) q) refl,
      ap total done.1 ∙ queues_now old p n name sound done.0 stream
          (λ q. sum_by (λ m. length m.attached) q) refl,
    )

-- A list without its first has one less of that one.
count_first : (f : ℕ) (xs : List ℕ) → nat_eq (length xs) 0 ≡ false → count_in f (drop 1 xs) + one f (unwrap_or (slice_get xs 0) 0) ≡ count_in f xs
count_first f [] some = absurd (false≢true (sym some))
count_first f (x ∷ xs) some = omega (arith, count-cons f x xs)

-- One more than the number that was answered.
number_in : Reply → ℕ
number_in (reply.Fd n) = suc n
number_in r = 0

-- An accept that nothing refuses.
module _ (w : World) (p n : ℕ) (sound : IsSound w) (fits : refusal w p (step.Accept n) ≡ None) where
  -- The listener's number.
  abbrev s : ℕ
  s = ino_on w p n

  -- The listener.
  abbrev x : Socket
  x = socket_on w p n

  -- The world after the accept.
  abbrev accepted : World
  accepted = effect w p (step.Accept n)

  module _ (row : NoneFits ((not (map.contains_key w.processes p), ESRCH) ∷ step_row w p (step.Accept n))) where
    there : map.get w.files s ≡ Some (AsSocket x)
    there = socket-there w p n row.rest.here row.rest.rest.here

    at : map.get w.processes p ≡ Some (process_at w p)
    at = process-there w p row.here

    free : map.get (process_at w p).table (free_at w p 0) ≡ None
    free = (free-free_numbers (process_at w p)).free 0 0 (let some =
        ltb-false (length (free_numbers (process_at w p))) 1
        row.rest.rest.rest.rest.rest.rest.here in omega (arith, some))

    same_refs : (f : ℕ) → refs accepted f ≡ refs w f
    same_refs f =
        omega (
          arith,
          refs-install (with_socket w s dequeued) p (free_at w p 0) (first_embryo w p n) f (process_at w p) at free,
          total-change_at (λ y. count_in f (contents y)) (file_with dequeued) w.files s (AsSocket x) there,
          count-append f (attached_in x.queue) (drop 1 x.backlog),
          count-append f (attached_in x.queue) x.backlog,
          count_first f x.backlog row.rest.rest.rest.rest.rest.here,
        )

    waits_less : (f : ℕ) → waiting accepted f + one f (first_embryo w p n) ≡ waiting w f
    waits_less f = omega (
      arith,
      total-change_at (λ y. count_in f (backlog_of y)) (file_with dequeued) w.files s
          (AsSocket x) there,
      count_first f x.backlog row.rest.rest.rest.rest.rest.here,
    )

    rest_waits : backlog_at accepted s ≡ drop 1 (backlog_at w s)
    rest_waits = ap (λ o. option_map_or backlog_of o []) (there-changed w s dequeued x there) ∙ sym (ap (λ o. drop 1 (option_map_or backlog_of o [])) there)

    numbered : table_at accepted p (free_at w p 0) ≡ Some (first_embryo w p n)
    numbered = there-table accepted p (free_at w p 0) _ (there-install (with_socket w s dequeued) p (free_at w p 0) (first_embryo w p n) (process_at w p) at) ∙ insert-here (process_at w p).table (free_at w p 0) (first_embryo w p n)

    accepted_settled : IsSettled accepted
    accepted_settled = settled_alike w accepted (live-changed w s dequeued) same_refs sound.settled

-- The world after an accept that is answered is its effect.
module _ (old new : World) (p n m : ℕ) (sound : IsSound old) (h : ProcessStep old p (step.Accept n) (reply.Fd m) new) where
  -- No test of the row fits.
  abbrev tests : Type 0
  tests = NoneFits ((not (map.contains_key old.processes p), ESRCH) ∷ step_row old p (step.Accept n))

  -- No test fits, the world is the effect, and the number is the lowest free one.
  taken : (refusal old p (step.Accept n) ≡ None) × tests × (new ≡ effect old p (step.Accept n)) × (m ≡ free_at old p 0)
  unfolding number_in
  taken =
      let done = outcome_done (refusal old p (step.Accept n)) false (reply.Fd (free_at old p 0)) (effect old p (step.Accept n)) old (reply.Fd m) new (number_is_done m) h in
      let row = none-fits ((not (map.contains_key old.processes p), ESRCH) ∷ step_row old p (step.Accept n)) done.0 in
      (done.0, row, (settled_stays (effect old p (step.Accept n)) new (accepted_settled old p n sound done.0 row)).0 done.2, omega (arith, ap number_in done.1))

pub accept_keeps_references : AcceptKeepsReferences
accept_keeps_references old new p n m f sound h =
    let done = taken old new p n m sound h in ap (λ x. refs x f) done.2 ∙ same_refs old p n sound done.0 done.1 f

pub accept_takes_the_first_embryo : AcceptTakesTheFirstEmbryo
accept_takes_the_first_embryo old new p n m f sound h =
    let done = taken old new p n m sound h in (
      ap (λ x. backlog_at x (ino_on old p n)) done.2 ∙ rest_waits old p n sound done.0 done.1,
      ap (λ x. waiting x f + one f (first_embryo old p n)) done.2 ∙ waits_less old p n sound done.0 done.1 f,
    )

pub accepted_number_is_the_embryo : AcceptedNumberIsTheEmbryo
accepted_number_is_the_embryo old new p n m sound h =
    let done = taken old new p n m sound h in ap (λ x. table_at x p m) done.2 ∙ ap (table_at (effect old p (step.Accept n)) p) done.3 ∙ numbered old p n sound done.0 done.1
