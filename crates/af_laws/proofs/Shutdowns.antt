-- A shutdown changes ends alone.
use Rattle.std.proofs.Common.{◌≡◌, ◌<◌, ℕ, Bool, true, false, not, ◌&&◌, ◌||◌, inl, inr, List, [], ◌∷◌, length, min, refl, sym, ap, ◌∙◌, subst, arith}
use Rattle.std.specs.Prelude.{Option, Some, None, if◌then◌else◌, is_none, is_some, nat_eq, nat_lt, unwrap_or}
use Rattle.std.specs.Option.{option_and_then, option_map_or}
use Rattle.std.specs.FinMap as map
use Rattle.af_base.specs.declared.errno.Errno.{Errno}
use Rattle.af_base.specs.declared.errno.Errno.TheVariants.{EAGAIN, EBADF, EINVAL, ENOTCONN, ENOTSOCK, ESRCH}
use Rattle.af_base.specs.declared.events.Ends.{Ends}
use Rattle.af_base.specs.declared.events.Reply.{Reply}
use Rattle.af_base.specs.declared.events.Reply.TheVariants as reply
use Rattle.af_base.specs.declared.events.Shutdown.{Shutdown}
use Rattle.af_base.specs.declared.events.SockType.{SockType}
use Rattle.af_base.specs.declared.events.State.TheVariants as state
use Rattle.af_base.specs.declared.events.Step.{Step}
use Rattle.af_base.specs.declared.events.Step.TheVariants as step
use Rattle.af_base.specs.declared.limits.TheConstants.{MAX_BYTES}
use Rattle.af_base.specs.World.{AsSocket, File, Message, Plain, Socket, World}
use Rattle.af_base.specs.Changes.{file_with, shut, with_socket}
use Rattle.af_base.specs.Names.{is_between}
use Rattle.af_base.specs.Places.{backlog_of, queue_of, table_at}
use Rattle.af_base.specs.Refusals.{connected_to, first_fit, ino_on, is_datagram, is_ended, is_hung_up, is_linked, no_socket, on_receive, process_at, refusal, socket_at, socket_of, socket_on}
use Rattle.af_base.specs.Steps.{Outcome, ProcessStep, closes_input, closes_output, effect, got_at, taken_on, with_shut}
use Rattle.af_base.specs.Table.{lowest_free}
use Rattle.af_base.specs.Take.{TakeResult, take_from}
use Rattle.af_base.specs.Unheld.{IsSettled, Settles}
use Rattle.af_base.specs.Whole.{state_of}
use Rattle.af_base.proofs.Lookups.{changed-was, told_apart}
use Rattle.af_laws.proofs.Bindings.{alike, altered_settled, unchanged}
use Rattle.af_laws.proofs.Outcomes.{outcome_keeps, settled_stays}
use Rattle.af_laws.proofs.Peeks.{leads}
use Rattle.af_laws.proofs.Polls.{left, socket-is}
use Rattle.af_laws.proofs.SocketChanges.{is_changed, nothing_changed, read_alike}
use Rattle.af_laws.specs.Connecting.{SameCounts}
use Rattle.af_laws.specs.Shutting.{ReceivesAlike, SamePlaces, SecondShutdownChangesNothing, ShutInputEnds, ShutdownChangesNoPlace, ShutdownNeverFails, WhatWaitsIsReceivedAfterShutdown}

-- What is closed again is closed, whatever is closed between.
again : (e a c : Bool) → (((e || a) || c) || a) ≡ ((e || a) || c)
again true a c = refl
again false true c = refl
again false false true = refl
again false false false = refl

-- So it is where nothing is closed between.
twice : (e a : Bool) → ((e || a) || a) ≡ (e || a)
twice true a = refl
twice false true = refl
twice false false = refl

-- A file whose ends were closed so stays as it is.
closed_twice : (a b : Bool) (x : File)
    → file_with (shut a b) (file_with (shut a b) x) ≡ file_with (shut a b) x
closed_twice a b Plain = refl
closed_twice a b (AsSocket s) = λ i. AsSocket (record s { ends = record { no_input = twice s.ends.no_input a i; no_output = twice s.ends.no_output b i } })

-- Also where others were closed between.
closed_again : (a b c d : Bool) (x : File) → file_with (shut a b) (file_with (shut c d) (file_with (shut a b) x)) ≡ file_with (shut c d) (file_with (shut a b) x)
closed_again a b c d Plain = refl
closed_again a b c d (AsSocket s) = λ i. AsSocket (record s { ends = record { no_input = again s.ends.no_input a c i; no_output = again s.ends.no_output b d i } })

-- Counts that are the same twice are the same.
counts_twice : (u v w : World) → SameCounts u v → SameCounts v w → SameCounts u w
counts_twice u v w x y = record {
  references = λ f. y.references f ∙ x.references f;
  in_flight = λ f. y.in_flight f ∙ x.in_flight f;
  in_backlogs = λ f. y.in_backlogs f ∙ x.in_backlogs f;
  charges = λ u. y.charges u ∙ x.charges u;
  all = y.all ∙ x.all;
}

-- A world has its own places.
same_places : (w : World) → SamePlaces w w
same_places w = record {
  tables = refl;
  live = λ f. refl;
  queues = λ f. refl;
  backlogs = λ f. refl;
  names = λ f. refl;
  states = λ f. refl;
  counts = unchanged w;
}

-- The ends of a socket are closed, and those of its peer that they meet.
module _ (w : World) (f q : ℕ) (how : Shutdown) where
  -- The change of the socket.
  abbrev own : Socket → Socket
  own = shut (closes_input how) (closes_output how)

  -- The change of the peer.
  abbrev met : Socket → Socket
  met = shut (closes_output how) (closes_input how)

  -- The world before the ends of the peer are closed.
  abbrev mid : World
  mid = with_socket w f own

  -- The world after it.
  abbrev now : World
  now = with_shut w f q how

  -- What does not look at ends reads of each file as before.
  alike_at : {X : Type 0} (F : Option File → X) → ((x : Socket) (e : Ends) → F (Some (AsSocket (record x { ends = e }))) ≡ F (Some (AsSocket x))) → (k : ℕ) → F (map.get now.files k) ≡ F (map.get w.files k)
  alike_at F blind k =
      read_alike mid q met F (λ x. blind x _) k ∙ read_alike w f own F (λ x. blind x _) k

  -- And of the socket at a descriptor.
  alike_on : {X : Type 0} (F : Socket → X)
      → ((x : Socket) (e : Ends) → F (record x { ends = e }) ≡ F x) → (p n : ℕ)
      → F (socket_on now p n) ≡ F (socket_on w p n)
  alike_on F blind p n = by (table_at w p n) where
    by : (t : Option ℕ) → F (unwrap_or (option_and_then (socket_at now) t) no_socket) ≡ F (unwrap_or (option_and_then (socket_at w) t) no_socket)
    by None = refl
    by (Some k) = alike_at (λ o. F (unwrap_or (option_and_then socket_of o) no_socket)) blind k

  -- All places are as before.
  shut_places : SamePlaces w now
  shut_places = record {
    tables = refl;
    live = alike_at is_some (λ x e. refl);
    queues = alike_at (λ o. option_map_or queue_of o []) (λ x e. refl);
    backlogs = alike_at (λ o. option_map_or backlog_of o []) (λ x e. refl);
    names = alike_at (λ o. option_and_then (λ s. s.name) (option_and_then socket_of o)) (λ x e. refl);
    states = alike_at (λ o. option_map_or state_of o state.Idle) (λ x e. refl);
    counts = counts_twice w mid now (alike w f own (λ x. refl) (λ x. refl)) (alike mid q met (λ x. refl) (λ x. refl));
  }

  -- Nothing is to be freed.
  pub shut_settled : IsSettled w → IsSettled now
  shut_settled settled = altered_settled mid q met (λ x. refl) (λ x. refl) (altered_settled w f own (λ x. refl) (λ x. refl) settled)

  -- The same ends closed again leave the world.
  shut_again : with_shut now f q how ≡ now
  shut_again = ap (λ v. with_socket v q met) (nothing_changed now f own first) ∙ nothing_changed now q met second where
    first : (y : File) → map.get now.files f ≡ Some y → file_with own y ≡ y
    first y is =
        let was = changed-was (file_with met) mid.files q f y is in
        let x = is_changed w f own was.0 was.1 in
        elim was.2 [
          | inl both ↦
              let e : y ≡ file_with met (file_with own x.0) = both.1 ∙ ap (file_with met) x.1 in
              ap (file_with own) e ∙ closed_again _ _ _ _ x.0 ∙ sym e
          | inr same ↦
              let e : y ≡ file_with own x.0 = same ∙ x.1 in
              ap (file_with own) e ∙ closed_twice _ _ x.0 ∙ sym e
        ]

    second : (y : File) → map.get now.files q ≡ Some y → file_with met y ≡ y
    second y is =
        let x = is_changed mid q met y is in
        ap (file_with met) x.1 ∙ closed_twice _ _ x.0 ∙ sym x.1

  -- A receive at a descriptor of any process.
  module _ (p n max_bytes max_fds : ℕ) where
    -- The type of the socket.
    kind : (socket_on now p n).kind ≡ (socket_on w p n).kind
    kind = alike_on (λ x. x.kind) (λ x e. refl) p n

    -- Its queue.
    queue : (socket_on now p n).queue ≡ (socket_on w p n).queue
    queue = alike_on (λ x. x.queue) (λ x e. refl) p n

    -- The answer of a receive from this queue.
    abbrev given : SockType → List Message → Reply
    given k ms =
        let taken = take_from k ms max_bytes in
        let got = lowest_free (min (length taken.attached) max_fds) (process_at w p) in
        if nat_eq (length ms) 0 then reply.End else reply.Got taken.bytes got taken.trunc (nat_lt (length got) (length taken.attached))

    -- The test for something that waits.
    waits : 0 < length (socket_on w p n).queue → nat_eq (length (socket_on w p n).queue) 0 ≡ false
    waits some = told_apart _ 0 (λ none. omega (arith, none, some))

    -- A receive is what it was.
    received_alike : ReceivesAlike w now p n max_bytes max_fds
    received_alike = record {
      taken = λ i. take_from (kind i) (queue i) max_bytes;
      answered = λ i. given (kind i) (queue i);
      refused = λ some.
          let there = alike_at (λ o. is_none (option_and_then socket_of o)) (λ x e. refl) (ino_on w p n) in
          let talks = alike_on (λ x. not (is_linked x)) (λ x e. refl) p n in
          let nothing : (v : World) → nat_eq (length (socket_on v p n).queue) 0 ≡ false
          → (nat_eq (length (socket_on v p n).queue) 0 && not (is_ended (socket_on v p n)))
          ≡ false = λ v e. ap (λ b. b && not (is_ended (socket_on v p n))) e in
          let wait = nothing now (ap (λ ms. nat_eq (length ms) 0) queue ∙ waits some) ∙ sym (nothing w (waits some)) in
          λ i. first_fit ((not (map.contains_key w.processes p), ESRCH) ∷ (is_none (table_at w p n), EBADF) ∷ (there i, ENOTSOCK) ∷ (not (is_between 1 MAX_BYTES max_bytes), EINVAL) ∷ (talks i, ENOTCONN) ∷ (wait i, EAGAIN) ∷ []);
    }

-- A receive is what it is.
received_itself : (w : World) (p n max_bytes max_fds : ℕ) → ReceivesAlike w w p n max_bytes max_fds
received_itself w p n max_bytes max_fds =
    record { taken = refl; answered = refl; refused = λ some. refl }

-- A property of the world and of where a shutdown leads holds after any outcome of it.
shutdown_keeps : (P : World → Type 0) (old new : World) (p n : ℕ) (how : Shutdown) (r : Reply)
    → IsSettled old → P old → P (effect old p (step.Shutdown n how))
    → ProcessStep old p (step.Shutdown n how) r new → P new
shutdown_keeps P old new p n how r settled was is =
    leads P (refusal old p (step.Shutdown n how)) true reply.Ok
    (effect old p (step.Shutdown n how)) old r new was
    (λ none. (
      shut_settled old (ino_on old p n) (connected_to (socket_on old p n).state) how
          settled,
      is,
    ))

pub shutdown_changes_no_place : ShutdownChangesNoPlace
shutdown_changes_no_place old new p n how r settled =
    shutdown_keeps (SamePlaces old) old new p n how r settled (same_places old)
    (shut_places old (ino_on old p n) (connected_to (socket_on old p n).state) how)

pub what_waits_is_received_after_shutdown : WhatWaitsIsReceivedAfterShutdown
what_waits_is_received_after_shutdown old new p n how r settled h q m max_bytes max_fds =
    shutdown_keeps (λ v. ReceivesAlike old v q m max_bytes max_fds) old new p n how r settled
    (received_itself old q m max_bytes max_fds)
    (received_alike old (ino_on old p n) (connected_to (socket_on old p n).state) how q m
    max_bytes max_fds) h

pub shutdown_never_fails : ShutdownNeverFails
shutdown_never_fails old new p n f how s r stands is h =
    (subst (λ o. Outcome o true reply.Ok (effect old p (step.Shutdown n how)) old r new) (left old p n f s stands is (λ x. [])) h).0

-- A shutdown, and the same after it.
module _ (old mid new : World) (p n : ℕ) (how : Shutdown) (settled : IsSettled old) (second : Reply) where
  -- The step.
  abbrev s : Step
  s = step.Shutdown n how

  -- The socket.
  abbrev f : ℕ
  f = ino_on old p n

  -- Its peer.
  abbrev q : ℕ
  q = connected_to (socket_on old p n).state

  -- The world after the first.
  abbrev done : World
  done = effect old p s

  -- The effect of the second is that world.
  same_effect : effect done p s ≡ done
  same_effect = ap (λ (g : ℕ). with_shut done f g how)
      (alike_on old f q how (λ x. connected_to x.state) (λ x e. refl) p n) ∙ shut_again old f q how

  -- So the second leaves it.
  second_stays : IsSettled done → ProcessStep done p s second new → new ≡ done
  second_stays still = outcome_keeps (λ v. v ≡ done) (refusal done p s) true reply.Ok (effect done p s) done second new refl (λ none t. (settled_stays done new still).0 (subst (λ v. Settles v new) same_effect t))

  -- And so it leaves what a first leads to, refused or done.
  second_after : (first : Reply) → ProcessStep mid p s second new → (o : Option Errno)
      → refusal old p s ≡ o → Outcome o true reply.Ok done old first mid → new ≡ mid
  second_after first k (Some e) refused out = (subst (λ o. Outcome o true reply.Ok (effect mid p s) mid second new) (ap (λ v. refusal v p s) out.1 ∙ refused) k).1
  second_after first k None none out =
      let still = shut_settled old f q how settled in
      subst (λ v. ProcessStep v p s second new → new ≡ v) (sym ((settled_stays done mid still).0 out.1)) (second_stays still) k

pub second_shutdown_changes_nothing : SecondShutdownChangesNothing
second_shutdown_changes_nothing old mid new p n how first second settled h k = second_after old mid new p n how settled second first k (refusal old p (step.Shutdown n how)) refl h

-- A closed input does not make a receive wait.
never_waits : (a b : Bool) → (a && not (b || true)) ≡ false
never_waits true true = refl
never_waits true false = refl
never_waits false b = refl

pub shut_input_ends : ShutInputEnds
shut_input_ends w p n f max_bytes max_fds s stands is stream talks empty shut_input fits = (
  left w p n f s stands is (λ x. on_receive x max_bytes)
      ∙ (λ i. first_fit ((not (fits i), EINVAL) ∷ (
        not (talks i || is_datagram s.kind),
        ENOTCONN,
      ) ∷ (
        nat_eq (length s.queue) 0
            && not (is_hung_up s.state || (shut_input i && not (stream i))),
        EAGAIN,
      ) ∷ []))
      ∙ ap (λ b. first_fit ((b, EAGAIN) ∷ [])) (never_waits (nat_eq (length s.queue) 0) (is_hung_up s.state)),
  ap (λ b. if b then reply.End else reply.Got taken.bytes got taken.trunc (nat_lt (length got) (length taken.attached))) none,
) where
  taken : TakeResult
  taken = taken_on w p n max_bytes

  got : List ℕ
  got = got_at w p n max_bytes max_fds

  none : nat_eq (length (socket_on w p n).queue) 0 ≡ true
  none =
      ap (λ x. nat_eq (length x.queue) 0) (socket-is w p n f s stands is)
      ∙ ap (λ ms. nat_eq (length ms) 0) empty
