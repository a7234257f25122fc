-- Targets and names hold nothing; connects and sends of datagram sockets need a target.
use Rattle.std.proofs.Common.{◌≡◌, ℕ, Bool, true, false, not, List, [], ◌∷◌, ◌++◌, length, refl, sym, ap, ◌∙◌, subst, cond, arith}
use Rattle.std.specs.Prelude.{Option, Some, None, filter_map, is_none, option_map, unwrap_or, if◌then◌else◌}
use Rattle.std.specs.Option.{option_and_then, option_map_or}
use Rattle.std.specs.List.{Contains}
use Rattle.std.specs.FinMap as map
use Rattle.std.proofs.lemmas.Bool.{false≢true}
use Rattle.af_base.specs.declared.errno.Errno.TheVariants.{EINVAL, ESRCH}
use Rattle.af_base.specs.declared.events.Reply.TheVariants as reply
use Rattle.af_base.specs.declared.events.State.TheVariants as state
use Rattle.af_base.specs.declared.events.Step.TheVariants as step
use Rattle.af_base.specs.World.{AsSocket, File, Message, Plain, Socket, World}
use Rattle.af_base.specs.Changes.{aimed, file_with, push_message, pushed, sending_to, sends_elsewhere, with_name, with_socket}
use Rattle.af_base.specs.Places.{contents, held_by, queue_at, queue_of, table_at}
use Rattle.af_base.specs.Reached.{ByTable, BySocket, Reached}
use Rattle.af_base.specs.Refusals.{first_fit, ino_named, ino_on, is_datagram, on_client, on_files, on_listener, on_target, peer_of, process_at, refusal, socket_at, socket_named, socket_on, step_row, target_named}
use Rattle.af_base.specs.Names.{named, set_of}
use Rattle.af_base.specs.Steps.{Outcome, ProcessStep, effect, with_embryo}
use Rattle.af_base.specs.Unheld.{IsSettled, Settles, file_without}
use Rattle.af_base.proofs.AllowedSteps.{held-with_socket}
use Rattle.af_base.proofs.Lookups.{told_apart}
use Rattle.af_base.proofs.PlaceMoves.{live-changed, there-changed}
use Rattle.af_base.proofs.Places.{refs-push}
use Rattle.af_base.proofs.SettledPlaces.{settled-counted, settled-held}
use Rattle.af_base.proofs.SettledWorlds.{get-without}
use Rattle.af_base.proofs.SoundSteps.{none-fits}
use Rattle.af_laws.proofs.Bindings.{alike}
use Rattle.af_laws.proofs.Logs.{ok_is_done, outcome_done, sent_is_done}
use Rattle.af_laws.proofs.Outcomes.{settled_stays}
use Rattle.af_laws.proofs.Polls.{left, socket-is}
use Rattle.af_laws.proofs.SocketChanges.{file_of_socket}
use Rattle.af_laws.specs.Datagrams.{ANameHoldsNothing, AReconnectLosesWhatWaits, ASendGoesToTheTarget, ATargetHoldsNothing, ConnectsNeedATarget, HoldsTheSame, SendsNeedATarget, TakesFrom, UnconnectNeverFails}

-- Where each socket holds what it held, and the tables stay, the same files are reached.
reached-alike : (w v : World) → v.processes ≡ w.processes → ((s : ℕ) → held_by v s ≡ held_by w s)
    → (f : ℕ) → Reached w f → Reached v f
reached-alike w v tables held _ (ByTable f t) =
    ByTable f (
      t.0,
      t.1,
      (λ i. option_map_or (λ q. map.get q.table t.1) (map.get (tables i) t.0)
          None) ∙ t.2,
    )
reached-alike w v tables held _ (BySocket s f r h) =
    BySocket s f (reached-alike w v tables held s r) (subst (λ xs. Contains xs f) (sym (held s)) h)

-- A socket changed, but not in its queue and not in its backlog.
holds-same : (w : World) (s : ℕ) (g : Socket → Socket) → ((x : Socket) → (g x).queue ≡ x.queue)
    → ((x : Socket) → (g x).backlog ≡ x.backlog) → HoldsTheSame w (with_socket w s g)
holds-same w s g queue backlog = record {
  tables = refl;
  live = live-changed w s g;
  held = held;
  reached = λ f. (
    reached-alike (with_socket w s g) w refl (λ q. sym (held q)) f,
    reached-alike w (with_socket w s g) refl held f,
  );
  counts = alike w s g queue backlog;
} where
  held : (q : ℕ) → held_by (with_socket w s g) q ≡ held_by w q
  held = held-with_socket w s g (λ x i. contents (AsSocket (record (g x) {
    queue = queue x i;
    backlog = backlog x i;
  })))

pub a_name_holds_nothing : ANameHoldsNothing
a_name_holds_nothing w s name = holds-same w s (with_name name) (λ x. refl) (λ x. refl)

pub a_target_holds_nothing : ATargetHoldsNothing
a_target_holds_nothing w s to bare =
    subst (HoldsTheSame w) (sym (ap (λ fs. record w {
      files =
          fs;
    }) (by (map.get w.files s) refl))) (holds-same w s only (λ x. refl) (λ x. refl)) where
      -- The change of the state alone.
      only : Socket → Socket
      only x = record x { state = sending_to to }

      -- Nothing is lost of a queue that is empty.
      kept : (b : Bool) (q : List Message) → q ≡ [] → (if b then [] else q) ≡ q
      kept true q e = sym e
      kept false q e = refl

      each : (x : File) → queue_of x ≡ [] → file_with (aimed to) x ≡ file_with only x
      each Plain e = refl
      each (AsSocket x) e =
          ap (λ q. AsSocket (record x {
            state = sending_to to;
            queue =
                q;
          })) (kept (sends_elsewhere to x.state) x.queue e)

      by : (o : Option File) → map.get w.files s ≡ o
          → option_map_or (λ x. map.insert w.files s (file_with (aimed to) x)) o w.files
          ≡ option_map_or (λ x. map.insert w.files s (file_with only x)) o w.files
      by None e = refl
      by (Some x) e = ap (map.insert w.files s) (each x (sym (ap (λ o. option_map_or queue_of o []) e)
          ∙ bare))

pub unconnect_never_fails : UnconnectNeverFails
unconnect_never_fails old new p n f s r stands is datagram h =
    let fits : refusal old p (step.Unconnect n) ≡ None =
    left old p n f s stands is (λ x. (not (is_datagram x.kind), EINVAL) ∷ [])
    ∙ ap (λ b. first_fit ((not b, EINVAL) ∷ [])) datagram in
    (subst (λ o. Outcome o true reply.Ok (effect old p (step.Unconnect n)) old r new) fits h).0

-- A socket that is looked up and that the tests of a target let pass takes from f.
takes-from : (w : World) (f : ℕ) (t : Option ℕ) → is_none (option_and_then (socket_at w) t) ≡ false
    → option_map_or (λ x. sends_elsewhere f x.state) (option_and_then (socket_at w) t) false ≡ false
    → TakesFrom w f (unwrap_or t 0)
takes-from w f None e d = absurd (false≢true (sym e))
takes-from w f (Some q) e d = by (socket_at w q) refl e d where
  by : (o : Option Socket) → socket_at w q ≡ o → is_none o ≡ false
      → option_map_or (λ x. sends_elsewhere f x.state) o false ≡ false → TakesFrom w f q
  by None is e d = absurd (false≢true (sym e))
  by (Some x) is e d = record { socket = x; there = is; takes = d }

module _ (old new : World) (p n f : ℕ) (name : List ℕ) (s : Socket) (stands : table_at old p n
    ≡ Some f) (is : socket_at old f ≡ Some s) (datagram : is_datagram s.kind ≡ true) where
  -- The number of the target.
  abbrev to : ℕ
  to = ino_named old s.kind name

  -- The row of a connect, of what was looked up.
  looked_up : refusal old p (step.Connect n name)
      ≡ first_fit (on_client s.state ++ on_target f (target_named old s.kind name))
  looked_up = left old p n f s stands is (λ x. on_client x.state
      ++ (if is_datagram x.kind then on_target (ino_on old p n) (target_named old x.kind name)
      else on_listener (socket_named old x.kind name) x.kind ++ on_files old 1))
      ∙ (λ i. first_fit (on_client s.state
      ++ (if datagram i then on_target (unwrap_or (stands i) 0) (target_named old s.kind name)
      else on_listener (socket_named old s.kind name) s.kind ++ on_files old 1)))

  -- Its effect.
  same_effect : effect old p (step.Connect n name) ≡ with_socket old f (aimed to)
  same_effect =
      (λ i.
      let x = socket-is old p n f s stands is i in
      let c = unwrap_or (stands i) 0 in
      let there = ino_named old x.kind name in
      if is_datagram x.kind then with_socket old c (aimed there) else with_embryo old c there
      (socket_named old x.kind name).kind)
      ∙ ap (λ b. if b then with_socket old f (aimed to) else with_embryo old f to
      (socket_named old s.kind name).kind) datagram

  module _ (h : Outcome (refusal old p (step.Connect n name)) false reply.Ok
      (effect old p (step.Connect n name)) old reply.Ok new) where
    -- Nothing refuses it, and the effect settles.
    connected : (refusal old p (step.Connect n name) ≡ None)
        × Settles (with_socket old f (aimed to)) new
    connected =
        let done = outcome_done (refusal old p (step.Connect n name)) false reply.Ok
        (effect old p (step.Connect n name)) old reply.Ok new ok_is_done h in
        (done.0, subst (λ v. Settles v new) same_effect done.2)

    -- The target takes from it.
    connected-takes : TakesFrom old f to
    connected-takes =
        let row = none-fits (on_client s.state
        ++ on_target f (target_named old s.kind name)) (sym looked_up ∙ connected.0) in
        takes-from old f (named old.files (set_of s.kind) name) row.rest.rest.here
        row.rest.rest.rest.here

    -- What waited is lost, where it sent to another.
    connected-bare : (t : ℕ) → s.state ≡ state.Sends t → ¬ (t ≡ to) → queue_at new f ≡ []
    connected-bare t sent other =
        ap (λ v. queue_at v f) connected.1.2
        ∙ ap (λ o. option_map_or queue_of o []) (get-without connected.1.0 now f)
        ∙ each (connected.1.0 f) (map.get now.files f) bare where
          now : World
          now = with_socket old f (aimed to)

          bare : queue_at now f ≡ []
          bare =
              ap (λ o. option_map_or queue_of o [])
              (there-changed old f (aimed to) s (file_of_socket old f s is))
              ∙ ap (λ k. if sends_elsewhere to k then [] else s.queue) sent
              ∙ ap (λ b. if not b then [] else s.queue) (told_apart t to other)

          each : (b : Bool) (o : Option File) → option_map_or queue_of o [] ≡ []
              → option_map_or queue_of
              (cond (not b) (option_map (file_without connected.1.0) o) None) [] ≡ []
          each true o e = refl
          each false None e = refl
          each false (Some Plain) e = refl
          each false (Some (AsSocket x)) e = e

pub connects_need_a_target : ConnectsNeedATarget
connects_need_a_target = connected-takes

pub a_reconnect_loses_what_waits : AReconnectLosesWhatWaits
a_reconnect_loses_what_waits old new p n f t name s stands is datagram sent other h =
    connected-bare old new p n f name s stands is datagram h t sent other

module _ (old new : World) (p n f k : ℕ) (bytes attach : List ℕ) (s : Socket)
    (stands : table_at old p n ≡ Some f) (is : socket_at old f
    ≡ Some s) (h : ProcessStep old p (step.Send n bytes attach) (reply.Sent k) new) where
  -- The message.
  abbrev message : Message
  message = record {
    bytes = bytes;
    attached = filter_map (table_at old p) attach;
    user =
        (process_at old p).user;
  }

  -- The file where it is sent.
  abbrev q : ℕ
  q = peer_of s.state

  -- The look-up gives it.
  same_peer : peer_of (socket_on old p n).state ≡ q
  same_peer = ap (λ x. peer_of x.state) (socket-is old p n f s stands is)

  -- Nothing refuses the send, and the world settles with the message more.
  sent : (refusal old p (step.Send n bytes attach) ≡ None)
      × Settles (push_message old q message) new
  sent =
      let done = outcome_done (refusal old p (step.Send n bytes attach)) false
      (reply.Sent (length bytes)) (effect old p (step.Send n bytes attach)) old (reply.Sent k)
      new (sent_is_done k) h in
      (done.0, subst (λ v. Settles v new) (ap (λ g. push_message old g message) same_peer) done.2)

  -- It is sent to a live socket that takes from f.
  sent-takes : TakesFrom old f q
  sent-takes =
      let row = none-fits ((
        not (map.contains_key old.processes p),
        ESRCH,
      ) ∷ step_row old p (step.Send n bytes attach)) sent.0 in
      let target = row.rest.rest.rest.rest.rest.rest.rest.rest.rest in
      subst (λ g. TakesFrom old f g) same_peer
      (subst (λ o. TakesFrom old (unwrap_or o 0) (peer_of (socket_on old p n).state)) stands
      (takes-from old (ino_on old p n) (Some (peer_of (socket_on old p n).state)) target.here
      target.rest.here))

  -- It waits there, last.
  sent-waits : IsSettled old → queue_at new q ≡ queue_at old q ++ message ∷ []
  sent-waits settled = ap (λ v. queue_at v q) ((settled_stays now new still).0 sent.1)
      ∙ ap (λ o. option_map_or queue_of o []) (there-changed old q (pushed message) x there)
      ∙ sym (ap (λ o. option_map_or queue_of o [] ++ message ∷ []) there) where
        now : World
        now = push_message old q message

        x : Socket
        x = sent-takes.socket

        there : map.get old.files q ≡ Some (AsSocket x)
        there = file_of_socket old q x sent-takes.there

        still : IsSettled now
        still = settled-counted now (λ g l. let held =
            settled-held old g settled (sym (live-changed old q (pushed message) g) ∙ l) in
            omega (arith, held, refs-push old q message g x there))

pub sends_need_a_target : SendsNeedATarget
sends_need_a_target = sent-takes

pub a_send_goes_to_the_target : ASendGoesToTheTarget
a_send_goes_to_the_target old new p n f q k bytes attach s settled stands is to h =
    subst (λ g. queue_at new g ≡ queue_at old g
    ++ message old new p n f k bytes attach s stands is h ∷ []) (ap peer_of to)
    (sent-waits old new p n f k bytes attach s stands is h settled)
