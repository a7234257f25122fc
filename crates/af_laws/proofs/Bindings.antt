-- Names and listeners: who is found by a name, and what a bind and a listen leave as it was.
use Rattle.std.proofs.Common.{◌≡◌, inr, ℕ, false, not, List, ◌∷◌, ◌++◌, length, refl, sym, ap, ◌∙◌, subst, arith}
use Rattle.std.specs.Prelude.{Option, Some, None}
use Rattle.std.specs.List.{sum_by}
use Rattle.std.specs.FinMap as map
use Rattle.af_base.specs.declared.errno.Errno.{Errno}
use Rattle.af_base.specs.declared.errno.Errno.TheVariants.{ESRCH}
use Rattle.af_base.specs.declared.events.Reply.{Reply}
use Rattle.af_base.specs.declared.events.Reply.TheVariants as reply
use Rattle.af_base.specs.declared.events.Step.TheVariants as step
use Rattle.af_base.specs.World.{AsSocket, Message, Socket, World, is_live}
use Rattle.af_base.specs.Places.{attached_in, backlog_of, contents, queue_of}
use Rattle.af_base.specs.Counts.{charge, count_in, refs, total_of}
use Rattle.af_base.specs.Names.{named, set_of}
use Rattle.af_base.specs.Unheld.{IsSettled, Settles}
use Rattle.af_base.specs.Changes.{listening, with_name, with_socket}
use Rattle.af_base.specs.Refusals.{ino_on, refusal, socket_on, step_row}
use Rattle.af_base.specs.Steps.{Outcome, effect}
use Rattle.af_base.specs.Whole.{IsSound, bound_at}
use Rattle.af_base.proofs.Connections.{whole-bound}
use Rattle.af_base.proofs.PlaceMoves.{live-changed, there-changed, total-changed}
use Rattle.af_base.proofs.SocketNames.{name-there, named-none, named-some}
use Rattle.af_base.proofs.SettledPlaces.{settled-counted, settled-held}
use Rattle.af_base.proofs.SoundSteps.{no_one, none-fits, socket-there}
use Rattle.af_base.specs.Reached.{BySocket}
use Rattle.af_laws.proofs.PlaceCounts.{holds_in_queue_or_backlog}
use Rattle.af_laws.proofs.Logs.{ok_is_done, outcome_done}
use Rattle.af_laws.proofs.Outcomes.{outcome_keeps, settled_stays}
use Rattle.af_laws.specs.Connecting.{BindChangesNoCount, BoundSocketsAreFound, EmbryosAreReached, ListenChangesNoCount, NamesFindTheirSockets, SameCounts, WhatEmbryosHoldIsReached}

pub embryos_are_reached : EmbryosAreReached
embryos_are_reached w s e r h = BySocket s e r ((holds_in_queue_or_backlog w s e).1 (inr h))

pub what_embryos_hold_is_reached : WhatEmbryosHoldIsReached
what_embryos_hold_is_reached w s e f r h g = BySocket e f (embryos_are_reached w s e r h) g

pub names_find_their_sockets : NamesFindTheirSockets
names_find_their_sockets w f set name whole = (named-some w set name f, λ has. by has (named w.files set name) refl) where
  by : bound_at w f ≡ Some (set, name) → (o : Option ℕ) → named w.files set name ≡ o
      → named w.files set name ≡ Some f
  by has None e = absurd (named-none w set name e f has)
  by has (Some g) e = e ∙ ap Some (whole.names g f (set, name) (named-some w set name g e) has)

-- A world with the same live files, and as many references to each.
pub settled_alike : (w now : World) → ((f : ℕ) → is_live now f ≡ is_live w f)
    → ((f : ℕ) → refs now f ≡ refs w f) → IsSettled w → IsSettled now
settled_alike w now live same settled = settled-counted now (λ f l. let held = settled-held w f settled (sym (live f) ∙ l) in omega (arith, held, same f))

-- A world has its own counts.
pub unchanged : (w : World) → SameCounts w w
unchanged w = record { references = λ f. refl; in_flight = λ f. refl; in_backlogs = λ f. refl; charges = λ u. refl; all = refl }

-- A settled effect is the world after the step.
module _ (now old new : World) (settled : IsSettled now) where
  -- The world after the step is the settled effect.
  is_effect : Settles now new → new ≡ now
  is_effect t = (settled_stays now new settled).0 t

  -- A step that changes no count, done or refused.
  same_outcome : SameCounts old now → (o : Option Errno) (answer r : Reply)
      → Outcome o false answer now old r new → SameCounts old new
  same_outcome same o answer r = outcome_keeps (SameCounts old) o false answer now old r new (unchanged old) (λ none t. subst (SameCounts old) (sym (is_effect t)) same)

-- A socket changed, but not in its queue and not in its backlog.
module _ (w : World) (s : ℕ) (g : Socket → Socket) (same_queue : (x : Socket) → (g x).queue ≡ x.queue) (same_backlog : (x : Socket) → (g x).backlog ≡ x.backlog) where
  -- The world with the changed socket.
  abbrev altered : World
  altered = with_socket w s g

  -- Each sum over queues is as before.
  queues_alike : (F : List Message → ℕ)
      → total_of (λ y. F (queue_of y)) altered.files ≡ total_of (λ y. F (queue_of y)) w.files
  queues_alike F = total-changed (λ y. F (queue_of y)) w s g (λ x. ap F (same_queue x))

  -- Each reference count is as before.
  refs_alike : (f : ℕ) → refs altered f ≡ refs w f
  refs_alike f = omega (arith, total-changed (λ y. count_in f (contents y)) w s g (λ x. (λ i. count_in f (attached_in (same_queue x i) ++ same_backlog x i))))

  -- All counts are as before.
  pub alike : SameCounts w altered
  alike = record {
    references = refs_alike;
    in_flight = λ f. queues_alike (λ q. count_in f (attached_in q));
    in_backlogs = λ f. total-changed (λ y. count_in f (backlog_of y)) w s g (λ x. ap (count_in f) (same_backlog x));
    charges = λ u. queues_alike (λ q. sum_by (charge u) q);
    all = queues_alike (λ q. sum_by (λ m. length m.attached) q);
  }

  -- It is settled if the old world is.
  pub altered_settled : IsSettled w → IsSettled altered
  altered_settled settled = settled_alike w altered (live-changed w s g) refs_alike settled

pub bind_changes_no_count : BindChangesNoCount
bind_changes_no_count old new p n name r settled h =
    same_outcome (effect old p (step.Bind n name)) old new (altered_settled old (ino_on old p n) (with_name name) (λ x. refl) (λ x. refl) settled) (alike old (ino_on old p n) (with_name name) (λ x. refl) (λ x. refl)) (refusal old p (step.Bind n name)) reply.Ok r h

pub listen_changes_no_count : ListenChangesNoCount
listen_changes_no_count old new p n b r settled h =
    same_outcome (effect old p (step.Listen n b)) old new (altered_settled old (ino_on old p n) (listening b) (λ x. refl) (λ x. refl) settled) (alike old (ino_on old p n) (listening b) (λ x. refl) (λ x. refl)) (refusal old p (step.Listen n b)) reply.Ok r h

-- A bind that nothing refuses.
module _ (w : World) (p n : ℕ) (name : List ℕ) (sound : IsSound w) (fits : refusal w p (step.Bind n name) ≡ None) where
  -- The world after the bind.
  abbrev named_world : World
  named_world = effect w p (step.Bind n name)

  -- The set in which it has its name.
  abbrev set : ℕ
  set = set_of (socket_on w p n).kind

  -- The name leads to the socket there.
  found : named named_world.files set name ≡ Some (ino_on w p n)
  found =
      let row = (none-fits ((not (map.contains_key w.processes p), ESRCH) ∷ step_row w p (step.Bind n name)) fits).rest in
      let there = socket-there w p n row.here row.rest.here in
      let whole = whole-bound w (ino_on w p n) name (socket_on w p n) there (named-none w set name (no_one (named w.files set name) row.rest.rest.rest.here)) sound.whole in
      let has : bound_at named_world (ino_on w p n) ≡ Some (set, name) = name-there named_world (ino_on w p n) (Some (AsSocket (with_name name (socket_on w p n)))) (there-changed w (ino_on w p n) (with_name name) (socket_on w p n) there) in
      (names_find_their_sockets named_world (ino_on w p n) set name whole).1 has

pub bound_sockets_are_found : BoundSocketsAreFound
bound_sockets_are_found old new p n name sound h =
    let now = effect old p (step.Bind n name) in
    let done = outcome_done (refusal old p (step.Bind n name)) false reply.Ok now old reply.Ok new ok_is_done h in
    let same = is_effect now old new (altered_settled old (ino_on old p n) (with_name name) (λ x. refl) (λ x. refl) sound.settled) done.2 in
    ap (λ w. named w.files (set_of (socket_on old p n).kind) name) same ∙ found old p n name sound done.0
