-- A send: its row by its parts, and that the queue has room for its message.
use Rattle.std.proofs.Common.{◌≡◌, ◌≤◌, ℕ, ◌+◌, List, ◌++◌, false, length, sym, ap, ◌∙◌, subst, arith}
use Rattle.std.specs.Prelude.{Some, None, Result, Ok, Err, IfErr, IfOk, OnOk, filter_map, nat_eq, nat_lt}
use Rattle.std.specs.FinMap as map
use Rattle.std.specs.List.{Contains}
use Rattle.std.proofs.lemmas.Bool.{eqb-false, ltb-false, or_parts}
use Rattle.af_base.specs.declared.errno.Errno.{Errno}
use Rattle.af_base.specs.declared.errno.Errno.TheVariants.{ENOMEM}
use Rattle.af_base.specs.declared.events.Reply.TheVariants as reply
use Rattle.af_base.specs.declared.events.Step.TheVariants as step
use Rattle.af_base.specs.declared.limits.TheConstants.{MAX_BYTES, MAX_INFLIGHT, SCM_MAX_FD}
use Rattle.af_base.specs.Changes.{push_message}
use Rattle.af_base.specs.Counts.{total}
use Rattle.af_base.specs.Pass.{Machine, SamePass}
use Rattle.af_base.specs.Places.{InTable, table_at}
use Rattle.af_base.specs.Refusals.{RefusalRow, first_fit, ino_on, on_parts, peer_of, refusal}
use Rattle.af_base.specs.Steps.{effect}
use Rattle.af_base.specs.Unheld.{Settles}
use Rattle.af_base.specs.Whole.{IsMessageWithin}
use Rattle.af_base.specs.World.{Message, Process, Socket, World}
use Rattle.af_base.proofs.SoundSteps.{attached-most, attached-tabled, goes-on, none-fits, passes-on}
use Rattle.af_steps.specs.Found.{HasSocket}
use Rattle.af_steps.specs.declared.messages.Envelope.{Envelope}
use Rattle.af_steps.specs.Outcome.{Does, Refuses, error_of}
use Rattle.af_steps.specs.MessageRoom.{goal_row, message_in, room_row}
use Rattle.af_steps.proofs.LookupRows.{after-socket, ino-is, is_process, looks, socket-is}

module _ {w : World} {p n f : ℕ} {q : Process} {x : Socket} (has : HasSocket w p q n f x) (bytes attach : List ℕ) where
  -- The part of its bytes and numbers, by what was found.
  abbrev parts : RefusalRow
  parts = on_parts (map.get q.table) bytes attach

  -- Those of the charge, and of the queue.
  abbrev room : RefusalRow
  room = room_row w q (peer_of x.state) (length attach)

  -- Those of whom it sends to.
  abbrev goal : RefusalRow
  goal = goal_row w f x

  -- All of them.
  row : refusal w p (step.Send n bytes attach) ≡ first_fit (parts ++ (goal ++ room))
  row =
      after-socket has (λ r look s. on_parts look bytes attach
      ++ (goal_row w (ino_on w p n) s ++ room_row w r (peer_of s.state) (length attach)))
      ∙ ap (λ g. first_fit (parts ++ (goal_row w g x ++ room))) (ino-is has.number)

  -- Its bytes or its numbers are refused.
  pub refused-parts : (e : Errno) → first_fit parts ≡ Some e → refusal w p (step.Send n bytes attach) ≡ Some e
  refused-parts e fits = row ∙ goes-on parts (goal ++ room) e fits

  module _ (given : first_fit parts ≡ None) where
    -- The parts that are left then.
    after-parts : refusal w p (step.Send n bytes attach) ≡ first_fit (goal ++ room)
    after-parts = row ∙ passes-on parts (goal ++ room) given

    -- It can talk to nobody.
    pub refused-peer : (e : Errno) → first_fit goal ≡ Some e
        → refusal w p (step.Send n bytes attach) ≡ Some e
    refused-peer e fits = after-parts ∙ goes-on goal room e fits

    -- It can talk to this socket: what is left decides.
    pub after-peer : first_fit goal ≡ None → (g : ℕ) → g ≡ peer_of x.state
        → refusal w p (step.Send n bytes attach) ≡ first_fit (room_row w q g (length attach))
    after-peer alive g to = after-parts ∙ passes-on goal room alive
        ∙ ap (λ h. first_fit (room_row w q h (length attach))) (sym to)

  -- The message that is sent.
  abbrev pub sent : Message
  sent = record { bytes = bytes; attached = filter_map (map.get q.table) attach; user = q.user }

  module _ (m : Message) (is : m ≡ sent) where
    -- It carries the files of the descriptors.
    carries : m.attached ≡ filter_map (table_at w p) attach
    carries = ap (λ (x : Message). x.attached) is ∙ (λ i. filter_map (sym (looks has.number.process) i) attach)

    -- It comes into the queue of the one that the socket sends to.
    pub sent-leads : (g : ℕ) → g ≡ peer_of x.state → effect w p (step.Send n bytes attach)
        ≡ push_message w g m
    sent-leads g to =
        let process = has.number.process in
        (λ i. push_message w (peer_of (socket-is has i).state) (record {
          bytes = bytes;
          attached =
              filter_map (looks process i) attach;
          user = (is_process process i).user;
        }))
        ∙ (λ i. push_message w (sym to i) (sym is i))

    -- They are in the table of the sender.
    pub sent-tabled : (g : ℕ) → Contains m.attached g → InTable w g
    sent-tabled g h = let tabled = attached-tabled w p attach g (subst (λ fs. Contains fs g) carries h) in (p, tabled.0, tabled.1)

    -- All queues have room for them.
    pub sent-flying : (s : ℕ) → first_fit (room_row w q s (length attach)) ≡ None → total w + length m.attached ≤ MAX_INFLIGHT
    sent-flying s paid = let flying = ltb-false MAX_INFLIGHT (total w + length attach) (none-fits (room_row w q s (length attach)) paid).rest.here in omega (arith, flying, attached-most w p attach, ap length carries)

    -- The message is within the limits.
    pub sent-within : first_fit parts ≡ None → IsMessageWithin m
    sent-within given =
        let tests = none-fits parts given in
        let counted = or_parts (nat_eq (length bytes) 0) (nat_lt SCM_MAX_FD (length attach)) tests.here in
        let some = eqb-false (length bytes) 0 counted.0 in
        let few = ltb-false SCM_MAX_FD (length attach) counted.1 in
        subst IsMessageWithin (sym is) (record {
          some = omega (arith, some);
          bytes = ltb-false MAX_BYTES (length bytes) tests.rest.here;
          attached = omega (arith, few, attached-most w p attach, ap (λ look. length (filter_map look attach)) (looks has.number.process));
        })

-- A prepared send, which keeps a copy of the bytes.
module _ (old new : Machine) (p n : ℕ) {bytes kept : List ℕ} (attach : List ℕ) (e : Envelope) (same : kept ≡ bytes) (fits : refusal old.world p (step.Send n bytes attach) ≡ None) (leads : effect old.world p (step.Send n bytes attach) ≡ push_message old.world e.peer (message_in e bytes)) where
  -- Its message came into the queue.
  pub sent-done : (o : Result ℕ Errno) → IfOk o (λ k. k ≡ length kept) → OnOk o (Settles (push_message old.world e.peer (message_in e kept)) new.world) → OnOk o (SamePass old new) → IfOk o (λ k. Does old p (step.Send n bytes attach) (reply.Sent k) new)
  sent-done (Ok k) count settles pass = (fits, ap reply.Sent (count ∙ ap length same), subst (λ v. Settles v new.world) (ap (λ b. push_message old.world e.peer (message_in e b)) same ∙ sym leads) settles, pass)
  sent-done (Err x) count settles pass = tt

  -- Memory for it was refused.
  pub sent-not : (o : Result ℕ Errno) → IfErr o (λ x. (x ≡ ENOMEM) × (new ≡ old)) → IfErr o (λ x. Refuses old p (step.Send n bytes attach) x new)
  sent-not (Ok k) stays = tt
  sent-not (Err x) stays = (ap (λ r. error_of r false) fits ∙ ap Some (sym stays.0), stays.1)
