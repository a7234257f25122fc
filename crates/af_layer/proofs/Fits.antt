-- No reply is longer than its event allows.
use Rattle.std.proofs.Common.{◌≡◌, ◌≤◌, ◌+◌, ℕ, Bool, true, false, not, List, [], ◌∷◌, length, min, inl, inr, refl, sym, ◌∙◌, subst, cond, arith, length-take}
use Rattle.std.specs.Prelude.{Option, Some, None, nat_eq, nat_lt}
use Rattle.std.specs.List.{find}
use Rattle.std.proofs.lemmas.Bool.{cases_Bool}
use Rattle.af_base.specs.declared.errno.Errno.{Errno}
use Rattle.af_base.specs.declared.errno.Errno.TheVariants.{ESRCH}
use Rattle.af_base.specs.declared.events.Event.{Event}
use Rattle.af_base.specs.declared.events.Event.TheVariants as event
use Rattle.af_base.specs.declared.events.Reply.{Reply}
use Rattle.af_base.specs.declared.events.Reply.TheVariants as reply
use Rattle.af_base.specs.declared.events.SockType.{SockType}
use Rattle.af_base.specs.declared.events.SockType.TheVariants.{Dgram, Seqpacket, Stream}
use Rattle.af_base.specs.declared.events.Step.{Step}
use Rattle.af_base.specs.declared.events.Step.TheVariants as step
use Rattle.af_base.specs.declared.limits.TheConstants.{MAX_BYTES, SCM_MAX_FD}
use Rattle.std.specs.FinMap as map
use Rattle.af_base.specs.Names.{is_between}
use Rattle.af_base.specs.Pass.{Begins, GoesOn, Idle, Machine, Pass, PassesWhole, Running}
use Rattle.af_base.specs.Refusals.{ino_on, process_at, recv_row, refusal, socket_on}
use Rattle.af_base.specs.Run as run
use Rattle.af_base.specs.Steps.{Outcome, answer, effect, got_at, needs_no_memory, received, taken_on}
use Rattle.af_base.specs.Table.{free_numbers}
use Rattle.af_base.specs.Take.{has_files, joined, take_from}
use Rattle.af_base.specs.Whole.{IsSound}
use Rattle.af_base.specs.World.{Message, World}
use Rattle.af_base.proofs.PurgedWorlds.{slice-by}
use Rattle.af_base.proofs.Elements.{Contains-first, Contains-later}
use Rattle.af_base.proofs.Lookups.{none_some}
use Rattle.af_base.proofs.SoundSteps.{NoneFits, none-fits, socket-there}
use Rattle.af_base.proofs.ReceivedFiles.{AreWithin, before, find-here, find-later, up_to}
use Rattle.af_layer.specs.Room.{HasRoomFor, ReplyRoomView, most_bytes, most_fds}

-- A receive takes at most as many bytes as were asked for.
few_bytes : (kind : SockType) (q : List Message) (n : ℕ) → length (take_from kind q n).bytes ≤ n
few_bytes Seqpacket [] n = omega arith
few_bytes Seqpacket (m ∷ q) n = omega (arith, length-take n m.bytes)
few_bytes Dgram [] n = omega arith
few_bytes Dgram (m ∷ q) n = omega (arith, length-take n m.bytes)
few_bytes Stream q n = by (find has_files q) where
  by : (o : Option Message) → length (up_to q n o).bytes ≤ n
  by None = omega (arith, length-take (min n (before q)) (joined q))
  by (Some m) = omega (arith, length-take (min n (before q + length m.bytes)) (joined q))

-- The first message with files is within the limits, as all are.
few_found : (q : List Message) → AreWithin q → (m : Message) → find has_files q ≡ Some m → length m.attached ≤ SCM_MAX_FD
few_found [] k m e = absurd (none_some m e)
few_found (x ∷ q) k m e = elim (cases_Bool (has_files x)) [
  | inl t ↦ subst (λ o. few o) (sym (find-here x q t) ∙ e) (k x (Contains-first x q)).attached
  | inr t ↦ few_found q (λ n h. k n (Contains-later x q n h)) m (sym (find-later x q t) ∙ e)
] where
  few : Option Message → Type 0
  few None = Unit {0}
  few (Some y) = length y.attached ≤ SCM_MAX_FD

-- A take has the files of one message.
few_files : (kind : SockType) (q : List Message) (n : ℕ) → AreWithin q → length (take_from kind q n).attached ≤ SCM_MAX_FD
few_files Seqpacket [] n k = omega arith
few_files Seqpacket (m ∷ q) n k = (k m (Contains-first m q)).attached
few_files Dgram [] n k = omega arith
few_files Dgram (m ∷ q) n k = (k m (Contains-first m q)).attached
few_files Stream q n k = by (find has_files q) refl where
  either : (b : Bool) (fs : List ℕ) → length fs ≤ SCM_MAX_FD → length (cond b fs []) ≤ SCM_MAX_FD
  either true fs few = few
  either false fs few = omega arith

  by : (o : Option Message) → find has_files q ≡ o → length (up_to q n o).attached ≤ SCM_MAX_FD
  by None e = either (nat_lt (before q) (min n (before q))) [] (omega arith)
  by (Some m) e = either (nat_lt (before q) (min n (before q + length m.bytes))) m.attached (few_found q k m e)

-- A limit that is asked for is one.
limited : (n : ℕ) → not (is_between 1 MAX_BYTES n) ≡ false → n ≤ MAX_BYTES
limited n e = grind arith

module _ (room : ReplyRoomView) where
  -- A step answers what it says, or a refusal, which needs no room.
  fits-outcome : (o : Option Errno) (frugal : Bool) (a : Reply) (effect old : World) (r : Reply) (new : World) → (o ≡ None → HasRoomFor room a) → Outcome o frugal a effect old r new → HasRoomFor room r
  fits-outcome (Some e) frugal a effect old r new fits out = subst (HasRoomFor room) (sym out.0) tt
  fits-outcome None true a effect old r new fits out = subst (HasRoomFor room) (sym out.0) (fits refl)
  fits-outcome None false a effect old r new fits out = elim out [
    | inl y ↦ subst (HasRoomFor room) (sym y.0) (fits refl)
    | inr y ↦ subst (HasRoomFor room) (sym y.0) tt
  ]

  -- The reply of a receive or a peek.
  fits-recv : (w : World) (p n max_bytes max_fds : ℕ) → IsSound w → min MAX_BYTES max_bytes ≤ room.bytes → min SCM_MAX_FD max_fds ≤ room.fds → NoneFits (recv_row w p n max_bytes) → HasRoomFor room (received w p n max_bytes max_fds)
  fits-recv w p n max_bytes max_fds sound bytes fds row = by (nat_eq (length (socket_on w p n).queue) 0) where
    within : AreWithin (socket_on w p n).queue
    within = (sound.within.sockets (ino_on w p n) (socket_on w p n) (socket-there w p n row.here row.rest.here)).messages

    few_got : length (got_at w p n max_bytes max_fds) ≤ room.fds
    few_got =
        let attached = few_files (socket_on w p n).kind (socket_on w p n).queue max_bytes within in
        let taken = length-take (min (length (taken_on w p n max_bytes).attached) max_fds) (free_numbers (process_at w p)) in
        omega (arith, attached, taken, fds)

    few_took : length (taken_on w p n max_bytes).bytes ≤ room.bytes
    few_took =
        let took = few_bytes (socket_on w p n).kind (socket_on w p n).queue max_bytes in
        let most = limited max_bytes row.rest.rest.here in
        omega (arith, took, most, bytes)

    by : (b : Bool) → HasRoomFor room (cond b reply.End (reply.Got (taken_on w p n max_bytes).bytes (got_at w p n max_bytes max_fds) (taken_on w p n max_bytes).trunc (nat_lt (length (got_at w p n max_bytes max_fds)) (length (taken_on w p n max_bytes).attached))))
    by true = tt
    by false = (few_took, few_got)

  -- The reply of a step of a process.
  fits-answer : (w : World) (p : ℕ) (s : Step) → IsSound w → most_bytes (event.Proc p s) ≤ room.bytes → most_fds (event.Proc p s) ≤ room.fds → refusal w p s ≡ None → HasRoomFor room (answer w p s)
  fits-answer w p (step.Recv n max_bytes max_fds) sound bytes fds none =
      fits-recv w p n max_bytes max_fds sound bytes fds (none-fits ((not (map.contains_key w.processes p), ESRCH) ∷ recv_row w p n max_bytes) none).rest
  fits-answer w p (step.Peek n max_bytes max_fds) sound bytes fds none =
      fits-recv w p n max_bytes max_fds sound bytes fds (none-fits ((not (map.contains_key w.processes p), ESRCH) ∷ recv_row w p n max_bytes) none).rest
  fits-answer w p s sound bytes fds none = tt

  -- A reply of the collector needs no room.
  fits-begin : (pass : Pass) (old : Machine) (r : Reply) (new : Machine) → Begins pass old r new → HasRoomFor room r
  fits-begin Idle old r new s = subst (HasRoomFor room) (sym s.0) tt
  fits-begin (Running begun spent) old r new s = subst (HasRoomFor room) (sym s.0) tt

  -- Nor does a slice's answer.
  fits-slice : (pass : Pass) (old : Machine) (b : ℕ) (r : Reply) (new : Machine) → GoesOn pass old b r new → HasRoomFor room r
  fits-slice Idle old b r new s = subst (HasRoomFor room) (sym s.0) tt
  fits-slice (Running begun spent) old b r new s = elim (slice-by begun spent b old new r s) [
    | inl t ↦ subst (HasRoomFor room) (sym t.0) tt
    | inr t ↦ elim t.0.answered [
      | inl y ↦ subst (HasRoomFor room) (sym y.0) tt
      | inr y ↦ subst (HasRoomFor room) (sym y.2) tt
    ]
  ]

  -- Nor does a whole pass's.
  fits-pass : (pass : Pass) (old : Machine) (r : Reply) (new : Machine) → PassesWhole pass old r new → HasRoomFor room r
  fits-pass Idle old r new s = subst (HasRoomFor room) (sym s.0.answered) tt
  fits-pass (Running begun spent) old r new s = subst (HasRoomFor room) (sym s.0) tt

  -- There is room for the reply to an event, from a sound world.
  pub replies_fit : (old : Machine) (e : Event) (r : Reply) (new : Machine) → IsSound old.world → most_bytes e ≤ room.bytes → most_fds e ≤ room.fds → run.Step old e r new → HasRoomFor room r
  replies_fit old (event.Spawn uid nofile privileged) r new sound bytes fds s = fits-outcome _ _ _ _ _ r _ (λ none. tt) s.0
  replies_fit old (event.Proc p s) r new sound bytes fds done =
      fits-outcome (refusal old.world p s) (needs_no_memory s) (answer old.world p s) (effect old.world p s) old.world r new.world (fits-answer old.world p s sound bytes fds) done.0
  replies_fit old event.Begin r new sound bytes fds s = fits-begin old.pass old r new s
  replies_fit old (event.Slice b) r new sound bytes fds s = fits-slice old.pass old b r new s
  replies_fit old event.Pass r new sound bytes fds s = fits-pass old.pass old r new s
