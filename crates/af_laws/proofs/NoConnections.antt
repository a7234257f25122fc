-- A datagram socket has no connections and no end, and its sends do not wait where it is writable.
use Rattle.std.proofs.Common.{◌≡◌, ℕ, Bool, true, false, not, ◌&&◌, ◌||◌, List, [], ◌∷◌, length, refl, sym, ap, ◌∙◌, subst, nat_eq, arith}
use Rattle.std.specs.Prelude.{Option, Some, None, is_none, nat_lt, if◌then◌else◌}
use Rattle.std.proofs.lemmas.Bool.{false≢true}
use Rattle.std.proofs.Math.Bool.{and-false, and-true}
use Rattle.af_base.specs.declared.errno.Errno.{Errno}
use Rattle.af_base.specs.declared.errno.Errno.TheVariants.{EAGAIN}
use Rattle.af_base.specs.declared.events.Reply.{Reply}
use Rattle.af_base.specs.declared.events.Reply.TheVariants as reply
use Rattle.af_base.specs.declared.events.SockType.{SockType}
use Rattle.af_base.specs.declared.events.State.{State}
use Rattle.af_base.specs.declared.events.State.TheVariants as state
use Rattle.af_base.specs.declared.events.Step.{Step}
use Rattle.af_base.specs.declared.events.Step.TheVariants as step
use Rattle.af_base.specs.Ready.{found, waits}
use Rattle.af_base.specs.Refusals.{is_connected, is_datagram, is_ended, is_hung_up, on_receive, refusal, socket_on}
use Rattle.af_base.specs.Steps.{answer, effect, got_at, taken_on}
use Rattle.af_base.specs.Unheld.{Settles}
use Rattle.af_base.specs.Whole.{fits_type}
use Rattle.af_base.proofs.Datagrams.{datagram-alone}
use Rattle.af_base.proofs.Lookups.{some_same}
use Rattle.af_base.proofs.SoundSteps.{none-fits}
use Rattle.af_base.proofs.StaysWithin.{no_room}
use Rattle.af_laws.proofs.Logs.{end_is_done, is_refused, outcome_done}
use Rattle.af_laws.proofs.Polls.{left, ready_is_what_steps_find, socket-is}
use Rattle.af_laws.proofs.SocketChanges.{file_of_socket}
use Rattle.af_laws.specs.Datagrams.{AWritableSocketDoesNotWait, DatagramsDoNotListen, DatagramsHaveNoEnd}

-- A datagram socket never had a peer.
unconnected : (kind : SockType) (t : State) → fits_type kind t ≡ true → is_datagram kind ≡ true
    → is_connected t ≡ false
unconnected kind state.Idle fits d = refl
unconnected kind (state.Listening b) fits d = refl
unconnected kind (state.Connected q) fits d = absurd (false≢true (sym (ap not d) ∙ fits))
unconnected kind state.HungUp fits d = absurd (false≢true (sym (ap not d) ∙ fits))
unconnected kind (state.Sends q) fits d = refl

-- Who never had a peer has not hung up.
hung-never : (t : State) → is_connected t ≡ false → is_hung_up t ≡ false
hung-never state.Idle e = refl
hung-never (state.Listening b) e = refl
hung-never (state.Connected q) e = refl
hung-never state.HungUp e = absurd (false≢true (sym e))
hung-never (state.Sends q) e = refl

pub datagrams_do_not_listen : DatagramsDoNotListen
datagrams_do_not_listen w f s sound is datagram =
    let fits = sound.whole.types f s is in
    let silent = (datagram-alone s.kind s.state fits datagram).0 in
    let within = sound.within.sockets f s (file_of_socket w f s is) in
    record {
      silent = silent;
      unconnected = unconnected s.kind s.state fits datagram;
      backlog = empty s.backlog (let few = within.backlog in let none = no_room s.state silent in
          omega (arith, few, none));
    } where
      empty : (xs : List ℕ) → length xs ≡ 0 → xs ≡ []
      empty [] e = refl
      empty (x ∷ xs) e = absurd (omega (arith, e))

-- Whether the reply is an end.
abbrev is_end : Reply → Bool
is_end reply.End = true
is_end r = false

pub datagrams_have_no_end : DatagramsHaveNoEnd
datagrams_have_no_end old new p n f max_bytes max_fds s r whole stands is datagram h ends =
    false≢true (sym (ap is_end gives) ∙ ap is_end (sym done.1 ∙ ends)) where
      recv : Step
      recv = step.Recv n max_bytes max_fds

      done : (refusal old p recv ≡ None) × (r ≡ answer old p recv) × Settles (effect old p recv) new
      done = outcome_done (refusal old p recv) false (answer old p recv) (effect old p recv) old r new
          (subst (λ x. is_refused x ≡ false) (sym ends) end_is_done) h

      -- Whether nothing waits.
      empty : Bool
      empty = nat_eq (length s.queue) 0

      -- It has not ended.
      goes_on : is_ended s ≡ false
      goes_on =
          (λ i. is_hung_up s.state || (s.ends.no_input && not (datagram i)))
          ∙ ap (λ b. b || (s.ends.no_input
          && false)) (hung-never s.state (unconnected s.kind s.state (whole.types f s is) datagram))
          ∙ and-false s.ends.no_input

      -- So something waits.
      waiting : empty ≡ false
      waiting =
          let row = none-fits (on_receive s max_bytes)
          (sym (left old p n f s stands is (λ x. on_receive x max_bytes)) ∙ done.0) in
          sym (and-true empty) ∙ ap (λ b. empty && not b) (sym goes_on) ∙ row.rest.rest.here

      -- The reply where something waits.
      got : Reply
      got =
          let taken = taken_on old p n max_bytes in
          let at = got_at old p n max_bytes max_fds in
          reply.Got taken.bytes at taken.trunc (nat_lt (length at) (length taken.attached))

      gives : answer old p recv ≡ got
      gives = ap (λ b. if b then reply.End else got)
          (ap (λ x. nat_eq (length x.queue) 0) (socket-is old p n f s stands is) ∙ waiting)

pub a_writable_socket_does_not_wait : AWritableSocketDoesNotWait
a_writable_socket_does_not_wait w p n f byte s r sound stands is there writable refused =
    by (is_datagram (socket_on w p n).kind) (refusal w p (step.Send n (byte ∷ []) [])) refused
    finds where
      finds : (found w p n).writable ≡ true
      finds = ap (λ x. x.writable)
          (some_same (found w p n) r (sym (ready_is_what_steps_find w p n f s sound stands is)
          ∙ there)) ∙ writable

      by : (b : Bool) (o : Option Errno) → o ≡ Some EAGAIN
          → (if b then not (waits o) else is_none o) ≡ true → ⊥
      by true o e d = false≢true (ap (λ x. not (waits x)) (sym e) ∙ d)
      by false o e d = false≢true (ap is_none (sym e) ∙ d)
