-- Whom a socket sends to: the tests of that part of the row, by what the socket is.
use Rattle.std.proofs.Common.{◌≡◌, ◌<◌, ℕ, Bool, true, false, List, [], ◌∷◌, ◌++◌, refl, sym, ap, ◌∙◌, arith}
use Rattle.std.specs.Prelude.{Option, Some, None, ◌||◌, ◌&&◌, if◌then◌else◌, is_none, is_some, nat_eq, not}
use Rattle.std.specs.Option.{option_and_then, option_map_or}
use Rattle.std.specs.FinMap as map
use Rattle.std.proofs.lemmas.Bool.{ne_eqb}
use Rattle.af_base.specs.declared.errno.Errno.{Errno}
use Rattle.af_base.specs.declared.errno.Errno.TheVariants.{ENOTCONN, EPERM, EPIPE}
use Rattle.af_base.specs.declared.events.State.{State}
use Rattle.af_base.specs.declared.events.State.TheVariants as state
use Rattle.af_base.specs.Changes.{sends_elsewhere}
use Rattle.af_base.specs.Places.{queue_at, queue_of}
use Rattle.af_base.specs.Ready.{has_room, reaches, writes}
use Rattle.af_base.specs.Refusals.{RefusalRow, first_fit, is_connected, is_datagram, is_deaf, is_hung_up, on_input, on_room, on_target, peer_of, socket_at, socket_of}
use Rattle.af_base.specs.Whole.{fits_type, state_at, state_of}
use Rattle.af_base.specs.World.{AsSocket, File, Message, Plain, Socket, World}
use Rattle.af_base.proofs.SoundSteps.{connected-socket, goes-on, passes-on}
use Rattle.af_steps.specs.Found.{IsSocketOf}
use Rattle.af_steps.specs.MessageRoom.{goal_row, target_row}
use Rattle.af_steps.proofs.LookupRows.{file-is}

-- The queue of a socket.
queue-of : (w : World) (g : ℕ) → queue_at w g
    ≡ option_map_or (λ (t : Socket). t.queue) (socket_at w g) []
queue-of w g = by (map.get w.files g) where
  by : (o : Option File) → option_map_or queue_of o []
      ≡ option_map_or (λ (t : Socket). t.queue) (option_and_then socket_of o) []
  by None = refl
  by (Some Plain) = refl
  by (Some (AsSocket s)) = refl

module _ {w : World} {f : ℕ} {x : Socket} (is : IsSocketOf w f x) where
  -- The tests, by the state, whether it is a datagram socket, and whether its output is closed.
  abbrev tests : State → Bool → Bool → RefusalRow
  tests t datagrams closed =
      (not (is_connected t || datagrams), ENOTCONN)
      ∷ (is_hung_up t || closed, EPIPE)
      ∷ (nat_eq (peer_of t) 0, ENOTCONN)
      ∷ on_target f (socket_at w (peer_of t))

  -- Its own state.
  own-state : state_at w f ≡ x.state
  own-state = ap (λ o. option_map_or state_of o state.Idle) (file-is w f x is.found)

  -- Its peer is a socket that is connected to it.
  peer-there : (g : ℕ) → x.state ≡ state.Connected g → (y : Socket)
      × (map.get w.files g ≡ Some (AsSocket y)) × (y.state ≡ state.Connected f)
  peer-there g s =
      let back = is.whole.peers f g (own-state ∙ s) in
      let y = connected-socket w g f back in
      (y.0, y.1, ap (λ o. option_map_or state_of o state.Idle) (sym y.1) ∙ back)

  -- It is connected to this one, and its output is open: nothing refuses it.
  pub at-peer : (g : ℕ) → x.state ≡ state.Connected g → x.ends.no_output ≡ false
      → first_fit (goal_row w f x) ≡ None
  at-peer g s opened =
      let y = peer-there g s in
      let low = is.whole.files_begin g (ap is_some y.1) in
      let some = ne_eqb g 0 (λ none. omega (arith, low, none)) in
      (λ i. first_fit (tests (s i) (is_datagram x.kind) (opened i)))
      ∙ (λ i. first_fit ((some i, ENOTCONN) ∷ on_target f (option_and_then socket_of (y.1 i))))
      ∙ (λ i. first_fit ((sends_elsewhere f (y.2 i), EPERM) ∷ []))

  -- It is connected, and its output is closed.
  pub peer-closed : (g : ℕ) → x.state ≡ state.Connected g → x.ends.no_output ≡ true
      → first_fit (goal_row w f x) ≡ Some EPIPE
  peer-closed g s closed = λ i. first_fit (tests (s i) (is_datagram x.kind) (closed i))

  -- What it sends to takes no message from it: so it reaches none.
  pub reaches-none : (e : Errno) → first_fit (goal_row w f x) ≡ Some e
      → reaches f x (socket_at w (peer_of x.state)) ≡ false
  reaches-none e refused =
      ap is_none (goes-on (goal_row w f x) (on_input (is_deaf w (peer_of x.state))) e refused)

  -- What it sends to takes messages from it, if its input is open.
  pub reaches-open : first_fit (goal_row w f x) ≡ None
      → reaches f x (socket_at w (peer_of x.state))
      ≡ is_none (first_fit (on_input (is_deaf w (peer_of x.state))))
  reaches-open given = ap is_none
      (passes-on (goal_row w f x) (on_input (is_deaf w (peer_of x.state))) given)

  -- A connected socket is no datagram socket.
  connects : (g : ℕ) → x.state ≡ state.Connected g → is_datagram x.kind ≡ false
  connects g s = by (is_datagram x.kind) (sym (ap (fits_type x.kind) s)
      ∙ is.whole.types f x is.found) where
        by : (b : Bool) → not b ≡ true → b ≡ false
        by true e = sym e
        by false e = refl

  -- A connected socket, whose output is open, writes if its peer takes a message.
  pub writes-to-peer : (g : ℕ) → x.state ≡ state.Connected g → x.ends.no_output ≡ false
      → writes f x (socket_at w (peer_of x.state)) ≡ is_none (first_fit (target_row w g))
  writes-to-peer g s opened =
      let t = socket_at w (peer_of x.state) in
      let d = is_deaf w (peer_of x.state) in
      (λ i. if connects g s i then not (reaches f x t) || has_room t else reaches f x t
      && has_room t)
      ∙ (λ i. reaches-open (at-peer g s opened) i && has_room t)
      ∙ both d (option_map_or (λ (t : Socket). t.queue) t [])
      ∙ (λ i. is_none (first_fit (on_input d ++ on_room (sym (queue-of w (peer_of x.state)) i))))
      ∙ (λ i. is_none (first_fit (target_row w (peer_of (s i))))) where
        both : (d : Bool) (q : List Message) → is_none (first_fit (on_input d))
            && is_none (first_fit (on_room q)) ≡ is_none (first_fit (on_input d ++ on_room q))
        both true q = refl
        both false q = refl

  -- One whose output is closed does not.
  pub writes-closed : (g : ℕ) → x.state ≡ state.Connected g → x.ends.no_output ≡ true
      → writes f x (socket_at w (peer_of x.state)) ≡ false
  writes-closed g s closed =
      let t = socket_at w (peer_of x.state) in
      (λ i. if connects g s i then not (reaches f x t) || has_room t else reaches f x t
      && has_room t)
      ∙ (λ i. reaches-none EPIPE (peer-closed g s closed) i && has_room t)
