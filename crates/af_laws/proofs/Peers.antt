-- A connected socket's peer is there and takes from it.
use Rattle.std.proofs.Common.{◌≡◌, ℕ, true, false, ◌∷◌, refl, sym, ap, ◌∙◌, nat_eq, arith}
use Rattle.std.specs.Prelude.{Some, None, is_some, if◌then◌else◌}
use Rattle.std.specs.Option.{option_and_then}
use Rattle.std.specs.FinMap as map
use Rattle.std.proofs.lemmas.Bool.{false≢true}
use Rattle.af_base.specs.declared.errno.Errno.TheVariants.{ENOTCONN, EPERM}
use Rattle.af_base.specs.declared.events.State.{State}
use Rattle.af_base.specs.declared.events.State.TheVariants as state
use Rattle.af_base.specs.World.{AsSocket, Socket, World}
use Rattle.af_base.specs.Changes.{sends_elsewhere}
use Rattle.af_base.specs.Refusals.{first_fit, is_connected, is_hung_up, on_target, peer_of, socket_at, socket_of}
use Rattle.af_base.specs.Whole.{IsWhole, state_at}
use Rattle.af_base.proofs.Lookups.{told_apart}
use Rattle.af_base.proofs.PlaceMoves.{state-there}
use Rattle.af_base.proofs.SoundSteps.{connected-socket}

-- The tests of the peer of a connected socket that has not hung up do not fit in a whole world.
pub peer-takes : (w : World) (f : ℕ) (s : Socket) → IsWhole w → map.get w.files f
    ≡ Some (AsSocket s)
    → is_connected s.state ≡ true → is_hung_up s.state ≡ false
    → first_fit ((
      nat_eq (peer_of s.state) 0,
      ENOTCONN,
    ) ∷ on_target f (socket_at w (peer_of s.state))) ≡ None
peer-takes w f s whole is = by s.state refl where
  by : (t : State) → s.state ≡ t → is_connected t ≡ true → is_hung_up t ≡ false
      → first_fit ((nat_eq (peer_of t) 0, ENOTCONN) ∷ on_target f (socket_at w (peer_of t))) ≡ None
  by state.Idle e talks up = absurd (false≢true talks)
  by (state.Listening b) e talks up = absurd (false≢true talks)
  by state.HungUp e talks up = absurd (false≢true (sym up))
  by (state.Sends q) e talks up = absurd (false≢true talks)
  by (state.Connected q) e talks up =
      let back : state_at w q ≡ state.Connected f =
      whole.peers f q (state-there w f (AsSocket s) is ∙ e) in
      let peer = connected-socket w q f back in
      let some : nat_eq q 0 ≡ false =
      told_apart q 0 (λ none. let low = whole.files_begin q (ap is_some peer.1) in
      omega (arith, low, none)) in
      let there : socket_at w q ≡ Some peer.0 = ap (option_and_then socket_of) peer.1 in
      let tied : peer.0.state ≡ state.Connected f = sym (state-there w q (AsSocket peer.0) peer.1)
      ∙ back in
      ap (λ b. first_fit ((b, ENOTCONN) ∷ on_target f (socket_at w q))) some
      ∙ ap (λ o. first_fit (on_target f o)) there
      ∙ ap (λ t. if sends_elsewhere f t then Some EPERM else None) tied
