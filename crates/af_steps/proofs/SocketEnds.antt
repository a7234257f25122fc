-- A shutdown, by what was looked up.
use Rattle.std.proofs.Common.{◌≡◌, ℕ, [], refl, sym, ap, ◌∙◌, arith}
use Rattle.std.specs.Prelude.{Option, Some, None, is_some}
use Rattle.std.specs.Option.{option_map_or}
use Rattle.std.specs.FinMap as map
use Rattle.af_base.specs.declared.events.Shutdown.{Shutdown}
use Rattle.af_base.specs.declared.events.State.{State}
use Rattle.af_base.specs.declared.events.State.TheVariants as state
use Rattle.af_base.specs.declared.events.Step.TheVariants as step
use Rattle.af_base.specs.Changes.{file_with, shut, with_socket}
use Rattle.af_base.specs.Refusals.{connected_to, refusal}
use Rattle.af_base.specs.Steps.{closes_input, closes_output, effect, with_shut}
use Rattle.af_base.specs.Whole.{IsWhole}
use Rattle.af_base.specs.World.{File, Process, Socket, World}
use Rattle.af_base.proofs.PlaceMoves.{live-changed}
use Rattle.af_steps.specs.Found.{HasSocket}
use Rattle.af_steps.proofs.LookupRows.{after-socket, ino-is, socket-is}

-- No file has the number 0: a change there changes nothing.
nobody-changed : (w : World) (f : ℕ) (g h : Socket → Socket) → IsWhole w → with_socket (with_socket w f g) 0 h ≡ with_socket w f g
nobody-changed w f g h whole = by (map.get v.files 0) refl where
  v : World
  v = with_socket w f g

  by : (o : Option File) → map.get v.files 0 ≡ o → record v { files = option_map_or (λ x. map.insert v.files 0 (file_with h x)) o v.files } ≡ v
  by None e = refl
  by (Some x) e = absurd (omega (arith, whole.files_begin 0 (sym (live-changed w f g 0) ∙ ap is_some e)))

-- A socket that is not connected has no peer.
no-peer : (t : State) → ((q : ℕ) → ¬ (t ≡ state.Connected q)) → connected_to t ≡ 0
no-peer state.Idle none = refl
no-peer (state.Listening b) none = refl
no-peer (state.Connected q) none = absurd (none q refl)
no-peer state.HungUp none = refl
no-peer (state.Sends q) none = refl

module _ {w : World} {p n f : ℕ} {q : Process} {x : Socket} (has : HasSocket w p q n f x) (how : Shutdown) where
  -- Nothing refuses it.
  pub shut-fits : refusal w p (step.Shutdown n how) ≡ None
  shut-fits = after-socket has (λ r look s. [])

  -- It changes the socket that was found, and its peer.
  pub shut-leads : effect w p (step.Shutdown n how) ≡ with_shut w f (connected_to x.state) how
  shut-leads = λ i. with_shut w (ino-is has.number i) (connected_to (socket-is has i).state) how

  -- Where it is connected to this one, that one too.
  pub shut-both : (g : ℕ) → x.state ≡ state.Connected g → effect w p (step.Shutdown n how) ≡ with_shut w f g how
  shut-both g is = shut-leads ∙ ap (λ t. with_shut w f (connected_to t) how) is

  -- Where it is connected to none, itself alone.
  pub shut-alone : ((g : ℕ) → ¬ (x.state ≡ state.Connected g)) → IsWhole w → effect w p (step.Shutdown n how) ≡ with_socket w f (shut (closes_input how) (closes_output how))
  shut-alone none whole = shut-leads ∙ ap (λ g. with_shut w f g how) (no-peer x.state none) ∙ nobody-changed w f (shut (closes_input how) (closes_output how)) (shut (closes_output how) (closes_input how)) whole
