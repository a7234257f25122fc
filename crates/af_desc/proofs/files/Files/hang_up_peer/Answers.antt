use Rattle.std.proofs.Common.{◌≡◌, ℕ, refl, sym, ap}
use Rattle.std.specs.Prelude.{Option, Some, None, option_map}
use Rattle.af_base.specs.World.{File, Map, Socket}
use Rattle.af_base.specs.declared.events.State.{State}
use Rattle.af_base.specs.declared.events.State.TheVariants.{Idle, Listening, Connected, HungUp, Sends}
use Rattle.af_desc.specs.FilesView.{after_end, after_hangup, hung_up}
use Rattle.af_desc.proofs.FilesInvariant.{socket_changed}
use Rattle.af_desc.proofs.files.Files.hang_up_peer.Goals as goal

-- Where no live peer is left, no file changes.
no_peer : (o : Option Socket) (files : Map File) → ((peer : ℕ) → option_map (λ (s : Socket). s.state) o ≡ Some (Connected peer) → ⊥) → after_end o files ≡ files
no_peer None files none = refl
no_peer (Some s) files none = by s.state (λ peer e. none peer (ap Some e)) where
  by : (state : State) → ((peer : ℕ) → state ≡ Connected peer → ⊥) → after_hangup state files ≡ files
  by Idle none = refl
  by (Listening most) none = refl
  by (Connected peer) none = absurd (none peer refl)
  by HungUp none = refl
  by (Sends to) none = refl

pub returns-in_default : goal.returns-in_default
returns-in_default c = ap (λ (fs : Map File). record c.args.self.now { files = fs }) (sym (no_peer c.args.gone.now c.args.self.now.files c.in_default.ensures.none))

pub invariant_of-self : goal.invariant_of-self
invariant_of-self c = socket_changed c.self.inside.rows c.hang_up.new.self _ _ _ _ _ _ _ c.self.invariant c.in-Some.peer hung_up (λ s. refl) c.hang_up.ensures
