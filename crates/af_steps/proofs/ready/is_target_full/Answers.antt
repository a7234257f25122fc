use Rattle.std.proofs.Common.{◌≡◌, ℕ, false, refl, subst, sym}
use Rattle.std.specs.Prelude.{IfErr, IfSome, None, Option, Some, ◌&&◌, not}
use Rattle.af_base.specs.Ready.{has_room, reaches}
use Rattle.af_base.specs.Refusals.{first_fit, peer_of, socket_at}
use Rattle.af_base.specs.World.{Socket, World}
use Rattle.af_steps.specs.MessageRoom.{goal_row}
use Rattle.af_steps.proofs.Targets.{reaches-none}
use Rattle.af_steps.proofs.ready.is_target_full.Goals as goal

pub returns-in_default : goal.returns-in_default
returns-in_default c = by (socket_at w f) refl refused where
  w : World
  w = c.args.store.now.world

  f : ℕ
  f = c.args.file.now

  refused : IfSome (socket_at w f) (λ s. first_fit (goal_row w f s) ≡ Some c.in_default.field-0)
  refused = subst (λ r. IfErr r (λ e. IfSome (socket_at w f) (λ s. first_fit (goal_row w f s)
      ≡ Some e))) c.in_default.is c.target_of.ensures.err

  by : (o : Option Socket) → socket_at w f ≡ o
      → IfSome o (λ s. first_fit (goal_row w f s) ≡ Some c.in_default.field-0)
      → IfSome o (λ s. false ≡ reaches f s (socket_at w (peer_of s.state))
      && not (has_room (socket_at w (peer_of s.state))))
  by None e k = tt
  by (Some x) e k = λ i. sym (reaches-none (record {
    whole = c.requires.whole;
    found =
        e;
  }) c.in_default.field-0 k) i && not (has_room (socket_at w (peer_of x.state)))
