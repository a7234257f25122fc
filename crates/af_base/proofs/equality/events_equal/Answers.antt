use Rattle.std.proofs.Common.{◌≡◌, true, sym, ◌∙◌, subst}
use Rattle.af_base.specs.contracts.events.EventPartialEq.TheImpl as event_eq
use Rattle.af_base.proofs.DerivedEquality.{event_same, event_itself}
use Rattle.af_base.proofs.equality.events_equal.Goals as goal

pub returns : goal.returns
returns c =
    let a = c.args.event.now in (
      λ t. event_same a c.args.other.now (sym c.eq.ensures ∙ t),
      λ e. c.eq.ensures ∙ subst (λ b. event_eq.ghosts.eq a b ≡ true) e (event_itself a),
    )
