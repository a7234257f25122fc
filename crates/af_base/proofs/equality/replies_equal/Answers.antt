use Rattle.std.proofs.Common.{◌≡◌, true, sym, ◌∙◌, subst}
use Rattle.af_base.specs.contracts.events.ReplyPartialEq.TheImpl as reply_eq
use Rattle.af_base.proofs.DerivedEquality.{reply_same, reply_itself}
use Rattle.af_base.proofs.equality.replies_equal.Goals as goal

pub returns : goal.returns
returns c =
    let a = c.args.reply.now in (
      λ t. reply_same a c.args.other.now (sym c.eq.ensures ∙ t),
      λ e. c.eq.ensures ∙ subst (λ b. reply_eq.ghosts.eq a b ≡ true) e (reply_itself a),
    )
