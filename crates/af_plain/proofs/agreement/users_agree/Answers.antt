use Rattle.af_plain.specs.Agreement.{IsUserRecount}
use Rattle.af_plain.proofs.TestWalks.{none_fails, one_fails, one_more}
use Rattle.af_plain.proofs.agreement.users_agree.Goals as goal

pub returns-then-not-user_agrees : goal.returns-then-not-user_agrees
returns-then-not-user_agrees c = one_fails (IsUserRecount c.args.listing.now) c.args.kept.now c.loop-user.user-index c.user-item.result c.user_agrees.result c.loop-user-test.true c.user-item.is c.if-not-user_agrees.true c.user_agrees.ensures

pub loop-user-preserved : goal.loop-user-preserved
loop-user-preserved c = one_more (IsUserRecount c.args.listing.now) c.args.kept.now c.loop-user.user-index c.user-item.result c.user_agrees.result c.loop-user-test.true c.user-item.is c.if-not-user_agrees.false c.user_agrees.ensures c.loop-user.invariant

pub returns : goal.returns
returns c = none_fails (IsUserRecount c.args.listing.now) c.args.kept.now c.loop-user.user-index c.loop-user-test.false c.loop-user.invariant
