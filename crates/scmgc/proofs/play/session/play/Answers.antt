use Rattle.std.proofs.Common.{◌≡◌, false, rules, true}
use Rattle.scmgc.proofs.PlayedLines.{leads_first, leads_more, over_left, played_all}
use Rattle.scmgc.proofs.play.session.play.Goals as goal

pub returns-in_err-engine-clause-done : goal.returns-in_err-engine-clause-done
returns-in_err-engine-clause-done g c = search rules

pub returns-in_err-engine-clause-ended : goal.returns-in_err-engine-clause-ended
returns-in_err-engine-clause-ended g c = search rules

pub returns-in_err-play_line-clause-done : goal.returns-in_err-play_line-clause-done
returns-in_err-play_line-clause-done g c = search rules

pub returns-in_err-play_line-clause-ended : goal.returns-in_err-play_line-clause-ended
returns-in_err-play_line-clause-ended g c = search rules

pub loop-number-init : goal.loop-number-init
loop-number-init g c = λ input told. rw c.in_ok-engine.ensures (leads_first c.args.style input _ _ told)

pub loop-number-preserved : goal.loop-number-preserved
loop-number-preserved g c = λ input told.
    let more : c.in_ok-play_line.field-0 ≡ true = search rules in
    leads_more c.args.style input _ _ _ _ _ c.loop-number.number _ _ (c.loop-number.invariant input told) (c.in_ok-play_line.ensures.more more)

pub returns-then-not-branch-clause-done : goal.returns-then-not-branch-clause-done
returns-then-not-branch-clause-done g c = λ input told.
    let over : c.in_ok-play_line.field-0 ≡ false = search rules in
    played_all c.args.style input _ _ _ _ _ c.loop-number.number _ (c.loop-number.invariant input told) (c.in_ok-play_line.ensures.over over)

pub returns-then-not-branch-clause-ended : goal.returns-then-not-branch-clause-ended
returns-then-not-branch-clause-ended g c = λ input told.
    let over : c.in_ok-play_line.field-0 ≡ false = search rules in
    over_left c.args.style input _ _ _ _ _ c.loop-number.number _ (c.loop-number.invariant input told) (c.in_ok-play_line.ensures.over over)
