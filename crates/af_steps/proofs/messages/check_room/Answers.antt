use Rattle.std.proofs.Common.{◌≡◌, sym, ◌∙◌}
use Rattle.std.specs.Prelude.{Some}
use Rattle.af_base.specs.Counts.{charged, total}
use Rattle.af_base.specs.Refusals.{RefusalRow, first_fit, on_charge}
use Rattle.af_base.proofs.SoundSteps.{goes-on, passes-on}
use Rattle.af_steps.specs.MessageRoom.{room_row, target_row}
use Rattle.af_steps.proofs.Outcomes.{told}
use Rattle.af_steps.proofs.messages.check_room.Goals.{After-may_send}
use Rattle.af_steps.proofs.messages.check_room.Goals as goal

-- The part of the charge.
abbrev paid : After-may_send → RefusalRow
paid c = let q = c.args.process.now.process in let w = c.args.store.now.world in on_charge (charged w q.user) (total w) q.limit q.privileged c.args.count

-- The parts of the peer.
abbrev taking : After-may_send → RefusalRow
taking c = target_row c.args.store.now.world c.args.peer.now

-- The charge was tested by what the process and the holdings have.
charge : (c : After-may_send) → first_fit (paid c) ≡ first_fit (on_charge (charged c.holdings.result.now.world c.who-user.result.0) (total c.holdings.result.now.world) c.who-user.result.1 c.who-user.result.2 c.args.count)
charge c =
    λ i. first_fit (on_charge (charged (sym c.holdings.ensures.world i) (sym c.who-user.ensures.user i)) (total (sym c.holdings.ensures.world i)) (sym c.who-user.ensures.limit i) (sym c.who-user.ensures.privileged i) c.args.count)

pub returns-in_err-may_send-clause-err : goal.returns-in_err-may_send-clause-err
returns-in_err-may_send-clause-err c =
    let at = (goal.at.returns-in_err-may_send-clause-err c).After-may_send in
    let w = c.args.store.now.world in
    let e = c.in_err-may_send.field-0.0 in
    told (λ e. first_fit (room_row w c.args.process.now.process c.args.peer.now c.args.count) ≡ Some e) c.from_residual.result e c.from_residual.ensures.1 (goes-on (paid at) (taking at) e (charge at ∙ c.in_err-may_send.ensures.err))

pub returns-in_err-check_target-clause-err : goal.returns-in_err-check_target-clause-err
returns-in_err-check_target-clause-err c =
    let at = (goal.at.returns-in_err-check_target-clause-err c).After-may_send in
    let w = c.args.store.now.world in
    let e = c.in_err-check_target.field-0.0 in
    told (λ e. first_fit (room_row w c.args.process.now.process c.args.peer.now c.args.count) ≡ Some e) c.from_residual-in_err-check_target.result e c.from_residual-in_err-check_target.ensures.1
    (passes-on (paid at) (taking at) (charge at ∙ c.in_ok-may_send.ensures.ok) ∙ c.in_err-check_target.ensures.err)

pub returns-clause-ok : goal.returns-clause-ok
returns-clause-ok c =
    let at = (goal.at.returns-clause-ok c).After-may_send in
    passes-on (paid at) (taking at) (charge at ∙ c.in_ok-may_send.ensures.ok) ∙ c.in_ok-check_target.ensures.ok
