use Rattle.std.proofs.Common.{rules, ◌≡◌, ◌≤◌, ◌-◌, ℕ, List, length, subst, sym, ap, ◌∙◌}
use Rattle.std.specs.Prelude.{nat_le}
use Rattle.std.specs.Result.{IsOk}
use Rattle.std.proofs.lemmas.Bool.{false≢true}
use Rattle.af_base.specs.Refusals.{on_receive, process_at, socket_on}
use Rattle.af_base.specs.Steps.{got_at}
use Rattle.af_base.specs.Table.{lowest_free}
use Rattle.af_base.specs.World.{Process}
use Rattle.af_steps.proofs.EmptyReceives.{has-end}
use Rattle.af_steps.proofs.LookupRows.{after-socket, is_process, no-socket}
use Rattle.af_steps.proofs.Outcomes.{can-fail}
use Rattle.af_steps.proofs.messages.find_message.Goals as goal
use Rattle.af_table.specs.Rooms.{IsOpenFrom}

pub returns-then-len-eq0-clause-ended : goal.returns-then-len-eq0-clause-ended
returns-then-len-eq0-clause-ended c =
    has-end c.in_ok-process.ensures.found c.args.max_bytes c.args.max_fds (search rules) (sym (c.len.ensures.value ∙ ap length c.queue.ensures) ∙ c.if-len-eq0.true)

pub returns-clause-room : goal.returns-clause-room
returns-clause-room c =
    c.has_room.ensures.value
    ∙ ap (λ (x : Process). nat_le x.limit c.in_ok-process.process.now.row) (sym (is_process c.in_ok-process.ensures.found.number.process))
    ∙ sym (ap (nat_le (process_at c.args.store.now.world c.args.pid).limit) c.in_ok-process.ensures.row)

pub returns-clause-open : goal.returns-clause-open
returns-clause-open c = λ held.
    c.has_room.ensures.open (subst (λ (q : Process). IsOpenFrom q.table (q.limit - 1)) (is_process c.in_ok-process.ensures.found.number.process) held)

pub returns-in_err-process-clause-succeeds : goal.returns-in_err-process-clause-succeeds
returns-in_err-process-clause-succeeds c =
    let w = c.args.store.now.world in
    let p = c.args.pid in
    can-fail c.from_residual.result _ (no-socket w p c.args.on (on_receive (socket_on w p c.args.on) c.args.max_bytes) _ c.in_err-process.ensures.refused)

pub returns-in_err-check_receive-clause-succeeds : goal.returns-in_err-check_receive-clause-succeeds
returns-in_err-check_receive-clause-succeeds c =
    can-fail c.from_residual-in_err-check_receive.result _ (after-socket c.in_ok-process.ensures.found (λ r look s. on_receive s c.args.max_bytes) ∙ c.in_err-check_receive.ensures.err)

pub returns-in_err-lowest_free-clause-succeeds : goal.returns-in_err-lowest_free-clause-succeeds
returns-in_err-lowest_free-clause-succeeds c = λ sure.
    let numbers : got_at c.args.store.now.world c.args.pid c.args.on c.args.max_bytes c.args.max_fds ≡ lowest_free c.min.result c.in_ok-process.process.now.process = search rules in
    absurd (false≢true (subst IsOk c.in_err-lowest_free.was (c.lowest_free.ensures.succeeds (subst (λ (ns : List ℕ). length ns ≤ 4) numbers sure.room.1))))
