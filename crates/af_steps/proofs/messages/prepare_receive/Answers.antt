use Rattle.std.proofs.Common.{rules, ◌≡◌, ◌<◌, ◌-◌, ℕ, List, length, true, subst}
use Rattle.std.specs.Result.{IsOk}
use Rattle.std.proofs.lemmas.Bool.{false≢true}
use Rattle.af_base.specs.Refusals.{process_at}
use Rattle.af_steps.specs.Found.{HasMessage}
use Rattle.af_table.specs.Rooms.{IsOpenFrom}
use Rattle.af_steps.proofs.WaitingMessages.{can-receive}
use Rattle.af_steps.proofs.messages.prepare_receive.Goals as goal

pub returns-clause-can : goal.returns-clause-can
returns-clause-can c =
    let message : HasMessage c.args.store.now.world c.args.pid c.args.on c.args.max_bytes c.args.max_fds c.in-Some.source.file c.find_message.new.fds.items = search rules in
    let room = c.in_ok-make_room.ensures in
    can-receive c.args.store.now c.make_room.new.store message c.lemma_is_spared.ensures room.world room.pass (λ some. room.row some)

pub returns-in_err-make_room-clause-succeeds : goal.returns-in_err-make_room-clause-succeeds
returns-in_err-make_room-clause-succeeds c = λ sure.
    let w = c.args.store.now.world in
    let p = c.args.pid in
    let message : HasMessage w p c.args.on c.args.max_bytes c.args.max_fds c.in-Some.source.file c.find_message.new.fds.items = search rules in
    let open_row : IsOpenFrom (process_at w p).table ((process_at w p).limit - 1) → c.in-Some.source.has_room ≡ true = search rules in
    absurd (false≢true (subst IsOk c.in_err-make_room.was (c.make_room.ensures.succeeds (λ some. open_row (sure.room.2 (subst (λ (ns : List ℕ). 0 < length ns) message.numbers some))))))
