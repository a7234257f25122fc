use Rattle.std.proofs.Common.{rules, arith, ◌<◌, sym, subst}
use Rattle.std.specs.Prelude.{vec_len}
use Rattle.af_table.specs.Rooms.{IsOpenFrom}
use Rattle.af_table.proofs.Tables.{room_below}
use Rattle.af_table.proofs.process.Process.has_room_at.Goals as goal

pub returns-clause-open : goal.returns-clause-open
returns-clause-open c = λ held.
    let slots = c.self.inside.slots in
    let inside = subst (λ q. IsOpenFrom q.process.table c.args.fd) (sym c.self.view_is) held in
    let low : c.args.fd < vec_len slots = room_below c.self.inside.taken.words slots.items _ c.args.fd (search rules) c.self.invariant.2 inside in
    search rules
