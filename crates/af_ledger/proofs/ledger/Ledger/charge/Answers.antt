use Rattle.std.proofs.Common.{◌≤◌, ◌+◌, ◌^◌, arith, sym, subst}
use Rattle.af_ledger.specs.Tally.{LedgerView, charge_in}
use Rattle.af_ledger.proofs.Users.{found_below}
use Rattle.af_ledger.proofs.ledger.Ledger.charge.Goals as goal

pub overflow_add-charge : goal.overflow_add-charge
overflow_add-charge c =
    let P : LedgerView → Type 0 = λ k. charge_in k.users c.args.uid + c.args.units ≤ 2 ^ 63 in
    let below = found_below c.self.inside.users.entries c.args.uid c.in-Some.charge c.args.units (2 ^ 63) c.in-Some.ensures.charge (subst P (sym c.self.view_is) c.requires.charge) in
    omega arith
