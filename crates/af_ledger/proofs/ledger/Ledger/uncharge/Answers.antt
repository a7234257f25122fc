use Rattle.std.proofs.Common.{◌≤◌, arith, sym, subst}
use Rattle.af_ledger.specs.Tally.{LedgerView, charge_in}
use Rattle.af_ledger.proofs.Users.{found_above}
use Rattle.af_ledger.proofs.ledger.Ledger.uncharge.Goals as goal

pub overflow_sub-charge : goal.overflow_sub-charge
overflow_sub-charge c =
    let P : LedgerView → Type 0 = λ k. c.args.units ≤ charge_in k.users c.args.uid in
    let above = found_above c.self.inside.users.entries c.args.uid c.in-Some.charge c.args.units c.in-Some.ensures.charge (subst P (sym c.self.view_is) c.requires.charge) in
    omega arith
