use Rattle.std.proofs.Common.{◌≡◌, Some, subst}
use Rattle.std.specs.Prelude.{slice_get}
use Rattle.af_ledger.specs.Tally.{LedgerView}
use Rattle.af_ledger.proofs.Users.{entry_of_user}
use Rattle.af_ledger.proofs.ledger.Ledger.find.Goals as goal

pub returns-2-clause-place : goal.returns-2-clause-place
returns-2-clause-place c =
    let P : LedgerView → Type 0 = λ k. slice_get k.users c.in_ok-index.index ≡ Some (c.args.uid, c.in_ok-index.charge.now) in
    let found = c.in_ok-index.ensures in
    subst P c.self.view_is (entry_of_user c.self.inside.users.entries c.args.uid c.in_ok-index.index _ found.key found.entry)
