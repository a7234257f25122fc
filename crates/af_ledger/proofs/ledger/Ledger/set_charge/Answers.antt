use Rattle.std.proofs.Common.{◌≡◌, ◌∙◌, ℕ, List, Some, ap, sym, subst}
use Rattle.std.specs.Prelude.{nat_eq, slice_get}
use Rattle.std.specs.Map.{set_value}
use Rattle.af_ledger.specs.Tally.{LedgerView}
use Rattle.af_ledger.proofs.Users.{set_at_index}
use Rattle.af_ledger.proofs.ledger.Ledger.set_charge.Goals as goal

pub returns : goal.returns
returns c = λ uid was at.
    let there = subst (λ k. slice_get k.users c.args.index ≡ Some (uid, was)) (sym c.self.view_is) at in
    let set = set_at_index c.self.inside.users uid was c.args.index c.args.charge c.get_index_mut.ensures.unique there in
    let of : List (ℕ × ℕ) → LedgerView = λ us. record { users = us; total = c.self.inside.total } in
    let after : LedgerView → LedgerView = λ k. record k { users = set_value (nat_eq uid) k.users c.args.charge } in
    ap of set ∙ ap after c.self.view_is
