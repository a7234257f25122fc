use Rattle.std.proofs.Common.{◌∙◌, sym, subst}
use Rattle.af_collect.proofs.Descriptors.{counted-closed, seen-unopened, stands-closed, stands-unopened}
use Rattle.af_collect.proofs.StoreInvariant.{BothInvariants, stood}
use Rattle.af_collect.proofs.store.Store.close_at.Goals as goal

-- Where the descriptor was not open, the invariants are as they were.
neither : (c : goal.In_default) → BothInvariants c.self.inside c.take_out.new.self c.holdings.inside.files c.holdings.inside.ledger
neither c = stands-unopened c.self.inside c.holdings.inside c.args.pid c.args.fd (sym c.take_out.ensures.value ∙ c.in_default.is) c.take_out.new.self c.take_out.ensures.processes c.take_out.ensures.next (stood c.self.inside c.holdings.inside c.holdings.view_is c.holdings.invariant c.self.invariant)

pub invariant_of-holdings : goal.invariant_of-holdings
invariant_of-holdings c = (neither c).0

pub invariant_of-self : goal.invariant_of-self
invariant_of-self c = (neither c).1

pub returns-in_default-clause-unchanged : goal.returns-in_default-clause-unchanged
returns-in_default-clause-unchanged c = λ _. seen-unopened c.self.inside c.holdings.inside c.args.pid c.args.fd (sym c.take_out.ensures.value ∙ c.in_default.is) c.take_out.new.self c.take_out.ensures.processes c.take_out.ensures.next _ c.holdings.view_is c.self.view_is c.take_out.ensures.rows

pub drop_descriptor-requires : goal.drop_descriptor-requires
drop_descriptor-requires c = counted-closed c.self.inside c.holdings.inside (stood c.self.inside c.holdings.inside c.holdings.view_is c.holdings.invariant c.self.invariant) c.args.pid c.args.fd c.in-Some.file (sym c.take_out.ensures.value ∙ c.in-Some.is)

both : (c : goal.After-drop_descriptor) → BothInvariants c.self.inside c.take_out.new.self c.drop_descriptor.new.files c.holdings.inside.ledger
both c =
    let was = stood c.self.inside c.holdings.inside c.holdings.view_is c.holdings.invariant c.self.invariant in
    subst (λ fs. BothInvariants c.self.inside c.take_out.new.self fs c.holdings.inside.ledger) (sym c.drop_descriptor.ensures)
    (stands-closed c.self.inside c.holdings.inside was c.args.pid c.args.fd c.in-Some.file (sym c.take_out.ensures.value ∙ c.in-Some.is) c.take_out.new.self c.take_out.ensures.processes c.take_out.ensures.next)

pub invariant_of-holdings-2 : goal.invariant_of-holdings-2
invariant_of-holdings-2 c = (both c).0

pub invariant_of-self-2 : goal.invariant_of-self-2
invariant_of-self-2 c = (both c).1
