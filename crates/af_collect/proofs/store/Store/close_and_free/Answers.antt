use Rattle.std.proofs.Common.{◌∙◌, ◌≡◌, Bool, true, false, refl, sym, subst}
use Rattle.af_base.specs.Changes.{uninstall}
use Rattle.af_base.specs.Unheld.{Settles}
use Rattle.af_base.specs.World.{World}
use Rattle.af_desc.specs.FilesView.{FilesView}
use Rattle.af_collect.specs.HoldingsView.{world_of}
use Rattle.af_collect.specs.contracts.holdings.Holdings.{the_view}
use Rattle.af_collect.proofs.Descriptors.{counted-closed, seen-unopened, settles-freed, stands-closed, stands-freed, stands-unopened, world-closed, world-freed}
use Rattle.af_collect.proofs.StoreInvariant.{BothInvariants, seen-world, stood}
use Rattle.af_collect.proofs.store.Store.close_and_free.Goals as goal

-- Where the descriptor was not open, the invariants are as they were.
neither : (c : goal.In_default) → BothInvariants c.self.inside c.take_out.new.self c.holdings.inside.files c.holdings.inside.ledger
neither c = stands-unopened c.self.inside c.holdings.inside c.args.pid c.args.fd (sym c.take_out.ensures.value ∙ c.in_default.is) c.take_out.new.self c.take_out.ensures.processes c.take_out.ensures.next (stood c.self.inside c.holdings.inside c.holdings.view_is c.holdings.invariant c.self.invariant)

pub invariant_of-holdings : goal.invariant_of-holdings
invariant_of-holdings c = (neither c).0

pub invariant_of-self : goal.invariant_of-self
invariant_of-self c = (neither c).1

pub returns-in_default-clause-unchanged : goal.returns-in_default-clause-unchanged
returns-in_default-clause-unchanged c = λ _. seen-unopened c.self.inside c.holdings.inside c.args.pid c.args.fd (sym c.take_out.ensures.value ∙ c.in_default.is) c.take_out.new.self c.take_out.ensures.processes c.take_out.ensures.next _ c.holdings.view_is c.self.view_is c.take_out.ensures.rows

pub drop_and_free-requires : goal.drop_and_free-requires
drop_and_free-requires c = counted-closed c.self.inside c.holdings.inside (stood c.self.inside c.holdings.inside c.holdings.view_is c.holdings.invariant c.self.invariant) c.args.pid c.args.fd c.in-Some.file (sym c.take_out.ensures.value ∙ c.in-Some.is)

-- The invariants hold with these files, and what is left to be freed is the same as before.
abbrev Serves : goal.After-drop_and_free → FilesView → Type 0
Serves c fs = BothInvariants c.self.inside c.take_out.new.self fs c.holdings.inside.ledger
    × ((end : World) → Settles (world_of c.take_out.new.self fs c.holdings.inside.ledger) end → Settles (uninstall (the_view c.holdings.inside).world c.args.pid c.args.fd) end)

-- So it is where the file is gone, and where it has a reference less.
lost : (c : goal.After-drop_and_free) → Serves c c.drop_and_free.new.files
lost c = by c.drop_and_free.result refl where
  by : (b : Bool) → c.drop_and_free.result ≡ b → Serves c c.drop_and_free.new.files
  by true e =
      let p = c.self.inside in
      let h = c.holdings.inside in
      let was = stood p h c.holdings.view_is c.holdings.invariant c.self.invariant in
      let found = sym c.take_out.ensures.value ∙ c.in-Some.is in
      let done = c.drop_and_free.ensures in
      let t = c.take_out.ensures in
      let gone = world-freed p h was c.args.pid c.args.fd c.in-Some.file found c.take_out.new.self t.processes t.next (done.silent e) (done.bare e) (done.unmarked e) (done.last e) in
      subst (Serves c) (sym (done.removed e)) (
        stands-freed p h was c.args.pid c.args.fd c.in-Some.file found c.take_out.new.self t.processes t.next (done.silent e) (done.bare e) (done.unmarked e) (done.last e),
        λ end s. settles-freed p h was c.args.pid c.args.fd c.in-Some.file found c.take_out.new.self t.processes t.next (done.silent e) (done.bare e) (done.unmarked e) (done.last e) end (subst (λ w. Settles w end) gone s),
      )
  by false e =
      let p = c.self.inside in
      let h = c.holdings.inside in
      let was = stood p h c.holdings.view_is c.holdings.invariant c.self.invariant in
      let found = sym c.take_out.ensures.value ∙ c.in-Some.is in
      let t = c.take_out.ensures in
      let closed = world-closed p h was c.args.pid c.args.fd c.in-Some.file found c.take_out.new.self t.processes t.next in
      subst (Serves c) (sym (c.drop_and_free.ensures.kept e)) (
        stands-closed p h was c.args.pid c.args.fd c.in-Some.file found c.take_out.new.self t.processes t.next,
        λ end. subst (λ w. Settles w end) closed,
      )

pub invariant_of-holdings-2 : goal.invariant_of-holdings-2
invariant_of-holdings-2 c = (lost c).0.0

pub invariant_of-self-2 : goal.invariant_of-self-2
invariant_of-self-2 c = (lost c).0.1

pub returns-clause-settles : goal.returns-clause-settles
returns-clause-settles c = λ _ end s.
    let back = seen-world c.self.inside c.holdings.inside _ c.holdings.view_is c.self.view_is in
    subst (λ (w : World). Settles (uninstall w c.args.pid c.args.fd) end) (sym back) ((lost c).1 end s)
