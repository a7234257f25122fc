use Rattle.std.proofs.Common.{◌∙◌, ◌+◌, ap}
use Rattle.af_base.specs.Changes.{change_at, installed}
use Rattle.af_collect.proofs.NewFiles.{stands-pair}
use Rattle.af_collect.proofs.StoreInvariant.{BothInvariants, stood}
use Rattle.af_collect.proofs.store.Store.make_two.Goals as goal

both : (c : goal.After-install-2) → BothInvariants c.self.inside c.install-2.new.self c.make_two.new.self c.holdings.inside.ledger
both c =
    let p = c.self.inside in
    let h = c.holdings.inside in
    let pid = c.args.pid in
    let lower = c.args.lower in
    let higher = c.args.higher in
    let made = c.in_ok-first.ensures in
    let processes = c.install-2.ensures.processes ∙ (λ i. change_at (installed higher (made.second i)) (c.install.ensures.processes i) pid) ∙ ap (λ f. change_at (installed higher (h.files.next + 1)) (change_at (installed lower f) h.procs.processes pid) pid) made.first in
    stands-pair p h (stood p h c.holdings.view_is c.holdings.invariant c.self.invariant) _ c.holdings.view_is c.self.view_is c.args.kind pid lower higher (c.requires.full, c.requires.there, c.requires.lowest)
    c.install-2.new.self processes (c.install-2.ensures.next ∙ c.install.ensures.next) _ made.ok

pub invariant_of-holdings-2 : goal.invariant_of-holdings-2
invariant_of-holdings-2 c = (both c).0

pub invariant_of-self-2 : goal.invariant_of-self-2
invariant_of-self-2 c = (both c).1
