use Rattle.std.proofs.Common.{refl}
use Rattle.af_base.specs.World.{Plain}
use Rattle.af_collect.proofs.Exact.{exact-plain}
use Rattle.af_collect.proofs.NewFiles.{stands-made}
use Rattle.af_collect.proofs.StoreInvariant.{BothInvariants, stood}
use Rattle.af_collect.proofs.store.Store.make_plain.Goals as goal

both : (c : goal.After-install) → BothInvariants c.self.inside c.install.new.self c.make_plain.new.self c.holdings.inside.ledger
both c =
    let p = c.self.inside in
    let h = c.holdings.inside in
    stands-made p h (stood p h c.holdings.view_is c.holdings.invariant c.self.invariant) _ c.holdings.view_is c.self.view_is c.args.pid c.args.fd (c.requires.full, c.requires.there, c.requires.limit, c.requires.free)
    Plain refl (exact-plain _ _) c.install.new.self _ c.install.ensures.processes c.install.ensures.next c.in_ok-file.ensures.ino _ c.in_ok-file.ensures.ok

pub invariant_of-holdings-2 : goal.invariant_of-holdings-2
invariant_of-holdings-2 c = (both c).0

pub invariant_of-self-2 : goal.invariant_of-self-2
invariant_of-self-2 c = (both c).1
