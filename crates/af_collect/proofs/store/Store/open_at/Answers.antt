use Rattle.std.proofs.Common.{ap, refl}
use Rattle.af_base.specs.Changes.{installed}
use Rattle.af_base.specs.World.{Plain}
use Rattle.af_collect.proofs.Exact.{exact-plain}
use Rattle.af_table.specs.Lending.{with_process}
use Rattle.af_collect.proofs.LentProcesses.{back-changed, error-lent, stands-lent}
use Rattle.af_collect.proofs.NewFiles.{stands-made}
use Rattle.af_collect.proofs.StoreInvariant.{BothInvariants, stood}
use Rattle.af_collect.proofs.store.Store.open_at.Goals.{After-install, In_err-file}
use Rattle.af_collect.proofs.store.Store.open_at.Goals as goal

-- Without memory for the file.
neither : (c : In_err-file) → BothInvariants c.self.inside (with_process c.holdings.inside.procs c.args.pid c.in_ok-process.process.now) c.make_plain.new.self c.holdings.inside.ledger
neither c =
    let p = c.self.inside in
    let h = c.holdings.inside in
    stands-lent p h c.args.pid c.in_ok-process.process.now c.in_ok-process.ensures.there _ c.in_err-file.ensures.err (stood p h c.holdings.view_is c.holdings.invariant c.self.invariant)

pub invariant_of-holdings-in-Break-branch-2 : goal.invariant_of-holdings-in-Break-branch-2
invariant_of-holdings-in-Break-branch-2 c = (neither (goal.at.invariant_of-holdings-in-Break-branch-2 c).In_err-file).0

pub invariant_of-self-in_err-file : goal.invariant_of-self-in_err-file
invariant_of-self-in_err-file c = (neither (goal.at.invariant_of-self-in_err-file c).In_err-file).1

pub returns-in_err-file-clause-err : goal.returns-in_err-file-clause-err
returns-in_err-file-clause-err c = error-lent c.self.inside c.holdings.inside c.args.pid c.in_ok-process.process.now c.in_ok-process.ensures.there _ c.in_err-file.ensures.err c.from_residual-in_err-file.result _ c.holdings.view_is c.self.view_is

-- The new file is at the descriptor of the lent process.
both : (c : After-install) → BothInvariants c.self.inside (with_process c.holdings.inside.procs c.args.pid c.install.new.self) c.make_plain.new.self c.holdings.inside.ledger
both c =
    let p = c.self.inside in
    let h = c.holdings.inside in
    let written = back-changed (installed c.args.fd c.in_ok-file.file) h.procs.processes c.args.pid _ _ c.in_ok-process.ensures.there (ap (λ v. v.process) c.install.ensures) in
    stands-made p h (stood p h c.holdings.view_is c.holdings.invariant c.self.invariant) _ c.holdings.view_is c.self.view_is c.args.pid c.args.fd (c.requires.full, c.requires.there, c.requires.limit, c.requires.free)
    Plain refl (exact-plain _ _) (with_process h.procs c.args.pid c.install.new.self) _ written refl c.in_ok-file.ensures.ino _ c.in_ok-file.ensures.ok

pub invariant_of-holdings-2 : goal.invariant_of-holdings-2
invariant_of-holdings-2 c = (both (goal.at.invariant_of-holdings-2 c).After-install).0

pub invariant_of-self-2 : goal.invariant_of-self-2
invariant_of-self-2 c = (both (goal.at.invariant_of-self-2 c).After-install).1
