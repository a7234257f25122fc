use Rattle.std.proofs.Common.{◌∙◌, ◌∷◌, ◌≡◌, ◌+◌, ℕ, [], ap, arith, refl, subst, sym}
use Rattle.std.specs.FinMap as map
use Rattle.std.specs.Prelude.{unwrap_or}
use Rattle.af_base.specs.declared.events.SockType.{SockType}
use Rattle.af_base.specs.Changes.{change_at, install, installed}
use Rattle.af_base.specs.Refusals.{no_process, process_at}
use Rattle.af_base.specs.Steps.{with_pair}
use Rattle.af_base.specs.Table.{lowest_free}
use Rattle.af_base.specs.World.{World}
use Rattle.af_base.proofs.Free.{AreFree, first-low, free-lowest_free, rest-free}
use Rattle.af_base.proofs.Lookups.{insert-here}
use Rattle.af_table.specs.Lending.{with_process}
use Rattle.af_collect.specs.HoldingsView.{HoldingsView}
use Rattle.af_collect.specs.StoreView.{StoreView}
use Rattle.af_collect.proofs.ProcessTables.{insert_twice}
use Rattle.af_collect.specs.contracts.holdings.Holdings.{the_view}
use Rattle.af_collect.proofs.LentProcesses.{back-changed, error-lent, stands-lent}
use Rattle.af_collect.proofs.NewFiles.{stands-pair}
use Rattle.af_collect.proofs.StoreInvariant.{BothInvariants, seen-world, shown, stood}
use Rattle.af_collect.proofs.store.Store.pair_at.Goals.{After-install-2, In_err-first, In_ok-first}
use Rattle.af_collect.proofs.store.Store.pair_at.Goals as goal

-- The world with two sockets more, connected to each other, at these descriptors of p.
abbrev paired_at : SockType → ℕ → ℕ → ℕ → World → World
paired_at kind p lower higher w = install (install (with_pair w kind) p lower w.next_ino) p higher (w.next_ino + 1)

-- Without memory for the two.
neither : (c : In_err-first) → BothInvariants c.self.inside (with_process c.holdings.inside.procs c.args.pid c.in_ok-process.process.now) c.make_two.new.self c.holdings.inside.ledger
neither c =
    let p = c.self.inside in
    let h = c.holdings.inside in
    stands-lent p h c.args.pid c.in_ok-process.process.now c.in_ok-process.ensures.there _ c.in_err-first.ensures.err (stood p h c.holdings.view_is c.holdings.invariant c.self.invariant)

pub invariant_of-holdings-in-Break-branch-2 : goal.invariant_of-holdings-in-Break-branch-2
invariant_of-holdings-in-Break-branch-2 c = (neither (goal.at.invariant_of-holdings-in-Break-branch-2 c).In_err-first).0

pub invariant_of-self-in_err-first : goal.invariant_of-self-in_err-first
invariant_of-self-in_err-first c = (neither (goal.at.invariant_of-self-in_err-first c).In_err-first).1

pub returns-in_err-first-clause-err : goal.returns-in_err-first-clause-err
returns-in_err-first-clause-err c = error-lent c.self.inside c.holdings.inside c.args.pid c.in_ok-process.process.now c.in_ok-process.ensures.there _ c.in_err-first.ensures.err c.from_residual-in_err-first.result _ c.holdings.view_is c.self.view_is

-- The two descriptors are free.
below : (c : In_ok-first) → AreFree c.in_ok-process.process.now.process (c.args.lower ∷ c.args.higher ∷ [])
below c =
    let w = (the_view c.holdings.inside).world in
    let back = seen-world c.self.inside c.holdings.inside _ c.holdings.view_is c.self.view_is in
    let lowest = subst (λ (v : World). c.args.lower ∷ c.args.higher ∷ [] ≡ lowest_free 2 (process_at v c.args.pid)) back c.requires.lowest in
    subst (λ q. AreFree q (c.args.lower ∷ c.args.higher ∷ [])) (ap (λ o. unwrap_or o no_process) c.in_ok-process.ensures.there) (subst (AreFree (process_at w c.args.pid)) (sym lowest) (free-lowest_free 2 (process_at w c.args.pid)))

pub install-requires : goal.install-requires
install-requires c =
    let low = first-low c.in_ok-process.process.now.process c.args.lower (c.args.higher ∷ []) (below (goal.at.install-requires c).In_ok-first) in
    omega (arith, low, c.in_ok-process.ensures.room)

pub install-requires-2 : goal.install-requires-2
install-requires-2 c =
    let q = c.in_ok-process.process.now.process in
    let free = below (goal.at.install-requires-2 c).In_ok-first in
    let low = first-low (record q { table = map.insert q.table c.args.lower 0 }) c.args.higher [] (rest-free q c.args.lower (c.args.higher ∷ []) 0 free) in
    let row = ap (λ v. v.row) c.install.ensures in
    omega (arith, low, c.in_ok-process.ensures.room, row)

-- The lent process is written back with both.
written : (c : After-install-2) → (with_process c.holdings.inside.procs c.args.pid c.install-2.new.self).processes ≡ (paired_at c.args.kind c.args.pid c.args.lower c.args.higher (the_view c.holdings.inside).world).processes
written c =
    let h = c.holdings.inside in
    let pid = c.args.pid in
    let lower = c.args.lower in
    let higher = c.args.higher in
    let m = h.procs.processes in
    let q = c.in_ok-process.process.now.process in
    let less = installed lower h.files.next q in
    let one = ap (λ v. v.process) c.install.ensures ∙ ap (λ f. installed lower f q) c.in_ok-first.ensures.first in
    let two = ap (λ v. v.process) c.install-2.ensures ∙ (λ i. installed higher (c.in_ok-first.ensures.second i) (one i)) in
    ap (map.insert m pid) two ∙ sym (insert_twice m pid less (installed higher (h.files.next + 1) less))
    ∙ back-changed (installed higher (h.files.next + 1)) (map.insert m pid less) pid less _ (insert-here m pid less) refl
    ∙ ap (λ t. change_at (installed higher (h.files.next + 1)) t pid) (back-changed (installed lower h.files.next) m pid q _ c.in_ok-process.ensures.there refl)

-- The new sockets are at its descriptors.
both : (c : After-install-2) → BothInvariants c.self.inside (with_process c.holdings.inside.procs c.args.pid c.install-2.new.self) c.make_two.new.self c.holdings.inside.ledger
both c =
    let p = c.self.inside in
    let h = c.holdings.inside in
    stands-pair p h (stood p h c.holdings.view_is c.holdings.invariant c.self.invariant) _ c.holdings.view_is c.self.view_is c.args.kind c.args.pid c.args.lower c.args.higher (c.requires.full, c.requires.there, c.requires.lowest)
    (with_process h.procs c.args.pid c.install-2.new.self) (written c) refl _ c.in_ok-first.ensures.ok

pub returns-clause-ok : goal.returns-clause-ok
returns-clause-ok c =
    let p = c.self.inside in
    let h = c.holdings.inside in
    let rows = (with_process h.procs c.args.pid c.install-2.new.self).rows in
    let marks = c.make_two.new.self.marks in
    let made = c.in_ok-first.ensures.ok in
    let processes = written (goal.at.returns-clause-ok c).After-install-2 in
    let to : World → World = paired_at c.args.kind c.args.pid c.args.lower c.args.higher in
    (λ i. shown p (record (the_view h) {
      world = record (the_view h).world { processes = processes i; files = (made i).files; next_ino = (made i).next };
      rows = rows;
      message_room = (made i).message_room;
      marks = marks;
      since = (made i).since;
    }))
    ∙ ap {A = HoldingsView} {B = StoreView} (λ t. shown p (record t { world = to t.world; rows = rows; marks = marks })) c.holdings.view_is
    ∙ ap {A = StoreView} {B = StoreView} (λ t. record t { world = to t.world; rows = rows; marks = marks }) c.self.view_is

pub invariant_of-holdings-2 : goal.invariant_of-holdings-2
invariant_of-holdings-2 c = (both (goal.at.invariant_of-holdings-2 c).After-install-2).0

pub invariant_of-self-2 : goal.invariant_of-self-2
invariant_of-self-2 c = (both (goal.at.invariant_of-self-2 c).After-install-2).1
