use Rattle.std.proofs.Common.{not, ◌∙◌, ◌≡◌, ℕ, None, ap, false, refl, subst, sym}
use Rattle.std.specs.FinMap as map
use Rattle.std.specs.Prelude.{IfNone, IfSome, IsTrue, Option, Some, unwrap_or}
use Rattle.std.specs.Option.{IsSome}
use Rattle.af_base.specs.Changes.{add_process}
use Rattle.af_base.specs.Refusals.{is_at_process_limit, no_process, process_at}
use Rattle.af_base.specs.World.{Map, Process, World}
use Rattle.af_base.proofs.Lookups.{insert-here, none_some}
use Rattle.af_base.proofs.SoundSteps.{process-there}
use Rattle.af_ledger.specs.Tally.{kept_of}
use Rattle.af_mark.specs.MarksView.{is_marked}
use Rattle.af_collect.proofs.Exact.{world-is}
use Rattle.af_collect.proofs.ProcessTables.{joins-copy}
use Rattle.af_collect.specs.Agreement.{IsExact}
use Rattle.af_collect.specs.Keeping.{below}
use Rattle.af_collect.proofs.TablePlaces.{covers_add_process, moves_fork}
use Rattle.af_collect.specs.contracts.holdings.Holdings.{the_view}
use Rattle.af_collect.proofs.StoreInvariant.{kept_tables, BothInvariants, both-same, seen-world, stood}
use Rattle.af_collect.proofs.store.Store.copy_for_fork.Goals as goal

-- A look-up finds a process that is there.
found-some : {X Y : Type 0} (at : Option Y) (y : Y) → at ≡ Some y → (o : Option X) → IfNone o (at ≡ None) → IsSome o
found-some at y is None none = absurd (none_some y (sym none ∙ is))
found-some at y is (Some x) none = refl

-- A child has what its parent has.
module _ (w : World) (ps : Map Process) (pid child : ℕ) (added : ps ≡ map.insert w.processes w.next_pid (process_at w pid)) (next : child ≡ w.next_pid) where
  child-there : map.get ps child ≡ Some (process_at w pid)
  child-there =
      let parent = process_at w pid in
      ap (λ m. map.get m child) added ∙ ap (map.get (map.insert w.processes w.next_pid parent)) next ∙ insert-here w.processes w.next_pid parent

  child-is : (q : Process) → map.get ps child ≡ Some q → q ≡ process_at w pid
  child-is q found = ap (λ o. unwrap_or o no_process) (sym found ∙ child-there)

pub unwrap-process-requires : goal.unwrap-process-requires
unwrap-process-requires c =
    let e = c.in_ok-child.ensures in
    found-some _ _ (child-there (the_view c.holdings.inside).world _ c.args.pid c.in_ok-child.child e.processes e.pid) c.find.result c.find.ensures.none

pub ref_table-requires : goal.ref_table-requires
ref_table-requires c =
    let h = c.holdings.inside in
    let w = (the_view h).world in
    let back = seen-world c.self.inside c.holdings.inside _ c.holdings.view_is c.self.view_is in
    let room = subst (λ (v : World). is_at_process_limit v ≡ false) back c.requires.room in
    let there = subst (λ (v : World). IsTrue (map.contains_key v.processes c.args.pid)) back c.requires.there in
    let e = c.in_ok-child.ensures in
    let q = c.unwrap-process.result.now.process in
    let found = subst (λ o. IfSome o (λ p. map.get c.copy_for_fork.new.self.processes c.in_ok-child.child ≡ Some p.now.process)) c.unwrap-process.ensures c.find.ensures.there in
    let is = child-is w _ c.args.pid c.in_ok-child.child e.processes e.pid q found in
    let at = process-there w c.args.pid (ap not there) ∙ ap Some (sym is) in
    (w, h.ledger, c.args.pid, at, joins-copy w c.args.pid q (kept_of h.files.counts h.ledger) room there is c.holdings.invariant)

both : (c : goal.After-ref_table) → BothInvariants c.self.inside c.copy_for_fork.new.self c.ref_table.new.files c.holdings.inside.ledger
both c =
    let p = c.self.inside in
    let h = c.holdings.inside in
    let w = (the_view h).world in
    let begun = p.begun.value.world in
    let pid = c.args.pid in
    let was = stood p h c.holdings.view_is c.holdings.invariant c.self.invariant in
    let back = seen-world c.self.inside c.holdings.inside _ c.holdings.view_is c.self.view_is in
    let room = subst (λ (v : World). is_at_process_limit v ≡ false) back c.requires.room in
    let there = subst (λ (v : World). IsTrue (map.contains_key v.processes pid)) back c.requires.there in
    let child = process_at w pid in
    let e = c.in_ok-child.ensures in
    let q = c.unwrap-process.result.now.process in
    let found = subst (λ o. IfSome o (λ p. map.get c.copy_for_fork.new.self.processes c.in_ok-child.child ≡ Some p.now.process)) c.unwrap-process.ensures c.find.ensures.there in
    let is = child-is w _ pid c.in_ok-child.child e.processes e.pid q found in
    let exact = c.ref_table.ensures.exact w h.ledger (joins-copy w pid q (kept_of h.files.counts h.ledger) room there is was.0) in
    let rest = c.ref_table.ensures.rest in
    both-same _ (add_process w child) _ _ _ _ (world-is _ _ e.processes (ap (λ v. v.files) rest) (ap (λ v. v.next) rest) e.next refl) refl (ap (λ v. v.marks) rest)
    (subst (λ r. IsExact (add_process w r) (kept_of c.ref_table.new.files.counts h.ledger)) is exact)
    (kept_tables (add_process w child) refl refl (λ _. moves_fork begun w pid there) (λ _. covers_add_process begun w child (is_marked h.files.marks) (below p.progress.visited) was.0.whole.processes_numbered) was.1)

pub invariant_of-holdings-2 : goal.invariant_of-holdings-2
invariant_of-holdings-2 c = (both c).0

pub invariant_of-self-2 : goal.invariant_of-self-2
invariant_of-self-2 c = (both c).1
