use Rattle.std.proofs.Common.{◌+◌, ◌∙◌, ◌≡◌, ap, false, refl, subst}
use Rattle.std.specs.FinMap as map
use Rattle.std.specs.Map.{keys_of}
use Rattle.af_base.specs.Changes.{add_process}
use Rattle.af_base.specs.Refusals.{is_at_process_limit}
use Rattle.af_base.specs.Steps.{spawned}
use Rattle.af_base.specs.World.{World}
use Rattle.af_ledger.specs.Tally.{kept_of}
use Rattle.af_ledger.proofs.Laws.{users-added}
use Rattle.af_mark.specs.MarksView.{is_marked}
use Rattle.af_table.specs.Procs.{started}
use Rattle.af_collect.proofs.Exact.{add-user-is, exact-spawned, world-is}
use Rattle.af_collect.specs.Keeping.{below}
use Rattle.af_collect.proofs.TablePlaces.{covers_spawned, moves_spawned}
use Rattle.af_collect.specs.contracts.holdings.Holdings.{the_view}
use Rattle.af_collect.proofs.StoreInvariant.{files_spawned, kept_tables, BothInvariants, both-same, seen-world, stood}
use Rattle.af_collect.proofs.store.Store.spawn.Goals as goal

both : (c : goal.After-spawn) → BothInvariants c.self.inside c.spawn.new.self c.holdings.inside.files c.add_user.new.self
both c =
    let p = c.self.inside in
    let h = c.holdings.inside in
    let w = (the_view h).world in
    let begun = p.begun.value.world in
    let a = c.args in
    let was = stood p h c.holdings.view_is c.holdings.invariant c.self.invariant in
    let back = seen-world c.self.inside c.holdings.inside _ c.holdings.view_is c.self.view_is in
    let room = subst (λ (v : World). is_at_process_limit v ≡ false) back c.requires.room in
    let more = add_process w (started a.uid a.limit a.privileged) in
    let processes = c.spawn.ensures.processes ∙ (λ i. map.insert (c.room_to_spawn.ensures.processes i) (c.room_to_spawn.ensures.next i) (started a.uid a.limit a.privileged)) in
    let next = c.spawn.ensures.next ∙ ap (λ n. n + 1) c.room_to_spawn.ensures.next in
    let ledger = c.in_ok-add_user.ensures.ok in
    let users = ap (λ k. keys_of k.users) ledger ∙ users-added a.uid h.ledger.users in
    let same_files = files_spawned w a.uid a.limit a.privileged in
    both-same _ (spawned w a.uid a.limit a.privileged) _ _ _ _ (world-is _ (record more { users = keys_of c.add_user.new.self.users }) processes refl refl next refl ∙ add-user-is more a.uid (keys_of c.add_user.new.self.users) users) (ap (kept_of h.files.counts) ledger) refl
    (exact-spawned w a.uid a.limit a.privileged (kept_of h.files.counts h.ledger) room c.requires.limit was.0)
    (kept_tables (spawned w a.uid a.limit a.privileged) same_files.0 same_files.1 (λ _. moves_spawned begun w a.uid a.limit a.privileged) (λ _. covers_spawned begun w a.uid a.limit a.privileged (is_marked h.files.marks) (below p.progress.visited) was.0.whole.processes_numbered) was.1)

pub invariant_of-holdings-2 : goal.invariant_of-holdings-2
invariant_of-holdings-2 c = (both c).0

pub invariant_of-self-2 : goal.invariant_of-self-2
invariant_of-self-2 c = (both c).1
