use Rattle.std.proofs.Common.{◌∙◌, ap, sym}
use Rattle.std.specs.FinMap as map
use Rattle.std.specs.Prelude.{IsTrue}
use Rattle.af_base.specs.Changes.{change_at, installed}
use Rattle.af_desc.specs.FilesView.{with_file_ref}
use Rattle.af_ledger.specs.Counted.{IsCountable}
use Rattle.af_ledger.specs.Tally.{count_in_map}
use Rattle.af_ledger.specs.declared.place.Place.TheVariants.{Table}
use Rattle.af_collect.proofs.Descriptors.{can-hold-left, counted-replaced, stands-replaced}
use Rattle.af_collect.proofs.StoreInvariant.{BothInvariants, stood}
use Rattle.af_collect.proofs.store.Store.replace.Goals.{After-drop_replaced}
use Rattle.af_collect.proofs.store.Store.replace.Goals as goal

pub drop_replaced-requires : goal.drop_replaced-requires
drop_replaced-requires c =
    let p = c.self.inside in
    let h = c.holdings.inside in
    counted-replaced p h (stood p h c.holdings.view_is c.holdings.invariant c.self.invariant) c.args.pid c.args.fd c.replace-was.result (sym c.replace-was.ensures.value)

-- The file can be held.
held : (c : After-drop_replaced) → IsTrue (map.contains_key c.drop_replaced.new.files.counts c.args.file) × IsCountable Table (count_in_map c.drop_replaced.new.files.counts c.args.file)
held c =
    let p = c.self.inside in
    let h = c.holdings.inside in
    can-hold-left p h (stood p h c.holdings.view_is c.holdings.invariant c.self.invariant) c.args.pid c.args.fd c.replace-was.result (sym c.replace-was.ensures.value)
    _ c.holdings.view_is c.self.view_is c.args.file (c.requires.there, c.requires.limit, c.requires.live) _ c.drop_replaced.ensures

pub hold-requires-clause-known : goal.hold-requires-clause-known
hold-requires-clause-known c = (held (goal.at.hold-requires-clause-known c).After-drop_replaced).0

pub hold-requires-clause-countable : goal.hold-requires-clause-countable
hold-requires-clause-countable c = (held (goal.at.hold-requires-clause-countable c).After-drop_replaced).1

both : (c : goal.After-hold) → BothInvariants c.self.inside c.replace-was.new.self c.hold.new.self c.holdings.inside.ledger
both c =
    let p = c.self.inside in
    let h = c.holdings.inside in
    let processes = c.replace-was.ensures.processes ∙ ap (λ x. change_at (installed c.args.fd x) h.procs.processes c.args.pid) c.duplicate.ensures in
    stands-replaced p h (stood p h c.holdings.view_is c.holdings.invariant c.self.invariant) c.args.pid c.args.fd c.replace-was.result (sym c.replace-was.ensures.value)
    _ c.holdings.view_is c.self.view_is c.args.file (c.requires.there, c.requires.limit, c.requires.live) c.requires.spared
    c.replace-was.new.self processes c.replace-was.ensures.next _ (c.hold.ensures ∙ ap (with_file_ref Table c.args.file) c.drop_replaced.ensures)

pub invariant_of-holdings : goal.invariant_of-holdings
invariant_of-holdings c = (both c).0

pub invariant_of-self : goal.invariant_of-self
invariant_of-self c = (both c).1
