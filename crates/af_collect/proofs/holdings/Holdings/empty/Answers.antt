use Rattle.std.proofs.Common.{sym, ap, ◌∙◌, nat_eq}
use Rattle.af_base.specs.Pass.{emptied}
use Rattle.af_collect.specs.HoldingsView.{HoldingsView}
use Rattle.af_collect.proofs.FreedFiles.{emptied-bare}
use Rattle.af_collect.proofs.LossOutcomes.{burden-lost, emptied-lost, none-held, none-silent, nothing-lost}
use Rattle.af_collect.proofs.holdings.Holdings.empty.Goals as goal

pub loop-preserved : goal.loop-preserved
loop-preserved c =
    let w = c.loop.self.world in
    let d = c.drop_place.ensures.world in
    record {
      emptied = ap (λ (s : HoldingsView). emptied (nat_eq c.args.file.now) s.world) d ∙ emptied-lost w c.args.file.now ∙ c.loop.invariant.emptied;
      rows = ap (λ (s : HoldingsView). s.rows) d ∙ c.loop.invariant.rows;
      marks = ap (λ (s : HoldingsView). s.marks) d ∙ c.loop.invariant.marks;
      since = ap (λ (s : HoldingsView). s.since) d ∙ c.loop.invariant.since;
    }

pub loop-smaller : goal.loop-smaller
loop-smaller c = burden-lost c.loop.self.world c.drop_place.new.self.world c.args.file.now (ap (λ (s : HoldingsView). s.world) c.drop_place.ensures.world) (c.drop_place.ensures.some c.loop-test.true)

pub returns : goal.returns
returns c =
    let w = c.loop.self.world in
    let f = c.args.file.now in
    let i = c.loop.invariant in
    let d = c.drop_place.ensures.world in
    let none = c.drop_place.ensures.none c.loop-test.false in
    let same = nothing-lost w c.drop_place.new.self.world f (ap (λ (s : HoldingsView). s.world) d) none in
    let world = same ∙ sym (emptied-bare w f (none-silent w f none) (none-held w f none)) ∙ i.emptied in
    let rows = ap (λ (s : HoldingsView). s.rows) d ∙ i.rows in
    let marks = ap (λ (s : HoldingsView). s.marks) d ∙ i.marks in
    let since = ap (λ (s : HoldingsView). s.since) d ∙ i.since in
    λ j. record { world = world j; rows = rows j; message_room = c.drop_place.new.self.message_room; marks = marks j; since = since j }
