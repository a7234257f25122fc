use Rattle.std.proofs.Common.{rules, ◌≡◌, ◌∙◌, ap, subst, sym, arith}
use Rattle.std.specs.FinMap as map
use Rattle.af_base.specs.World.{World}
use Rattle.ordered_slab.specs.OrderedSlabView.{OrderedSlabView}
use Rattle.jaywardrobe.specs.OwnedView.{AreOwned}
use Rattle.jaywardrobe.proofs.KeptValues.{owned-open}
use Rattle.jaywardrobe.proofs.owned.Owned.open.Goals as goal

pub push-requires : goal.push-requires
push-requires g c =
    let next = ap (λ (w : World). w.next_ino) c.in-Ok.ensures.done.2.2 in
    let inos = c.lemma_is_sound.ensures.sound.within.inos in
    record {
      room = search (rules, arith);
      above = search (rules, arith);
      number = omega (arith, next, inos, c.next_ino-ino.ensures);
    }

pub invariant_of-self-2 : goal.invariant_of-self-2
invariant_of-self-2 g c =
    let a = c.self.inside in
    let n = c.open.new.self in
    let number = c.next_ino-ino.ensures in
    let same = ap (λ (s : OrderedSlabView g.row.T.Denot). s.values) c.reserve.ensures.same in
    let at : c.push.new.self.values ≡ map.insert a.values.values a.engine.world.next_ino c.args.value =
    ap (λ (s : OrderedSlabView g.row.T.Denot). s.values) c.push.ensures.pushed ∙ (λ i. map.insert (same i) (number i) c.args.value) in
    let last = ap (λ (s : OrderedSlabView g.row.T.Denot). s.last) c.push.ensures.pushed ∙ number in
    subst (λ k. AreOwned n c.push.new.self.values k) (sym last)
    (subst (λ vs. AreOwned n vs a.engine.world.next_ino) (sym at) (owned-open a.engine n a.values.values a.values.last c.args.pid c.in-Ok.fd c.self.invariant c.args.value c.in-Ok.ensures.done))
