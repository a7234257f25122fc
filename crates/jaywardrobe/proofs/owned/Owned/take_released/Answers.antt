use Rattle.std.proofs.Common.{rules, ◌≡◌, ◌<◌, ◌∙◌, ap, false, subst, sym}
use Rattle.std.specs.FinMap as map
use Rattle.std.specs.Option.{OnSome}
use Rattle.std.specs.Prelude.{None, Option, Some}
use Rattle.af_base.specs.World.{Map, is_live}
use Rattle.ordered_slab.specs.OrderedSlabView.{OrderedSlabView}
use Rattle.jaywardrobe.specs.OwnedView.{AreOwned, OwnedView}
use Rattle.jaywardrobe.proofs.KeptValues.{owned-taken, taken-fewer}
use Rattle.jaywardrobe.proofs.owned.Owned.take_released.Goals as goal

-- A fact of every result is one of a result with a value.
on_some : {A P : Type 0} (o : Option A) → P → OnSome o P
on_some None p = tt
on_some (Some x) p = p

-- The value of a freed file is handed back.
pub invariant_of-self-2 : goal.invariant_of-self-2
invariant_of-self-2 g c =
    let a = c.self.inside in
    let k = c.in-Some.file in
    let n = c.remove.new.self in
    let at : n.values ≡ map.remove a.values.values k = ap (λ (s : OrderedSlabView g.row.T.Denot). s.values) c.remove.ensures.removed in
    let last = ap (λ (s : OrderedSlabView g.row.T.Denot). s.last) c.remove.ensures.removed in
    let gone : is_live a.engine.world k ≡ false = ap (λ (o : OwnedView g.row.T.Denot). is_live o.machine.world k) c.self.view_is ∙ c.in-Some.ensures.some.1 in
    subst (λ l. AreOwned a.engine n.values l) (sym last) (subst (λ vs. AreOwned a.engine vs a.values.last) (sym at) (owned-taken a.engine a.values.values a.values.last k c.self.invariant gone))

pub returns-clause-fewer : goal.returns-clause-fewer
returns-clause-fewer g c =
    let k = c.in-Some.file in
    let vs = c.args.self.now.values in
    let at : c.remove.new.self.values ≡ map.remove vs k = ap (λ (s : OrderedSlabView g.row.T.Denot). s.values) c.remove.ensures.removed ∙ ap (λ (o : OwnedView g.row.T.Denot). map.remove o.values k) c.self.view_is in
    on_some c.remove.result (subst (λ (n : Map g.row.T.Denot). map.len n < map.len vs) (sym at) (taken-fewer vs k c.in-Some.ensures.some.0))

pub returns-clause-none : goal.returns-clause-none
returns-clause-none g c = search rules

pub returns-clause-some : goal.returns-clause-some
returns-clause-some g c = search rules

pub returns-in_default-clause-cleared : goal.returns-in_default-clause-cleared
returns-in_default-clause-cleared g c = search rules
