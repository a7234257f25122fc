use Rattle.jaywardrobe.proofs.KeptValues.{owned-event}
use Rattle.jaywardrobe.proofs.owned.Owned.call.Goals as goal

pub invariant_of-self : goal.invariant_of-self
invariant_of-self g c =
    let a = c.self.inside in
    owned-event a.engine c.call.new.engine a.values.values a.values.last c.self.invariant (g.C.Call.event c.args.call) c.requires c.call.result g.C.Answer.Answer.told c.call.ensures.done c.call.ensures.refused
