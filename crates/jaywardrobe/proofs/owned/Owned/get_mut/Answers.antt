use Rattle.std.proofs.Common.{ap, sym}
use Rattle.std.specs.Prelude.{is_some}
use Rattle.jaywardrobe.proofs.KeptValues.{owned-written}
use Rattle.jaywardrobe.proofs.owned.Owned.get_mut.Goals as goal

-- Whatever is written, the same files carry a value.
pub invariant_of-self-lent : goal.invariant_of-self-lent
invariant_of-self-lent g c w =
    let a = c.self.inside in
    owned-written a.engine a.values.values a.values.last c.in_ok-file.file w c.self.invariant (ap is_some (sym c.in_ok-value.ensures.value))
