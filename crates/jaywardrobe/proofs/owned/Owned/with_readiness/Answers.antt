use Rattle.std.proofs.Common.{◌∙◌, true, ap, subst, sym}
use Rattle.std.specs.FinMap as map
use Rattle.af_base.specs.Pass.{Machine}
use Rattle.af_steps.specs.Told.{Changed, Released, telling}
use Rattle.jaywardrobe.specs.OwnedView.{AreOwned}
use Rattle.jaywardrobe.proofs.KeptValues.{owned-new}
use Rattle.jaywardrobe.proofs.owned.Owned.with_readiness.Goals as goal

pub invariant_of-result : goal.invariant_of-result
invariant_of-result g c =
    let n = c.tell-2.new.self in
    let asked = c.in_ok-tell.ensures.ok ∙ ap (telling Released) c.in_ok-engine.ensures in
    let is = c.in_ok-tell-2.ensures.ok ∙ ap (telling Changed) asked in
    subst (λ l. AreOwned n c.new-2.result.values l) (sym c.new-2.ensures.last)
    (subst (λ vs. AreOwned n vs 0) (sym c.new-2.ensures.values) (subst (λ (m : Machine). AreOwned m map.empty 0) (sym is) (owned-new true)))

pub returns-clause-emptied : goal.returns-clause-emptied
returns-clause-emptied g c =
    let told = c.in_ok-tell-2.ensures.ok in
    let listed = c.in_ok-tell.ensures.ok in
    let made = c.in_ok-engine.ensures in (
      ap (λ m. m.since.files) told ∙ ap (λ m. m.world.files) listed ∙ ap (λ m. m.world.files) made,
      ap (λ m. m.since.next) told ∙ ap (λ m. m.world.next_ino) listed ∙ ap (λ m. m.world.next_ino) made,
    )

pub returns-clause-machine : goal.returns-clause-machine
returns-clause-machine g c =
    let keep = λ (m : Machine). record m { since = c.tell-2.new.self.since } in
    ap keep c.in_ok-tell-2.ensures.ok ∙ ap keep c.in_ok-tell.ensures.ok ∙ ap keep c.in_ok-engine.ensures
