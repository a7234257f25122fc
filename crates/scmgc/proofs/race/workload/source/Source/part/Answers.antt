use Rattle.std.proofs.Common.{◌≡◌, ◌∷◌, [], ap, subst, ◌∙◌}
use Rattle.std.specs.Prelude.{MatchOption, Option}
use Rattle.af_base.specs.declared.events.Event.{Event}
use Rattle.scmgc.proofs.race.Words.{part-grows, part-stays}
use Rattle.scmgc.proofs.race.workload.source.Source.part.Goals as goal
use Rattle.scmgc.proofs.race.workload.source.Source.part.Goals.{in-Some+in_ok-push, in_default}

pub events-preserved : goal.events-preserved
events-preserved c =
    let n = c.events.counter in
    let all = c.args.self.now in
    let before = c.events.invariant in
    let old = c.events.self in
    let new = c.next.new.self in
    let Told : Option Event → Type 0 = λ o. MatchOption o ((old ≡ []) × (new ≡ [])) (λ event. old ≡ event ∷ new) in
    elim c.match-branch-3.branch [
      | in-Some+in_ok-push w ↦
          let more = part-grows n all c.events.part.items c.match-branch-3.part.items old new w.in-Some.event before.made before.left
          (subst Told w.in-Some.is c.in_ok-event.ensures) (ap (λ v. v.items) w.part-is ∙ w.in_ok-push.ensures.items) in
          record { made = more.0; left = more.1 }
      | in_default w ↦
          let none = subst Told w.in_default.is c.in_ok-event.ensures in
          let same = part-stays n all c.events.part.items old new before.made before.left none.0 none.1 in
          record { made = ap (λ v. v.items) w.part-is ∙ same.0; left = same.1 }
    ]
