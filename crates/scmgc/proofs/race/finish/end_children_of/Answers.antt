use Rattle.std.proofs.Common.{◌+◌, take, [], ◌∷◌, ap, sym, subst, ◌∙◌}
use Rattle.af_layer.specs.Drive.{WentOn}
use Rattle.scmgc.specs.Race.{exit_of, exits_of}
use Rattle.scmgc.proofs.race.Exits.{exits-one, exits-skip, went-on, went-one}
use Rattle.scmgc.proofs.race.finish.end_children_of.Goals as goal
use Rattle.scmgc.proofs.race.finish.end_children_of.Goals.{in-Some+in_ok-call, in_default}

pub loop-pair-preserved : goal.loop-pair-preserved
loop-pair-preserved g c =
    let i = c.loop-pair.pair-index in
    let p = c.pair-item.result in
    let old = c.args.main.now.list in
    let before = c.loop-pair.invariant in
    elim c.match-child_of.branch [
      | in-Some+in_ok-call w ↦
          let child = w.in-Some.child in
          let done = w.in_ok-call.ensures.done in
          let one = exits-one c.args.list.now i child p c.loop-pair-test.true (sym c.pair-item.is) (sym c.child_of.ensures ∙ w.in-Some.is) in
          let more = went-one c.loop-pair.main.list c.match-child_of.main.list (exit_of child) done.0 (ap (λ s. s.list) (w.main-is ∙ done.1)) in
          record {
            number = ap (λ s. s.number) (w.main-is ∙ done.1) ∙ before.number;
            exits = subst (λ e. WentOn old e c.match-child_of.main.list) (sym one) (went-on old c.loop-pair.main.list c.match-child_of.main.list (exits_of (take i c.args.list.now)) (exit_of child ∷ []) before.exits more);
          }
      | in_default w ↦
          let skip = exits-skip c.args.list.now i p c.loop-pair-test.true (sym c.pair-item.is) (sym c.child_of.ensures ∙ w.in_default.is) in
          record {
            number = ap (λ s. s.number) w.main-is ∙ before.number;
            exits = subst (λ l. WentOn old (exits_of (take (i + 1) c.args.list.now)) l) (ap (λ s. s.list) (sym w.main-is)) (subst (λ e. WentOn old e c.loop-pair.main.list) (sym skip) before.exits);
          }
    ]
