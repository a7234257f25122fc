use Rattle.std.proofs.Common.{[], ◌∷◌, subst, ◌∙◌, ap, map}
use Rattle.std.proofs.lemmas.List.Concat.{flat_map_single}
use Rattle.af_plain.specs.Marking.{Marks}
use Rattle.af_plain.proofs.SearchInvariant.{marks-end, marks-more}
use Rattle.af_plain.proofs.reach.Marking.mark_numbers.Goals as goal

pub loop-number-preserved : goal.loop-number-preserved
loop-number-preserved c = marks-more (λ n. n.ino ∷ []) c.deref-number-items.result.now c.loop-number.number-index c.args.self.now c.loop-number.self c.mark.new.self c.number-item.result c.loop-number-test.true c.number-item.is c.loop-number.invariant c.in_ok-mark.ensures

pub returns : goal.returns
returns c =
    subst (Marks c.args.self.now c.loop-number.self) (flat_map_single (λ n. n.ino) c.deref-number-items.result.now ∙ ap (map (λ n. n.ino)) c.deref-number-items.ensures.value)
    (marks-end (λ n. n.ino ∷ []) c.deref-number-items.result.now c.loop-number.number-index c.args.self.now c.loop-number.self c.loop-number-test.false c.loop-number.invariant)
