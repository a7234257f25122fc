use Rattle.std.proofs.Common.{[], ◌∷◌, subst, ◌∙◌}
use Rattle.std.proofs.lemmas.List.{map-id}
use Rattle.std.proofs.lemmas.List.Concat.{flat_map_single}
use Rattle.af_plain.specs.Marking.{Marks}
use Rattle.af_plain.proofs.SearchInvariant.{marks-end, marks-more}
use Rattle.af_plain.proofs.reach.Marking.mark_all.Goals as goal

pub loop-ino-preserved : goal.loop-ino-preserved
loop-ino-preserved c = marks-more (λ x. x ∷ []) c.args.inos.now c.loop-ino.ino-index c.args.self.now c.loop-ino.self c.mark.new.self c.ino-item.result c.loop-ino-test.true c.ino-item.is c.loop-ino.invariant c.in_ok-mark.ensures

pub returns : goal.returns
returns c = subst (Marks c.args.self.now c.loop-ino.self) (flat_map_single (λ x. x) c.args.inos.now ∙ map-id c.args.inos.now) (marks-end (λ x. x ∷ []) c.args.inos.now c.loop-ino.ino-index c.args.self.now c.loop-ino.self c.loop-ino-test.false c.loop-ino.invariant)
