use Rattle.std.proofs.Common.{◌++◌, ◌∷◌, [], ap, ◌∙◌}
use Rattle.scmgc.specs.Race.{scripts_of}
use Rattle.scmgc.proofs.race.Works.{scripts-none, scripts-more}
use Rattle.scmgc.proofs.race.start.sources.Goals as goal

pub loop-before-init : goal.loop-before-init
loop-before-init c = c.in_ok-sources.ensures.items ∙ scripts-none c.args.workers c.args.steps c.args.seed

pub loop-before-preserved : goal.loop-before-preserved
loop-before-preserved c =
    let n = c.loop-before.before in
    c.in_ok-push.ensures.items
    ∙ ap (λ l. l ++ c.new.result ∷ []) c.loop-before.invariant
    ∙ ap (λ e. scripts_of n c.args.workers c.args.steps c.args.seed ++ e ∷ []) c.new.ensures
    ∙ scripts-more n c.args.workers c.args.steps c.args.seed
