use Rattle.std.proofs.Common.{◌++◌, ◌∷◌, [], ap, map, ◌∙◌}
use Rattle.std.specs.Prelude.{Vec}
use Rattle.std.proofs.Common.{Global}
use Rattle.std.proofs.lemmas.List.{map-append}
use Rattle.af_base.specs.declared.events.Event.{Event}
use Rattle.scmgc.specs.Race.{scripts_of}
use Rattle.scmgc.proofs.race.Works.{scripts-none, scripts-more}
use Rattle.scmgc.proofs.race.start.scripts.Goals as goal

pub loop-before-init : goal.loop-before-init
loop-before-init c = ap (map (λ (v : Vec Event Global). v.items)) c.in_ok-scripts.ensures.items ∙ scripts-none c.args.workers c.args.steps c.args.seed

pub loop-before-preserved : goal.loop-before-preserved
loop-before-preserved c =
    let n = c.loop-before.before in
    let script = c.in_ok-make_script.field-0 in
    ap (map (λ (v : Vec Event Global). v.items)) c.in_ok-push.ensures.items
    ∙ map-append (λ (v : Vec Event Global). v.items) c.loop-before.scripts.items (script ∷ [])
    ∙ ap (λ l. l ++ script.items ∷ []) c.loop-before.invariant
    ∙ ap (λ e. scripts_of n c.args.workers c.args.steps c.args.seed ++ e ∷ []) c.in_ok-make_script.ensures.events
    ∙ scripts-more n c.args.workers c.args.steps c.args.seed
