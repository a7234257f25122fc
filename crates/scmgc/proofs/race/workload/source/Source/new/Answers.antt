use Rattle.std.proofs.Common.{◌-◌, ◌++◌, ◌∷◌, [], ap, map, ◌∙◌}
use Rattle.rand_core.specs.Steps.{first_words}
use Rattle.rand_xoshiro.specs.Xoshiro256.{plus_plus}
use Rattle.af_base.specs.declared.events.Event.TheVariants as event
use Rattle.af_base.specs.declared.events.Step.TheVariants as step
use Rattle.scmgc.specs.Race.Scripts.{opening_of}
use Rattle.scmgc.specs.Race.Table.{event_of_word}
use Rattle.scmgc.proofs.race.Words.{words_in-stream_of}
use Rattle.scmgc.proofs.race.workload.source.Source.new.Goals as goal

pub returns : goal.returns
returns c =
    let count = c.args.steps - 5 in
    ap (λ words. opening_of c.args.worker ++ map (event_of_word c.args.worker c.args.workers) words ++ event.Proc c.args.worker step.Exit ∷ [])
    (words_in-stream_of plus_plus count c.generator.result ∙ ap (first_words plus_plus count) c.generator.ensures)
