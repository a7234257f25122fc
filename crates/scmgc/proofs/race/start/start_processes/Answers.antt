use Rattle.std.proofs.Common.{refl, ◌∙◌}
use Rattle.scmgc.proofs.race.Works.{spawned-more, spawned-none}
use Rattle.scmgc.proofs.race.start.start_processes.Goals as goal

pub loop-before-init : goal.loop-before-init
loop-before-init g c = record { number = refl; started = spawned-none c.args.main.now.list }

pub loop-before-preserved : goal.loop-before-preserved
loop-before-preserved g c = record {
  number = c.start_process.ensures.number ∙ c.loop-before.invariant.number;
  started = spawned-more c.loop-before.before c.args.main.now.list c.loop-before.main.list c.start_process.new.main.list c.loop-before.invariant.started c.in_ok-start_process.ensures.started;
}
