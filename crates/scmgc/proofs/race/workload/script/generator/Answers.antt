use Rattle.std.proofs.Common.{◌∙◌, add-one, ap, arith, sym}
use Rattle.rand_xoshiro.specs.Xoshiro256.{jump, jump_polynomial, of_seed}
use Rattle.rand_xoshiro.specs.SplitMix64.{splitmix_seed}
use Rattle.scmgc.specs.Race.Scripts.{generator_of, jumped}
use Rattle.scmgc.proofs.race.workload.script.generator.Goals as goal

pub jumps-init : goal.jumps-init
unfolding jumped
jumps-init c = c.seed_from_u64-rng.ensures ∙ ap (λ n. of_seed (splitmix_seed 32 n)) c.from.ensures

pub jumps-preserved : goal.jumps-preserved
unfolding jumped
jumps-preserved c =
    c.jump.ensures
    ∙ ap (jump jump_polynomial) c.jumps.invariant
    ∙ ap (λ n. jumped n (of_seed (splitmix_seed 32 c.args.seed))) (sym (add-one c.jumps.counter))

pub returns : goal.returns
unfolding generator_of
returns c = c.jumps.invariant ∙ ap (λ n. jumped n (of_seed (splitmix_seed 32 c.args.seed))) (omega (arith, c.jumps-test.false))
