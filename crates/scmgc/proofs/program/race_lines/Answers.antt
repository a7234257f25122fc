use Rattle.std.proofs.Common.{◌≡◌, ℕ, List, refl, subst, suc, sym, zero}
use Rattle.std.specs.Prelude.{IfOk, string_bytes}
use Rattle.std.proofs.lemmas.Result.{IfOk-weaker}
use Rattle.scmgc.specs.Race.Parts.{LongRaceText}
use Rattle.scmgc.specs.Program.{TextOf}
use Rattle.scmgc.proofs.program.race_lines.Goals as goal

-- Where the task has checkpoints, the lines of a long race are those of the task.
long_text : (workers steps seed budget n : ℕ) (text : List ℕ) → ¬ (n ≡ 0) → LongRaceText workers steps seed budget n text → TextOf workers steps seed budget n text
long_text workers steps seed budget zero text some told = absurd (some refl)
long_text workers steps seed budget (suc n) text some told = told

pub returns-then-checkpoint-eq0 : goal.returns-then-checkpoint-eq0
returns-then-checkpoint-eq0 g c =
    let race = c.args.race in
    subst (λ n. IfOk c.race_text.result (λ text. TextOf race.workers race.steps race.seed race.budget n (string_bytes text))) (sym c.if-checkpoint-eq0.true) c.race_text.ensures

pub returns-else-checkpoint-eq0 : goal.returns-else-checkpoint-eq0
returns-else-checkpoint-eq0 g c =
    let race = c.args.race in
    IfOk-weaker c.long_race_text.result (λ text. LongRaceText race.workers race.steps race.seed race.budget c.args.checkpoint (string_bytes text)) (λ text. TextOf race.workers race.steps race.seed race.budget c.args.checkpoint (string_bytes text))
    (λ text. long_text race.workers race.steps race.seed race.budget c.args.checkpoint (string_bytes text) c.if-checkpoint-eq0.false) c.long_race_text.ensures
