-- A command line names one task.
use Rattle.std.proofs.Common.{◌≡◌, ℕ, List, ap, arith, codes, get_or, length, subst, sym, ◌∙◌}
use Rattle.std.specs.Prelude.{Option, Some, None, Result, Ok, Err, IfErr, IfNone}
use Rattle.std.proofs.lemmas.Slice.Eq.{bytes_eq-Decides}
use denote.Ref.{Bor}
use Rattle.clap.specs.Words.{Row, Text, subcommand_of}
use Rattle.scmgc.specs.Task.{IsRace, Names, StandsFor, whole_app}
use Rattle.scmgc.specs.declared.task.Task.{Task}
use Rattle.scmgc.specs.declared.task.Task.TheVariants.{Play, Race, Run}

-- The name of the subcommand of a task.
abbrev name_of : Task → Text
name_of Run = codes "run"
name_of (Play file) = codes "play"
name_of (Race workers steps seed budget checkpoint) = codes "race"

-- The text of a task has its name.
stands_name : (found : Text × List Row) (task : Task) → StandsFor (Some found) task → found.0 ≡ name_of task
stands_name found Run run = (bytes_eq-Decides found.0 (codes "run")).0 run
stands_name found (Play file) play = (bytes_eq-Decides found.0 (codes "play")).0 play.0
stands_name found (Race workers steps seed budget checkpoint) race = (bytes_eq-Decides found.0 (codes "race")).0 race.0

-- So it is that of no task of another name.
one_name : (found : Option (Text × List Row)) (task other : Task) → StandsFor found task → StandsFor found other → name_of task ≡ name_of other
one_name None task other stands too = absurd stands
one_name (Some found) task other stands too = sym (stands_name found task stands) ∙ stands_name found other too

-- No words name two tasks of other names.
one_task : (words : List Text) (task other : Task) → Names words task → Names words other → name_of task ≡ name_of other
unfolding Names
one_task words task other names too = one_name (subcommand_of whole_app words) task other names too

-- Words that name a run name no race.
pub run_not_race : (words : List Text) → (workers steps seed budget checkpoint : ℕ) → Names words Run → Names words (Race workers steps seed budget checkpoint) → ⊥
run_not_race words workers steps seed budget checkpoint run race =
    let bad : 3 ≡ 4 = ap length (one_task words Run (Race workers steps seed budget checkpoint) run race) in absurd (omega (arith, bad))

-- Words that name a run name no play.
pub run_not_play : (words : List Text) (file : Option (Bor (List ℕ))) → Names words Run → Names words (Play file) → ⊥
run_not_play words file run play =
    let bad : 3 ≡ 4 = ap length (one_task words Run (Play file) run play) in absurd (omega (arith, bad))

-- Words that name a race name no play.
pub race_not_play : (words : List Text) (workers steps seed budget checkpoint : ℕ) (file : Option (Bor (List ℕ))) → Names words (Race workers steps seed budget checkpoint) → Names words (Play file) → ⊥
race_not_play words workers steps seed budget checkpoint file race play =
    let bad : 114 ≡ 112 = ap (λ name. get_or name 0 0) (one_task words (Race workers steps seed budget checkpoint) (Play file) race play) in absurd (omega (arith, bad))

-- A text of no run, no play and no race is of no task.
pub no_task : (found : Option (Text × List Row)) (name : Text) (rows : List Row) → found ≡ Some (name, rows) → (name ≡ codes "run" → ⊥) → (name ≡ codes "play" → ⊥)
    → ((workers steps seed budget checkpoint : ℕ) → IsRace rows workers steps seed budget checkpoint → ⊥) → (task : Task) → StandsFor found task → ⊥
no_task found name rows is not_run not_play not_race task stands = from task (subst (λ f. StandsFor f task) is stands) where
  from : (t : Task) → StandsFor (Some (name, rows)) t → ⊥
  from Run run = not_run ((bytes_eq-Decides name (codes "run")).0 run)
  from (Play file) play = not_play ((bytes_eq-Decides name (codes "play")).0 play.0)
  from (Race workers steps seed budget checkpoint) race = not_race workers steps seed budget checkpoint race.1

-- Nothing, if there is none.
pub none_then : {A X Y : Type 0} (r : Option A) → (X → Y) → IfNone r X → IfNone r Y
none_then None f x = f x
none_then (Some a) f x = tt

-- A fact of the error.
pub err_then : {A E : Type 0} {P Q : E → Type 0} (r : Result A E) → ((e : E) → P e → Q e) → IfErr r P → IfErr r Q
err_then (Err e) f x = f e x
err_then (Ok a) f x = tt
