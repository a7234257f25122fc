-- The task of a command line.
use Rattle.std.specs.Prelude.{◌≡◌, ◌==◌, ◌≤◌, ◌∷◌, [], if◌then◌else◌, ℕ, List, length, Option, Some, None, Bool, true, codes, pos, ⊤}
use Rattle.std.specs.Option.{option_map}
use Rattle.std.specs.Str.{bytes_eq}
use Rattle.std.specs.Str.Parse.{IsNumeral, digits_value, without_leading_plus}
use Rattle.clap.specs.Words.{App, Row, Rule, Text, fault_of, first_of, new_app, new_rule, one_of, subcommand_of, with_rule, with_subcommand}
use Rattle.clap.specs.declared.builder.value_parser.ValueParser.TheVariants.{Signed}
use Rattle.scmgc.specs.declared.task.NumberOption.{NumberOption}
use Rattle.scmgc.specs.declared.task.Task.{Task}
use Rattle.scmgc.specs.declared.task.Task.TheVariants.{Play, Race, Run}

-- The subcommand that runs a script, which has no options.
abbrev pub run_app : App
run_app = new_app (codes "run")

-- The subcommand that plays a script, which may name a file.
abbrev pub play_app : App
play_app = with_rule (new_app (codes "play")) (new_rule (codes "FILE"))

-- An option that must be given, as `--name`, and takes a number within these bounds.
abbrev pub number_rule : Text → ℕ → ℕ → Rule
number_rule name least most = record (new_rule name) {
  long = Some name;
  value_names = 1;
  required = true;
  parser = Some (Signed (pos least) (pos most));
}

-- The option for the events between two checkpoints: it is 0 where it is left out.
abbrev pub checkpoint_rule : Rule
checkpoint_rule = record (new_rule (codes "checkpoint")) {
  long = Some (codes "checkpoint");
  value_names = 1;
  defaults = codes "0" ∷ [];
  parser = Some (Signed (pos 0) (pos 250000));
}

-- The command with these options behind its others.
abbrev pub with_numbers : List NumberOption → App → App
with_numbers [] app = app
with_numbers (option ∷ options) app =
    with_numbers options (with_rule app (number_rule option.name.now option.least option.most))

-- The subcommand of a race, with its five options.
abbrev pub race_app : App
race_app = with_rule (with_rule (with_rule (with_rule (with_rule (new_app (codes "race"))
    (number_rule (codes "workers") 1 32))
    (number_rule (codes "steps") 5 100000000))
    (number_rule (codes "seed") 0 4294967295))
    (number_rule (codes "budget") 1 65536))
    checkpoint_rule

-- The command before its subcommands: it has a version, and wants a subcommand.
abbrev pub bare_app : App
bare_app = let app = new_app (codes "scmgc") in record app {
  top = record app.top {
    has_version = true;
    arg_required_else_help = true;
    subcommand_required = true;
  };
}

-- The whole command.
abbrev pub whole_app : App
whole_app =
    with_subcommand (with_subcommand (with_subcommand bare_app run_app.top) play_app.top)
    race_app.top

-- The value of the option of this name is the number n, within these bounds: it is what the text
-- says that `clap` found for the option. A plus may precede its digits.
pub record HasNumber (rows : List Row) (name : Text) (least most n : ℕ) : Type 0 where
  pub text : Text
  pub found : one_of name rows ≡ Some text
  pub numeral : IsNumeral 10 (without_leading_plus text)
  pub value : n ≡ digits_value 10 (without_leading_plus text)
  pub least_is : least ≤ n
  pub most_is : n ≤ most

-- How many events each worker does at most. Without checkpoints all have to fit into one log.
abbrev pub most_steps : ℕ → ℕ
most_steps checkpoint = if checkpoint == 0 then 20000 else 100000000

-- These are the values of a race's five options, each within its bounds.
pub record IsRace (rows : List Row) (workers steps seed budget checkpoint : ℕ) : Type 0 where
  pub workers_is : HasNumber rows (codes "workers") 1 32 workers
  pub steps_is : HasNumber rows (codes "steps") 5 (most_steps checkpoint) steps
  pub seed_is : HasNumber rows (codes "seed") 0 4294967295 seed
  pub budget_is : HasNumber rows (codes "budget") 1 65536 budget
  pub checkpoint_is : HasNumber rows (codes "checkpoint") 0 250000 checkpoint

-- The task of a subcommand with the values of its options.
abbrev pub StandsFor : Option (Text × List Row) → Task → Type 0
StandsFor None task = ⊥
StandsFor (Some found) Run = bytes_eq found.0 (codes "run") ≡ true
StandsFor (Some found) (Play file) = (bytes_eq found.0 (codes "play") ≡ true)
    × (option_map (λ path. path.now) file ≡ first_of (codes "FILE") found.1)
StandsFor (Some found) (Race workers steps seed budget checkpoint) =
    (bytes_eq found.0 (codes "race") ≡ true) × IsRace found.1 workers steps seed budget checkpoint

-- The words of a command line fit the whole command: no fault is found in them. A call for help or
-- for the version is one.
unfoldable pub fits : List Text → Bool
fits words = length (fault_of whole_app words) == 0

-- The words of a command line name the task.
unfoldable pub Names : List Text → Task → Type 0
Names words task = StandsFor (subcommand_of whole_app words) task

-- The numbers of a race lie in their ranges.
abbrev pub IsInRange : Task → Type 0
IsInRange Run = ⊤
IsInRange (Play file) = ⊤
IsInRange (Race workers steps seed budget checkpoint) =
    (1 ≤ workers) × (workers ≤ 32) × (5 ≤ steps) × (steps ≤ most_steps checkpoint) × (1 ≤ budget)
    × (budget ≤ 65536)
