-- All events of a script are of its own process.
use Rattle.std.proofs.Common.{ℕ, ◌-◌, List, [], ◌∷◌, ◌++◌, map, refl}
use Rattle.std.specs.List.{All}
use Rattle.std.proofs.lemmas.List.Elements.{All-append, All-map}
use Rattle.af_base.specs.declared.events.Event.{Event}
use Rattle.af_base.specs.declared.events.Event.TheVariants as event
use Rattle.af_base.specs.declared.events.Step.{Step}
use Rattle.af_base.specs.declared.events.Step.TheVariants as step
use Rattle.scmgc.specs.Race.Scripts.{IsStepOf, opening_of, opening_steps, script_of, drawn_words}
use Rattle.scmgc.specs.Race.Table.{event_of_word}

-- Steps of a process are steps of it.
own-steps : (process : ℕ) → (steps : List Step) → All (IsStepOf process) (map (event.Proc process) steps)
own-steps process steps = All-map (IsStepOf process) (event.Proc process) steps (λ k d _. refl)

-- Words give steps of the worker's process.
own-words : (worker workers : ℕ) → (words : List ℕ) → All (IsStepOf worker) (map (event_of_word worker workers) words)
own-words worker workers words = All-map (IsStepOf worker) (event_of_word worker workers) words (λ k d _. refl)

-- Each event of a script is a step of the worker's process.
pub own-script : (worker workers steps seed : ℕ) → All (IsStepOf worker) (script_of worker workers steps seed)
own-script worker workers steps seed =
    let P : Event → Type 0 = IsStepOf worker in
    let drawn : List Event = map (event_of_word worker workers) (drawn_words worker seed (steps - 5)) in
    All-append P (opening_of worker ++ drawn) (event.Proc worker step.Exit ∷ [])
    (All-append P (opening_of worker) drawn (own-steps worker (opening_steps worker)) (own-words worker workers (drawn_words worker seed (steps - 5))))
    (own-steps worker (step.Exit ∷ []))
