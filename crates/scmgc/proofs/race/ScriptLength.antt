-- How many events a script has.
use Rattle.std.proofs.Common.{◌≡◌, ◌≤◌, ◌-◌, ◌++◌, ℕ, zero, suc, List, [], ◌∷◌, ap, arith, length, length-append, map, refl}
use Rattle.std.proofs.lemmas.List.{length-map}
use Rattle.rand_core.specs.Steps.{first_words}
use Rattle.rand_xoshiro.specs.Xoshiro256.{plus_plus}
use Rattle.af_base.specs.declared.events.Event.{Event}
use Rattle.af_base.specs.declared.events.Event.TheVariants as event
use Rattle.af_base.specs.declared.events.Step.TheVariants as step
use Rattle.scmgc.specs.Race.Scripts.{generator_of, opening_of, script_of, drawn_words}
use Rattle.scmgc.specs.Race.Table.{event_of_word}

-- As many words are drawn as were asked for.
words-count : {S : Type 0} → (draw : S → ℕ × S) → (n : ℕ) → (s : S) → length (first_words draw n s) ≡ n
unfolding first_words
words-count draw zero s = refl
words-count draw (suc n) s = ap suc (words-count draw n (draw s).1)

-- A script has as many events as were asked for.
pub script-count : (worker workers steps seed : ℕ) → 5 ≤ steps → length (script_of worker workers steps seed) ≡ steps
script-count worker workers steps seed some =
    let drawn : List Event = map (event_of_word worker workers) (drawn_words worker seed (steps - 5)) in
    let last : List Event = event.Proc worker step.Exit ∷ [] in
    let all = length-append (opening_of worker) (drawn ++ last) in
    let rest = length-append drawn last in
    let words = length-map (drawn_words worker seed (steps - 5)) (event_of_word worker workers) in
    let count = words-count plus_plus (steps - 5) (generator_of worker seed) in
    let four : length (opening_of worker) ≡ 4 = refl in
    let one : length last ≡ 1 = refl in
    omega (arith, some, all, rest, words, count, four, one)
