-- The scripts and the works of a race: their number, and their positions.
use Rattle.std.proofs.Common.{◌≡◌, ◌<◌, ◌+◌, ◌++◌, ℕ, zero, suc, List, [], ◌∷◌, add-one, ap, arith, inl, inr, length, length-append, map, refl, sym, subst, ◌∙◌, slice_index_or, append-nil, append_assoc, Global}
use Rattle.std.specs.Prelude.{Some, Vec, slice_get}
use Rattle.std.proofs.lemmas.Bool.{cases_eq}
use Rattle.std.proofs.lemmas.Simd.{map-map}
use Rattle.std.proofs.lemmas.List.{get_or-map, get_or_append_left, get_or_push, length-map}
use Rattle.std.proofs.lemmas.Option.{slice_get-get_or}
use Rattle.af_base.specs.declared.events.Event.{Event}
use Rattle.af_base.specs.declared.events.Reply.TheVariants as reply
use Rattle.af_layer.specs.declared.workers.Turns.{Turns}
use Rattle.af_layer.specs.Drive.{Collects, Script, Work, works_of}
use Rattle.af_layer.specs.Log.{Pair}
use Rattle.scmgc.specs.Race.Scripts.{script_of}
use Rattle.scmgc.specs.Race.{scripts_of, spawn_of, spawned, works_of_race}

-- There are as many scripts as workers.
pub scripts-count : (n workers steps seed : ℕ) → length (scripts_of n workers steps seed) ≡ n
unfolding scripts_of
scripts-count zero workers steps seed = refl
scripts-count (suc n) workers steps seed =
    let all = length-append (scripts_of n workers steps seed) (script_of (suc n) workers steps seed ∷ []) in
    let before = scripts-count n workers steps seed in
    omega (arith, all, before)

-- The script of each worker has its place.
pub script-at : (n workers steps seed i : ℕ) → i < n → slice_index_or (scripts_of n workers steps seed) i [] ≡ script_of (i + 1) workers steps seed
unfolding scripts_of
script-at zero workers steps seed i lt = absurd (omega (arith, lt))
script-at (suc n) workers steps seed i lt =
    let before = scripts_of n workers steps seed in
    let this = script_of (suc n) workers steps seed in
    let count = scripts-count n workers steps seed in
    elim (cases_eq i n) [
      | inl e ↦ get_or_push before this [] i (count ∙ sym e) ∙ ap (λ k. script_of k workers steps seed) (sym (add-one i ∙ ap suc e))
      | inr e ↦ get_or_append_left before (this ∷ []) [] i (omega (arith, lt, e, count)) ∙ script-at n workers steps seed i (omega (arith, lt, e))
    ]

-- No worker has a script before the first.
pub scripts-none : (workers steps seed : ℕ) → [] ≡ scripts_of 0 workers steps seed
unfolding scripts_of
scripts-none workers steps seed = refl

-- The script of one more worker is behind the others.
pub scripts-more : (n workers steps seed : ℕ) → scripts_of n workers steps seed ++ script_of (n + 1) workers steps seed ∷ [] ≡ scripts_of (n + 1) workers steps seed
unfolding scripts_of
scripts-more n workers steps seed = subst (λ k. scripts_of n workers steps seed ++ script_of k workers steps seed ∷ [] ≡ scripts_of k workers steps seed) (sym (add-one n)) refl

-- No process was started before the first.
pub spawned-none : (old : List Pair) → old ≡ old ++ spawned 0
unfolding spawned
spawned-none old = sym (append-nil old)

-- The process of one worker more is started behind the others.
pub spawned-more : (n : ℕ) (old mid new : List Pair) → mid ≡ old ++ spawned n → new ≡ mid ++ (spawn_of (n + 1), reply.Pid (n + 1)) ∷ [] → new ≡ old ++ spawned (n + 1)
unfolding spawned
spawned-more n old mid new was is =
    is ∙ ap (λ l. l ++ (spawn_of (n + 1), reply.Pid (n + 1)) ∷ []) was ∙ append_assoc old (spawned n) ((spawn_of (n + 1), reply.Pid (n + 1)) ∷ [])
    ∙ ap (λ l. old ++ l) (subst (λ k. spawned n ++ (spawn_of k, reply.Pid k) ∷ [] ≡ spawned k) (sym (add-one n)) refl)

-- The works of a drive are its scripts', and the collector's.
pub scripts-work : (made : List (Vec Event Global)) (turns : Turns) → works_of made (Some turns) ≡ map Script (map (λ v. v.items) made) ++ Collects turns.turns turns.budget ∷ []
scripts-work made turns = ap (λ l. l ++ Collects turns.turns turns.budget ∷ []) (sym (map-map Script (λ (v : Vec Event Global). v.items) made))

-- The works of a drive are those of the race.
pub works-are : (made : List (Vec Event Global)) (workers steps seed budget : ℕ) → map (λ v. v.items) made ≡ scripts_of workers workers steps seed
    → works_of made (Some (record { turns = steps; budget = budget })) ≡ works_of_race workers steps seed budget
works-are made workers steps seed budget is = scripts-work made (record { turns = steps; budget = budget }) ∙ ap (λ scripts. map Script scripts ++ Collects steps budget ∷ []) is

-- The empty work.
nothing : Work
nothing = Collects 0 0

-- The work of a script is at its place, before the collector's.
pub script-work : (scripts : List (List Event)) (turns budget i : ℕ) → i < length scripts → slice_get (map Script scripts ++ Collects turns budget ∷ []) i ≡ Some (Script (slice_index_or scripts i []))
script-work scripts turns budget i lt =
    let mapped = length-map scripts Script in
    let all = length-append (map Script scripts) (Collects turns budget ∷ []) in
    slice_get-get_or (map Script scripts ++ Collects turns budget ∷ []) i nothing (omega (arith, lt, all, mapped))
    ∙ ap Some (get_or_append_left (map Script scripts) (Collects turns budget ∷ []) nothing i (omega (arith, lt, mapped)) ∙ get_or-map Script scripts i [] nothing lt)

-- The collector's work is behind them.
pub collector-work : (scripts : List (List Event)) (turns budget : ℕ) → slice_get (map Script scripts ++ Collects turns budget ∷ []) (length scripts) ≡ Some (Collects turns budget)
collector-work scripts turns budget =
    let mapped = length-map scripts Script in
    let all = length-append (map Script scripts) (Collects turns budget ∷ []) in
    slice_get-get_or (map Script scripts ++ Collects turns budget ∷ []) (length scripts) nothing (omega (arith, all, mapped))
    ∙ ap Some (get_or_push (map Script scripts) (Collects turns budget) nothing (length scripts) mapped)
