-- The script of a worker. This project's profile.
use Rattle.std.specs.Prelude.{◌≡◌, ℕ, zero, suc, ◌-◌, ◌%◌, ◌==◌, List, [], ◌∷◌, ◌++◌, map, if◌then◌else◌}
use Rattle.af_base.specs.declared.events.SockType.{SockType}
use Rattle.af_base.specs.declared.events.SockType.TheVariants.{Stream, Seqpacket}
use Rattle.af_base.specs.declared.events.Step.{Step}
use Rattle.af_base.specs.declared.events.Step.TheVariants as step
use Rattle.af_base.specs.declared.events.Event.{Event}
use Rattle.af_base.specs.declared.events.Event.TheVariants as event
use Rattle.rand_core.specs.Steps.{first_words}
use Rattle.rand_xoshiro.specs.SplitMix64.{splitmix_seed}
use Rattle.rand_xoshiro.specs.Xoshiro256.{jump, jump_polynomial, of_seed, plus_plus}
use Rattle.scmgc.specs.Race.Table.{event_of_word, listener_name}

-- The type of a worker's listener: a stream where the worker's number is odd.
abbrev pub listener_type : ℕ → SockType
listener_type worker = if worker % 2 == 1 then Stream else Seqpacket

-- The first events of a worker: it makes a listener at 0 with a backlog of 8, and a pair.
abbrev pub opening_steps : ℕ → List Step
opening_steps worker =
    step.Socket (listener_type worker)
    ∷ step.Bind 0 (listener_name worker)
    ∷ step.Listen 0 8
    ∷ step.Pair Seqpacket ∷ []

-- The events that each script begins with.
abbrev pub opening_of : ℕ → List Event
opening_of worker = map (event.Proc worker) (opening_steps worker)

-- The event is a step of this process.
abbrev pub IsStepOf : ℕ → Event → Type 0
IsStepOf process (event.Proc p step) = p ≡ process
IsStepOf process _ = ⊥

-- A generator's state after n jumps (Blackman and Vigna's `jump` of xoshiro256).
unfoldable pub jumped : ℕ → List ℕ → List ℕ
jumped zero state = state
jumped (suc n) state = jump jump_polynomial (jumped n state)

-- The state of a worker's generator: that of the seed, jumped as often as the worker's number.
unfoldable pub generator_of : ℕ → ℕ → List ℕ
generator_of worker seed = jumped worker (of_seed (splitmix_seed 32 seed))

-- The next words of a worker's generator, xoshiro256++.
abbrev pub drawn_words : ℕ → ℕ → ℕ → List ℕ
drawn_words worker seed count = first_words plus_plus count (generator_of worker seed)

-- The script of a worker: the opening, an event for each word, and the exit.
abbrev pub script_of : ℕ → ℕ → ℕ → ℕ → List Event
script_of worker workers steps seed =
    opening_of worker
    ++ map (event_of_word worker workers) (drawn_words worker seed (steps - 5))
    ++ event.Proc worker step.Exit ∷ []
