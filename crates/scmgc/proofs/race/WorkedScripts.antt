-- Events of a workload, computed by its definitions.
use Rattle.std.specs.Prelude.{◌≡◌, ◌+◌, ◌-◌, ◌^◌, ◌∷◌, [], codes, map}
use Rattle.std.specs.Fmt.{digits}
use Rattle.std.proofs.Common.{refl}
use Rattle.rand_core.specs.Steps.{first_words, stream_of, u32_at, word_bytes}
use Rattle.rand_core.specs.Stream.{fill_bytes}
use Rattle.rand_xoshiro.specs.Jump.{jump_by}
use Rattle.af_base.specs.declared.events.SockType.TheVariants.{Stream, Seqpacket}
use Rattle.af_base.specs.declared.events.Event.TheVariants as event
use Rattle.af_base.specs.declared.events.Step.TheVariants as step
use Rattle.scmgc.specs.Race.Scripts.{generator_of, jumped, script_of}
use Rattle.scmgc.specs.Race.Table.{event_of_word}

-- Words of most rows of the table, with their events of worker 2 of 4.
pub worked-words : map (event_of_word 2 4) (0 ∷ 2 ∷ 1284 ∷ 9 ∷ (2 ^ 40 + 9) ∷ 10 ∷ (2 ^ 40 + 12)
    ∷ (2 ^ 33 + 13) ∷ (2 ^ 42 + 18) ∷ 31 ∷ (2 ^ 64 - 1) ∷ [])
    ≡ map (event.Proc 2) (step.Open ∷ step.Dup 0 ∷ step.Dup2 5 0 ∷ step.Fork ∷ step.Close 4 ∷ step.Pair Stream
    ∷ step.Socket Seqpacket ∷ step.Connect 8 (codes "w3") ∷ step.Send 4 (codes "xxxxx") (4 ∷ 4 ∷ [])
    ∷ step.Recv 0 16 4 ∷ step.Recv 3 16 4 ∷ [])
unfolding digits
worked-words = refl

-- The script of worker 3 of 4 with 13 events from seed 7. Another program drew its words, by the
-- reference code of the generator.
pub worked-script : script_of 3 4 13 7 ≡ map (event.Proc 3) (step.Socket Stream ∷ step.Bind 0 (codes "w3")
    ∷ step.Listen 0 8 ∷ step.Pair Seqpacket ∷ step.Recv 1 16 4 ∷ step.Accept 1 ∷ step.Accept 0 ∷ step.Close 3
    ∷ step.Socket Seqpacket ∷ step.Open ∷ step.Recv 5 16 4 ∷ step.Send 1 (codes "xxx") (10 ∷ []) ∷ step.Exit ∷ [])
unfolding digits first_words generator_of jumped jump_by u32_at fill_bytes stream_of word_bytes
worked-script = refl
