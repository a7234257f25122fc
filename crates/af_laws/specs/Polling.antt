-- Laws of what files are ready for.
use Rattle.std.specs.Prelude.{◌≡◌, ℕ, Bool, false, Some}
use Rattle.af_base.specs.declared.events.Reply.{Reply}
use Rattle.af_base.specs.declared.events.State.TheVariants as state
use Rattle.af_base.specs.declared.events.Step.{Step}
use Rattle.af_base.specs.World.{IsLive, Socket, World}
use Rattle.af_base.specs.Pass.{Purges}
use Rattle.af_base.specs.Steps.{ProcessStep}
use Rattle.af_base.specs.Places.{table_at}
use Rattle.af_base.specs.Ready.{IsLeftAlone, found, ready, touched}
use Rattle.af_base.specs.Refusals.{socket_at}
use Rattle.af_base.specs.Whole.{IsSound, IsWhole, state_at}

-- In a sound world a socket's readiness is what steps find, of each process that has it at a
-- number. It tells whether a receive of a byte, an accept and a send of a byte are refused, or, of a
-- datagram socket, a send would wait, and whether the peer was freed or both ends are closed
-- (poll(2)).
abbrev pub ReadyIsWhatStepsFind : Type 0
ReadyIsWhatStepsFind = (w : World) (p n f : ℕ) (s : Socket) → IsSound w → table_at w p n ≡ Some f
    → socket_at w f ≡ Some s → ready w f ≡ Some (found w p n)

-- A step leaves what a file is ready for, where it touches neither the file nor its peer or target,
-- and that stays, if it was there, whatever the answer (poll(2)).
abbrev pub StepLeavesReady : Type 0
StepLeavesReady = (old new : World) (p : ℕ) (s : Step) (r : Reply) → IsWhole old
    → ProcessStep old p s r new → (f : ℕ) → IsLive old f → IsLive new f
    → IsLeftAlone old new (touched old p s) f → ready new f ≡ ready old f

-- A slice or a pass that empties some files keeps the readiness of each other file whose peer or
-- target is not among them and stays, if it was there (poll(2)).
abbrev pub PurgeLeavesReady : Type 0
PurgeLeavesReady =
    (old new : World) (test : ℕ → Bool) → IsWhole old → Purges test old new → (f : ℕ) → IsLive old f
    → IsLive new f → test f ≡ false
    → ((q : ℕ) → state_at old f ≡ state.Connected q → IsLive new q × (test q ≡ false))
    → ((q : ℕ) → state_at old f ≡ state.Sends q → (IsLive old q → IsLive new q) × (test q ≡ false))
    → ready new f ≡ ready old f
