-- Rows worked by hand: what the definitions say of a few small queues, and of a few events.
use Rattle.std.specs.Prelude.{◌≡◌, true, false, List, [], ◌∷◌}
use Rattle.std.specs.FinMap as map
use Rattle.af_base.specs.declared.errno.Errno.TheVariants.{EPIPE}
use Rattle.af_base.specs.declared.events.Event.TheVariants as event
use Rattle.af_base.specs.declared.events.Reply.TheVariants as reply
use Rattle.af_base.specs.declared.events.SockType.TheVariants.{Seqpacket}
use Rattle.af_base.specs.declared.events.Step.TheVariants as step
use Rattle.af_base.specs.World.{World, Message, IsLive}
use Rattle.af_base.specs.Places.{InQueue}
use Rattle.af_base.specs.Counts.{charged, inflight, refs}
use Rattle.af_base.specs.Reached.{Garbage, IsGarbageCount, Reached}
use Rattle.af_base.specs.Take.{take_seqpacket, take_stream}
use Rattle.af_base.specs.Steps.{ProcessStep}
use Rattle.af_base.specs.Pass.{Machine}
use Rattle.af_base.specs.Run.{Run, RunEntry, Step, fresh}

-- The bytes `bcd`, with one file.
abbrev pub bcd : Message
bcd = record { bytes = 98 ∷ 99 ∷ 100 ∷ []; attached = 2 ∷ []; user = 1000 }

-- The rest of it after its first byte was taken: the file was taken with that byte.
abbrev pub cd : Message
cd = record { bytes = 99 ∷ 100 ∷ []; attached = []; user = 1000 }

-- The bytes `ee`, with no file.
abbrev pub ee : Message
ee = record { bytes = 101 ∷ 101 ∷ []; attached = []; user = 1000 }

-- The byte `f`, with one file twice.
abbrev pub f : Message
f = record { bytes = 102 ∷ []; attached = 2 ∷ 2 ∷ []; user = 1000 }

-- One byte of a message brings all its files (unix(7), SOCK_STREAM).
abbrev pub OneByteBringsTheFiles : Type 0
OneByteBringsTheFiles = take_stream (bcd ∷ ee ∷ f ∷ []) 1 ≡ record {
  bytes = 98 ∷ [];
  attached = 2 ∷ [];
  trunc = false;
  rest = cd ∷ ee ∷ f ∷ [];
}

-- A stream is read over the borders of messages, up to the end of the first with files.
abbrev pub BordersAreReadOver : Type 0
BordersAreReadOver = take_stream (cd ∷ ee ∷ f ∷ []) 20 ≡ record {
  bytes = 99 ∷ 100 ∷ 101 ∷ 101 ∷ 102 ∷ [];
  attached = 2 ∷ 2 ∷ [];
  trunc = false;
  rest = [];
}

-- It is not read past that end, though more was asked for.
abbrev pub FilesAreABarrier : Type 0
FilesAreABarrier = take_stream (bcd ∷ ee ∷ f ∷ []) 20 ≡ record {
  bytes = 98 ∷ 99 ∷ 100 ∷ [];
  attached = 2 ∷ [];
  trunc = false;
  rest = ee ∷ f ∷ [];
}

-- Bytes before the files come without them.
abbrev pub BytesBeforeComeAlone : Type 0
BytesBeforeComeAlone = take_stream (ee ∷ f ∷ []) 2 ≡ record {
  bytes = 101 ∷ 101 ∷ [];
  attached = [];
  trunc = false;
  rest = f ∷ [];
}

-- A packet is cut to what was asked for, says so, and brings all its files (recvmsg(2), MSG_TRUNC).
abbrev pub PacketIsCut : Type 0
PacketIsCut = take_seqpacket (bcd ∷ ee ∷ []) 2 ≡ record {
  bytes = 98 ∷ 99 ∷ [];
  attached = 2 ∷ [];
  trunc = true;
  rest = ee ∷ [];
}

-- The smallest cycle: a process makes a pair of sockets, sends one of them through the other, so to
-- itself, and closes it.
abbrev pub cycle_events : List RunEntry
cycle_events =
    (event.Spawn 1000 16 false, reply.Pid 1)
    ∷ (event.Proc 1 (step.Pair Seqpacket), reply.Fds 0 1)
    ∷ (event.Proc 1 (step.Send 1 (104 ∷ 105 ∷ []) (0 ∷ [])), reply.Sent 2)
    ∷ (event.Proc 1 (step.Close 0), reply.Ok)
    ∷ []

-- Both sockets are live. The first is held by its own queue alone: it is garbage, the only one, and
-- its user is charged for it. The second is reached.
pub record IsSmallestCycle (w : World) : Type 0 where
  pub live : map.len w.files ≡ 2
  pub in_own_queue : InQueue w 1 1
  pub one_place : refs w 1 ≡ 1
  pub in_flight : inflight w 1 ≡ 1
  pub charge : charged w 1000 ≡ 1
  pub garbage : Garbage w 1
  pub counted : IsGarbageCount w 1
  pub reached : Reached w 2

-- The smallest cycle: four events lead to a socket in its own queue, garbage and charged for.
abbrev pub SmallestCycle : Type 0
SmallestCycle = (m : Machine) × Run fresh cycle_events m × IsSmallestCycle m.world

-- One socket is left, which has hung up, and nothing is garbage or charged.
pub record IsCollected (w : World) : Type 0 where
  pub live : map.len w.files ≡ 1
  pub gone : ¬ (IsLive w 1)
  pub charge : charged w 1000 ≡ 0
  pub counted : IsGarbageCount w 0
  pub hung_up : ProcessStep w 1 (step.Send 1 (120 ∷ []) []) (reply.Refused EPIPE) w

-- A whole pass after those of the smallest cycle counts one, frees it, and ends its charge.
abbrev pub CycleIsCollected : Type 0
CycleIsCollected = (m : Machine) × (after : Machine) × Run fresh cycle_events m
    × Step m event.Pass (reply.Done 1 1) after × IsCollected after.world
