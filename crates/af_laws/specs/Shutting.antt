-- Laws of a shutdown: what it closes, what it leaves as it was, and what a send and a receive find
-- after it. Definitions that name no manual page are of this project's profile (docs/PROFILE.md).
use Rattle.std.specs.Prelude.{◌≡◌, ◌<◌, ℕ, true, false, List, [], length, Option, Some, None, option_map}
use Rattle.af_base.specs.declared.errno.Errno.TheVariants.{EPIPE}
use Rattle.af_base.specs.declared.events.Ends.{Ends}
use Rattle.af_base.specs.declared.events.Event.{Event}
use Rattle.af_base.specs.declared.events.Reply.{Reply}
use Rattle.af_base.specs.declared.events.Reply.TheVariants as reply
use Rattle.af_base.specs.declared.events.Shutdown.{Shutdown}
use Rattle.af_base.specs.declared.events.Step.TheVariants as step
use Rattle.af_base.specs.declared.limits.TheConstants.{MAX_BYTES}
use Rattle.af_base.specs.World.{Socket, World, is_live}
use Rattle.af_base.specs.Changes.{closed}
use Rattle.af_base.specs.Counts.{charged, total}
use Rattle.af_base.specs.Places.{backlog_at, queue_at, table_at}
use Rattle.af_base.specs.Names.{is_between}
use Rattle.af_base.specs.Pass.{Machine}
use Rattle.af_base.specs.Refusals.{connected_to, first_fit, is_connected, is_datagram, is_deaf, on_charge, on_parts, peer_of, process_at, refusal, socket_at, socket_on}
use Rattle.af_base.specs.Run.{Step as MachineStep}
use Rattle.af_base.specs.Steps.{ProcessStep, answer, closes_input, closes_output, taken_on}
use Rattle.af_base.specs.Unheld.{IsSettled}
use Rattle.af_base.specs.Whole.{IsWhole, name_at, state_at}
use Rattle.af_laws.specs.Connecting.{SameCounts}

-- No table is another, the same files are live, and each has the queue, backlog, name and state
-- that it had. So all counts are what they were.
pub record SamePlaces (old new : World) : Type 0 where
  pub tables : new.processes ≡ old.processes
  pub live : (f : ℕ) → is_live new f ≡ is_live old f
  pub queues : (f : ℕ) → queue_at new f ≡ queue_at old f
  pub backlogs : (f : ℕ) → backlog_at new f ≡ backlog_at old f
  pub names : (f : ℕ) → name_at new f ≡ name_at old f
  pub states : (f : ℕ) → state_at new f ≡ state_at old f
  pub counts : SameCounts old new

-- A shutdown changes no place, no name and no state, whatever the answer (shutdown(2)).
abbrev pub ShutdownChangesNoPlace : Type 0
ShutdownChangesNoPlace = (old new : World) (p n : ℕ) (how : Shutdown) (r : Reply) → IsSettled old
    → ProcessStep old p (step.Shutdown n how) r new → SamePlaces old new

-- A socket at an open descriptor can always be shut: there is no other answer, also where its ends
-- are closed already.
abbrev pub ShutdownNeverFails : Type 0
ShutdownNeverFails = (old new : World) (p n f : ℕ) (how : Shutdown) (s : Socket) (r : Reply)
    → table_at old p n ≡ Some f → socket_at old f ≡ Some s
    → ProcessStep old p (step.Shutdown n how) r new → r ≡ reply.Ok

-- Which ends of the file f are closed, if it is a socket.
abbrev pub ends_at : World → ℕ → Option Ends
ends_at w f = option_map (λ s. s.ends) (socket_at w f)

-- A shutdown of the socket f, whose peer is q, or 0 where there is none, closes these ends of the
-- socket, those of the peer that they meet, and none of another.
pub record ClosesEnds (old new : World) (f q : ℕ) (how : Shutdown) : Type 0 where
  pub own : ends_at new f
      ≡ option_map (closed (closes_input how) (closes_output how)) (ends_at old f)
  pub met : ends_at new q
      ≡ option_map (closed (closes_output how) (closes_input how)) (ends_at old q)
  pub others : (g : ℕ) → ¬ (g ≡ f) → ¬ (g ≡ q) → ends_at new g ≡ ends_at old g

-- A shutdown that answers Ok closes the ends of the socket and of its peer, which is another
-- (shutdown(2)).
abbrev pub ShutdownClosesEnds : Type 0
ShutdownClosesEnds = (old new : World) (p n f : ℕ) (how : Shutdown) (s : Socket) → IsSettled old
    → table_at old p n ≡ Some f → socket_at old f ≡ Some s → ¬ (connected_to s.state ≡ f)
    → ProcessStep old p (step.Shutdown n how) reply.Ok new
    → ClosesEnds old new f (connected_to s.state) how

-- A second shutdown of the same kind changes nothing, whatever both are answered.
abbrev pub SecondShutdownChangesNothing : Type 0
SecondShutdownChangesNothing =
    (old mid new : World) (p n : ℕ) (how : Shutdown) (first second : Reply) → IsSettled old
    → ProcessStep old p (step.Shutdown n how) first mid
    → ProcessStep mid p (step.Shutdown n how) second new → new ≡ mid

-- The ends that are closed in the first are closed in the second.
pub record StayShut (old new : Ends) : Type 0 where
  pub input : old.no_input ≡ true → new.no_input ≡ true
  pub output : old.no_output ≡ true → new.no_output ≡ true

-- No event opens a closed end of a socket, whatever the answer.
abbrev pub ShutEndsStayShut : Type 0
ShutEndsStayShut = (old new : Machine) (e : Event) (r : Reply) → IsWhole old.world
    → MachineStep old e r new → (f : ℕ) (x y : Socket) → socket_at old.world f ≡ Some x
    → socket_at new.world f ≡ Some y → StayShut x.ends y.ends

-- A receive at descriptor n of process p takes and answers in both worlds the same, and where
-- something waits there is refused alike.
pub record ReceivesAlike (old new : World) (p n max_bytes max_fds : ℕ) : Type 0 where
  pub taken : taken_on new p n max_bytes ≡ taken_on old p n max_bytes
  pub answered : answer new p (step.Recv n max_bytes max_fds)
      ≡ answer old p (step.Recv n max_bytes max_fds)
  pub refused : 0 < length (socket_on old p n).queue
      → refusal new p (step.Recv n max_bytes max_fds)
      ≡ refusal old p (step.Recv n max_bytes max_fds)

-- After a shutdown, of any kind and by any process, a message that waits anywhere is received as it
-- would have been before it (shutdown(2)).
abbrev pub WhatWaitsIsReceivedAfterShutdown : Type 0
WhatWaitsIsReceivedAfterShutdown =
    (old new : World) (p n : ℕ) (how : Shutdown) (r : Reply) → IsSettled old
    → ProcessStep old p (step.Shutdown n how) r new
    → (q m max_bytes max_fds : ℕ) → ReceivesAlike old new q m max_bytes max_fds

-- A valid receive from a connected socket with a closed input, where nothing waits, answers End
-- (recvmsg(2)); a datagram socket is none.
abbrev pub ShutInputEnds : Type 0
ShutInputEnds = (w : World) (p n f max_bytes max_fds : ℕ) (s : Socket) → table_at w p n ≡ Some f
    → socket_at w f ≡ Some s → is_datagram s.kind ≡ false → is_connected s.state ≡ true
    → s.queue ≡ [] → s.ends.no_input ≡ true → is_between 1 MAX_BYTES max_bytes ≡ true
    → (refusal w p (step.Recv n max_bytes max_fds) ≡ None)
    × (answer w p (step.Recv n max_bytes max_fds) ≡ reply.End)

-- A send of process p at n, which is the socket s, is refused by EPIPE: if the output is closed,
-- and if the input of the peer is, where it is not refused for its charge.
pub record NothingIsSent (w : World) (p n : ℕ) (bytes attach : List ℕ) (s : Socket) : Type 0 where
  pub output : s.ends.no_output ≡ true → refusal w p (step.Send n bytes attach) ≡ Some EPIPE
  pub input : is_deaf w (peer_of s.state) ≡ true
      → (let q = process_at w p in
      first_fit (on_charge (charged w q.user) (total w) q.limit q.privileged (length attach)))
      ≡ None
      → refusal w p (step.Send n bytes attach) ≡ Some EPIPE

-- In a whole world nothing is sent through a closed end by a send at a connected socket that is
-- valid in its parts (sendmsg(2), EPIPE).
abbrev pub NothingIsSentThroughAClosedEnd : Type 0
NothingIsSentThroughAClosedEnd = (w : World) (p n f : ℕ) (bytes attach : List ℕ) (s : Socket)
    → IsWhole w → table_at w p n ≡ Some f → socket_at w f ≡ Some s → is_connected s.state ≡ true
    → first_fit (on_parts (table_at w p) bytes attach) ≡ None
    → NothingIsSent w p n bytes attach s
