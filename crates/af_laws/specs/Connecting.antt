-- Laws of connections: names, listeners, and the embryos that wait in their backlogs.
use Rattle.std.specs.Prelude.{◌≡◌, ◌↔◌, ℕ, ◌+◌, false, List, Some, drop}
use Rattle.af_base.specs.declared.events.Reply.{Reply}
use Rattle.af_base.specs.declared.events.Reply.TheVariants as reply
use Rattle.af_base.specs.declared.events.Step.TheVariants as step
use Rattle.af_base.specs.World.{World, IsLive}
use Rattle.af_base.specs.Places.{backlog_at, table_at, Holds, InBacklog}
use Rattle.af_base.specs.Counts.{charged, inflight, one, refs, total, waiting}
use Rattle.af_base.specs.Names.{named, set_of}
use Rattle.af_base.specs.Refusals.{ino_named, ino_on, is_datagram, socket_on}
use Rattle.af_base.specs.Reached.{Reached}
use Rattle.af_base.specs.Steps.{ProcessStep, first_embryo}
use Rattle.af_base.specs.Unheld.{IsSettled}
use Rattle.af_base.specs.Whole.{IsSound, IsWhole, bound_at}

-- Each count is what it was: of references, of places in flight and in backlogs, and of charges.
pub record SameCounts (old new : World) : Type 0 where
  pub references : (f : ℕ) → refs new f ≡ refs old f
  pub in_flight : (f : ℕ) → inflight new f ≡ inflight old f
  pub in_backlogs : (f : ℕ) → waiting new f ≡ waiting old f
  pub charges : (u : ℕ) → charged new u ≡ charged old u
  pub all : total new ≡ total old

-- The file is live, waits in the backlog of s, is held nowhere else, and is not in flight.
pub record IsEmbryoOf (w : World) (s f : ℕ) : Type 0 where
  pub live : IsLive w f
  pub waits : InBacklog w s f
  pub reference : refs w f ≡ 1
  pub grounded : inflight w f ≡ 0

-- A name finds in each set the socket that has it there, and no other.
abbrev pub NamesFindTheirSockets : Type 0
NamesFindTheirSockets = (w : World) (f set : ℕ) (name : List ℕ) → IsWhole w
    → (named w.files set name ≡ Some f) ↔ (bound_at w f ≡ Some (set, name))

-- A socket that was bound is found by the name that it was given, where sockets of its type find
-- names (bind(2)).
abbrev pub BoundSocketsAreFound : Type 0
BoundSocketsAreFound = (old new : World) (p n : ℕ) (name : List ℕ) → IsSound old
    → ProcessStep old p (step.Bind n name) reply.Ok new
    → named new.files (set_of (socket_on old p n).kind) name ≡ Some (ino_on old p n)

-- A bind changes no count, whatever the answer: a name holds nothing (bind(2)).
abbrev pub BindChangesNoCount : Type 0
BindChangesNoCount = (old new : World) (p n : ℕ) (name : List ℕ) (r : Reply) → IsSettled old
    → ProcessStep old p (step.Bind n name) r new → SameCounts old new

-- A listen changes no count, whatever the answer (listen(2)).
abbrev pub ListenChangesNoCount : Type 0
ListenChangesNoCount = (old new : World) (p n b : ℕ) (r : Reply) → IsSettled old
    → ProcessStep old p (step.Listen n b) r new → SameCounts old new

-- A connect of a socket for connections makes a live embryo; the listener's backlog is its only
-- place (connect(2); the embryo is this project's own).
abbrev pub ConnectMakesAnEmbryo : Type 0
ConnectMakesAnEmbryo = (old new : World) (p n : ℕ) (name : List ℕ) → IsSound old
    → is_datagram (socket_on old p n).kind ≡ false
    → ProcessStep old p (step.Connect n name) reply.Ok new
    → IsEmbryoOf new (ino_named old (socket_on old p n).kind name) old.next_ino

-- A connect of a socket for connections is one reference more to the embryo, and none to any other
-- file; nothing more is in flight.
abbrev pub ConnectCounts : Type 0
ConnectCounts = (old new : World) (p n f : ℕ) (name : List ℕ) → IsSound old
    → is_datagram (socket_on old p n).kind ≡ false
    → ProcessStep old p (step.Connect n name) reply.Ok new
    → (refs new f ≡ refs old f + one f old.next_ino) × (inflight new f ≡ inflight old f)

-- A connect of a socket for connections charges nobody (unix(7), ETOOMANYREFS: what waits in a
-- backlog was not sent).
abbrev pub ConnectChargesNobody : Type 0
ConnectChargesNobody = (old new : World) (p n u : ℕ) (name : List ℕ) → IsSound old
    → is_datagram (socket_on old p n).kind ≡ false
    → ProcessStep old p (step.Connect n name) reply.Ok new
    → (charged new u ≡ charged old u) × (total new ≡ total old)

-- An accept keeps all reference counts, that of the embryo too: a number takes the place of the
-- backlog (accept(2)).
abbrev pub AcceptKeepsReferences : Type 0
AcceptKeepsReferences = (old new : World) (p n m f : ℕ) → IsSound old
    → ProcessStep old p (step.Accept n) (reply.Fd m) new → refs new f ≡ refs old f

-- An accept removes the first embryo from the backlog, and keeps the others in order. Every other
-- file waits in as many backlog places as before.
abbrev pub AcceptTakesTheFirstEmbryo : Type 0
AcceptTakesTheFirstEmbryo = (old new : World) (p n m f : ℕ) → IsSound old
    → ProcessStep old p (step.Accept n) (reply.Fd m) new
    → (backlog_at new (ino_on old p n) ≡ drop 1 (backlog_at old (ino_on old p n)))
    × (waiting new f + one f (first_embryo old p n) ≡ waiting old f)

-- The descriptor that an accept answers refers to the first embryo.
abbrev pub AcceptedNumberIsTheEmbryo : Type 0
AcceptedNumberIsTheEmbryo = (old new : World) (p n m : ℕ) → IsSound old
    → ProcessStep old p (step.Accept n) (reply.Fd m) new
    → table_at new p m ≡ Some (first_embryo old p n)

-- An embryo of a listener that is reached is reached (net/unix/garbage.c).
abbrev pub EmbryosAreReached : Type 0
EmbryosAreReached = (w : World) (s e : ℕ) → Reached w s → InBacklog w s e → Reached w e

-- So is what the embryo can receive, before it is accepted.
abbrev pub WhatEmbryosHoldIsReached : Type 0
WhatEmbryosHoldIsReached =
    (w : World) (s e f : ℕ) → Reached w s → InBacklog w s e → Holds w e f → Reached w f
