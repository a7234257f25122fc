-- How long the answer to an event can be. The definition that names no manual page is of this
-- project's profile (docs/PROFILE.md).
use Rattle.std.specs.Prelude.{◌≤◌, ℕ, length, min}
use Rattle.af_base.specs.declared.events.Event.{Event}
use Rattle.af_base.specs.declared.events.Event.TheVariants as event
use Rattle.af_base.specs.declared.events.Reply.{Reply}
use Rattle.af_base.specs.declared.events.Reply.TheVariants as reply
use Rattle.af_base.specs.declared.events.Step.TheVariants as step
use Rattle.af_base.specs.declared.limits.TheConstants.{MAX_BYTES, SCM_MAX_FD}

-- Room for this many bytes and descriptors.
pub record ReplyRoomView : Type 0 where
  pub bytes : ℕ
  pub fds : ℕ

-- The most bytes that the answer to an event has: a receive's or a peek's own limit, and never more
-- than a message.
abbrev pub most_bytes : Event → ℕ
most_bytes (event.Proc p (step.Recv on max_bytes max_fds)) = min MAX_BYTES max_bytes
most_bytes (event.Proc p (step.Peek on max_bytes max_fds)) = min MAX_BYTES max_bytes
most_bytes other = 0

-- The most descriptors that the answer to an event has: by the same limits.
abbrev pub most_fds : Event → ℕ
most_fds (event.Proc p (step.Recv on max_bytes max_fds)) = min SCM_MAX_FD max_fds
most_fds (event.Proc p (step.Peek on max_bytes max_fds)) = min SCM_MAX_FD max_fds
most_fds other = 0

-- The room is enough for the reply.
abbrev pub HasRoomFor : ReplyRoomView → Reply → Type 0
HasRoomFor room (reply.Got bytes fds trunc ctrunc) =
    (length bytes ≤ room.bytes) × (length fds ≤ room.fds)
HasRoomFor room other = Unit {0}
