-- Events and replies in few words, and the entries that are kept so. The definitions are this
-- project's own.
use Rattle.std.specs.Prelude.{Bool, true, false}
use Rattle.af_base.specs.declared.events.Event.{Event}
use Rattle.af_base.specs.declared.events.Event.TheVariants as event
use Rattle.af_base.specs.declared.events.Reply.{Reply}
use Rattle.af_base.specs.declared.events.Reply.TheVariants as reply
use Rattle.af_base.specs.declared.events.Step.TheVariants as step
use Rattle.af_layer.specs.declared.entry.KeptAs.{KeptAs}
use Rattle.af_layer.specs.declared.entry.KeptAs.TheVariants as kept
use Rattle.af_layer.specs.declared.short.ShortEvent.{ShortEvent}
use Rattle.af_layer.specs.declared.short.ShortEvent.TheVariants as asked
use Rattle.af_layer.specs.declared.short.ShortReply.{ShortReply}
use Rattle.af_layer.specs.declared.short.ShortReply.TheVariants as answered
use Rattle.af_layer.specs.declared.short.TurnReply.{TurnReply}
use Rattle.af_layer.specs.declared.short.TurnReply.TheVariants as turned
use Rattle.af_layer.specs.Log.{Entry}

-- The event that few words tell.
abbrev pub event_of : ShortEvent → Event
event_of (asked.Spawn privileged uid nofile) = event.Spawn uid nofile privileged
event_of (asked.Open pid) = event.Proc pid step.Open
event_of (asked.Dup pid from) = event.Proc pid (step.Dup from)
event_of (asked.Dup2 pid from to) = event.Proc pid (step.Dup2 from to)
event_of (asked.Close pid fd) = event.Proc pid (step.Close fd)
event_of (asked.Fork pid) = event.Proc pid step.Fork
event_of (asked.Exit pid) = event.Proc pid step.Exit
event_of (asked.Pair kind pid) = event.Proc pid (step.Pair kind)
event_of (asked.Socket kind pid) = event.Proc pid (step.Socket kind)
event_of (asked.Listen pid on backlog) = event.Proc pid (step.Listen on backlog)
event_of (asked.Accept pid on) = event.Proc pid (step.Accept on)
event_of (asked.Limit pid nofile) = event.Proc pid (step.Limit nofile)
event_of (asked.Shutdown how pid on) = event.Proc pid (step.Shutdown on how)
event_of (asked.Unconnect pid on) = event.Proc pid (step.Unconnect on)

-- Few words tell the event: it is of a process, and neither it nor its reply has bytes.
abbrev pub is_short : Event → Bool
is_short (event.Spawn uid nofile privileged) = true
is_short (event.Proc pid (step.Bind on name)) = false
is_short (event.Proc pid (step.Connect on name)) = false
is_short (event.Proc pid (step.Send on bytes attach)) = false
is_short (event.Proc pid (step.Recv on max_bytes max_fds)) = false
is_short (event.Proc pid (step.Peek on max_bytes max_fds)) = false
is_short (event.Proc pid other) = true
is_short other = false

-- The reply that few words tell.
abbrev pub reply_of : ShortReply → Reply
reply_of (answered.Pid pid) = reply.Pid pid
reply_of (answered.Fd fd) = reply.Fd fd
reply_of (answered.Fds first second) = reply.Fds first second
reply_of answered.Ok = reply.Ok
reply_of (answered.Refused error) = reply.Refused error

-- The reply of the collector that few words tell.
abbrev pub turn_reply_of : TurnReply → Reply
turn_reply_of (turned.Started pass) = reply.Started pass
turn_reply_of turned.Working = reply.Working
turn_reply_of (turned.Done pass reclaimed) = reply.Done pass reclaimed
turn_reply_of (turned.Refused error) = reply.Refused error

-- The entry that is kept so.
abbrev pub entry_of : KeptAs → Entry
entry_of (kept.Step seat e r) = record { seat = seat; event = event_of e; reply = reply_of r }
entry_of (kept.Begin seat r) = record { seat = seat; event = event.Begin; reply = turn_reply_of r }
entry_of (kept.Slice seat budget r) =
    record { seat = seat; event = event.Slice budget; reply = turn_reply_of r }
entry_of (kept.Pass seat r) = record { seat = seat; event = event.Pass; reply = turn_reply_of r }
entry_of (kept.Whole seat both) = record { seat = seat; event = both.value.0; reply = both.value.1 }
