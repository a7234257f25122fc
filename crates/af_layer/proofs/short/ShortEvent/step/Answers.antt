use Rattle.std.proofs.Common.{ap}
use Rattle.af_base.specs.declared.events.Step.TheVariants as step
use Rattle.af_layer.specs.declared.short.ShortReply.TheVariants as answered
use Rattle.af_layer.specs.Short.{event_of}
use Rattle.af_layer.proofs.ShortSteps.{short_step}
use Rattle.af_layer.proofs.short.ShortEvent.step.Goals as goal

pub returns-in-Listen : goal.returns-in-Listen
returns-in-Listen c = short_step _ _ _ _ (step.Listen c.in-Listen.on c.in-Listen.backlog) (ap event_of c.in-Listen.is) c.listen.result (λ _. answered.Ok) _ c.listen.ensures.done c.listen.ensures.refused c.short_reply-in-Listen.ensures.ok c.short_reply-in-Listen.ensures.err

pub returns-in-Open : goal.returns-in-Open
returns-in-Open c = short_step _ _ _ _ step.Open (ap event_of c.in-Open.is) c.open.result answered.Fd _ c.open.ensures.done c.open.ensures.refused c.short_reply-in-Open.ensures.ok c.short_reply-in-Open.ensures.err

pub returns-in-Dup : goal.returns-in-Dup
returns-in-Dup c = short_step _ _ _ _ (step.Dup c.in-Dup.from) (ap event_of c.in-Dup.is) c.dup.result answered.Fd _ c.dup.ensures.done c.dup.ensures.refused c.short_reply-in-Dup.ensures.ok c.short_reply-in-Dup.ensures.err

pub returns-in-Dup2 : goal.returns-in-Dup2
returns-in-Dup2 c = short_step _ _ _ _ (step.Dup2 c.in-Dup2.from c.in-Dup2.to) (ap event_of c.in-Dup2.is) c.dup2.result answered.Fd _ c.dup2.ensures.done c.dup2.ensures.refused c.short_reply-in-Dup2.ensures.ok c.short_reply-in-Dup2.ensures.err

pub returns-in-Close : goal.returns-in-Close
returns-in-Close c = short_step _ _ _ _ (step.Close c.in-Close.fd) (ap event_of c.in-Close.is) c.close.result (λ _. answered.Ok) _ c.close.ensures.done c.close.ensures.refused c.short_reply-in-Close.ensures.ok c.short_reply-in-Close.ensures.err

pub returns-in-Fork : goal.returns-in-Fork
returns-in-Fork c = short_step _ _ _ _ step.Fork (ap event_of c.in-Fork.is) c.fork.result answered.Pid _ c.fork.ensures.done c.fork.ensures.refused c.short_reply-in-Fork.ensures.ok c.short_reply-in-Fork.ensures.err

pub returns-in-Exit : goal.returns-in-Exit
returns-in-Exit c = short_step _ _ _ _ step.Exit (ap event_of c.in-Exit.is) c.exit.result (λ _. answered.Ok) _ c.exit.ensures.done c.exit.ensures.refused c.short_reply-in-Exit.ensures.ok c.short_reply-in-Exit.ensures.err

pub returns-in-Pair : goal.returns-in-Pair
returns-in-Pair c = short_step _ _ _ _ (step.Pair c.in-Pair.kind) (ap event_of c.in-Pair.is) c.pair.result (λ fds. answered.Fds fds.0 fds.1) _ c.pair.ensures.done c.pair.ensures.refused c.short_reply-in-Pair.ensures.ok c.short_reply-in-Pair.ensures.err

pub returns-in-Socket : goal.returns-in-Socket
returns-in-Socket c = short_step _ _ _ _ (step.Socket c.in-Socket.kind) (ap event_of c.in-Socket.is) c.socket.result answered.Fd _ c.socket.ensures.done c.socket.ensures.refused c.short_reply-in-Socket.ensures.ok c.short_reply-in-Socket.ensures.err

pub returns-in-Accept : goal.returns-in-Accept
returns-in-Accept c = short_step _ _ _ _ (step.Accept c.in-Accept.on) (ap event_of c.in-Accept.is) c.accept.result answered.Fd _ c.accept.ensures.done c.accept.ensures.refused c.short_reply-in-Accept.ensures.ok c.short_reply-in-Accept.ensures.err

pub returns-in-Limit : goal.returns-in-Limit
returns-in-Limit c = short_step _ _ _ _ (step.Limit c.in-Limit.nofile) (ap event_of c.in-Limit.is) c.limit.result (λ _. answered.Ok) _ c.limit.ensures.done c.limit.ensures.refused c.short_reply-in-Limit.ensures.ok c.short_reply-in-Limit.ensures.err

pub returns-in-Shutdown : goal.returns-in-Shutdown
returns-in-Shutdown c = short_step _ _ _ _ (step.Shutdown c.in-Shutdown.on c.in-Shutdown.how) (ap event_of c.in-Shutdown.is) c.shutdown.result (λ _. answered.Ok) _ c.shutdown.ensures.done c.shutdown.ensures.refused c.short_reply-in-Shutdown.ensures.ok c.short_reply-in-Shutdown.ensures.err

pub returns-in-Unconnect : goal.returns-in-Unconnect
returns-in-Unconnect c =
    short_step _ _ _ _ (step.Unconnect c.in-Unconnect.on) (ap event_of c.in-Unconnect.is)
    c.unconnect.result (λ _. answered.Ok) _ c.unconnect.ensures.done c.unconnect.ensures.refused
    c.short_reply-in-Unconnect.ensures.ok c.short_reply-in-Unconnect.ensures.err
