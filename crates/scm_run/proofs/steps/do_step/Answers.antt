use Rattle.af_base.specs.declared.events.Reply.TheVariants as reply
use Rattle.af_base.specs.declared.events.Step.TheVariants as step
use Rattle.scm_run.proofs.StepLemmas.{ended_form, step_done}
use Rattle.scm_run.proofs.steps.do_step.Goals as goal

pub returns-else-not-is_end : goal.returns-else-not-is_end
returns-else-not-is_end c = step_done _ _ _ _ _ c.args.rest.now _ _ _ c.open.result reply.Fd c.in-Open.is (ended_form step.Open _ c.if-not-is_end.ensures) c.open.ensures.done c.open.ensures.refused c.push_fd.ensures

pub returns-in-Some : goal.returns-in-Some
returns-in-Some c = step_done _ _ _ _ _ c.args.rest.now _ _ _ c.dup-in-Dup.result reply.Fd c.in-Dup.is c.in-Some.ensures c.dup-in-Dup.ensures.done c.dup-in-Dup.ensures.refused c.push_fd-in-Dup.ensures

pub returns-in-Some-dup2 : goal.returns-in-Some-dup2
returns-in-Some-dup2 c = step_done _ _ _ _ _ c.args.rest.now _ _ _ c.dup2-in-Dup2.result reply.Fd c.in-Dup2.is c.in-Some-dup2.ensures c.dup2-in-Dup2.ensures.done c.dup2-in-Dup2.ensures.refused c.push_fd-in-Dup2.ensures

pub returns-in-Some-close : goal.returns-in-Some-close
returns-in-Some-close c = step_done _ _ _ _ _ c.args.rest.now _ _ _ c.close-in-Close.result (λ _. reply.Ok) c.in-Close.is c.in-Some-close.ensures c.close-in-Close.ensures.done c.close-in-Close.ensures.refused c.push_done.ensures

pub returns-else-not-is_end-2 : goal.returns-else-not-is_end-2
returns-else-not-is_end-2 c = step_done _ _ _ _ _ c.args.rest.now _ _ _ c.fork.result reply.Pid c.in-Fork.is (ended_form step.Fork _ c.if-not-is_end-2.ensures) c.fork.ensures.done c.fork.ensures.refused c.push_pid.ensures

pub returns-else-not-is_end-3 : goal.returns-else-not-is_end-3
returns-else-not-is_end-3 c = step_done _ _ _ _ _ c.args.rest.now _ _ _ c.exit.result (λ _. reply.Ok) c.in-Exit.is (ended_form step.Exit _ c.if-not-is_end-3.ensures) c.exit.ensures.done c.exit.ensures.refused c.push_done-in-Exit.ensures

pub returns-in-Some-pair : goal.returns-in-Some-pair
returns-in-Some-pair c = step_done _ _ _ _ _ c.args.rest.now _ _ _ c.pair-in-Pair.result (λ fds. reply.Fds fds.0 fds.1) c.in-Pair.is c.in-Some-pair.ensures c.pair-in-Pair.ensures.done c.pair-in-Pair.ensures.refused c.push_fds.ensures

pub returns-in-Some-socket : goal.returns-in-Some-socket
returns-in-Some-socket c = step_done _ _ _ _ _ c.args.rest.now _ _ _ c.socket-in-Socket.result reply.Fd c.in-Socket.is c.in-Some-socket.ensures c.socket-in-Socket.ensures.done c.socket-in-Socket.ensures.refused c.push_fd-in-Socket.ensures

pub returns-in-Some-bind : goal.returns-in-Some-bind
returns-in-Some-bind c = step_done _ _ _ _ _ c.args.rest.now _ _ _ c.bind-in-Bind.result (λ _. reply.Ok) c.in-Bind.is c.in-Some-bind.ensures c.bind-in-Bind.ensures.done c.bind-in-Bind.ensures.refused c.push_done-in-Bind.ensures

pub returns-in-Some-listen : goal.returns-in-Some-listen
returns-in-Some-listen c = step_done _ _ _ _ _ c.args.rest.now _ _ _ c.listen-in-Listen.result (λ _. reply.Ok) c.in-Listen.is c.in-Some-listen.ensures c.listen-in-Listen.ensures.done c.listen-in-Listen.ensures.refused c.push_done-in-Listen.ensures

pub returns-in-Some-connect : goal.returns-in-Some-connect
returns-in-Some-connect c = step_done _ _ _ _ _ c.args.rest.now _ _ _ c.connect-in-Connect.result (λ _. reply.Ok) c.in-Connect.is c.in-Some-connect.ensures c.connect-in-Connect.ensures.done c.connect-in-Connect.ensures.refused c.push_done-in-Connect.ensures

pub returns-in-Some-accept : goal.returns-in-Some-accept
returns-in-Some-accept c = step_done _ _ _ _ _ c.args.rest.now _ _ _ c.accept-in-Accept.result reply.Fd c.in-Accept.is c.in-Some-accept.ensures c.accept-in-Accept.ensures.done c.accept-in-Accept.ensures.refused c.push_fd-in-Accept.ensures

pub returns-in-Some-limit : goal.returns-in-Some-limit
returns-in-Some-limit c = step_done _ _ _ _ _ c.args.rest.now _ _ _ c.limit-in-Limit.result (λ _. reply.Ok) c.in-Limit.is c.in-Some-limit.ensures c.limit-in-Limit.ensures.done c.limit-in-Limit.ensures.refused c.push_done-in-Limit.ensures

pub returns-in-Some-shutdown : goal.returns-in-Some-shutdown
returns-in-Some-shutdown c = step_done _ _ _ _ _ c.args.rest.now _ _ _ c.shutdown-in-Shutdown.result (λ _. reply.Ok) c.in-Shutdown.is c.in-Some-shutdown.ensures c.shutdown-in-Shutdown.ensures.done c.shutdown-in-Shutdown.ensures.refused c.push_done-in-Shutdown.ensures

pub returns-in-Some-unconnect : goal.returns-in-Some-unconnect
returns-in-Some-unconnect c =
    step_done _ _ _ _ _ c.args.rest.now _ _ _ c.unconnect-in-Unconnect.result (λ _. reply.Ok)
    c.in-Unconnect.is c.in-Some-unconnect.ensures c.unconnect-in-Unconnect.ensures.done
    c.unconnect-in-Unconnect.ensures.refused c.push_done-in-Unconnect.ensures
