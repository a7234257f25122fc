use Rattle.std.proofs.Common.{rules, ◌≡◌, ◌<◌, ◌+◌, [], Err, length, drop_of_length-le}
use Rattle.scm_run.specs.Line.{LineDone, LineStops}
use Rattle.scm_run.specs.declared.fault.RunFault.TheVariants.{Memory}
use Rattle.scm_run.proofs.RunLemmas.{finish_empty, finish_ok, finish_still, finish_stops}
use Rattle.scm_run.proofs.run.ScriptRun.do_last_line.Goals as goal

pub returns-then-is_empty-clause-ok : goal.returns-then-is_empty-clause-ok
returns-then-is_empty-clause-ok g c = λ taken before ran.
    let none : c.args.self.now.pending ≡ [] = drop_of_length-le c.args.self.now.pending {i = 0} (search rules) in
    finish_empty taken before _ c.args.self.now ran none

pub returns-in_err-number-clause-err : goal.returns-in_err-number-clause-err
returns-in_err-number-clause-err g c =
    let memory : c.from_residual.result ≡ Err Memory = search rules in
    rw memory (λ taken before ran. finish_still taken before _ c.args.self.now ran)

pub returns-in_err-events-clause-err : goal.returns-in_err-events-clause-err
returns-in_err-events-clause-err g c =
    let st = c.args.self.now in
    let f = c.in_err-events.field-0.0 in
    let fault : c.from_residual-in_err-events.result ≡ Err f = search rules in
    let number : c.in_ok-number.number ≡ st.done + 1 = search rules in
    let some : 0 < length st.pending = search rules in
    let stops : LineStops st.point.version st.pending (st.done + 1) st.gathered c.do_line.new.text.items (g.W.Write.contents c.args.writer.now.inner) (g.W.Write.contents c.do_line.new.writer.inner) f = rw (← number) (search rules) in
    rw fault (λ taken before ran. finish_stops taken before _ _ st _ f ran some stops)

pub returns-clause-ok : goal.returns-clause-ok
returns-clause-ok g c = λ taken before ran.
    let st = c.args.self.now in
    let k = c.in_ok-events.events in
    let some : 0 < length st.pending = search rules in
    let done : LineDone st.point st.pending st.gathered c.do_line.new.text.items (g.W.Write.contents c.args.writer.now.inner) (g.W.Write.contents c.do_line.new.writer.inner) k (record { machine = c.do_line.new.engine; version = c.do_line.new.version }) = search rules in
    let events : c.self.inside.events ≡ st.events = search rules in
    let pending : c.self.inside.pending.items ≡ st.pending = search rules in
    rw (events, pending) (finish_ok taken before _ _ st _ k _ (record { machine = c.do_line.new.engine; version = c.do_line.new.version }) ran some done)
