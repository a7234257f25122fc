use Rattle.std.proofs.Common.{rules, ◌≡◌, [], ◌++◌, ◌+◌, Err}
use Rattle.std.specs.Str.Lines.{strip_carriage_return}
use Rattle.scm_run.specs.Line.{LineDone, LineStops}
use Rattle.scm_run.specs.Script.{ended_by_feed}
use Rattle.scm_run.specs.declared.fault.RunFault.TheVariants.{Memory}
use Rattle.scm_run.proofs.RunLemmas.{end_ok_after, end_stops_after, ran_refused, whole_line}
use Rattle.scm_run.proofs.run.ScriptRun.end_line.Goals as goal

pub returns-in_err-number-clause-err : goal.returns-in_err-number-clause-err
returns-in_err-number-clause-err g c =
    let memory : c.from_residual.result ≡ Err Memory = search rules in
    rw memory (λ taken before ran. ran_refused taken (ended_by_feed c.args.back.now) before _ c.args.self.now ran)

pub returns-in_err-append_to_pending-clause-err : goal.returns-in_err-append_to_pending-clause-err
returns-in_err-append_to_pending-clause-err g c =
    let memory : c.from_residual-in_err-append_to_pending.result ≡ Err Memory = search rules in
    let gathered : c.self.inside.text.items ≡ c.args.self.now.gathered = search rules in
    rw (memory, gathered) (λ taken before ran. ran_refused taken (ended_by_feed c.args.back.now) before _ c.args.self.now ran)

pub returns-in_err-events-clause-err : goal.returns-in_err-events-clause-err
returns-in_err-events-clause-err g c =
    let st = c.args.self.now in
    let f = c.in_err-events.field-0.0 in
    let fault : c.from_residual-in_err-events.result ≡ Err f = search rules in
    let number : c.in_ok-number.number ≡ st.done + 1 = search rules in
    let line : c.unless_empty-line.result.now ≡ st.pending ++ c.args.back.now = whole_line st.pending c.append_to_pending.new.line.items c.args.back.now c.unless_empty-line.result.now (search rules) (search rules) (search rules) (search rules) in
    let stripped : c.without_return.result.now ≡ strip_carriage_return (st.pending ++ c.args.back.now) = rw (← line) (search rules) in
    let stops : LineStops st.point.version (strip_carriage_return (st.pending ++ c.args.back.now)) (st.done + 1) st.gathered c.do_line.new.text.items (g.W.Write.contents c.args.writer.now.inner) (g.W.Write.contents c.do_line.new.writer.inner) f = rw (← stripped, ← number) (search rules) in
    rw fault (λ taken before ran. end_stops_after taken c.args.back.now before _ _ st _ f c.requires.feed ran stops)

pub returns-clause-ok : goal.returns-clause-ok
returns-clause-ok g c = λ taken before ran.
    let st = c.args.self.now in
    let k = c.in_ok-events.events in
    let line : c.unless_empty-line.result.now ≡ st.pending ++ c.args.back.now = whole_line st.pending c.append_to_pending.new.line.items c.args.back.now c.unless_empty-line.result.now (search rules) (search rules) (search rules) (search rules) in
    let stripped : c.without_return.result.now ≡ strip_carriage_return (st.pending ++ c.args.back.now) = rw (← line) (search rules) in
    let done : LineDone st.point (strip_carriage_return (st.pending ++ c.args.back.now)) st.gathered c.do_line.new.text.items (g.W.Write.contents c.args.writer.now.inner) (g.W.Write.contents c.do_line.new.writer.inner) k (record { machine = c.do_line.new.engine; version = c.do_line.new.version }) = rw (← stripped) (search rules) in
    let empty : c.clear.new.self.items ≡ [] = search rules in
    let number : c.in_ok-number.number ≡ st.done + 1 = search rules in
    let events : c.self.inside.events ≡ st.events = search rules in
    rw (empty, number, events) (end_ok_after taken c.args.back.now before _ _ st _ k (record { machine = c.do_line.new.engine; version = c.do_line.new.version }) c.requires.feed ran done)
