use Rattle.std.proofs.Common.{rules, ◌≡◌, ◌++◌, [], Err}
use Rattle.std.specs.Io.KnownBytes.{Appends}
use Rattle.scm_run.specs.Watched.{AppendsFront}
use Rattle.scm_run.specs.Gather.{WritesBeforeFault}
use Rattle.scm_run.specs.Progress.{FaultIn}
use Rattle.scm_run.specs.declared.fault.RunFault.TheVariants.{Write}
use Rattle.scm_run.proofs.RunLemmas.{ran_out, ran_part, halts_written}
use Rattle.scm_run.proofs.run.ScriptRun.feed.Goals as goal

pub returns-in_err-write_out-in-Ok-clause-err : goal.returns-in_err-write_out-in-Ok-clause-err
returns-in_err-write_out-in-Ok-clause-err g c =
    let st = c.do_lines.new.self in
    let fault : c.from_residual.result ≡ Err Write = search rules in
    let part : AppendsFront (g.W.Write.contents c.do_lines.new.writer.inner) (g.W.Write.contents c.write_out.new.writer.inner) st.gathered = search rules in
    rw fault (λ taken before ran. ran_part (taken ++ c.args.chunk.now) before _ _ st (c.in-Ok.ensures.ok taken before ran) part)

pub returns-in_ok-write_out-in-Ok-clause-ok : goal.returns-in_ok-write_out-in-Ok-clause-ok
returns-in_ok-write_out-in-Ok-clause-ok g c = λ taken before ran.
    let st = c.do_lines.new.self in
    let wrote : Appends (g.W.Write.contents c.do_lines.new.writer.inner) (g.W.Write.contents c.write_out.new.writer.inner) st.gathered = search rules in
    let machine : c.self.inside.engine ≡ st.point.machine = search rules in
    let version : c.self.inside.version ≡ st.point.version = search rules in
    let pending : c.self.inside.pending.items ≡ st.pending = search rules in
    let none : c.write_out.new.text.items ≡ [] = search rules in
    let events : c.self.inside.events ≡ st.events = search rules in
    let done : c.self.inside.done ≡ st.done = search rules in
    rw (machine, version, pending, none, events, done) (ran_out (taken ++ c.args.chunk.now) before _ _ st (c.in-Ok.ensures.ok taken before ran) wrote)

pub returns-in-Err-clause-err : goal.returns-in-Err-clause-err
returns-in-Err-clause-err g c = λ taken before ran.
    let st = c.do_lines.new.self in
    let text : WritesBeforeFault c.in-Err.fault c.write_before_fault.result st.gathered (g.W.Write.contents c.do_lines.new.writer.inner) (g.W.Write.contents c.write_before_fault.new.writer.inner) = search rules in
    halts_written (FaultIn (taken ++ c.args.chunk.now) before) before _ _ st.gathered c.in-Err.fault c.write_before_fault.result (c.in-Err.ensures.err taken before ran) text
