use Rattle.std.proofs.Common.{rules, ◌≡◌, ◌++◌, Err, false}
use Rattle.scm_run.specs.Progress.{TooLong, may_fit}
use Rattle.scm_run.specs.declared.fault.RunFault.TheVariants.{Memory}
use Rattle.scm_run.proofs.RunLemmas.{longer, ran_more, ran_refused, ran_too_long}
use Rattle.scm_run.proofs.run.ScriptRun.keep.Goals as goal

pub returns-in_err-extend_from_slice-clause-err : goal.returns-in_err-extend_from_slice-clause-err
returns-in_err-extend_from_slice-clause-err c =
    let memory : c.from_residual.result ≡ Err Memory = search rules in
    let gathered : c.self.inside.text.items ≡ c.args.self.now.gathered = search rules in
    rw (memory, gathered) (λ taken before after ran. ran_refused taken c.args.bytes.now before after c.args.self.now ran)

pub returns-then-may_fit-clause-ok : goal.returns-then-may_fit-clause-ok
returns-then-may_fit-clause-ok c = λ taken before after ran.
    let st = c.args.self.now in
    let pending : c.extend_from_slice.new.self.items ≡ st.pending ++ c.args.bytes.now = search rules in
    let machine : c.self.inside.engine ≡ st.point.machine = search rules in
    let version : c.self.inside.version ≡ st.point.version = search rules in
    let gathered : c.self.inside.text.items ≡ st.gathered = search rules in
    let events : c.self.inside.events ≡ st.events = search rules in
    let done : c.self.inside.done ≡ st.done = search rules in
    rw (machine, version, pending, gathered, events, done) (ran_more taken c.args.bytes.now before after st ran c.requires)

pub returns-else-may_fit-clause-err : goal.returns-else-may_fit-clause-err
returns-else-may_fit-clause-err c = λ taken before after ran.
    let st = c.args.self.now in
    let over : may_fit (st.pending ++ c.args.bytes.now) ≡ false = search rules in
    let gathered : c.self.inside.text.items ≡ st.gathered = search rules in
    let long : TooLong st.done c.too_long.result = search rules in
    rw gathered (ran_too_long (taken ++ c.args.bytes.now) before after (longer st c.args.bytes.now) c.too_long.result long (ran_more taken c.args.bytes.now before after st ran c.requires) over)
