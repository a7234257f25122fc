use Rattle.std.proofs.Common.{rules, ◌≡◌}
use Rattle.std.specs.Prelude.{Err}
use Rattle.scm_run.specs.declared.fault.RunFault.TheVariants.{Memory}
use Rattle.scm_run.proofs.RunLemmas.{told_any, nothing_ran}
use Rattle.scm_run.proofs.run.run_script.Goals as goal

pub returns-in_err-run-clause-stopped : goal.returns-in_err-run-clause-stopped
returns-in_err-run-clause-stopped g c =
    let memory : c.from_residual.result ≡ Err Memory = search rules in
    let (input, t) = told_any (g.R.Read.remaining c.args.reader.now.inner) in
    rw memory (input, t, nothing_ran input _)
