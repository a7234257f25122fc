use Rattle.std.proofs.Common.{rules, ◌≡◌, ◌++◌, ◌∷◌, [], ◌∙◌, sym, ap, subst, ◌<◌, length}
use Rattle.std.specs.Prelude.{Some, IfNone}
use Rattle.std.proofs.lemmas.Bool.{lt-ltb}
use Rattle.af_base.specs.declared.errno.Errno.TheVariants.{EMFILE}
use Rattle.af_base.specs.declared.events.SockType.{SockType}
use Rattle.af_base.specs.declared.events.Step.TheVariants as step
use Rattle.af_base.specs.Refusals.{first_fit, on_files, on_free, refusal}
use Rattle.af_base.specs.Table.{free_numbers}
use Rattle.af_base.proofs.SoundSteps.{goes-on}
use Rattle.af_steps.specs.Found.{HasProcess}
use Rattle.af_steps.proofs.LookupRows.{after-process}
use Rattle.af_steps.proofs.Outcomes.{missing, told}
use Rattle.af_steps.proofs.lookups.descriptors_for_pair.Goals as goal

pub returns-in_err-fds-clause-refused : goal.returns-in_err-fds-clause-refused
returns-in_err-fds-clause-refused c =
    let w = c.args.store.now.world in
    let q = c.in_ok-process.process.now.process in
    let found : HasProcess w c.args.pid q = record { there = search rules } in
    let e = c.in_err-fds.field-0.0 in
    let missed = missing c.lowest_two.result EMFILE e c.in_err-fds.ensures.value in
    let few = subst (λ o. IfNone o (length (free_numbers q) < 2)) missed.0 c.lowest_two.ensures.none in
    told (λ e. (kind : SockType) → refusal w c.args.pid (step.Pair kind) ≡ Some e) c.from_residual-in_err-fds.result e c.from_residual-in_err-fds.ensures.1
    (λ kind. after-process found (λ r look. on_free r 2 ++ on_files w 2)
    ∙ goes-on (on_free q 2) (on_files w 2) e (ap (λ b. first_fit ((b, EMFILE) ∷ [])) (lt-ltb (length (free_numbers q)) 2 few) ∙ ap Some (sym missed.1)))
