use Rattle.std.proofs.Common.{rules, ◌≡◌, inl, inr, Err, [], true, sym, ap, ◌∙◌, subst, map}
use Rattle.clap.specs.Words.{HasKind, IsAmong, app_of, fault_of, is_simple_and_free, kind_of}
use Rattle.std.specs.Prelude.{IfErr}
use Rattle.clap.specs.declared.error.kind.ErrorKind.TheVariants.{OutOfMemory}
use Rattle.scmgc.proofs.TaskWords.{err_then}
use Rattle.scmgc.proofs.CommandWords.{fits-no_fault, known, no_fault-fits}
use Rattle.scmgc.proofs.task.task_by.Goals as goal

pub returns-in_err-matches-clause-err : goal.returns-in_err-matches-clause-err
returns-in_err-matches-clause-err g c =
    let words = map g.S.AsStr.text c.args.words.now in
    let e = c.in_err-matches.field-0.0 in
    let same : c.from_residual.result ≡ Err e = search rules in
    let shape = c.requires in
    let found : HasKind (fault_of (app_of c.args.command.now) words) e = c.in_err-matches.ensures.kinds (subst (λ a. is_simple_and_free a ≡ true) (sym shape) known) in
    rw same (λ task fit named. elim found [
      | inl memory ↦ memory
      | inr among ↦ absurd (subst (IsAmong (kind_of e)) (ap (λ a. fault_of a words) shape ∙ no_fault-fits words fit) among)
    ])

pub returns-in-Some-clause-fit : goal.returns-in-Some-clause-fit
returns-in-Some-clause-fit g c =
    let words = map g.S.AsStr.text c.args.words.now in
    let shape = c.requires in
    let none : fault_of (app_of c.args.command.now) words ≡ [] = c.in_ok-matches.ensures.kinds (subst (λ a. is_simple_and_free a ≡ true) (sym shape) known) in
    fits-no_fault words (sym (ap (λ a. fault_of a words) shape) ∙ none)

pub returns-in_err-error-in-None-clause-err : goal.returns-in_err-error-in-None-clause-err
returns-in_err-error-in-None-clause-err g c =
    let r = c.from_residual-in_err-error-in-None.result in
    let memory : IfErr r (λ error. kind_of error ≡ OutOfMemory) = search rules in
    err_then r (λ error is task fit named. is) memory
