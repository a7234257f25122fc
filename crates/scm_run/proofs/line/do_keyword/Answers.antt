use Rattle.std.proofs.Common.{◌≤◌, ◌+◌, sym, subst}
use Rattle.std.specs.Prelude.{Ok, vec_capacity, vec_len}
use Rattle.scm_run.specs.Line.{EventDone}
use Rattle.scm_run.specs.declared.text.TheConstants.{MAX_REPLY_LINE}
use Rattle.scm_run.proofs.StepLemmas.{line_by_event}
use Rattle.scm_run.proofs.line.do_keyword.Goals as goal

pub returns-then-branch-clause-read : goal.returns-then-branch-clause-read
returns-then-branch-clause-read c =
    let done = subst (λ b. EventDone c.args.engine.now c.args.bytes.now c.args.text.now.items (Ok b) c.do_event.new.text.items c.do_event.new.engine) c.if-branch.true c.in_ok-do_event.ensures.done in
    line_by_event c.args.version.now c.after_event.result _ _ _ _ _ done c.after_event.ensures

pub do_any-requires : goal.do_any-requires
do_any-requires c = subst (λ t. vec_len t + MAX_REPLY_LINE ≤ vec_capacity t) (sym (c.in_ok-do_event.ensures.unchanged c.if-branch.false)) c.requires
