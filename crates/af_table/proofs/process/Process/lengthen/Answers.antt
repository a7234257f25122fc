use Rattle.std.proofs.Common.{rules, ◌≤◌, ap, ◌∙◌}
use Rattle.std.specs.Prelude.{vec_len}
use Rattle.std.proofs.lemmas.Result.{on_err_weaker}
use Rattle.af_base.specs.declared.limits.TheConstants.{MAX_NOFILE}
use Rattle.af_table.specs.Slots.{NoneFrom}
use Rattle.af_table.proofs.Blanks.{blank_filled}
use Rattle.af_table.proofs.Tables.{filled}
use Rattle.af_table.proofs.process.Process.lengthen.Goals as goal

pub invariant_of-self : goal.invariant_of-self
invariant_of-self c =
    let old = c.self.inside in
    let new = c.resize_with.new.self in
    let few : vec_len new ≤ MAX_NOFILE = search rules in
    let none : NoneFrom (vec_len new) old.taken.words = search rules in
    (few, c.self.invariant.1, none, blank_filled _ (λ f x g made. made.met) old.taken.words old.slots.items new.items old.limit _ c.resize_with.result c.self.invariant.3 c.resize_with.ensures.items (on_err_weaker c.resize_with.result (λ same. same.0) c.resize_with.ensures.err))

pub returns-clause-process : goal.returns-clause-process
returns-clause-process c =
    let old = c.self.inside in
    ap (λ t. record { user = old.user; limit = old.limit; privileged = old.privileged; table = t })
    (filled old.taken.words _ _ old.slots.items c.resize_with.new.self.items _ old.limit c.resize_with.result (search rules) c.self.invariant.2 (search rules) c.resize_with.ensures.items (on_err_weaker c.resize_with.result (λ same. same.0) c.resize_with.ensures.err))
    ∙ ap (λ h. h.process) c.self.view_is
