use Rattle.std.proofs.Common.{rules, ◌≡◌, ℕ, subst, sym}
use Rattle.std.specs.Prelude.{IfNone, None, Option}
use Rattle.af_base.specs.Counts.{count_in}
use Rattle.af_base.proofs.ExactLists.{count_absent, count_nowhere, count_swapped}
use Rattle.af_base.proofs.file_list.swap_remove_file.Goals as goal

pub returns-in_err-at-clause-each : goal.returns-in_err-at-clause-each
returns-in_err-at-clause-each c = λ f. count_absent f c.args.ino c.args.files.now.items (count_nowhere c.args.ino c.args.files.now.items (search rules))

pub returns-in_err-at-clause-none : goal.returns-in_err-at-clause-none
returns-in_err-at-clause-none c =
    let none : c.from_residual.result ≡ None = search rules in
    subst (λ (r : Option ℕ). IfNone r (count_in c.args.ino c.args.files.now.items ≡ 0)) (sym none) (count_nowhere c.args.ino c.args.files.now.items (search rules))

pub returns-clause-each : goal.returns-clause-each
returns-clause-each c = λ f. count_swapped f c.args.ino c.in_ok-at.at c.swap_remove.result c.args.files.now.items c.swap_remove.new.self.items (search rules) c.swap_remove.ensures.items
