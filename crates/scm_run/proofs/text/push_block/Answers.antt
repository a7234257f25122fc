use Rattle.std.proofs.Common.{rules, ◌≡◌, true}
use Rattle.scm_run.specs.Text.{all_plain}
use Rattle.scm_run.proofs.PlainLemmas.{plain-escaped}
use Rattle.scm_run.proofs.text.push_block.Goals as goal

pub returns-then-all_plain-clause-bytes : goal.returns-then-all_plain-clause-bytes
returns-then-all_plain-clause-bytes c =
    let plain : all_plain c.args.bytes.now ≡ true = search rules in
    rw (plain-escaped c.args.bytes.now plain) (search rules)
