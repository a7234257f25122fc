use Rattle.std.proofs.Common.{rules, ◌≡◌, Some, sym}
use Rattle.scm_lines.specs.Numbers.{word_number}
use Rattle.scm_lines.proofs.AttachedSays.{number_item}
use Rattle.scm_lines.proofs.attached.item.Goals as goal

pub returns-in-Some-clause-value : goal.returns-in-Some-clause-value
returns-in-Some-clause-value c =
    let read : word_number c.args.word.now ≡ Some c.in-Some.fd = search rules in
    sym (number_item c.args.word.now c.in-Some.fd read)
