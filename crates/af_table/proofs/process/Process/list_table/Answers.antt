use Rattle.std.proofs.Common.{rules, ◌≡◌, ◌≤◌, length, sym, ◌∙◌, arith, false}
use Rattle.af_base.specs.declared.limits.TheConstants.{MAX_NOFILE}
use Rattle.af_table.specs.Slots.{table_of}
use Rattle.af_table.proofs.Numbers.{numbers-le, numbers-rise, numbers-table}
use Rattle.af_table.proofs.process.Process.list_table.Goals as goal

pub returns-clause-shown : goal.returns-clause-shown
returns-clause-shown c =
    let words = c.self.inside.taken.words in
    let slots = c.deref-slot-items.result.now in
    let table : c.args.self.now.process.table ≡ table_of words slots = search rules in
    let same = numbers-table (λ n. n.fd) (λ n. n.ino) c.loop-number.numbers.items words slots c.loop-number.number c.loop-number-test.false c.loop-number.invariant ∙ sym table in
    λ i. record { user = 0; limit = 0; privileged = false; table = same i }

pub returns-clause-rising : goal.returns-clause-rising
returns-clause-rising c = numbers-rise (λ n. n.fd) (λ n. n.ino) c.loop-number.numbers.items c.self.inside.taken.words c.deref-slot-items.result.now c.loop-number.number c.loop-number-test.false c.loop-number.invariant

pub returns-clause-few : goal.returns-clause-few
returns-clause-few c =
    let words = c.self.inside.taken.words in
    let slots = c.deref-slot-items.result.now in
    let most = numbers-le (λ n. n.fd) (λ n. n.ino) c.loop-number.numbers.items words slots c.loop-number.number c.loop-number-test.false c.loop-number.invariant in
    let row : length slots ≤ MAX_NOFILE = search rules in
    omega (arith, most, row)
