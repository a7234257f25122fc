use Rattle.std.proofs.Common.{◌≡◌, ◌+◌, ◌-◌, true, drop, sym, ap, ◌∙◌, arith}
use Rattle.std.specs.FinMap as map
use Rattle.std.proofs.lemmas.List.{length-drop, length-take}
use Rattle.af_table.specs.Bits.{is_taken}
use Rattle.af_table.specs.Slots.{table_of}
use Rattle.af_table.proofs.Tables.{run_there, taken_until}
use Rattle.af_table.proofs.process.Process.run_from.Goals as goal

pub returns-clause-open : goal.returns-clause-open
returns-clause-open c = λ i h.
    let first = c.min-first.result in
    let words = c.self.inside.taken.words in
    let slots = c.deref.result.now in
    let many = c.unwrap_or-behind.result - first in
    let cut = length-take many (drop first slots) in
    let same : c.args.fd + i ≡ first + i = omega (arith, h, cut, length-drop first slots, c.min-first.ensures, c.fd.view_is, c.deref.ensures.len, c.len-end.ensures) in
    let taken : is_taken words (first + i) ≡ true = taken_until words c.next.result first c.len-end.result (first + i) c.next.ensures.least c.next.ensures.none (omega arith) (omega (arith, h, c.unwrap_or-behind.ensures, cut)) in
    sym (ap (λ s. map.get s.process.table (c.args.fd + i)) c.self.view_is)
    ∙ ap (map.get (table_of words c.self.inside.slots.items)) same
    ∙ ap (λ l. map.get (table_of words l) (first + i)) (sym c.deref.ensures.value)
    ∙ run_there words slots first many i taken h
