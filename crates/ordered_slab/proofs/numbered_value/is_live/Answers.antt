use Rattle.std.proofs.Common.{sym, ap, ◌∙◌}
use Rattle.std.specs.Option.{option_map}
use Rattle.std.specs.Prelude.{option_copied}
use Rattle.slab.specs.Slab as slots
use Rattle.std.proofs.lemmas.Bool.{eq-eqb}
use Rattle.af_base.proofs.Lookups.{some_same}
use Rattle.ordered_slab.proofs.numbered_value.is_live.Goals as goal

pub returns-in-Some-clause-dead : goal.returns-in-Some-clause-dead
returns-in-Some-clause-dead g c = λ at.
    let there = sym (c.get.ensures ∙ ap (slots.get c.args.slab.now) c.key.ensures.key) ∙ ap option_copied c.in-Some.is in
    let number = some_same c.in-Some.entry.now.file c.args.row.now.ino (sym (ap (option_map (λ x. x.file)) there) ∙ c.requires.kept c.args.row.now.ino c.args.row.now.key at) in
    c.eq.ensures ∙ eq-eqb c.ino.result c.number.result (c.ino.ensures ∙ number ∙ sym c.number.ensures.number)
