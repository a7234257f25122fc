use Rattle.std.proofs.Common.{rules, ◌≡◌, false, ap, sym, ◌∙◌}
use Rattle.af_desc.specs.Told.{ToldListsView}
use Rattle.af_desc.proofs.ToldLists.{listed-none}
use Rattle.af_desc.proofs.told_lists.ToldLists.add_released.Goals as goal

pub returns-then-not-self-clause-changed : goal.returns-then-not-self-clause-changed
returns-then-not-self-clause-changed c = λ old x at same h.
    let off : c.self.inside.is_asked ≡ false = search rules in
    listed-none old c.args.self.now.changed c.args.file.now (sym (ap (λ (v : ToldListsView). v.changed) c.self.view_is) ∙ c.self.invariant.1 (c.self.invariant.0 off).0) h
