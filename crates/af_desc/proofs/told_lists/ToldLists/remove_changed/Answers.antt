use Rattle.std.proofs.Common.{rules, ◌≡◌, ◌-◌, ℕ, false, ap, sym, ◌∙◌}
use Rattle.af_base.specs.Counts.{count_in, one}
use Rattle.af_desc.specs.Told.{ToldListsView}
use Rattle.af_desc.proofs.ToldLists.{listed-gone, listed-none, listed-without}
use Rattle.af_desc.proofs.told_lists.ToldLists.remove_changed.Goals as goal

pub returns-then-not-self-clause-changed : goal.returns-then-not-self-clause-changed
returns-then-not-self-clause-changed c = λ old x at same h.
    let off : c.self.inside.tells_changed ≡ false = search rules in
    listed-none old c.args.self.now.changed c.args.file.now (sym (ap (λ (v : ToldListsView). v.changed) c.self.view_is) ∙ c.self.invariant.1 off) h

pub returns-then-not-is_dirty-clause-changed : goal.returns-then-not-is_dirty-clause-changed
returns-then-not-is_dirty-clause-changed c = λ old x at same h.
    let clean : c.args.dirty ≡ false = search rules in
    listed-without old c.args.self.now.changed c.args.file.now x at h (same ∙ clean)

pub returns-clause-changed : goal.returns-clause-changed
returns-clause-changed c = λ old x at same h.
    let less : (g : ℕ) → count_in g c.swap_remove_file-at.new.files.items ≡ count_in g c.args.self.now.changed - one g c.args.file.now = search rules in
    listed-gone old c.args.self.now.changed c.args.file.now x at h c.swap_remove_file-at.new.files.items less
