use Rattle.std.proofs.Common.{rules, ◌≡◌, ◌&&◌, ◌∷◌, [], ◌++◌, false, true, sym, subst, ◌∙◌}
use Rattle.std.specs.Prelude.{is_some}
use Rattle.std.specs.FinMap as map
use Rattle.af_desc.specs.Told.{IsDirtyList}
use Rattle.af_desc.proofs.ToldLists.{listed-same, listed-set}
use Rattle.af_desc.proofs.told_lists.ToldLists.add_changed.Goals as goal

pub returns-then-not-self-clause-listed : goal.returns-then-not-self-clause-listed
returns-then-not-self-clause-listed c = λ rows x at same h. listed-same rows c.args.self.now.changed c.args.file.now x at h c.args.row.now (sym same)

pub returns-clause-listed : goal.returns-clause-listed
returns-clause-listed c = λ rows x at same h.
    let f = c.args.file.now in
    let clean : c.args.row.now.dirty ≡ false = search rules in
    let socket : is_some c.args.row.now.kind ≡ true = search rules in
    let items : c.push_reserved.new.self.items ≡ c.args.self.now.changed ++ f ∷ [] = search rules in
    subst (IsDirtyList (map.insert rows f _)) (sym items)
    (listed-set rows c.args.self.now.changed f x at h _ (λ i. c.listed-row.ensures i && socket i) (same ∙ (λ i. clean i && socket i)))
