use Rattle.std.proofs.Common.{◌≡◌, ◌<◌, ◌+◌, ◌++◌, ◌∷◌, [], cond, ap, subst, ◌∙◌, sym}
use Rattle.af_desc.specs.FileTableView.{FileTableView}
use Rattle.af_desc.proofs.FileTableInvariant.{kept-pushed, room-for-new}
use Rattle.af_desc.proofs.file_table.FileTable.push.Goals as goal

pub add_new-requires-clause-room : goal.add_new-requires-clause-room
add_new-requires-clause-room c =
    let some = subst (λ (v : FileTableView). 0 < v.room) (sym c.self.view_is) c.requires.room in
    room-for-new c.self.invariant c.args.ino (record { count = c.add.new.self; kind = c.args.kind; chain = c.empty.result; dirty = c.mark_of_new-dirty.result; mark = c.none.result }) c.push-file.ensures.new some

pub invariant_of-self : goal.invariant_of-self
invariant_of-self c =
    let a = c.self.inside in
    let some = subst (λ (v : FileTableView). 0 < v.room) (sym c.self.view_is) c.requires.room in
    let next = c.requires.next ∙ ap (λ (v : FileTableView). v.last + 1) (sym c.self.view_is) in
    let listed : c.add_new.new.self ≡ record a.told { changed = cond c.mark_of_new-dirty.result (a.told.changed ++ c.args.ino ∷ []) a.told.changed } =
    c.add_new.ensures ∙ (λ i. record a.told { changed = cond (c.is_dirty-is_dirty.ensures i) (a.told.changed ++ c.push-file.ensures.file i ∷ []) a.told.changed }) in
    kept-pushed c.self.invariant c.args.ino _ _ _ next c.empty.ensures c.push-file.ensures.new c.push-file.ensures.pushed c.push-file.ensures.room c.mark_of_new-dirty.ensures listed some
