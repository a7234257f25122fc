use Rattle.std.proofs.Common.{rules, ◌≡◌, ◌++◌, ◌∷◌, [], arith, sym, ap, ◌∙◌, subst}
use Rattle.std.specs.Prelude.{vec_capacity}
use Rattle.af_mark.specs.MarksView.{blackened, is_grey}
use Rattle.af_base.specs.Places.{held_in}
use Rattle.af_desc.specs.FilesView.{FilesView}
use Rattle.af_desc.specs.Holding.{IsContents}
use Rattle.af_desc.proofs.FilesInvariant.{seen, filed-scanned, last-grey, last-known, seen-scanned}
use Rattle.af_desc.proofs.files.Files.scan_next.Goals as goal

-- The last of the list has a mark.
pub mark_black-held-requires : goal.mark_black-held-requires
mark_black-held-requires c =
    let a = c.self.inside in
    let f = c.in_ok-file.file in
    let items : a.grey.items ≡ c.pop.new.self.items ++ f ∷ [] = search rules in
    last-known a.epoch a.bound a.rows f c.self.invariant c.pop.new.self.items items

-- It is black, and not in the list.
pub invariant_of-self-2 : goal.invariant_of-self-2
invariant_of-self-2 c =
    let a = c.self.inside in
    let f = c.in_ok-file.file in
    let items : a.grey.items ≡ c.pop.new.self.items ++ f ∷ [] = search rules in
    let set = c.mark_black-held.ensures in
    filed-scanned a.epoch a.bound a.rows f c.self.invariant c.pop.new.self.items items c.mark_black-held.new.self (vec_capacity c.pop.new.self) set.set set.len (omega (arith, c.pop.ensures.capacity))

pub returns-clause-some : goal.returns-clause-some
returns-clause-some c =
    let a = c.self.inside in
    let f = c.in_ok-file.file in
    let items : a.grey.items ≡ c.pop.new.self.items ++ f ∷ [] = search rules in
    let set = c.mark_black-held.ensures in
    let grey = last-grey a.epoch a.bound a.rows f c.self.invariant c.pop.new.self.items items in (
      ap (λ (v : FilesView). is_grey v.marks f) (sym c.self.view_is) ∙ grey,
      subst (λ (v : FilesView). IsContents c.mark_black-held.result (held_in v.files f)) c.self.view_is set.held,
      subst (λ (v : FilesView). seen a.epoch a.bound c.mark_black-held.new.self a.next ≡ record v { marks = blackened f v.marks }) c.self.view_is
          (ap (λ r. seen a.epoch a.bound r a.next) set.set ∙ seen-scanned a.epoch a.bound a.rows f c.self.invariant c.pop.new.self.items items),
    )
