use Rattle.std.proofs.Common.{◌≡◌, ℕ, ◌++◌, ◌∷◌, [], arith, sym, ap, ◌∙◌, subst, cond}
use Rattle.std.specs.Prelude.{vec_capacity}
use Rattle.std.specs.FinMap as map
use Rattle.af_mark.specs.Grey.{grey_mark}
use Rattle.af_mark.specs.MarksView.{MarksView, shaded}
use Rattle.af_desc.specs.FilesView.{FilesView}
use Rattle.af_desc.specs.FileTableView.{FileTableView}
use Rattle.af_desc.proofs.FilesInvariant.{seen, few-white, filed-grey, seen-shaded, shaded-not}
use Rattle.af_desc.proofs.files.Files.shade.Goals as goal

-- The view of the files after the call, from the view before.
abbrev Shades : FilesView → FilesView → ℕ → Type 0
Shades new v f = new ≡ record v { marks = shaded f v.marks }

-- A white file is one less to be marked.
pub overflow_sub-self : goal.overflow_sub-self
overflow_sub-self c =
    let a = c.self.inside in
    let same : c.args.file.now ≡ c.ino-2.inside.0 = sym c.ino.ensures ∙ sym c.ino-2.view_is in
    few-white a.epoch a.bound a.rows c.args.file.now c.self.invariant (sym c.mark_grey.ensures.white ∙ c.if-mark_grey.true) (omega (arith, same, c.if-ino-self.false))

-- It is last in the list, which has room for it.
pub push_reserved-requires : goal.push_reserved-requires
push_reserved-requires c =
    let a = c.self.inside in
    let same : c.args.file.now ≡ c.ino-2.inside.0 = sym c.ino.ensures ∙ sym c.ino-2.view_is in
    let e = c.mark_grey.ensures in
    let is = e.marked ∙ ap {A = _} {B = FileTableView} (λ b. record a.rows { marks = cond b (map.insert a.rows.marks c.args.file.now (grey_mark a.epoch)) a.rows.marks }) c.if-mark_grey.true in
    let low = (filed-grey a.epoch a.bound a.rows c.args.file.now c.self.invariant (sym e.white ∙ c.if-mark_grey.true) (omega (arith, same, c.if-ino-self.false)) c.mark_grey.new.self e.len is).0 in
    omega (arith, low)

pub invariant_of-self : goal.invariant_of-self
invariant_of-self c =
    let a = c.self.inside in
    let same : c.args.file.now ≡ c.ino-2.inside.0 = sym c.ino.ensures ∙ sym c.ino-2.view_is in
    let e = c.mark_grey.ensures in
    let is = e.marked ∙ ap {A = _} {B = FileTableView} (λ b. record a.rows { marks = cond b (map.insert a.rows.marks c.args.file.now (grey_mark a.epoch)) a.rows.marks }) c.if-mark_grey.true in
    (filed-grey a.epoch a.bound a.rows c.args.file.now c.self.invariant (sym e.white ∙ c.if-mark_grey.true) (omega (arith, same, c.if-ino-self.false)) c.mark_grey.new.self e.len is).1
    c.push_reserved.new.self.items (vec_capacity c.push_reserved.new.self) (c.push_reserved.ensures.items ∙ ap (λ g. a.grey.items ++ g ∷ []) c.duplicate.ensures) (omega (arith, c.push_reserved.ensures.capacity))

pub returns-then-mark_grey : goal.returns-then-mark_grey
returns-then-mark_grey c =
    let a = c.self.inside in
    let f = c.args.file.now in
    let same : f ≡ c.ino-2.inside.0 = sym c.ino.ensures ∙ sym c.ino-2.view_is in
    let e = c.mark_grey.ensures in
    let is = e.marked ∙ ap {A = _} {B = FileTableView} (λ b. record a.rows { marks = cond b (map.insert a.rows.marks f (grey_mark a.epoch)) a.rows.marks }) c.if-mark_grey.true in
    subst (λ v. Shades (seen a.epoch a.bound c.mark_grey.new.self a.next) v f) c.self.view_is
    (ap (λ r. seen a.epoch a.bound r a.next) is ∙ seen-shaded a.epoch a.bound a.rows f (omega (arith, same, c.if-ino-self.false)) (sym e.white ∙ c.if-mark_grey.true) a.next)

-- Another stays as it is.
pub returns-else-mark_grey : goal.returns-else-mark_grey
returns-else-mark_grey c =
    let a = c.self.inside in
    let f = c.args.file.now in
    let e = c.mark_grey.ensures in
    let is = e.marked ∙ ap {A = _} {B = FileTableView} (λ b. record a.rows { marks = cond b (map.insert a.rows.marks f (grey_mark a.epoch)) a.rows.marks }) c.if-mark_grey.false in
    let old = seen a.epoch a.bound a.rows a.next in
    subst (λ v. Shades (seen a.epoch a.bound c.mark_grey.new.self a.next) v f) c.self.view_is
    (ap (λ r. seen a.epoch a.bound r a.next) is ∙ ap {A = MarksView} {B = FilesView} (λ m. record old { marks = m }) (sym (shaded-not a.epoch a.bound a.rows f (sym e.white ∙ c.if-mark_grey.false))))
