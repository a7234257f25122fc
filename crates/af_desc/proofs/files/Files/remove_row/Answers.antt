use Rattle.std.proofs.Common.{rules, ◌≡◌, ◌-◌, ◌&&◌, ◌∙◌, ℕ, ap, arith}
use Rattle.std.specs.Prelude.{nat_lt, vec_capacity}
use Rattle.af_base.specs.Counts.{count_in, one}
use Rattle.af_mark.specs.MarksView.{is_grey, is_unmarked}
use Rattle.af_desc.specs.FilesView.{without}
use Rattle.af_desc.proofs.FilesInvariant.{filed-removed, seen, seen-without, white-gone, white-seen}
use Rattle.af_desc.proofs.files.Files.remove_row.Goals as goal

pub overflow_sub-self : goal.overflow_sub-self
overflow_sub-self c =
    let a = c.self.inside in
    (white-gone a.rows.marks a.rows.marks a.epoch a.bound a.next a.white c.self.invariant.whites c.args.file.now _ _ _ (c.unmarked.view_is ∙ c.ino.ensures) c.remove-kind.ensures.white c.from.ensures).0

pub invariant_of-self : goal.invariant_of-self
invariant_of-self c =
    let a = c.self.inside in
    let k = c.args.file.now in
    let left = white-gone a.rows.marks a.rows.marks a.epoch a.bound a.next a.white c.self.invariant.whites k _ _ _ (c.unmarked.view_is ∙ c.ino.ensures) c.remove-kind.ensures.white c.from.ensures in
    let off : (f : ℕ) → count_in f c.swap_remove_file.new.files.items ≡ count_in f a.unreferenced.items - one f k = search rules in
    filed-removed a.rows c.remove-kind.new.self _ _ _ _ _ _ _ c.self.invariant k c.free_name.new.names c.swap_remove_file.new.files.items (vec_capacity c.swap_remove_file.new.files) c.remove-kind.ensures.removed c.remove-kind.ensures.space
    (c.free_name.ensures a.rows.files k c.self.invariant.named c.remove-kind.ensures.socket) off (omega (arith, c.swap_remove_file.ensures.capacity)) (ap (λ v. is_grey v.marks k) c.self.view_is ∙ c.requires.white) (a.white - c.from.result) left.1

pub returns-clause-unmarked : goal.returns-clause-unmarked
returns-clause-unmarked c =
    let a = c.self.inside in
    let k = c.args.file.now in
    (λ i. nat_lt ((c.unmarked.view_is ∙ c.ino.ensures) i) a.bound && (c.remove-kind.ensures.white ∙ white-seen a.rows.marks a.epoch k) i) ∙ ap (λ v. is_unmarked v.marks k) c.self.view_is

pub returns-clause-gone : goal.returns-clause-gone
returns-clause-gone c =
    let a = c.self.inside in
    ap (λ r. seen a.epoch a.bound r a.next) c.remove-kind.ensures.removed ∙ seen-without a.epoch a.bound a.rows a.next c.remove-kind.new.self.room c.remove-kind.new.self.space c.args.file.now ∙ ap (without c.args.file.now) c.self.view_is
