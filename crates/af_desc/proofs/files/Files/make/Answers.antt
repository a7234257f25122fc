use Rattle.std.proofs.Common.{◌+◌, ◌∙◌, ap, arith}
use Rattle.std.specs.Prelude.{vec_capacity}
use Rattle.std.specs.FinMap as map
use Rattle.af_desc.specs.FilesView.{entered}
use Rattle.af_desc.specs.FileTableView.{file_of, with_row}
use Rattle.af_desc.proofs.FilesInvariant.{filed-entered, filed-reserved, seen, seen-entered}
use Rattle.af_desc.proofs.files.Files.make.Goals as goal

pub push-file-requires : goal.push-file-requires
push-file-requires c =
    let room = c.in_ok-reserve.ensures.room in
    record {
      room = omega (arith, room);
      next = omega (arith, c.self.invariant.last, ap (λ r. r.last) c.reserve.ensures.rows);
      number = omega (arith, c.requires.number, ap (λ a. a.next) c.self.view_is);
    }

pub invariant_of-self : goal.invariant_of-self
invariant_of-self c =
    let more = c.reserve.ensures in
    filed-reserved c.self.inside.rows c.reserve.new.rows _ _ _ _ _ _ _ c.self.invariant _ (vec_capacity c.reserve.new.unreferenced) _ (vec_capacity c.reserve.new.grey) more.rows more.unreferenced more.capacity more.grey more.greys more.fits more.grey_fits

pub invariant_of-self-2 : goal.invariant_of-self-2
invariant_of-self-2 c =
    let more = c.reserve.ensures in
    let reserved = filed-reserved c.self.inside.rows c.reserve.new.rows _ _ _ _ _ _ _ c.self.invariant _ (vec_capacity c.reserve.new.unreferenced) _ (vec_capacity c.reserve.new.grey) more.rows more.unreferenced more.capacity more.grey more.greys more.fits more.grey_fits in
    let p = c.push-file.ensures in
    let all = c.in_ok-reserve.ensures.counts in
    let marks = c.in_ok-reserve.ensures.marks in
    filed-entered c.reserve.new.rows c.push-file.new.self _ _ _ _ _ _ _ reserved (file_of c.args.kind) c.args.place.now p.pushed p.new p.uncounted p.unmarked c.requires.nameless
    (omega (arith, all, more.fits, ap (λ r. map.len r.counts) more.rows)) (omega (arith, marks, more.grey_fits, ap (λ r. map.len r.marks) more.rows)) _ c.more_embryos-self-inside.ensures

pub returns-clause-ok : goal.returns-clause-ok
returns-clause-ok c =
    let a = c.self.inside in
    let x = file_of c.args.kind in
    let p = c.args.place.now in
    let rows = c.push-file.ensures.pushed ∙ ap (with_row a.next x p c.push-file.new.self.room) c.reserve.ensures.rows in
    ap (λ r. seen a.epoch a.bound r (a.next + 1)) rows ∙ seen-entered a.epoch a.bound p a.rows a.next c.push-file.new.self.room x ∙ ap (entered p x) c.self.view_is
