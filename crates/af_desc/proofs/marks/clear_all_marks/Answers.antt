use Rattle.std.proofs.Common.{ℕ, ◌≡◌, ◌<◌, refl, sym, ap, ◌∙◌, length, subst}
use Rattle.std.specs.FinMap as map
use Rattle.af_base.proofs.MapWalks.{above, fewer_above}
use Rattle.af_base.specs.World.{Map}
use Rattle.af_mark.specs.Grey.{MarkView}
use Rattle.af_desc.specs.FileTableView.{FileTableView}
use Rattle.af_desc.proofs.ClearedMarks.{AreWashed, washed_known, washed_next}
use Rattle.af_desc.proofs.marks.clear_all_marks.Goals as goal

-- There are fewer files above.
pub loop-file-smaller : goal.loop-file-smaller
loop-file-smaller c =
    let files = c.loop-file.rows.files in
    let next = c.in-Some.ensures in
    subst (λ n. length (above n (map.entries c.set_mark.new.self.files)) < length (above c.loop-file.last (map.entries files))) (sym c.ino-last.ensures)
    (subst (λ m. length (above c.in-Some.file (map.entries m)) < length (above c.loop-file.last (map.entries files))) (sym (ap (λ r. r.files) c.set_mark.ensures.set))
    (fewer_above _ _ refl c.loop-file.last c.in-Some.file next.above next.there next.least))

-- One file more has a mark of no pass.
pub loop-file-preserved : goal.loop-file-preserved
loop-file-preserved c =
    let m = c.loop-file.rows.marks in
    let n = c.in-Some.file in
    let next = c.in-Some.ensures in
    let i = c.loop-file.invariant in
    let set = c.set_mark.ensures.set in
    let is = ap (λ r. r.marks) set ∙ ap (map.insert m n) c.none.ensures in
    let one : (q : ℕ) → map.contains_key m q ≡ map.contains_key c.loop-file.rows.files q = c.lemma_are_one.ensures.marks in
    let there = one n ∙ next.there in
    record {
      washed = subst (AreWashed c.set_mark.new.self.marks) (sym c.ino-last.ensures) (subst (λ o. AreWashed o n) (sym is) (washed_next m n c.loop-file.last (λ q over under. one q ∙ next.least q over under) i.washed));
      known = λ f. ap (λ o. map.contains_key o f) is ∙ washed_known m n there f ∙ i.known f;
      len = c.set_mark.ensures.len ∙ i.len;
      rest = set ∙ ap (λ (r : FileTableView). record r { marks = map.insert m n c.none.result }) i.rest ∙ ap (λ (o : Map MarkView). record c.args.rows.now { marks = o }) (sym (ap (λ r. r.marks) set));
    }
