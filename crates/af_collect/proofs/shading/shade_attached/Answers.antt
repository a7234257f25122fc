use Rattle.std.proofs.Common.{rules, ◌≤◌, ◌<◌, ◌+◌, List, ℕ, drop, length, take, ap, ◌∙◌, subst}
use Rattle.af_base.specs.Places.{attached_in, queue_at}
use Rattle.af_collect.specs.HoldingsView.{HoldingsView}
use Rattle.af_desc.specs.FilesView.{FilesView}
use Rattle.af_mark.specs.MarksView.{MarksView}
use Rattle.af_collect.specs.Keeping.{shaded_all}
use Rattle.af_queue.specs.declared.queue.TheConstants.{BATCH}
use Rattle.af_collect.proofs.FileContents.{shaded_last, shaded_on, shaded_within}
use Rattle.af_collect.proofs.shading.shade_attached.Goals as goal

pub returns-then-held-lt-BATCH : goal.returns-then-held-lt-BATCH
returns-then-held-lt-BATCH c =
    let p = c.args.holdings.now in
    let all = attached_in (queue_at p.world c.args.file.now) in
    let from = c.loop-holdings.from in
    let held = c.as_slice-held.ensures.value ∙ c.attached_from-held.ensures.files ∙ ap (λ (s : HoldingsView). take BATCH (drop from (attached_in (queue_at s.world c.args.file.now)))) c.loop-holdings.invariant.frame in
    let few = subst (λ (xs : List ℕ). length xs < BATCH) held c.if-held-lt-BATCH.true in
    let marks = ap (λ xs. shaded_all xs c.loop-holdings.holdings.marks) held ∙ shaded_last all from c.loop-holdings.holdings.marks few ∙ c.loop-holdings.invariant.marks in
    let shaded = ap (λ (fs : FilesView). fs.marks) c.shade_all.ensures ∙ ap (λ (s : HoldingsView). shaded_all c.as_slice-held.result.now s.marks) c.holdings.view_is in
    search rules ∙ ap (λ (s : HoldingsView). record s { marks = c.shade_all.new.files.marks }) c.loop-holdings.invariant.frame ∙ ap (λ (m : MarksView). record p { marks = m }) (shaded ∙ marks)

pub loop-holdings-preserved : goal.loop-holdings-preserved
loop-holdings-preserved c =
    let p = c.args.holdings.now in
    let all = attached_in (queue_at p.world c.args.file.now) in
    let from = c.loop-holdings.from in
    let held = c.as_slice-held.ensures.value ∙ c.attached_from-held.ensures.files ∙ ap (λ (s : HoldingsView). take BATCH (drop from (attached_in (queue_at s.world c.args.file.now)))) c.loop-holdings.invariant.frame in
    let full = subst (λ (xs : List ℕ). BATCH ≤ length xs) held c.if-held-lt-BATCH.false in
    let marks = ap (λ (fs : FilesView). fs.marks) c.shade_all.ensures ∙ ap (λ (s : HoldingsView). shaded_all c.as_slice-held.result.now s.marks) c.holdings.view_is in
    let now = marks ∙ ap (λ xs. shaded_all xs c.loop-holdings.holdings.marks) held in
    record {
      frame = search rules ∙ ap (λ (s : HoldingsView). record s { marks = c.shade_all.new.files.marks }) c.loop-holdings.invariant.frame;
      within = shaded_within all from c.loop-holdings.holdings.marks full c.loop-holdings.invariant.within;
      marks = ap (shaded_all (drop (from + BATCH) all)) now ∙ shaded_on all from c.loop-holdings.holdings.marks ∙ c.loop-holdings.invariant.marks;
    }
