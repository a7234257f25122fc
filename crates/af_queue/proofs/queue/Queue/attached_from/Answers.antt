use Rattle.std.proofs.Common.{rules, ◌≤◌, ◌-◌, ◌++◌, drop, length, take, take_all, sym, ap, ◌∙◌, subst, arith}
use Rattle.std.proofs.lemmas.Grind.{common_steps}
use Rattle.std.proofs.lemmas.List.{length-drop}
use Rattle.af_base.specs.Places.{attached_in}
use Rattle.af_queue.specs.declared.queue.TheConstants.{BATCH}
use Rattle.af_queue.proofs.CopiedParts.{carried_few, carried_here, carried_later}
use Rattle.af_queue.proofs.queue.Queue.attached_from.Goals as goal
use Rattle.af_queue.proofs.queue.Queue.attached_from.Goals.{then-skip-attached, else-skip-attached}

pub returns-then-is_full-clause-few : goal.returns-then-is_full-clause-few
returns-then-is_full-clause-few c =
    let few = carried_few _ c.self.invariant.2 in
    let most = c.self.invariant.1 in
    omega (arith, few, most, c.self.invariant.0, ap (λ q. length (attached_in q)) c.self.view_is)

pub loop-message-init : goal.loop-message-init
loop-message-init c = search rules

pub loop-message-preserved : goal.loop-message-preserved
loop-message-preserved c =
    let files = c.loop-message.files.items in
    let skip = c.loop-message.skip in
    let a = c.in-Some.message.now.attached in
    let later = attached_in c.in-Some.rest in
    let fits = c.loop-message.invariant.fits in
    let before = ap (λ q. files ++ take (BATCH - length files) (drop skip (attached_in q))) (sym c.in-Some.ensures.some) ∙ c.loop-message.invariant.files in
    let many = ap length c.attached-attached.ensures.value in
    elim c.if-skip-attached.branch [
      | then-skip-attached w ↦
          let low = w.if-skip-attached.true in
          let x = c.attached-attached.result.now in
          let part = take_all (length x - skip) (drop skip x) (omega (arith, length-drop skip x)) in
          let now = w.fill.ensures.items ∙ ap (λ xs. files ++ take (BATCH - length files) xs) part ∙ ap (λ xs. files ++ take (BATCH - length files) (drop skip xs)) c.attached-attached.ensures.value in
          record {
            fits = subst (λ v. length v.items ≤ BATCH) (sym w.files-is) w.fill.ensures.fits;
            files = (λ i. (w.files-is i).items ++ take (BATCH - length (w.files-is i).items) (drop (w.skip-is i) later)) ∙ carried_here files a later skip w.fill.new.files.items fits (omega (arith, low, many)) now ∙ before;
          }
      | else-skip-attached w ↦
          let high = w.if-skip-attached.false in
          record {
            fits = subst (λ v. length v.items ≤ BATCH) (sym w.files-is) fits;
            files = (λ i. (w.files-is i).items ++ take (BATCH - length (w.files-is i).items) (drop (w.skip-is i) later)) ∙ ap (λ n. files ++ take (BATCH - length files) (drop (skip - n) later)) many ∙ ap (λ xs. files ++ take (BATCH - length files) xs) (carried_later files a later skip (omega (arith, high, many))) ∙ before;
          }
    ]

pub returns-clause-few : goal.returns-clause-few
returns-clause-few c =
    let few = carried_few _ c.self.invariant.2 in
    let most = c.self.invariant.1 in
    omega (arith, few, most, c.self.invariant.0, ap (λ q. length (attached_in q)) c.self.view_is)

pub returns-then-is_full-clause-files : goal.returns-then-is_full-clause-files
returns-then-is_full-clause-files c = grind (arith, common_steps)

pub returns-clause-files : goal.returns-clause-files
returns-clause-files c = grind (arith, common_steps)
