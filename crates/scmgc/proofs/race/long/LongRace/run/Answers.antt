use Rattle.std.proofs.Common.{rules, ◌≡◌, ◌≤◌, ◌+◌, ◌*◌, ap, arith, length, subst, sym, ◌∙◌}
use Rattle.std.proofs.Math.Nat.{mul-le-mul_right}
use Rattle.scmgc.specs.Race.Parts.{AreLeft}
use Rattle.scmgc.proofs.race.Parts.{left-all, lent-back, long-ended}
use Rattle.scmgc.proofs.race.long.LongRace.run.Goals as goal

pub loop-done-init : goal.loop-done-init
loop-done-init g c =
    let race = c.args.self.race in
    record {
      few = omega arith;
      fresh = c.in_ok-field.ensures.fresh;
      goes_on = c.in_ok-field.ensures.begun race.steps race.seed race.budget c.args.self.checkpoint;
      left = left-all race.workers race.steps race.seed c.in_ok-sources.sources.items c.in_ok-sources.ensures;
      counted = omega arith;
    }

pub overflow_add-counted : goal.overflow_add-counted
overflow_add-counted g c =
    let race = c.args.self.race in
    let fits : c.loop-done.done + c.share-turns.result ≤ race.steps = search rules in
    let left : AreLeft race.workers race.steps race.seed c.loop-done.done c.loop-done.sources.items = c.loop-done.invariant.left in
    let told = c.in_ok-next.ensures.more c.loop-done.done fits c.share-turns.ensures c.loop-done.invariant.goes_on (search rules) in
    let most = mul-le-mul_right (c.loop-done.done + c.share-turns.result) c.requires.workers.1 in
    let few : c.loop-done.counted + c.in_ok-next.more ≤ 3200000000 = omega (arith, c.loop-done.invariant.counted, told.2, most, fits, c.requires.steps.1) in
    search rules

pub loop-done-preserved : goal.loop-done-preserved
loop-done-preserved g c =
    let race = c.args.self.race in
    let sources = c.loop-done.sources in
    let new = c.next_part.new.sources in
    let before = c.loop-done.invariant in
    let fits : c.loop-done.done + c.share-turns.result ≤ race.steps = search rules in
    let told = c.in_ok-next.ensures.more c.loop-done.done fits c.share-turns.ensures before.goes_on (search rules) in
    let all : sources.len ≡ length sources.items = search rules in
    record {
      few = fits;
      fresh = c.in_ok-next.ensures.fresh;
      goes_on = told.0;
      left = subst (AreLeft race.workers race.steps race.seed (c.loop-done.done + c.share-turns.result))
          (sym (lent-back sources.len sources.items new all (told.1.count ∙ sym before.left.count))) told.1;
      counted = omega (arith, before.counted, told.2);
    }

pub returns-clause-raced : goal.returns-clause-raced
returns-clause-raced g c =
    let race = c.args.self.race in
    let before = c.loop-done.invariant in
    let all : c.loop-done.done ≡ race.steps = omega (arith, before.few, c.loop-done-test.false) in
    let told = c.in_ok-book.ensures in
    long-ended race.workers race.steps race.seed race.budget c.args.self.checkpoint c.loop-done.done c.loop-done.field.book told.0 c.in_ok-book.book c.loop-done.counted
    c.requires.steps.0 all before.goes_on told.1 told.2 before.counted

pub returns-clause-steps : goal.returns-clause-steps
returns-clause-steps g c =
    let before = c.loop-done.invariant in
    let all : c.loop-done.done ≡ c.args.self.race.steps = omega (arith, before.few, c.loop-done-test.false) in
    before.counted ∙ ap (λ n. c.args.self.race.workers * n) all
