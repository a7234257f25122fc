use Rattle.std.proofs.Common.{rules, ◌≡◌, ◌-◌, ◌<◌, ◌^◌, slice_index_or, arith}
use Rattle.af_table.proofs.Words.{none_behind, none_in_zero, taken_before}
use Rattle.af_table.proofs.bits.Bits.end_below.Goals as goal

pub returns-then-word-ne0-clause-free : goal.returns-then-word-ne0-clause-free
returns-then-word-ne0-clause-free c = λ q le low.
    let fits : slice_index_or c.args.self.now.words (c.loop-i.i - 1) 0 < 2 ^ 64 = search rules in
    none_behind c.args.self.now.words (c.loop-i.i - 1) q fits (λ above. c.loop-i.invariant q (omega arith) low) le

pub returns-then-word-ne0-clause-last : goal.returns-then-word-ne0-clause-last
returns-then-word-ne0-clause-last c = λ _.
    let fits : slice_index_or c.args.self.now.words (c.loop-i.i - 1) 0 < 2 ^ 64 = search rules in
    taken_before c.args.self.now.words (c.loop-i.i - 1) fits c.if-word-ne0.true

pub loop-i-preserved : goal.loop-i-preserved
loop-i-preserved c = λ q le low. none_in_zero c.args.self.now.words (c.loop-i.i - 1) q c.if-word-ne0.false (λ above. c.loop-i.invariant q (omega arith) low) le
