use Rattle.af_plain.specs.Agreement.{IsFileRecount}
use Rattle.af_plain.proofs.TestWalks.{none_fails, one_fails, one_more}
use Rattle.af_plain.proofs.agreement.files_agree.Goals as goal

pub returns-then-not-file_agrees : goal.returns-then-not-file_agrees
returns-then-not-file_agrees c = one_fails (IsFileRecount c.args.listing.now) c.args.kept.now c.loop-file.file-index c.file-item.result c.file_agrees.result c.loop-file-test.true c.file-item.is c.if-not-file_agrees.true c.file_agrees.ensures

pub loop-file-preserved : goal.loop-file-preserved
loop-file-preserved c = one_more (IsFileRecount c.args.listing.now) c.args.kept.now c.loop-file.file-index c.file-item.result c.file_agrees.result c.loop-file-test.true c.file-item.is c.if-not-file_agrees.false c.file_agrees.ensures c.loop-file.invariant

pub returns : goal.returns
returns c = none_fails (IsFileRecount c.args.listing.now) c.args.kept.now c.loop-file.file-index c.loop-file-test.false c.loop-file.invariant
