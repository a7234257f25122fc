use Rattle.af_mark.proofs.Colors.{unmarked_next}
use Rattle.af_desc.proofs.marks.next_epoch.Goals as goal

pub returns-then-epoch-lt4294967295-clause-white : goal.returns-then-epoch-lt4294967295-clause-white
returns-then-epoch-lt4294967295-clause-white c = λ f. unmarked_next c.args.epoch c.args.rows.now.marks f c.requires.upto

pub returns-clause-white : goal.returns-clause-white
returns-clause-white c = λ f. unmarked_next 0 c.clear_all_marks.new.rows.marks f c.clear_all_marks.ensures.marks
