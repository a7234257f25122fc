-- So far the pass runs, it looked at as many files as units were done, and it emptied at most as
-- many.
use Rattle.std.proofs.Common.{◌≡◌, ◌≤◌, ◌+◌, ◌-◌, true}
use Rattle.af_base.specs.Whole.{IsSound}
use Rattle.af_collect.specs.Keeping.{is_running}
use Rattle.af_collect.specs.Looks.{OnlyMarks}
use Rattle.af_collect.specs.Purged.{ArePurged}
use Rattle.af_collect.proofs.store.Store.do_units.Given as goal

abbrev pub invariant-loop-left : goal.invariant-loop-left
invariant-loop-left l = record {
  running : is_running l.self.progress.stage ≡ true;
  sound : IsSound l.self.world;
  rows : l.self.rows ≡ l.fn.self.rows;
  since : l.self.since ≡ l.fn.self.since;
  begun : l.self.begun ≡ l.fn.self.begun;
  few : l.left ≤ l.fn.budget;
  purged : ArePurged l.fn.self.begun l.fn.self.world l.self.world (l.fn.budget - l.left);
  marks : OnlyMarks (l.fn.budget - l.left) l.fn.self l.self;
  looked : l.self.progress.looked + l.left ≡ l.fn.self.progress.looked + l.fn.budget;
}

abbrev pub decreases-loop-left : goal.decreases-loop-left
decreases-loop-left l = l.left
