-- The race continues by a part, from each checkpoint to the next. The log of the last part begins
-- where these end.
use Rattle.std.proofs.Common.{◌≡◌, ◌≤◌, ◌+◌, ◌-◌, ◌*◌}
use Rattle.scmgc.specs.Race.Parts.{AreFresh, AreLeft, Continues}
use Rattle.scmgc.proofs.race.long.LongRace.run.Given as goal

abbrev pub ghosts-last_part : goal.ghosts-last_part
ghosts-last_part g a = record { begins = λ seats machine. (seats ≡ a.field.book.seats) × (machine ≡ a.field.book.start) }

abbrev pub invariant-loop-done : goal.invariant-loop-done
invariant-loop-done g l = record {
  few : l.done ≤ l.steps;
  fresh : AreFresh (l.workers + 2) l.field.seats.items;
  goes_on : Continues l.workers l.steps l.seed l.self.race.budget l.self.checkpoint l.done l.field.book;
  left : AreLeft l.workers l.steps l.seed l.done l.sources.items;
  counted : l.counted ≡ l.workers * l.done;
}

abbrev pub decreases-loop-done : goal.decreases-loop-done
decreases-loop-done g l = l.steps - l.done
