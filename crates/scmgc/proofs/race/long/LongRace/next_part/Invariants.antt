-- The log of the part begins where the last one ended.
use Rattle.std.proofs.Common.{◌≡◌}
use Rattle.scmgc.proofs.race.long.LongRace.next_part.Given as goal

abbrev pub ghosts-race_part : goal.ghosts-race_part
ghosts-race_part g a = record { begins = λ seats machine. (seats ≡ a.field.book.seats) × (machine ≡ a.field.book.start) }
