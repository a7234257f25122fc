use Rattle.af_laws.proofs.Lowest.{free_numbers_are_free}
use Rattle.af_laws.proofs.numbering.free_numbers_are_free.Goals as goal

pub returns : goal.returns
returns c = free_numbers_are_free
