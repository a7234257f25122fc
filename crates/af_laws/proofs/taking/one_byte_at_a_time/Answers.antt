use Rattle.af_laws.proofs.Receives.{one_byte_at_a_time}
use Rattle.af_laws.proofs.taking.one_byte_at_a_time.Goals as goal

pub returns : goal.returns
returns c = one_byte_at_a_time
