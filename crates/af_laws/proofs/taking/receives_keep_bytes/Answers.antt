use Rattle.af_laws.proofs.Receives.{receives_keep_bytes}
use Rattle.af_laws.proofs.taking.receives_keep_bytes.Goals as goal

pub returns : goal.returns
returns c = receives_keep_bytes
