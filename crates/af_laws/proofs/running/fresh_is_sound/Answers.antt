use Rattle.af_laws.proofs.Logs.{fresh_is_sound}
use Rattle.af_laws.proofs.running.fresh_is_sound.Goals as goal

pub returns : goal.returns
returns c = fresh_is_sound
