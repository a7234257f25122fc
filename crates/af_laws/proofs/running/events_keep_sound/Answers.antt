use Rattle.af_laws.proofs.Logs.{events_keep_sound}
use Rattle.af_laws.proofs.running.events_keep_sound.Goals as goal

pub returns : goal.returns
returns c = events_keep_sound
