use Rattle.af_laws.proofs.Takes.{stream_keeps_files}
use Rattle.af_laws.proofs.taking.stream_keeps_files.Goals as goal

pub returns : goal.returns
returns c = stream_keeps_files
