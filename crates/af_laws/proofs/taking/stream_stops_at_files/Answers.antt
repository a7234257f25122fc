use Rattle.af_laws.proofs.Takes.{stream_stops_at_files}
use Rattle.af_laws.proofs.taking.stream_stops_at_files.Goals as goal

pub returns : goal.returns
returns c = stream_stops_at_files
