use Rattle.std.proofs.Common.{rules}
use Rattle.af_desc.proofs.files.Files.socket.Goals as goal

pub returns : goal.returns
returns c = search rules
