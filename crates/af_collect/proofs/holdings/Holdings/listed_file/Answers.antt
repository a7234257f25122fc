use Rattle.std.proofs.Common.{sym, ◌∙◌}
use Rattle.af_collect.specs.contracts.holdings.Holdings.{the_view}
use Rattle.af_collect.proofs.FreedFiles.{backlog-few, socket-stands}
use Rattle.af_collect.proofs.holdings.Holdings.listed_file.Goals as goal

pub listed_socket-requires : goal.listed_socket-requires
listed_socket-requires c =
    let w = (the_view c.self.inside).world in
    backlog-few w c.args.file.now c.in-Some.socket c.self.invariant.within (socket-stands w.files c.args.file.now c.in-Some.socket (sym c.socket.ensures ∙ c.in-Some.is))
