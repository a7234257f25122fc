use Rattle.std.specs.HashMap.{keys}
use Rattle.af_table.proofs.Places.{position_is}
use Rattle.af_table.proofs.hints.search_index.Goals as goal

pub returns-clause-there : goal.returns-clause-there
returns-clause-there c = position_is (keys c.args.processes.now) c.args.pid c.get_index_of.result c.get_index_of.ensures.index
