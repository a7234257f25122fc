use Rattle.af_steps.proofs.LookupRows.{held}
use Rattle.af_steps.proofs.engine.Engine.unconnect.Goals as goal

pub aim-requires-clause-spared : goal.aim-requires-clause-spared
aim-requires-clause-spared c =
    c.lemma_is_spared.ensures c.in_ok-file.file (held c.in_ok-file.ensures.found.number)
