use Rattle.std.proofs.Common.{ap, ◌∙◌}
use Rattle.af_base.specs.Counts.{refs}
use Rattle.af_ledger.specs.Tally.{kept_of}
use Rattle.af_collect.specs.HoldingsView.{HoldingsView}
use Rattle.af_collect.specs.contracts.holdings.Holdings.{the_view}
use Rattle.af_collect.proofs.Exact.{agrees-refs}
use Rattle.af_collect.proofs.holdings.Holdings.refs_at.Goals as goal

pub returns : goal.returns
returns c = c.refs_at.ensures ∙ agrees-refs (the_view c.self.inside).world (kept_of c.self.inside.files.counts c.self.inside.ledger) c.self.invariant.agrees c.args.file.now ∙ ap (λ (s : HoldingsView). refs s.world c.args.file.now) c.self.view_is
