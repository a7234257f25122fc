use Rattle.std.proofs.Common.{◌≡◌, subst}
use Rattle.std.specs.Prelude.{IfNone, IfSome}
use Rattle.af_base.specs.World.{IsLive}
use Rattle.af_base.specs.Counts.{refs}
use Rattle.af_base.specs.Whole.{IsSound}
use Rattle.af_ledger.specs.Tally.{kept_of}
use Rattle.af_collect.specs.HoldingsView.{HoldingsView}
use Rattle.af_collect.specs.contracts.holdings.Holdings.{the_view}
use Rattle.af_collect.proofs.Exact.{none-waits, on-none, on-some, waits-unheld}
use Rattle.af_collect.proofs.holdings.Holdings.next_unreferenced.Goals as goal

pub returns : goal.returns
returns c =
    let w = (the_view c.self.inside).world in
    let o = c.next_unreferenced.result in
    record {
      live = subst (λ (s : HoldingsView). IfSome o (IsLive s.world)) c.self.view_is (on-some o (λ f e. (waits-unheld w (kept_of c.self.inside.files.counts c.self.inside.ledger) f c.self.invariant e).0) c.next_unreferenced.ensures.some);
      unheld = subst (λ (s : HoldingsView). IfSome o (λ f. refs s.world f ≡ 0)) c.self.view_is (on-some o (λ f e. (waits-unheld w (kept_of c.self.inside.files.counts c.self.inside.ledger) f c.self.invariant e).1) c.next_unreferenced.ensures.some);
      none = subst (λ (s : HoldingsView). IfNone o (IsSound s.world)) c.self.view_is (on-none o (none-waits w (kept_of c.self.inside.files.counts c.self.inside.ledger) c.self.invariant) c.next_unreferenced.ensures.none);
    }
