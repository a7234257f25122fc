use Rattle.std.proofs.Common.{◌≡◌, ℕ, false, inl, inr, not, ap, sym, subst, ◌∙◌}
use Rattle.std.proofs.lemmas.Bool.{cases_Bool, false≢true}
use Rattle.af_base.specs.Places.{InTable}
use Rattle.af_base.specs.Unheld.{IsSettled}
use Rattle.af_base.specs.World.{IsLive}
use Rattle.af_base.proofs.NothingInFlight.{all_tabled}
use Rattle.af_collect.specs.HoldingsView.{HoldingsView}
use Rattle.af_collect.specs.contracts.holdings.Holdings.{the_view}
use Rattle.af_collect.proofs.holdings.Holdings.is_calm.Goals as goal

-- Nothing is in flight, and no embryo waits.
pub returns-then-total-eq0 : goal.returns-then-total-eq0
returns-then-total-eq0 c = λ e.
    let a = c.self.invariant.agrees in
    let nobody : c.has_embryos.result ≡ false = elim (cases_Bool c.has_embryos.result) [ inl some ↦ absurd (false≢true (sym (ap not some) ∙ e)) | inr none ↦ none ] in
    subst (λ (s : HoldingsView). (f : ℕ) → IsLive s.world f → InTable s.world f) c.self.view_is
    (all_tabled (the_view c.self.inside).world (subst (λ (s : HoldingsView). IsSettled s.world) (sym c.self.view_is) c.requires.sound.settled)
    (sym a.total ∙ sym c.total.ensures ∙ c.if-total-eq0.true) (λ f. sym (a.waiting f) ∙ c.has_embryos.ensures nobody f))
