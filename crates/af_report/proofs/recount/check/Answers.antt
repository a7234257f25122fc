use Rattle.std.proofs.Common.{rules, ◌≡◌, ℕ, IfSome, IsSome, Option, Some, ap₂, ◌∙◌, subst}
use Rattle.std.proofs.lemmas.Bool.{false≢true}
use Rattle.af_report.specs.Check.{IsChecked, check_text}
use Rattle.af_report.proofs.recount.check.Goals as goal

-- The numbers agree, so this arm is never taken.
pub returns-in_default : goal.returns-in_default
returns-in_default c = absurd (false≢true (subst IsSome c.in_default.is c.in_ok-checked.ensures.agree))

pub returns : goal.returns
returns c =
    let Counts : Option (ℕ × ℕ) → Type 0 = λ o. IfSome o (λ found. IsChecked c.args.engine.now.world found.0 found.1) in
    let counts : Counts (Some c.in-Some.checked) = subst Counts c.in-Some.is c.in_ok-checked.ensures.counts in
    let text : c.into_bytes.result.items ≡ check_text c.in-Some.checked.0 c.in-Some.checked.1 = search rules in
    (counts.1.0, counts.1.1, text ∙ ap₂ check_text counts.0 counts.1.2)
