use Rattle.std.proofs.Common.{rules, ◌≡◌, IsSome, sym, ap, ◌∙◌, subst, length}
use Rattle.std.specs.FinMap as map
use Rattle.std.proofs.lemmas.Bool.{false≢true}
use Rattle.std.proofs.lemmas.List.{length-map}
use Rattle.af_base.specs.Bare.{bare}
use Rattle.af_base.specs.Reached.{Garbage}
use Rattle.af_plain.specs.Agreement.{AreRecounts}
use Rattle.af_plain.specs.Marking.{IsListOf}
use Rattle.af_report.proofs.BareRecounts.{garbage-listed, recounts-bare}
use Rattle.af_report.proofs.recount.count.Goals as goal

-- The recount agrees, so this arm is never taken.
pub returns-in_default-clause-agree : goal.returns-in_default-clause-agree
returns-in_default-clause-agree c =
    let w = c.args.engine.now.world in
    let kept = c.in_ok-kept.kept in
    let shows : c.in_ok-listing.listing ≡ bare w = search rules in
    let holds : AreRecounts w kept = search rules in
    let some : IsSome c.of.result = c.of.ensures.agree.1 (subst (λ v. AreRecounts v kept) (sym shows) (recounts-bare w kept holds)) in
    absurd (false≢true (subst IsSome c.in_default.is some))

pub returns-clause-counts : goal.returns-clause-counts
returns-clause-counts c =
    let w = c.args.engine.now.world in
    let garbage = c.in_ok-garbage.garbage.items in
    let shows : c.in_ok-listing.listing ≡ bare w = search rules in
    let found : IsListOf (Garbage c.in_ok-listing.listing) garbage = search rules in
    let kept : c.in-Some.agreed ≡ length c.in_ok-kept.kept.files.items = c.in-Some.ensures.files in
    let whole : length c.in_ok-kept.kept.files.items ≡ length (map.keys w.files) = sym (length-map c.in_ok-kept.kept.files.items (λ k. k.ino)) ∙ ap length c.in_ok-kept.ensures.files in
    let all : c.in-Some.agreed ≡ map.len w.files = kept ∙ whole ∙ length-map (map.entries w.files) (λ e. e.0) ∙ sym (map.len-entries w.files) in
    (all, (garbage, garbage-listed w garbage (subst (λ v. IsListOf (Garbage v) garbage) shows found), search rules))
