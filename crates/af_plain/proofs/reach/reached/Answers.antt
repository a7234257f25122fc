use Rattle.std.proofs.Common.{rules, ◌≡◌, subst, sym}
use Rattle.std.specs.Prelude.{IfOk}
use Rattle.std.proofs.lemmas.Result.{IfOk-weaker}
use Rattle.af_base.specs.Reached.{Reached}
use Rattle.af_plain.specs.Marking.{IsListOf}
use Rattle.af_plain.proofs.ReachedFiles.{set_lists}
use Rattle.af_plain.proofs.reach.reached.Goals as goal

pub returns : goal.returns
returns c =
    let listed : IfOk c.collect.result (λ xs. xs.items ≡ c.in_ok-marked.marked.keys) = search rules in
    IfOk-weaker c.collect.result (λ xs. xs.items ≡ c.in_ok-marked.marked.keys) (λ xs. IsListOf (Reached c.args.listing.now) xs.items)
    (λ xs e. subst (IsListOf (Reached c.args.listing.now)) (sym e) (set_lists (Reached c.args.listing.now) c.in_ok-marked.marked c.in_ok-marked.ensures.ordered c.in_ok-marked.ensures.marked)) listed
