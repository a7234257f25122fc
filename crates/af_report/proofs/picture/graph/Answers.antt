use Rattle.std.proofs.Common.{rules, ◌≡◌, ◌∙◌, subst, string_bytes}
use Rattle.af_base.specs.Reached.{Garbage}
use Rattle.af_plain.specs.Marking.{IsListOf}
use Rattle.af_report.proofs.BareRecounts.{garbage-listed}
use Rattle.af_report.specs.Graph.{graph_text}
use Rattle.af_report.proofs.picture.graph.Goals as goal

pub returns : goal.returns
returns c =
    let w = c.args.engine.now.world in
    let garbage = c.in_ok-garbage.garbage.items in
    let drawn : string_bytes c.push_world.new.text ≡ graph_text w garbage = search rules in
    let bytes : c.into_bytes.result.items ≡ string_bytes c.push_world.new.text = search rules in (
      garbage,
      garbage-listed w garbage (subst (λ v. IsListOf (Garbage v) garbage) c.in_ok-listing.ensures c.in_ok-garbage.ensures),
      bytes ∙ drawn,
    )
