use Rattle.std.proofs.Common.{rules, ◌≡◌, ◌∙◌}
use Rattle.std.specs.Prelude.{is_ok}
use Rattle.af_report.proofs.picture.BinarySearch.{found-is_in}
use Rattle.af_report.proofs.picture.files.is_in.Goals as goal

pub returns : goal.returns
returns c =
    let answer : c.is_ok.result ≡ is_ok c.binary_search.result = search rules in
    answer ∙ found-is_in c.args.inos.now c.args.ino c.binary_search.result c.requires c.binary_search.ensures.position
