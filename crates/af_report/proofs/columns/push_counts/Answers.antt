use Rattle.std.proofs.Common.{rules, ◌≡◌, [], ◌∷◌, ◌++◌, string_bytes}
use Rattle.af_report.specs.Table.{joined_cells, right}
use Rattle.af_report.proofs.TableLines.{column_on}
use Rattle.af_report.proofs.columns.push_counts.Goals as goal

pub returns : goal.returns
returns c =
    let last : string_bytes c.push_number-3.new.text ≡ string_bytes c.push_number-2.new.text ++ joined_cells (right 7 c.args.inflight ∷ [] ∷ []) = search rules in
    column_on (right 8 c.args.ino) (right 7 c.args.refs) (right 7 c.args.inflight ∷ [] ∷ []) (string_bytes c.args.text.now) (string_bytes c.push_number.new.text) (string_bytes c.push_number-3.new.text) (search rules) (column_on (right 7 c.args.refs) (right 7 c.args.inflight) ([] ∷ []) (string_bytes c.push_number.new.text) (string_bytes c.push_number-2.new.text) (string_bytes c.push_number-3.new.text) (search rules) last)
