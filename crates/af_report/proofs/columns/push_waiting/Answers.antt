use Rattle.std.proofs.Common.{rules, ◌≡◌, [], ◌∷◌, ◌++◌, string_bytes}
use Rattle.af_report.specs.Table.{joined_cells, right}
use Rattle.af_report.proofs.TableLines.{column_on}
use Rattle.af_report.proofs.columns.push_waiting.Goals as goal

pub returns : goal.returns
returns c =
    let last : string_bytes c.push_number-3.new.text ≡ string_bytes c.push_number-2.new.text ++ joined_cells (right 8 c.args.peer ∷ [] ∷ []) = search rules in
    column_on (right 4 c.args.messages) (right 4 c.args.embryos) (right 8 c.args.peer ∷ [] ∷ []) (string_bytes c.args.text.now) (string_bytes c.push_number.new.text) (string_bytes c.push_number-3.new.text) (search rules) (column_on (right 4 c.args.embryos) (right 8 c.args.peer) ([] ∷ []) (string_bytes c.push_number.new.text) (string_bytes c.push_number-2.new.text) (string_bytes c.push_number-3.new.text) (search rules) last)
