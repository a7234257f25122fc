use Rattle.std.proofs.Common.{rules, ◌≡◌, [], ◌∷◌, ◌++◌, string_bytes}
use Rattle.af_report.specs.Table.{joined_cells, left}
use Rattle.af_report.proofs.TableLines.{column_on}
use Rattle.af_report.proofs.columns.push_kind.Goals as goal

pub returns : goal.returns
returns c =
    let last : string_bytes c.push_word-2.new.text ≡ string_bytes c.push_word.new.text ++ joined_cells (left 9 c.args.state.now ∷ [] ∷ []) = search rules in
    column_on (left 9 c.args.kind.now) (left 9 c.args.state.now) ([] ∷ []) (string_bytes c.args.text.now) (string_bytes c.push_word.new.text) (string_bytes c.push_word-2.new.text) (search rules) last
