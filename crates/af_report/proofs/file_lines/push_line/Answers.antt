use Rattle.std.proofs.Common.{rules, ◌≡◌, [], ◌∷◌, ◌++◌, ap, ◌∙◌, length, string_bytes}
use Rattle.af_base.specs.Counts.{inflight, refs}
use Rattle.af_base.specs.Places.{backlog_of, queue_of}
use Rattle.af_base.specs.Whole.{name_at}
use Rattle.af_report.specs.Table.{joined_cells, kind_cell, left, name_cell, name_text, peer_cell, right, state_cell}
use Rattle.af_report.proofs.TableLines.{appended_on, line_made, name_shown}
use Rattle.af_report.proofs.file_lines.push_line.Goals as goal

pub returns : goal.returns
returns c = λ x at.
    let w = c.args.engine.now.world in
    let f = c.args.file.now in
    let rest = left 9 (state_cell x) ∷ right 4 (length (queue_of x)) ∷ right 4 (length (backlog_of x)) ∷ right 8 (peer_cell x) ∷ [] in
    let counts : string_bytes c.push_counts.new.text ≡ joined_cells (right 8 f ∷ right 7 (refs w f) ∷ right 7 (inflight w f) ∷ [] ∷ []) = search rules in
    let shown = c.push_file.ensures x at in
    let kinds : string_bytes c.push_file.new.text ≡ string_bytes c.push_counts.new.text ++ joined_cells (left 9 (kind_cell x) ∷ rest ++ [] ∷ []) = search rules in
    let front : string_bytes c.push_file.new.text ≡ joined_cells (right 8 f ∷ right 7 (refs w f) ∷ right 7 (inflight w f) ∷ left 9 (kind_cell x) ∷ rest ++ [] ∷ []) =
    appended_on (right 8 f ∷ right 7 (refs w f) ∷ right 7 (inflight w f) ∷ []) (left 9 (kind_cell x)) (rest ++ [] ∷ []) [] (string_bytes c.push_counts.new.text) (string_bytes c.push_file.new.text) counts kinds in
    let copied : c.extend_from_slice.new.self.items ≡ c.args.text.now.items ++ string_bytes c.push_file.new.text = search rules in
    let named : c.push_name.new.text.items ≡ c.extend_from_slice.new.self.items ++ name_text (name_at w f) = search rules in
    let ended : c.push.new.self.items ≡ c.push_name.new.text.items ++ 10 ∷ [] = search rules in
    line_made (right 8 f ∷ right 7 (refs w f) ∷ right 7 (inflight w f) ∷ left 9 (kind_cell x) ∷ rest) (name_cell x) (string_bytes c.push_file.new.text) c.args.text.now.items c.extend_from_slice.new.self.items c.push_name.new.text.items c.push.new.self.items
    front copied (named ∙ ap (λ n. c.extend_from_slice.new.self.items ++ n) (name_shown w f x at)) ended
