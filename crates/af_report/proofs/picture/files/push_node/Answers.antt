use Rattle.std.proofs.Common.{rules, ◌≡◌, ℕ, List, ◌++◌, ap, ◌∙◌, string_bytes}
use Rattle.std.specs.Prelude.{codes}
use Rattle.std.specs.Fmt.{decimal}
use Rattle.af_base.specs.Counts.{inflight, refs}
use Rattle.af_base.specs.Whole.{name_at}
use Rattle.af_report.specs.Graph.{colour, counts_text, kind_text, socket_name, name_line}
use Rattle.af_report.proofs.Pieces.{both}
use Rattle.af_report.proofs.picture.Pictures.{name_at-socket_name}
use Rattle.af_report.proofs.picture.files.push_node.Goals as goal

pub returns : goal.returns
returns c = λ x at.
    let w = c.args.engine.now.world in
    let f = c.args.file.now in
    let head : List ℕ = codes "f" ++ (decimal f ++ (codes " [label=\"" ++ (decimal f ++ codes " "))) in
    let counts = counts_text (refs w f) (inflight w f) in
    let name = name_line (socket_name x) in
    let quote : List ℕ = codes "\"" in
    let shade = colour c.args.is_garbage in
    let end : List ℕ = codes "]\n" in
    let old = string_bytes c.args.text.now in
    let headed = string_bytes c.write.new.self in
    let kinded = string_bytes c.push_kind.new.text in
    let counted = string_bytes c.push_counts.new.text in
    let named = string_bytes c.push_name.new.text in
    let quoted = string_bytes c.push_str.new.self in
    let shaded = string_bytes c.push_colour.new.text in
    let new = string_bytes c.push_str-2.new.self in
    let shown = c.push_kind.ensures x at in
    let first : headed ≡ old ++ head = search rules in
    let second : kinded ≡ headed ++ kind_text x = search rules in
    let third : counted ≡ kinded ++ counts = search rules in
    let fourth : named ≡ counted ++ name_line (name_at w f) = search rules in
    let fifth : quoted ≡ named ++ quote = search rules in
    let sixth : shaded ≡ quoted ++ shade = search rules in
    let seventh : new ≡ shaded ++ end = search rules in
    both head (kind_text x ++ (counts ++ (name ++ (quote ++ (shade ++ end))))) old headed new first
    (both (kind_text x) (counts ++ (name ++ (quote ++ (shade ++ end)))) headed kinded new second
    (both counts (name ++ (quote ++ (shade ++ end))) kinded counted new third
    (both name (quote ++ (shade ++ end)) counted named new (fourth ∙ ap (λ n. counted ++ name_line n) (name_at-socket_name w f x at))
    (both quote (shade ++ end) named quoted new fifth (both shade end quoted shaded new sixth seventh)))))
