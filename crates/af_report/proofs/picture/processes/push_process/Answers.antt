use Rattle.std.proofs.Common.{rules, ◌≡◌, ◌++◌, ap, ◌∙◌, sym, string_bytes}
use Rattle.std.specs.List.{flat_map}
use Rattle.af_report.specs.Graph.{box_text, descriptor_text}
use Rattle.af_report.proofs.Pieces.{both}
use Rattle.af_report.proofs.picture.Pictures.{process-listed}
use Rattle.af_report.proofs.picture.processes.push_process.Goals as goal

pub returns : goal.returns
returns c =
    let t = c.args.table.now in
    let old = string_bytes c.args.text.now in
    let boxed = string_bytes c.push_box.new.text in
    let new = string_bytes c.push_numbers.new.text in
    let numbers = flat_map (λ n. descriptor_text t.pid n.fd n.ino) t.numbers.items in
    let first : boxed ≡ old ++ box_text t.pid = search rules in
    let second : new ≡ boxed ++ numbers = search rules in
    both (box_text t.pid) numbers old boxed new first second ∙ ap (λ text. old ++ text) (sym (process-listed t c.requires))
