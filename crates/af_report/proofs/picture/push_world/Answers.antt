use Rattle.std.proofs.Common.{rules, ◌≡◌, ℕ, List, ◌++◌, ap, ◌∙◌, string_bytes}
use Rattle.std.specs.Prelude.{codes}
use Rattle.std.specs.List.{flat_map}
use Rattle.std.specs.FinMap as map
use Rattle.af_base.specs.Listing.{file_of, process_of}
use Rattle.af_report.specs.Graph.{contents_text, files_text, process_text}
use Rattle.af_report.proofs.Pieces.{both}
use Rattle.af_report.proofs.picture.Pictures.{processes-listed, waiting-listed}
use Rattle.af_report.proofs.picture.push_world.Goals as goal

pub returns : goal.returns
returns c =
    let w = c.args.engine.now.world in
    let seen = c.args.listing.now in
    let head : List ℕ = codes "digraph world {\nrankdir=LR\n" in
    let processes = flat_map (λ e. process_text e.0 e.1) (map.entries w.processes) in
    let files = files_text w c.args.garbage.now in
    let waiting = flat_map (λ e. contents_text e.0 e.1) (map.entries w.files) in
    let end : List ℕ = codes "}\n" in
    let old = string_bytes c.args.text.now in
    let headed = string_bytes c.push_str.new.self in
    let with_processes = string_bytes c.push_processes.new.text in
    let with_files = string_bytes c.push_files.new.text in
    let with_waiting = string_bytes c.push_all_waiting.new.text in
    let new = string_bytes c.push_str-2.new.self in
    let first : headed ≡ old ++ head = search rules in
    let second : with_processes ≡ headed ++ flat_map (λ t. process_text t.pid (process_of t)) c.tables.result.now = search rules in
    let third : with_files ≡ with_processes ++ files = search rules in
    let fourth : with_waiting ≡ with_files ++ flat_map (λ x. contents_text x.ino (file_of x)) c.files.result.now = search rules in
    let fifth : new ≡ with_waiting ++ end = search rules in
    let all_processes = processes-listed w seen c.tables.result.now c.requires.listed c.tables.ensures.value c.tables.ensures.ordered in
    let all_waiting = waiting-listed w seen c.files.result.now c.requires.listed c.files.ensures.value c.files.ensures.ordered in
    both head (processes ++ (files ++ (waiting ++ end))) old headed new first
    (both processes (files ++ (waiting ++ end)) headed with_processes new (second ∙ ap (λ text. headed ++ text) all_processes)
    (both files (waiting ++ end) with_processes with_files new third
    (both waiting end with_files with_waiting new (fourth ∙ ap (λ text. with_files ++ text) all_waiting) fifth)))
