use Rattle.std.proofs.Common.{rules, ◌≡◌, ◌++◌, ap, ◌∙◌, sym, append-nil, string_bytes}
use Rattle.std.specs.List.{flat_map}
use Rattle.af_base.specs.Listing.{message_of}
use Rattle.af_report.specs.Graph.{embryo_text, message_text}
use Rattle.af_report.proofs.Pieces.{both}
use Rattle.af_report.proofs.picture.Pictures.{plain-listed, socket-listed}
use Rattle.af_report.proofs.picture.contents.push_waiting.Goals as goal

pub returns-in_default : goal.returns-in_default
returns-in_default c =
    let old = string_bytes c.args.text.now in
    sym (append-nil old) ∙ ap (λ text. old ++ text) (sym (plain-listed c.args.file.now (search rules)))

pub returns : goal.returns
returns c =
    let x = c.args.file.now in
    let s = c.in-Some.socket in
    let old = string_bytes c.args.text.now in
    let queued = string_bytes c.push_queue.new.text in
    let new = string_bytes c.push_backlog.new.text in
    let queue = flat_map (λ m. message_text x.ino (message_of m)) s.queue.items in
    let backlog = flat_map (embryo_text x.ino) s.backlog.items in
    let first : queued ≡ old ++ queue = search rules in
    let second : new ≡ queued ++ backlog = search rules in
    both queue backlog old queued new first second ∙ ap (λ text. old ++ text) (sym (socket-listed x s c.in-Some.is))
