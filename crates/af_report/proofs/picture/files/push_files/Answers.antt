use Rattle.std.proofs.Common.{rules, ◌≡◌, ◌<◌, ◌++◌, ◌∙◌, ℕ, List, length, sym, ap, refl, string_bytes, subst}
use Rattle.std.specs.List.{flat_map}
use Rattle.std.specs.FinMap as map
use Rattle.af_base.specs.World.{File}
use Rattle.af_base.proofs.MapWalks.{above, all_entries, fewer_above, next_entry, no_entry}
use Rattle.af_report.proofs.WalkStart.{none_at_zero}
use Rattle.af_report.specs.Graph.{file_text, files_text, is_in, node_text, peer_edge}
use Rattle.af_report.proofs.Pieces.{both, none_left, piece_taken}
use Rattle.af_report.proofs.picture.files.push_files.Goals as goal

pub loop-file-init : goal.loop-file-init
loop-file-init c =
    let w = c.args.engine.now.world in
    ap (λ es. string_bytes c.args.text.now ++ flat_map (λ e. file_text w (is_in c.args.garbage.now e.0) e.0 e.1) es) (all_entries w.files w.files refl (none_at_zero w c.lemma_is_sound.ensures.sound.whole))

pub loop-file-preserved : goal.loop-file-preserved
loop-file-preserved c =
    let w = c.args.engine.now.world in
    let f = c.in-Some.file in
    let text : ℕ × File → List ℕ = λ e. file_text w (is_in c.args.garbage.now e.0) e.0 e.1 in
    let next = c.in-Some.ensures in
    let at = next_entry w.files w.files refl c.loop-file.last f next.above next.live next.least in
    let x = at.0 in
    let node = c.push_node.ensures x at.1 in
    let peer = c.push_peer.ensures x at.1 in
    let garbage : c.is_in.result ≡ is_in c.args.garbage.now f = c.is_in.ensures ∙ ap (is_in c.args.garbage.now) c.ino.ensures in
    let first : string_bytes c.push_node.new.text ≡ string_bytes c.loop-file.text ++ node_text w (is_in c.args.garbage.now f) f x = search rules in
    let second : string_bytes c.push_peer.new.text ≡ string_bytes c.push_node.new.text ++ peer_edge f x = search rules in
    ap (λ n. string_bytes c.push_peer.new.text ++ flat_map text (above n (map.entries w.files))) c.ino-last.ensures
    ∙ piece_taken text (f, x) (above c.loop-file.last (map.entries w.files)) (above f (map.entries w.files)) (string_bytes c.loop-file.text) (string_bytes c.push_peer.new.text) (string_bytes c.args.text.now ++ files_text w c.args.garbage.now) at.2
    (both (node_text w (is_in c.args.garbage.now f) f x) (peer_edge f x) (string_bytes c.loop-file.text) (string_bytes c.push_node.new.text) (string_bytes c.push_peer.new.text) first second)
    c.loop-file.invariant

pub loop-file-smaller : goal.loop-file-smaller
loop-file-smaller c =
    let files = c.args.engine.now.world.files in
    let next = c.in-Some.ensures in
    subst (λ n. length (above n (map.entries files)) < length (above c.loop-file.last (map.entries files))) (sym c.ino-last.ensures) (fewer_above files files refl c.loop-file.last c.in-Some.file next.above next.live next.least)

pub returns : goal.returns
returns c =
    let w = c.args.engine.now.world in
    let none = no_entry w.files w.files refl c.loop-file.last c.in_default.ensures.none in
    none_left (λ e. file_text w (is_in c.args.garbage.now e.0) e.0 e.1) (above c.loop-file.last (map.entries w.files)) (string_bytes c.loop-file.text) (string_bytes c.args.text.now ++ files_text w c.args.garbage.now) none c.loop-file.invariant
