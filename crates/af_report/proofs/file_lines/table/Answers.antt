use Rattle.std.proofs.Common.{rules, ◌≡◌, ◌<◌, ◌++◌, length, sym, ap, ◌∙◌, refl, subst}
use Rattle.std.specs.FinMap as map
use Rattle.std.specs.List.{flat_map}
use Rattle.af_base.proofs.MapWalks.{above, all_entries, fewer_above, next_entry, no_entry}
use Rattle.af_report.specs.Table.{header}
use Rattle.af_report.proofs.Pieces.{none_left, piece_taken}
use Rattle.af_report.proofs.TableLines.{line}
use Rattle.af_report.proofs.WalkStart.{none_at_zero}
use Rattle.af_report.proofs.file_lines.table.Goals as goal

pub loop-file-init : goal.loop-file-init
loop-file-init c =
    let w = c.args.engine.now.world in
    let begun : c.in_ok-text.text.items ≡ header = search rules in
    ap (λ text. text ++ flat_map (line w) (above 0 (map.entries w.files))) begun ∙ ap (λ es. header ++ flat_map (line w) es) (all_entries w.files w.files refl (none_at_zero w c.lemma_is_sound.ensures.sound.whole))

pub loop-file-preserved : goal.loop-file-preserved
loop-file-preserved c =
    let w = c.args.engine.now.world in
    let next = c.in-Some.ensures in
    let at = next_entry w.files w.files refl c.loop-file.last c.in-Some.file next.above next.live next.least in
    let more = c.push_line.ensures at.0 at.1 in
    let rest = piece_taken (line w) (c.in-Some.file, at.0) _ _ c.loop-file.text.items _ _ at.2 (search rules) c.loop-file.invariant in
    ap (λ n. c.push_line.new.text.items ++ flat_map (line w) (above n (map.entries w.files))) c.ino-last.ensures ∙ rest

pub loop-file-smaller : goal.loop-file-smaller
loop-file-smaller c =
    let files = c.args.engine.now.world.files in
    let next = c.in-Some.ensures in
    subst (λ n. length (above n (map.entries files)) < length (above c.loop-file.last (map.entries files))) (sym c.ino-last.ensures) (fewer_above files files refl c.loop-file.last c.in-Some.file next.above next.live next.least)

pub returns : goal.returns
returns c =
    let w = c.args.engine.now.world in
    let none = no_entry w.files w.files refl c.loop-file.last c.in_default.ensures.none in
    none_left (line w) _ c.loop-file.text.items _ none c.loop-file.invariant
