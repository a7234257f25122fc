use Rattle.std.proofs.Common.{rules, ◌≡◌, ℕ, ◌∷◌, ◌++◌, [], ◌<◌, length, map, refl, sym, ap, ◌∙◌, subst}
use Rattle.std.specs.FinMap as finmap
use Rattle.std.specs.List.{All}
use Rattle.std.proofs.lemmas.List.Elements.{All-nil, All-push}
use Rattle.af_base.specs.Counts.{inflight, refs}
use Rattle.af_base.specs.World.{File}
use Rattle.af_plain.specs.Agreement.{IsFileRecount}
use Rattle.af_plain.specs.declared.agreement.KeptFile.{KeptFile}
use Rattle.af_base.proofs.GrowingLists.{made_all, made_more}
use Rattle.af_base.proofs.MapWalks.{above, all_entries, fewer_above, next_entry, no_entry}
use Rattle.af_report.proofs.WalkStart.{none_at_zero}
use Rattle.af_report.proofs.recount.kept_files.Goals as goal

-- The number of a file that is kept.
abbrev ino : KeptFile → ℕ
ino k = k.ino

-- The number of an entry.
abbrev number : ℕ × File → ℕ
number e = e.0

pub loop-file-init : goal.loop-file-init
loop-file-init c =
    let w = c.args.engine.now.world in
    let none = c.new-files.ensures.items in
    record {
      recounts = subst (λ xs. All (IsFileRecount w) xs) (sym none) (All-nil (IsFileRecount w));
      so_far = ap (λ xs. map ino xs ++ map number (above 0 (finmap.entries w.files))) none ∙ ap (map number) (all_entries w.files w.files refl (none_at_zero w c.lemma_is_sound.ensures.sound.whole));
    }

pub loop-file-preserved : goal.loop-file-preserved
loop-file-preserved c =
    let w = c.args.engine.now.world in
    let xs = c.loop-file.files.items in
    let x : KeptFile = record { ino = c.ino.result; refs = c.refs_at.result; inflight = c.inflight_at.result } in
    let more : c.push.new.self.items ≡ xs ++ x ∷ [] = search rules in
    let rest = above c.ino-last.result (finmap.entries w.files) in
    let here = ap (λ n. above n (finmap.entries w.files)) c.ino-last.ensures in
    let next = c.in-Some.ensures in
    let at = next_entry w.files w.files refl c.loop-file.last c.in-Some.file next.above next.live next.least in
    let before = ap (λ ds. map ino xs ++ number (c.in-Some.file, at.0) ∷ map number ds) here ∙ ap (λ ds. map ino xs ++ map number ds) (sym at.2) ∙ c.loop-file.invariant.so_far in
    record {
      recounts = subst (λ ys. All (IsFileRecount w) ys) (sym more) (All-push (IsFileRecount w) xs x c.loop-file.invariant.recounts (c.refs_at.ensures ∙ ap (refs w) (sym c.ino.ensures), c.inflight_at.ensures ∙ ap (inflight w) (sym c.ino.ensures)));
      so_far = ap (λ ys. map ino ys ++ map number rest) more ∙ made_more ino number xs x (c.in-Some.file, at.0) rest (finmap.keys w.files) c.ino.ensures before;
    }

pub loop-file-smaller : goal.loop-file-smaller
loop-file-smaller c =
    let files = c.args.engine.now.world.files in
    let next = c.in-Some.ensures in
    subst (λ n. length (above n (finmap.entries files)) < length (above c.loop-file.last (finmap.entries files))) (sym c.ino-last.ensures) (fewer_above files files refl c.loop-file.last c.in-Some.file next.above next.live next.least)

pub returns-clause-all : goal.returns-clause-all
returns-clause-all c =
    let files = c.args.engine.now.world.files in
    let last = c.in_default.ensures in
    let none = no_entry files files refl c.loop-file.last last.none in
    made_all ino number c.loop-file.files.items (above c.loop-file.last (finmap.entries files)) (finmap.keys files) none c.loop-file.invariant.so_far
