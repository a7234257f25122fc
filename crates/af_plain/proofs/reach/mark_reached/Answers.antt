use Rattle.std.proofs.Common.{rules, ◌≡◌, ◌+◌, ◌∷◌, ◌∙◌, [], length, refl, sym, ap, subst, arith, length-append}
use Rattle.af_base.specs.Listing.{files_of}
use Rattle.af_base.specs.Places.{held_by, held_in}
use Rattle.af_plain.specs.Marking.{Marks}
use Rattle.af_plain.specs.declared.reach.Marking.{Marking}
use Rattle.af_plain.proofs.ReachedFiles.{all_held, held_listed, searches-begin, searches-end, searches-step}
use Rattle.af_plain.proofs.reach.mark_reached.Goals as goal

pub loop-ino-init : goal.loop-ino-init
loop-ino-init c =
    let found = c.in_ok-mark_tables.ensures in
    searches-begin c.args.listing.now (record { marked = c.new.result; ahead = c.new-2.result }) c.mark_tables.new.self found.0 c.new.ensures.empty c.new-2.ensures.items found.1 found.2

pub loop-ino-smaller : goal.loop-ino-smaller
loop-ino-smaller c =
    let marks = c.in_ok-look_at.ensures in
    let less = marks.less (all_held c.files-files.result.now) (held_listed c.files-files.result.now c.in-Some.ino) in
    let shorter : length c.loop-ino.marking.ahead.items ≡ length c.pop.new.self.items + 1 = ap length c.in-Some.ensures.items ∙ length-append c.pop.new.self.items (c.in-Some.ino ∷ []) in
    omega (arith, less, shorter)

pub loop-ino-preserved : goal.loop-ino-preserved
loop-ino-preserved c =
    let popped : Marking = record { marked = c.loop-ino.marking.marked; ahead = c.pop.new.self } in
    let held : held_in (files_of c.files-files.result.now) c.in-Some.ino ≡ held_by c.args.listing.now c.in-Some.ino = ap (λ m. held_in m c.in-Some.ino) (sym c.files-files.ensures.value) in
    searches-step c.args.listing.now c.loop-ino.marking popped c.look_at.new.self c.in-Some.ino refl c.in-Some.ensures.items c.loop-ino.invariant (subst (Marks popped c.look_at.new.self) held c.in_ok-look_at.ensures)

pub returns-clause-marked : goal.returns-clause-marked
returns-clause-marked c =
    let none : c.loop-ino.marking.ahead.items ≡ [] = search rules in
    searches-end c.args.listing.now c.loop-ino.marking none c.loop-ino.invariant
