use Rattle.std.proofs.Common.{◌≡◌, ◌<◌, ◌≤◌, ◌++◌, ◌∷◌, ℕ, length, map, sym, ap, ◌∙◌, subst, arith}
use Rattle.std.specs.Prelude.{option_map}
use Rattle.std.specs.List.{sum_by}
use Rattle.std.specs.FinMap as finmap
use Rattle.std.proofs.lemmas.List.Sums.{sum_by_push}
use Rattle.af_base.specs.Bare.{bare_file}
use Rattle.af_base.specs.Listing.{file_of}
use Rattle.af_base.specs.Places.{contents}
use Rattle.af_base.specs.World.{File}
use Rattle.af_base.specs.declared.limits.TheConstants.{MAX_FILES}
use Rattle.af_base.proofs.Lookups.{some_same}
use Rattle.af_collect.specs.HoldingsView.{HoldingsView}
use Rattle.af_base.proofs.GrowingLists.{made_all, made_more}
use Rattle.af_base.proofs.PlainLists.{changed, entry, keyed-changed, keys-rise}
use Rattle.af_base.proofs.MapWalks.{above, above-le, all_entries, fewer_above, next_entry, no_entry}
use Rattle.af_collect.proofs.holdings.Holdings.listed_files.Goals as goal

pub loop-file-init : goal.loop-file-init
loop-file-init c =
    let es = finmap.entries c.args.self.now.world.files in
    let count : length (above 0 es) ≤ MAX_FILES = omega (arith, above-le 0 es, finmap.len-entries c.args.self.now.world.files, (subst (λ (s : HoldingsView). finmap.len s.world.files ≤ MAX_FILES) c.self.view_is c.self.invariant.within.file_count)) in
    record {
      so_far = ap (λ xs. map (entry (λ x. x.ino) file_of) xs ++ map (changed bare_file) (above 0 es)) c.new-files.ensures.items;
      few = omega (arith, count, ap (sum_by (λ x. length (contents (file_of x)))) c.new-files.ensures.items);
    }

pub loop-file-preserved : goal.loop-file-preserved
loop-file-preserved c =
    let files = c.args.self.now.world.files in
    let es = finmap.entries files in
    let xs = c.loop-file.files.items in
    let x = c.in_ok-listed_file.field-0 in
    let rest = above c.in-Some.file es in
    let next = c.in-Some.ensures in
    let at = next_entry c.self.inside.files.files files (ap (λ s. s.world.files) c.self.view_is) c.loop-file.last c.in-Some.file next.above next.live next.least in
    let e : ℕ × File = (c.in-Some.file, at.0) in
    let step : above c.loop-file.last es ≡ e ∷ rest = at.2 in
    let listed = c.in_ok-listed_file.ensures in
    let value : file_of x ≡ bare_file at.0 = some_same _ _ (listed.shown ∙ ap (option_map bare_file) at.1) in
    let same : entry (λ y. y.ino) file_of x ≡ changed bare_file e = λ i. (listed.ino i, value i) in
    let before = ap (λ ds. map (entry (λ y. y.ino) file_of) xs ++ map (changed bare_file) ds) (sym step) ∙ c.loop-file.invariant.so_far in
    record {
      so_far =
          ap (λ n. map (entry (λ y. y.ino) file_of) c.push.new.self.items ++ map (changed bare_file) (above n es)) c.ino-last.ensures
          ∙ ap (λ ys. map (entry (λ y. y.ino) file_of) ys ++ map (changed bare_file) rest) c.in_ok-push.ensures.items
          ∙ made_more (entry (λ y. y.ino) file_of) (changed bare_file) xs x e rest (map (changed bare_file) (above 0 es)) same before;
      few = omega (
        arith,
        c.loop-file.invariant.few,
        listed.few,
        ap length step,
        ap (λ n. length (above n es)) c.ino-last.ensures,
        ap (sum_by (λ y. length (contents (file_of y)))) c.in_ok-push.ensures.items,
        sum_by_push (λ y. length (contents (file_of y))) xs x,
      );
    }

pub loop-file-smaller : goal.loop-file-smaller
loop-file-smaller c =
    let files = c.args.self.now.world.files in
    let next = c.in-Some.ensures in
    subst (λ n. length (above n (finmap.entries files)) < length (above c.loop-file.last (finmap.entries files))) (sym c.ino-last.ensures)
    (fewer_above c.self.inside.files.files files (ap (λ s. s.world.files) c.self.view_is) c.loop-file.last c.in-Some.file next.above next.live next.least)

-- All entries are listed.
all_listed : (c : goal.In_default) → map (entry (λ x. x.ino) file_of) c.loop-file.files.items ≡ map (changed bare_file) (finmap.entries c.args.self.now.world.files)
all_listed c =
    let files = c.args.self.now.world.files in
    let same = ap (λ s. s.world.files) c.self.view_is in
    let last = c.in_default.ensures in
    let none = no_entry c.self.inside.files.files files same c.loop-file.last last.none in
    made_all (entry (λ x. x.ino) file_of) (changed bare_file) c.loop-file.files.items (above c.loop-file.last (finmap.entries files)) (map (changed bare_file) (above 0 (finmap.entries files))) none c.loop-file.invariant.so_far
    ∙ ap (map (changed bare_file)) (all_entries c.self.inside.files.files files same last.begins)

pub returns-clause-shown : goal.returns-clause-shown
returns-clause-shown c = keyed-changed (λ x. x.ino) file_of bare_file c.loop-file.files.items c.args.self.now.world.files (all_listed c)

pub returns-clause-ordered : goal.returns-clause-ordered
returns-clause-ordered c = record {
  inos = keys-rise (λ x. x.ino) file_of bare_file c.loop-file.files.items c.args.self.now.world.files (all_listed c);
  few = omega (arith, c.loop-file.invariant.few);
}
