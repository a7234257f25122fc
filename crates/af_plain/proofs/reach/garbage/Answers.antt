use Rattle.std.proofs.Common.{◌∙◌, ap, subst, sym, map}
use Rattle.std.specs.Prelude.{not}
use Rattle.std.specs.List.{filter}
use Rattle.std.specs.Ordering.{nat_cmp}
use Rattle.std.specs.BTreeSet as tree
use Rattle.std.proofs.lemmas.List.{take_all}
use Rattle.af_base.specs.Reached.{Garbage}
use Rattle.af_plain.specs.Marking.{IsListOf}
use Rattle.af_plain.proofs.ReachedFiles.{garbage_listed, kept-more}
use Rattle.af_plain.proofs.reach.garbage.Goals as goal

pub loop-file-preserved : goal.loop-file-preserved
loop-file-preserved c = kept-more (λ f. not (tree.contains nat_cmp c.in_ok-marked.marked f)) c.files-file-items.result.now c.loop-file.file-index c.file-item.result c.loop-file.found.items c.push_unmarked.new.found.items c.loop-file-test.true c.file-item.is c.loop-file.invariant c.in_ok-push_unmarked.ensures

pub returns : goal.returns
returns c =
    let files = c.files-file-items.result.now in
    subst (IsListOf (Garbage c.args.listing.now)) (sym (c.loop-file.invariant ∙ ap (λ xs. filter (λ f. not (tree.contains nat_cmp c.in_ok-marked.marked f)) (map (λ x. x.ino) xs)) (take_all c.loop-file.file-index files c.loop-file-test.false)))
    (garbage_listed c.args.listing.now files c.in_ok-marked.marked c.files-file-items.ensures.value c.files-file-items.ensures.ordered c.in_ok-marked.ensures.marked)
