use Rattle.std.proofs.Common.{rules, ◌≡◌, ◌∙◌, ap, get_or, nat_eq, sym, subst}
use Rattle.std.specs.Prelude.{None, Some}
use Rattle.std.specs.List.{find}
use Rattle.std.proofs.lemmas.List.Sorted.{answers_always}
use Rattle.std.proofs.lemmas.Cmp.{ranked}
use Rattle.af_base.specs.declared.listing.ListedFile.{ListedFile}
use Rattle.af_plain.proofs.BinarySearch.{found, missed}
use Rattle.af_plain.proofs.reach.listed_at.Goals as goal

pub returns-in-Ok : goal.returns-in-Ok
returns-in-Ok c =
    let position = c.in-Ok.ensures.position (λ (x : ListedFile). x.ino) (answers_always _ _ _ (λ f a r g called. search rules)) in
    let x = c.index-files-at.result in
    let same = ap (λ (y : ListedFile). y.ino) c.index-files-at.is ∙ ranked (get_or c.args.files.now c.in-Ok.at x).ino c.ino.inside.0 _ (sym (position x)) in
    subst (λ n. Some x ≡ find (λ y. nat_eq n y.ino) c.args.files.now) c.ino.view_is (found (λ (y : ListedFile). y.ino) c.ino.inside.0 c.args.files.now c.in-Ok.at x c.requires.inos c.in-Ok.ensures.bound c.index-files-at.is same)

pub returns-in-Err : goal.returns-in-Err
returns-in-Err c =
    let position = c.in-Err.ensures.position (λ (x : ListedFile). x.ino) (answers_always _ _ _ (λ f a r g called. search rules)) in
    subst (λ n. None ≡ find (λ x. nat_eq n x.ino) c.args.files.now) c.ino.view_is (missed (λ (x : ListedFile). x.ino) c.ino.inside.0 c.args.files.now c.in-Err.field-0 c.requires.inos position)
