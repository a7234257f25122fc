use Rattle.std.proofs.Common.{rules, ◌≡◌, length, subst, sym}
use Rattle.af_layer.specs.Audit.{AreEmptied, IsWholeBook}
use Rattle.scmgc.proofs.race.Parts.{lent-back}
use Rattle.scmgc.proofs.race.part.end_part.Goals as goal

pub returns-in-Ok : goal.returns-in-Ok
returns-in-Ok g c =
    let seats = c.args.seats.items in
    let new = c.checkpoint.new.seats in
    let whole : IsWholeBook c.into_book-book.result seats = search rules in
    let emptied : AreEmptied seats new = search rules in
    let all : c.args.seats.len ≡ length seats = search rules in (
      c.into_book-book.result,
      c.into_book-book.ensures.origin,
      c.into_book-book.ensures.legal,
      whole,
      subst (AreEmptied seats) (sym (lent-back c.args.seats.len seats new all emptied.count)) emptied,
      c.in-Ok.ensures.book,
      c.in-Ok.ensures.log,
    )
