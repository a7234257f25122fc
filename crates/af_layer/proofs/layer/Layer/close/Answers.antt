use Rattle.std.proofs.Common.{subst}
use Rattle.af_base.specs.Pass.{Machine}
use Rattle.af_layer.specs.Log.{BookView, IsLegalFrom}
use Rattle.af_layer.proofs.layer.Layer.close.Goals as goal

pub returns-in-None-clause-legal : goal.returns-in-None-clause-legal
returns-in-None-clause-legal c =
    let book : BookView = c.into_book-book.result in
    subst (λ (start : Machine). IsLegalFrom start book.seats book.machine book.log) c.into_book-book.ensures.origin c.into_book-book.ensures.legal

pub returns-in-Some-clause-untaken : goal.returns-in-Some-clause-untaken
returns-in-Some-clause-untaken c =
    let book : BookView = c.into_book-book.result in
    subst (λ (start : Machine). IsLegalFrom start book.seats book.machine book.log) c.into_book-book.ensures.origin c.into_book-book.ensures.legal
