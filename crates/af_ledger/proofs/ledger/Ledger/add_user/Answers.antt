use Rattle.std.proofs.Common.{false, sym, ap, ◌∙◌, subst}
use Rattle.std.specs.Prelude.{IsTrue}
use Rattle.std.proofs.lemmas.Bool.{false≢true}
use Rattle.af_ledger.specs.Tally.{is_user}
use Rattle.af_ledger.proofs.Users.{user_found}
use Rattle.af_ledger.proofs.ledger.Ledger.add_user.Goals as goal

pub returns-in_err-insert-clause-known : goal.returns-in_err-insert-clause-known
returns-in_err-insert-clause-known c =
    let stranger = user_found c.self.inside.users.entries c.args.uid false (sym c.contains_key.ensures ∙ c.if-contains_key.false) in
    λ h. absurd (false≢true (subst IsTrue (ap (λ k. is_user c.args.uid k.users) (sym c.self.view_is) ∙ stranger) h))
