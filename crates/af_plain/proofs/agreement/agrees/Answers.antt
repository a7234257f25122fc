use Rattle.std.proofs.Common.{◌∙◌, sym, subst}
use Rattle.std.specs.List.{All}
use Rattle.std.proofs.lemmas.Bool.{eqb-true, eq-eqb, false≢true}
use Rattle.af_plain.specs.Agreement.{IsFileRecount, IsUserRecount}
use Rattle.af_plain.proofs.agreement.agrees.Goals as goal
use Rattle.af_plain.proofs.agreement.agrees.Goals.{then-files_agree, else-files_agree}

pub returns-then-users_agree : goal.returns-then-users_agree
returns-then-users_agree c = elim c.if-files_agree.branch [
  | then-files_agree w ↦ (
    λ same. record {
      files = subst (All (IsFileRecount c.args.listing.now)) c.as_slice.ensures.value (c.files_agree.ensures.0 w.if-files_agree.true);
      users = subst (All (IsUserRecount c.args.listing.now)) w.as_slice-then-files_agree.ensures.value (w.users_agree.ensures.0 (sym w.value-is ∙ c.if-users_agree.true));
      total = sym (eqb-true c.recount_total.result c.args.kept.now.total same) ∙ c.recount_total.ensures;
    },
    λ k. eq-eqb c.recount_total.result c.args.kept.now.total (c.recount_total.ensures ∙ sym k.total),
  )
  | else-files_agree w ↦ absurd (false≢true (sym w.if-files_agree.false ∙ sym w.value-is ∙ c.if-users_agree.true))
]

pub returns-else-users_agree : goal.returns-else-users_agree
returns-else-users_agree c = (
  λ e. absurd (false≢true (sym c.if-users_agree.false ∙ e)),
  λ k. elim c.if-files_agree.branch [
    | then-files_agree w ↦ w.value-is ∙ w.users_agree.ensures.1 (subst (All (IsUserRecount c.args.listing.now)) (sym w.as_slice-then-files_agree.ensures.value) k.users)
    | else-files_agree w ↦ absurd (false≢true (sym w.if-files_agree.false ∙ c.files_agree.ensures.1 (subst (All (IsFileRecount c.args.listing.now)) (sym c.as_slice.ensures.value) k.files)))
  ],
)
