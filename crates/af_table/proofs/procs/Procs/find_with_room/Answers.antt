use borrow.Follows.Closed.{read_of}
use Rattle.std.proofs.Common.{rules, ◌∙◌, ◌≡◌, ℕ, ap, arith, inr, subst}
use Rattle.std.specs.Borrow.{MutBor, name_if_ok}
use Rattle.std.specs.Prelude.{Err, IfOk, Ok, Result, Some, unwrap_or}
use Rattle.std.specs.Result.{IsErr, IsOk}
use Rattle.std.specs.FinMap as map
use Rattle.std.proofs.lemmas.Bool.{false≢true}
use Rattle.af_base.specs.Refusals.{no_process}
use Rattle.af_base.proofs.Trees.{insert_same}
use Rattle.af_table.specs.Lending.{with_process}
use Rattle.af_table.specs.Procs.{Procs}
use Rattle.af_table.specs.Slots.{ProcessView}
use Rattle.af_table.proofs.procs.Procs.find_with_room.Goals as goal

module _ {E : Type 0} (r : Result (MutBor ProcessView) E) (err : IsErr r) where
  -- An error lends nothing: all is as it was.
  lent-none : (s : Procs) (p : ℕ) (v : ProcessView) → with_process s p v ≡ s → inr (with_process s p v) ≡ read_of (name_if_ok (λ x. x.ghost_name) r) (with_process s p) s
  lent-none s p v same = by r err where
    by : (r : Result (MutBor ProcessView) E) → IsErr r → inr (with_process s p v) ≡ read_of (name_if_ok (λ x. x.ghost_name) r) (with_process s p) s
    by (Ok x) err = absurd (false≢true err)
    by (Err e) err = ap inr same

  -- And nothing is said of what it lends.
  none-ok : (P : MutBor ProcessView → Type 0) → IfOk r P
  none-ok P = by r err where
    by : (r : Result (MutBor ProcessView) E) → IsErr r → IfOk r P
    by (Ok x) err = absurd (false≢true err)
    by (Err e) err = tt

pub returns-in_err-make_room : goal.returns-in_err-make_room
returns-in_err-make_room c =
    let s = c.args.self.now in
    let q = c.unwrap-process.result.now in
    let process : map.get s.processes c.args.pid ≡ Some q.process = search rules in
    let row : map.get s.rows c.args.pid ≡ Some q.row = search rules in
    let same = ap (with_process s c.args.pid) c.in_err-make_room.ensures.err
    ∙ (λ i. record s { processes = insert_same s.processes c.args.pid q.process process i; rows = insert_same s.rows c.args.pid q.row row i }) in
    let limit = ap (λ o. (unwrap_or o no_process).limit) process in
    let length = ap (λ o. unwrap_or o 0) row in
    let err = c.from_residual.ensures.0 in
    (lent-none c.from_residual.result err s c.args.pid _ same, record { writes_back = tt; there = none-ok c.from_residual.result err _; room = none-ok c.from_residual.result err _; ready = λ fits. absurd (false≢true (subst IsOk c.in_err-make_room.was (c.make_room.ensures.succeeds (omega (arith, fits, limit, length))))) })
