-- Machines that a legal log leads to from the fresh one.
use Rattle.std.proofs.Common.{◌≡◌, ◌++◌, ℕ, List, [], sym, subst}
use Rattle.std.specs.Prelude.{OnErr, OnOk, Result, Ok, Err}
use Rattle.af_base.specs.Pass.{Machine}
use Rattle.af_base.specs.Run.{fresh}
use Rattle.af_layer.specs.Log.{BookView, Entry, IsLegalFrom, IsReached}
use Rattle.af_layer.proofs.JoinedLogs.{legal-append, legal-empty}

-- The fresh machine is reached by a log without entries.
pub fresh-reached : (n : ℕ) (start machine : Machine) (log : List Entry) → start ≡ fresh → IsLegalFrom start n machine log → IsReached n start
fresh-reached n start machine log is legal = subst (IsReached n) (sym is) ([], legal-empty fresh n legal.some_seat legal.few_seats)

-- Where a legal log begins at a machine that is reached, so is the machine where it ends.
reached-on : (n : ℕ) (start machine : Machine) (log : List Entry) → IsReached n start → IsLegalFrom start n machine log → IsReached n machine
reached-on n start machine log reached legal = (reached.0 ++ log, legal-append fresh start machine n reached.0 log reached.1 legal)

-- So it is when a log was taken, or nothing has changed.
pub reached-after : {A E : Type 0} (X : Type 0) (old new : BookView) (r : Result A E) → IsReached old.seats old.start → IsLegalFrom old.start old.seats old.machine old.log
    → OnOk r (new ≡ record old { start = old.machine; log = []; room = 0 }) → OnErr r ((new ≡ old) × X) → IsReached new.seats new.start
reached-after X old new (Ok a) reached legal made same = subst (λ (b : BookView). IsReached b.seats b.start) (sym made) (reached-on old.seats old.start old.machine old.log reached legal)
reached-after X old new (Err e) reached legal made same = subst (λ (b : BookView). IsReached b.seats b.start) (sym same.0) reached
