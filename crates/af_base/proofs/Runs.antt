-- A run extended by one step.
use Rattle.std.proofs.Common.{List, [], ◌∷◌, ◌++◌, refl, sym, subst}
use Rattle.af_base.specs.declared.events.Event.{Event}
use Rattle.af_base.specs.declared.events.Reply.{Reply}
use Rattle.af_base.specs.Pass.{Machine}
use Rattle.af_base.specs.Run.{Run, RunEntry, Step}

-- Two runs, one after the other.
pub run-append : (a b c : Machine) (xs ys : List RunEntry) → Run a xs b → Run b ys c → Run a (xs ++ ys) c
run-append a b c [] ys r s = subst (λ m. Run m ys c) r s
run-append a b c (x ∷ xs) ys r s = (r.0, r.1, run-append r.0 b c xs ys r.2 s)

-- A run and a step.
pub run-push : (a b c : Machine) (xs : List RunEntry) (e : Event) (r : Reply) → Run a xs b → Step b e r c → Run a (xs ++ (e, r) ∷ []) c
run-push a b c xs e r run step = run-append a b c xs ((e, r) ∷ []) run (c, step, refl)

-- A run of a list and one more is a run and a step.
pub run-last : (a c : Machine) (xs : List RunEntry) (e : Event) (r : Reply) → Run a (xs ++ (e, r) ∷ []) c → (b : Machine) × Run a xs b × Step b e r c
run-last a c [] e r run = (a, refl, subst (Step a e r) (sym run.2) run.1)
run-last a c (x ∷ xs) e r run =
    let last = run-last run.0 c xs e r run.2 in
    (last.0, (run.0, run.1, last.1), last.2)
