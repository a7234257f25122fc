use Rattle.std.proofs.Common.{rules, ◌≡◌, ◌+◌, [], ◌∷◌, Some, None, subst, refl, arith}
use Rattle.af_table.specs.Free.{free_from}
use Rattle.af_table.proofs.FreeNumbers.{free_some, free_none, free_head}
use Rattle.af_table.proofs.process.Process.lowest.Goals as goal

pub returns-in_err-n : goal.returns-in_err-n
returns-in_err-n c =
    let none = subst (λ h. free_from 0 h.process ≡ []) c.self.view_is (free_none _ c.self.inside.taken.words c.self.inside.slots.items refl _ (search rules) c.self.invariant.2 0 (λ q _. c.in_err-n.ensures.none q)) in
    let head = free_head c.args.self.now.process None (search rules) none in
    search rules

pub returns : goal.returns
returns c =
    let found = c.in_ok-n.ensures in
    let some = subst (λ h. free_from 0 h.process ≡ c.in_ok-n.n ∷ free_from (c.in_ok-n.n + 1) h.process) c.self.view_is
    (free_some _ c.self.inside.taken.words c.self.inside.slots.items refl _ (search rules) c.self.invariant.2 0 c.in_ok-n.n (omega arith) found.low found.found (λ q _. found.least q)) in
    free_head c.args.self.now.process (Some c.in_ok-n.n) some (search rules)
