use Rattle.std.proofs.Common.{rules, ◌≡◌, ◌+◌, [], ◌∷◌, subst, refl}
use Rattle.af_table.specs.Free.{free_from}
use Rattle.af_table.proofs.FreeNumbers.{free_some, free_none}
use Rattle.af_table.proofs.process.Process.next_free.Goals as goal

pub returns-in_err-n-clause-none : goal.returns-in_err-n-clause-none
returns-in_err-n-clause-none c =
    let none = subst (λ h. free_from c.args.from h.process ≡ []) c.self.view_is (free_none _ c.self.inside.taken.words c.self.inside.slots.items refl _ (search rules) c.self.invariant.2 c.args.from c.in_err-n.ensures.none) in
    search rules

pub returns-clause-some : goal.returns-clause-some
returns-clause-some c =
    let found = c.in_ok-n.ensures in
    subst (λ h. free_from c.args.from h.process ≡ c.in_ok-n.n ∷ free_from (c.in_ok-n.n + 1) h.process) c.self.view_is
    (free_some _ c.self.inside.taken.words c.self.inside.slots.items refl _ (search rules) c.self.invariant.2 c.args.from c.in_ok-n.n found.reached found.low found.found found.least)
