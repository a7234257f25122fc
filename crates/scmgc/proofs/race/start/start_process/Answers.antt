use Rattle.std.proofs.Common.{◌≡◌, ◌∙◌, ◌++◌, ◌∷◌, [], Err, IfErr, OnOk, Ok, Result, ap, sym}
use Rattle.scmgc.specs.Race.Faults.{of_spawn}
use Rattle.scmgc.specs.Race.{spawn_of}
use Rattle.scmgc.proofs.race.LastPairs.{last_new}
use Rattle.scmgc.proofs.race.start.start_process.Goals as goal

-- Maps the fact about a value along an implication.
on_ok : {T E : Type 0} {P Q : Type 0} → (r : Result T E) → (P → Q) → OnOk r P → OnOk r Q
on_ok (Ok _) f p = f p
on_ok (Err _) f p = p

-- Maps the fact about an error along an implication.
if_err : {T E : Type 0} {P Q : E → Type 0} → (r : Result T E) → ((e : E) → P e → Q e) → IfErr r P → IfErr r Q
if_err (Ok _) f p = p
if_err (Err e) f p = f e p

pub returns-clause-started : goal.returns-clause-started
returns-clause-started g c =
    let x = c.in_ok-call.ensures.done.0 in
    let front = c.args.main.now.list in
    let spawn = spawn_of c.args.worker in
    let list : c.call.new.seat.list ≡ front ++ (spawn, x) ∷ [] = ap (λ s. s.list) c.in_ok-call.ensures.done.1 ∙ ap (λ e. front ++ (e, x) ∷ []) c.spawn_of.ensures in
    let last : c.in-Some.last.now ≡ (spawn, x) = last_new front (spawn, x) c.in-Some.last.now c.list.result.now c.in-Some.ensures.item.3.1 (c.list.ensures ∙ list) in
    on_ok c.check_start.result (λ p. list ∙ ap (λ r. front ++ (spawn, r) ∷ []) (sym (ap (λ q. q.1) last) ∙ p)) c.check_start.ensures.started

pub returns-clause-answered : goal.returns-clause-answered
returns-clause-answered g c = if_err c.check_start.result
    (λ fault said reply list. said ∙ ap (λ q. of_spawn q.1) (last_new c.args.main.now.list (spawn_of c.args.worker, reply) c.in-Some.last.now c.list.result.now c.in-Some.ensures.item.3.1 (c.list.ensures ∙ list)))
    c.check_start.ensures.fault
