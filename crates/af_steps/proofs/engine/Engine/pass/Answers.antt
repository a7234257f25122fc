use Rattle.std.proofs.Common.{◌≡◌, false, ap, subst, sym, ◌∙◌}
use Rattle.std.proofs.lemmas.Bool.{false≢true}
use Rattle.af_base.specs.declared.events.Reply.{Reply}
use Rattle.af_base.specs.declared.events.Reply.TheVariants as reply
use Rattle.af_base.specs.Pass.{Idle, Machine, Pass, Passes, PassesWhole, Running, next_pass}
use Rattle.af_collect.specs.Keeping.{runs}
use Rattle.af_steps.proofs.engine.Engine.pass.Goals as goal

-- Where no pass runs, one is made whole.
pass_done : (p : Pass) (old new : Machine) (r : Reply) → runs p ≡ false → Passes old.world (next_pass old.last_pass) r new.world → new.pass ≡ Idle → new.last_pass ≡ next_pass old.last_pass → new.since ≡ old.since → PassesWhole p old r new
pass_done Idle old new r e passes idle last since = (passes, idle, last, since)
pass_done (Running begun spent) old new r e passes idle last since = absurd (false≢true (sym e))

pub returns-clause-done : goal.returns-clause-done
returns-clause-done c =
    let n = c.collect-reclaimed.result in
    let k = c.collect-reclaimed.ensures.collects in
    let next : c.next_pass-self-inside.result ≡ next_pass c.self.inside.last_pass = c.next_pass-self-inside.ensures in
    let after : Machine = record { world = c.collect-reclaimed.new.self.world; pass = c.collect-reclaimed.new.self.pass; last_pass = c.next_pass-self-inside.result; since = c.collect-reclaimed.new.self.since } in
    subst (λ (m : Machine). PassesWhole m.pass m (reply.Done c.next_pass-self-inside.result n) after) c.self.view_is
    (pass_done c.self.inside.store.pass _ after (reply.Done c.next_pass-self-inside.result n) (sym c.is_passing.ensures ∙ c.if-is_passing.false)
    (record { test = k.test; is_garbage = k.is_garbage; purged = k.purged; count = n; counted = k.counted; answered = ap (λ l. reply.Done l n) next }) c.collect-reclaimed.ensures.pass next c.collect-reclaimed.ensures.since)
