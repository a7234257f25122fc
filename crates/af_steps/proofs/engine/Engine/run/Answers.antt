use Rattle.std.proofs.Common.{rules, ◌≡◌, ◌<◌, ℕ, List, [], ◌∷◌, ◌++◌, length, refl, sym, ap, ◌∙◌, subst, arith}
use Rattle.std.specs.Prelude.{slice_index_or}
use Rattle.std.specs.List.{zip}
use Rattle.af_base.specs.declared.events.Event.{Event}
use Rattle.af_base.specs.declared.events.Reply.{Reply}
use Rattle.af_base.specs.Pass.{Machine}
use Rattle.af_base.specs.Run.{Run, Step}
use Rattle.af_base.proofs.Runs.{run-push}
use Rattle.af_steps.proofs.EmptyReceives.{no-pairs}
use Rattle.af_steps.proofs.engine.Engine.run.Goals as goal

-- One more on the shorter side is one pair more.
zip-push : {A B : Type 0} (es : List A) (rs : List B) (e : A) (r : B) → length rs < length es → e ≡ slice_index_or es (length rs) e → zip es (rs ++ r ∷ []) ≡ zip es rs ++ (e, r) ∷ []
zip-push [] rs e r short is = absurd (omega (arith, short))
zip-push (x ∷ es) [] e r short is = λ i. (sym is i, r) ∷ no-pairs es i
zip-push (x ∷ es) (s ∷ rs) e r short is = ap (λ rest. (x, s) ∷ rest) (zip-push es rs e r (omega (arith, short)) is)

-- Nothing is done yet.
run-none : (a : Machine) (es : List Event) (rs : List Reply) → rs ≡ [] → Run a (zip es rs) a
run-none a es rs none = subst (λ xs. Run a xs a) (sym (ap (zip es) none ∙ no-pairs es)) refl

-- One event more is done.
run-more : (a b c : Machine) (es : List Event) (rs all : List Reply) (i : ℕ) (e : Event) (r : Reply) → length rs ≡ i → i < length es → e ≡ slice_index_or es i e
    → Run a (zip es rs) b → Step b e r c → all ≡ rs ++ r ∷ [] → Run a (zip es all) c
run-more a b c es rs all i e r done more is run step last =
    let here : e ≡ slice_index_or es (length rs) e = is ∙ ap (λ k. slice_index_or es k e) (sym done) in
    let pushed : zip es all ≡ zip es rs ++ (e, r) ∷ [] = ap (zip es) last ∙ zip-push es rs e r (omega (arith, done, more)) here in
    subst (λ xs. Run a xs c) (sym pushed) (run-push a b c (zip es rs) e r run step)

pub loop-event-init : goal.loop-event-init
loop-event-init c = (search rules, run-none c.args.self.now c.args.events.now c.new-done.result.items c.new-done.ensures.items)

pub loop-event-preserved : goal.loop-event-preserved
loop-event-preserved c = (
  search rules,
  run-more c.args.self.now c.loop-event.self c.step-reply.new.self c.args.events.now c.loop-event.done.items c.push_reserved.new.self.items c.loop-event.event-index c.event-item.result c.step-reply.result
      c.loop-event.invariant.0 (search rules) c.event-item.is c.loop-event.invariant.1 c.step-reply.ensures.does (search rules),
)
