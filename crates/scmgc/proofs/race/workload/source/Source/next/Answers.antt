use Rattle.std.proofs.Common.{◌≡◌, ◌∷◌, [], Bool, List, ap, arith, if◌then◌else◌, sym, true, ◌∙◌}
use Rattle.rand_core.specs.Stream.{Stream}
use Rattle.rand_core.specs.Steps.{steps_u64_high, stream_of}
use Rattle.rand_xoshiro.specs.Xoshiro256.{plus_plus}
use Rattle.af_base.specs.declared.events.Event.{Event}
use Rattle.af_base.specs.declared.events.Event.TheVariants as event
use Rattle.af_base.specs.declared.events.Step.TheVariants as step
use Rattle.scmgc.proofs.race.Words.{rest-end, rest-word}
use Rattle.scmgc.proofs.race.workload.source.Source.next.Goals as goal

pub returns-then-self-gt0 : goal.returns-then-self-gt0
returns-then-self-gt0 c =
    let s = c.self.inside in
    let opened = c.if-self-lt-OPENING.false in
    sym c.self.view_is
    ∙ rest-word s.worker s.workers s.opened s.words s.ended (stream_of (steps_u64_high plus_plus) s.rng) (stream_of (steps_u64_high plus_plus) c.next_u64.new.self) c.next_u64.result c.in_ok-event.event
    (omega (arith, opened, c.self.invariant.3)) c.if-self-gt0.true c.next_u64.ensures c.in_ok-event.ensures

pub returns-then-self : goal.returns-then-self
returns-then-self c =
    let s = c.self.inside in
    let opened = c.if-self-lt-OPENING.false in
    let words = c.if-self-gt0.false in
    let none : c.args.self.now ≡ [] =
    sym c.self.view_is ∙ rest-end s.worker s.workers s.opened s.words s.ended (stream_of (steps_u64_high plus_plus) s.rng) (omega (arith, opened, c.self.invariant.3)) (omega (arith, words))
    ∙ ap (λ (b : Bool). if b then [] else event.Proc s.worker step.Exit ∷ []) c.if-self.true in (none, none)

pub returns : goal.returns
returns c =
    let s = c.self.inside in
    let opened = c.if-self-lt-OPENING.false in
    let words = c.if-self-gt0.false in
    let rest : Stream = stream_of (steps_u64_high plus_plus) s.rng in
    sym c.self.view_is ∙ rest-end s.worker s.workers s.opened s.words s.ended rest (omega (arith, opened, c.self.invariant.3)) (omega (arith, words))
    ∙ ap (λ (b : Bool). if b then [] else event.Proc s.worker step.Exit ∷ []) c.if-self.false
    ∙ ap (λ (l : List Event). event.Proc s.worker step.Exit ∷ l) (sym (rest-end s.worker s.workers s.opened s.words true rest (omega (arith, opened, c.self.invariant.3)) (omega (arith, words))))
