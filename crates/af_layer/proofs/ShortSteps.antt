-- The outcome of a typed call, told in few words, is a step of the machine.
use Rattle.std.proofs.Common.{◌≡◌, ℕ, sym, subst}
use Rattle.std.specs.Prelude.{Result, Ok, Err, IfErr, IfOk}
use Rattle.af_base.specs.declared.errno.Errno.{Errno}
use Rattle.af_base.specs.declared.events.Event.{Event}
use Rattle.af_base.specs.declared.events.Event.TheVariants as event
use Rattle.af_base.specs.declared.events.Step.{Step}
use Rattle.af_base.specs.Pass.{Machine}
use Rattle.af_base.specs.Run as run
use Rattle.af_steps.specs.Outcome.{Does, Refuses}
use Rattle.af_steps.proofs.FoldedReplies.{does-step, refuses-step}
use Rattle.af_layer.specs.declared.short.ShortEvent.{ShortEvent}
use Rattle.af_layer.specs.declared.short.ShortReply.{ShortReply}
use Rattle.af_layer.specs.declared.short.ShortReply.TheVariants as answered
use Rattle.af_layer.specs.Short.{event_of, reply_of}

module _ (old new : Machine) where
  -- A step stays one where its event and its reply are replaced by equal ones.
  told-step : (x : ShortEvent) (e : Event) (r told : ShortReply) → event_of x ≡ e → r ≡ told → run.Step old e (reply_of told) new → run.Step old (event_of x) (reply_of r) new
  told-step x e r told is same step = subst (λ y. run.Step old y (reply_of r) new) (sym is) (subst (λ y. run.Step old e (reply_of y) new) (sym same) step)

  -- A call that makes a step of a process.
  pub short_step : (x : ShortEvent) (p : ℕ) (s : Step) → event_of x ≡ event.Proc p s → {T : Type 0} (o : Result T Errno) (tells : T → ShortReply) (r : ShortReply) → IfOk o (λ a. Does old p s (reply_of (tells a)) new) → IfErr o (λ e. Refuses old p s e new)
      → IfOk o (λ a. r ≡ tells a) → IfErr o (λ e. r ≡ answered.Refused e) → run.Step old (event_of x) (reply_of r) new
  short_step x p s is (Ok a) tells r done refused ok err = told-step x (event.Proc p s) r (tells a) is ok (does-step old p s new (reply_of (tells a)) done)
  short_step x p s is (Err e) tells r done refused ok err = told-step x (event.Proc p s) r (answered.Refused e) is err (refuses-step old p s new e refused)
