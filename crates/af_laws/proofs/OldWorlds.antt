-- Old worlds stay old.
use Rattle.std.proofs.Common.{◌≡◌, inl, inr, ℕ, false, refl, List, [], ◌∷◌, sym, ap, ◌∙◌, subst, arith}
use Rattle.std.specs.List.{All}
use Rattle.std.specs.Ordering.{nat_cmp}
use Rattle.std.specs.FinMap as map
use Rattle.std.proofs.lemmas.List.Elements.{All-head, All-tail}
use Rattle.af_base.specs.declared.events.Event.{Event}
use Rattle.af_base.specs.declared.events.Event.TheVariants as event
use Rattle.af_base.specs.declared.events.Reply.{Reply}
use Rattle.af_base.specs.declared.events.State.{State}
use Rattle.af_base.specs.declared.events.State.TheVariants as state
use Rattle.af_base.specs.declared.events.Step.{Step}
use Rattle.af_base.specs.declared.events.Step.TheVariants as step
use Rattle.af_base.specs.World.{AsSocket, Socket, World}
use Rattle.af_base.specs.Pass.{Begins, GoesOn, Idle, Machine, Pass, PassesWhole, Running}
use Rattle.af_base.specs.Run.{RunEntry, Step as MachineStep}
use Rattle.af_base.specs.Refusals.{is_datagram}
use Rattle.af_base.specs.Steps.{effect}
use Rattle.af_base.proofs.Lookups.{none_some}
use Rattle.af_base.proofs.PurgedWorlds.{slice-by}
use Rattle.af_base.proofs.TypedFiles.{has_target, not_sending}
use Rattle.af_laws.proofs.SocketWalks.{AllowsEvent, AllowsStep, IsLasting, IsMade, have_effect, have_event}
use Rattle.af_laws.specs.Keeping.{AreOld, FreshIsOld, IsOldEvent, IsOldMachine, IsOldSocket, IsOldStep, OldWorldsStayOld}

-- A state that is no target's has none.
aimless : (t : State) → ((q : ℕ) → ¬ (t ≡ state.Sends q)) → has_target t ≡ false
aimless state.Idle none = refl
aimless (state.Listening b) none = refl
aimless (state.Connected p) none = refl
aimless state.HungUp none = refl
aimless (state.Sends q) none = absurd (none q refl)

-- A new socket for connections is old.
made_old : (x : Socket) → IsMade x → is_datagram x.kind ≡ false → IsOldSocket x
made_old x made kind = record {
  ends = made.ends;
  kind = kind;
  target = λ q e. not_sending x.state q (made.aimless kind) e;
}

-- Open ends, the type and the want of a target last.
old_lasts : IsLasting 0 (λ f s. IsOldSocket s)
old_lasts = record {
  made = λ f x low made kind. made_old x made (elim kind [
    | inl e ↦ e
    | inr z ↦ ap is_datagram (sym z.3) ∙ z.2.kind
  ]);
  stays = λ f x y same h. record {
    ends = same.ends ∙ h.ends;
    kind = ap is_datagram same.kind ∙ h.kind;
    target = λ q e. not_sending y.state q (same.aimless h.kind (aimless x.state h.target)) e;
  };
}

-- An old step is no shutdown, and makes no datagram socket.
old_step : (s : Step) → IsOldStep s → AllowsStep 0 (λ f x. IsOldSocket x) s
old_step (step.Shutdown n how) h = absurd h
old_step (step.Pair kind) h = λ f x low made is. made_old x made (ap is_datagram is ∙ h)
old_step (step.Socket kind) h = λ f x low made is. made_old x made (ap is_datagram is ∙ h)
old_step s h = tt

-- The same of an old event.
old_event : (e : Event) → IsOldEvent e → AllowsEvent 0 (λ f x. IsOldSocket x) e
old_event (event.Proc p s) h = old_step s h
old_event (event.Spawn uid nofile privileged) h = tt
old_event event.Begin h = tt
old_event (event.Slice b) h = tt
old_event event.Pass h = tt

-- The effect of an old step on an old world is old.
pub effect_old : (w : World) (p : ℕ) (s : Step) → IsOldStep s → AreOld w.files
    → AreOld (effect w p s).files
effect_old w p s old =
    have_effect 0 (λ f x. IsOldSocket x) old_lasts w p s (old_step s old) (omega arith)

-- No event changes since when changes are listed.
module _ (old new : Machine) (r : Reply) where
  begin_since : (p : Pass) → Begins p old r new → new.since ≡ old.since
  begin_since Idle h = ap (λ m. m.since) h.1
  begin_since (Running begun spent) h = ap (λ m. m.since) h.1

  slice_since : (p : Pass) (b : ℕ) → GoesOn p old b r new → new.since ≡ old.since
  slice_since Idle b h = ap (λ m. m.since) h.1
  slice_since (Running begun spent) b h = elim (slice-by begun spent b old new r h) [
    | inl refused ↦ ap (λ m. m.since) refused.1
    | inr made ↦ made.2
  ]

  pass_since : (p : Pass) → PassesWhole p old r new → new.since ≡ old.since
  pass_since Idle h = h.3
  pass_since (Running begun spent) h = ap (λ m. m.since) h.1

  event_since : (e : Event) → MachineStep old e r new → new.since ≡ old.since
  event_since (event.Spawn uid nofile privileged) h = h.1.2
  event_since (event.Proc p s) h = h.1.2
  event_since event.Begin h = begin_since old.pass h
  event_since (event.Slice b) h = slice_since old.pass b h
  event_since event.Pass h = pass_since old.pass h

-- An old event leads from an old machine to an old one.
pub event_old : (old new : Machine) (e : Event) (r : Reply) → IsOldMachine old → IsOldEvent e
    → MachineStep old e r new → IsOldMachine new
event_old old new e r is was h = record {
  world = have_event 0 (λ f x. IsOldSocket x) old_lasts old new e r (old_event e was)
      (omega arith) is.world h;
  since = subst (λ s. AreOld s.files) (sym (event_since old new r e h)) is.since;
}

-- The first event is old, and so are the others.
pub first_old : (e : RunEntry) (log : List RunEntry)
    → All (λ (x : RunEntry). IsOldEvent x.0) (e ∷ log)
    → IsOldEvent e.0 × All (λ (x : RunEntry). IsOldEvent x.0) log
first_old e log all = (All-head (λ (x : RunEntry). IsOldEvent x.0) e log all, All-tail (λ (x : RunEntry). IsOldEvent x.0) e log all)

pub old_worlds_stay_old : OldWorldsStayOld
old_worlds_stay_old old new [] is none run = subst IsOldMachine (sym run) is
old_worlds_stay_old old new (e ∷ log) is all run =
    let each = first_old e log all in
    old_worlds_stay_old run.0 new log (event_old old run.0 e.0 e.1 is each.0 run.1) each.1 run.2

pub fresh_is_old : FreshIsOld
fresh_is_old = record { world = none; since = none } where
  none : AreOld map.empty
  none f s is = absurd (none_some (AsSocket s) (sym (map.get-empty nat_cmp f) ∙ is))
