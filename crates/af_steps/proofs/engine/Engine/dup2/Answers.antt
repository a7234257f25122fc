use Rattle.std.proofs.Common.{rules, ◌≡◌, ◌<◌, false, true, not, ◌&&◌, ◌∷◌, [], nat_eq, refl, sym, ap, subst, ◌∙◌, arith}
use Rattle.std.specs.Prelude.{nat_le, nat_lt, if◌then◌else◌}
use Rattle.af_base.specs.World.{IsLive, Process, World}
use Rattle.af_collect.specs.Keeping.{NotBegunGarbage}
use Rattle.af_table.specs.Rooms.{IsOpenFrom}
use Rattle.std.proofs.lemmas.Bool.{lt-leb}
use Rattle.af_base.specs.declared.errno.Errno.TheVariants.{EBADF}
use Rattle.af_base.specs.declared.events.Reply.TheVariants as reply
use Rattle.af_base.specs.declared.events.Step.TheVariants as step
use Rattle.af_base.specs.Changes.{install}
use Rattle.af_base.specs.Refusals.{first_fit, ino_on, on_place, refusal}
use Rattle.af_collect.specs.StoreView.{StoreView}
use Rattle.af_steps.proofs.LookupRows.{after-number, below-limit, held, in-same, ino-is, is-there, is_process, under-limit}
use Rattle.af_steps.proofs.Outcomes.{does, does-nothing, not-starved}
use Rattle.af_steps.proofs.engine.Engine.dup2.Goals.{In_ok-process}
use Rattle.af_steps.proofs.engine.Engine.dup2.Goals as goal

-- The rest of the row.
row : (c : In_ok-process) → refusal c.self.inside.store.world c.args.pid (step.Dup2 c.args.from c.args.to) ≡ first_fit (on_place c.in_ok-process.process.now.process c.args.from c.args.to)
row c = after-number c.in_ok-process.ensures.found (λ q. on_place q c.args.from c.args.to)

pub returns-then-eq-clause-done : goal.returns-then-eq-clause-done
returns-then-eq-clause-done c =
    let w = c.self.inside.store.world in
    let p = c.args.pid in
    let q = c.in_ok-process.process.now.process in
    let same : nat_eq c.args.to c.args.from ≡ true = search rules in
    let fits = row (goal.at.returns-then-eq-clause-done c).In_ok-process ∙ ap (λ b. first_fit ((not b && nat_le q.limit c.args.to, EBADF) ∷ [])) same in
    does-nothing c.self.view_is p (step.Dup2 c.args.from c.args.to) (reply.Fd c.args.to) fits refl (ap (λ b. if b then w else install w p c.args.to (ino_on w p c.args.from)) same) c.self.invariant.0

pub make_room_at-requires : goal.make_room_at-requires
make_room_at-requires c =
    let found = c.in_ok-process.ensures.found in
    record {
      said = c.has_room_at-has_room.ensures.value ∙ sym (ap (nat_lt c.args.to) c.in_ok-process.ensures.row);
      limit = under-limit found.process c.args.to (omega (arith, c.if-to-limit.false, c.limit.ensures.value));
    }

pub replace-requires : goal.replace-requires
replace-requires c =
    let f = c.in_ok-process.file in
    let found = c.in_ok-process.ensures.found in
    let room = in-same found.process c.make_room_at.new.store.world (ap (λ (v : World). v.processes) c.make_room_at.ensures.world) in
    record {
      there = is-there room;
      row = c.in_ok-make_room_at.ensures.row;
      limit = below-limit room c.args.to (omega (arith, c.if-to-limit.false, c.limit.ensures.value));
      live = subst (λ v. IsLive v f) (sym c.make_room_at.ensures.world) (c.self.invariant.0.whole.tables_live f (held found));
      spared = subst (λ s. NotBegunGarbage s f) (sym c.make_room_at.ensures.pass) (c.lemma_is_spared.ensures f (held found));
    }

pub returns-clause-done : goal.returns-clause-done
returns-clause-done c =
    let w = c.self.inside.store.world in
    let p = c.args.pid in
    let q = c.in_ok-process.process.now.process in
    let f = c.in_ok-process.file in
    let to = c.args.to in
    let at = (goal.at.returns-clause-done c).In_ok-process in
    let found = c.in_ok-process.ensures.found in
    let other : nat_eq to c.args.from ≡ false = search rules in
    let low : to < q.limit = omega (arith, c.if-to-limit.false, c.limit.ensures.value) in
    let fits = row at ∙ (λ i. first_fit ((not (other i) && lt-leb q.limit to low i, EBADF) ∷ [])) in
    let placed = c.replace.ensures in
    let leads = ap (λ b. if b then w else install w p to (ino_on w p c.args.from)) other ∙ (λ i. install (sym c.make_room_at.ensures.world i) p to (ino-is found i)) ∙ sym (ap (λ (s : StoreView). s.world) placed) in
    let pass = c.release.ensures.pass ∙ ap (λ (s : StoreView). s.pass) placed ∙ c.make_room_at.ensures.pass in
    let since = c.release.ensures.since ∙ ap (λ (s : StoreView). s.since) placed ∙ c.make_room_at.ensures.since in
    does c.self.view_is p (step.Dup2 c.args.from to) c.release.new.self (reply.Fd to) c.replace.new.self.world fits refl leads c.release.ensures.settles pass since

pub returns-in_err-make_room_at-clause-succeeds : goal.returns-in_err-make_room_at-clause-succeeds
returns-in_err-make_room_at-clause-succeeds c =
    not-starved c.self.view_is c.args.pid (step.Dup2 c.args.from c.args.to) c.from_residual-in_err-make_room_at.result c.in_err-make_room_at.was
    (λ sure. c.make_room_at.ensures.succeeds (c.has_room_at-has_room.ensures.open (subst (λ (q : Process). IsOpenFrom q.table c.args.to) (is_process c.in_ok-process.ensures.found.process) sure.room)))
