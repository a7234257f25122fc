use Rattle.std.proofs.Common.{rules, ◌≡◌, sym, ap, subst, arith, ◌∙◌, ◌∷◌, []}
use Rattle.std.specs.Prelude.{Some, nat_lt}
use Rattle.af_base.specs.declared.errno.Errno.TheVariants.{EMFILE}
use Rattle.af_base.specs.declared.events.Reply.TheVariants as reply
use Rattle.af_base.specs.declared.events.Step.TheVariants as step
use Rattle.af_base.specs.Changes.{install}
use Rattle.af_base.specs.Refusals.{first_fit, on_free, process_at, refusal}
use Rattle.af_base.specs.World.{IsLive, World}
use Rattle.af_collect.specs.Keeping.{NotBegunGarbage}
use Rattle.af_collect.specs.StoreView.{StoreView}
use Rattle.af_steps.proofs.LookupRows.{after-number, below-limit, held, in-same, ino-is, is-free, is-there, no-number, under-limit}
use Rattle.af_steps.proofs.Numbers.{IsLowest, is-free_at, least-low, none-free, not-open, not-short, open-from-lowest}
use Rattle.af_steps.proofs.Outcomes.{does, missing, not-refused, not-starved, turned-down}
use Rattle.af_steps.proofs.engine.Engine.dup.Goals.{In_err-fd, In_err-process}
use Rattle.af_steps.proofs.engine.Engine.dup.Goals as goal

-- No file was found.
no-file : (c : In_err-process) → refusal c.self.inside.store.world c.args.pid (step.Dup c.args.from) ≡ Some c.in_err-process.field-0.0
no-file c = let w = c.self.inside.store.world in no-number w c.args.pid c.args.from (on_free (process_at w c.args.pid) 1) _ c.in_err-process.ensures.refused

pub returns-in_err-process-clause-refused : goal.returns-in_err-process-clause-refused
returns-in_err-process-clause-refused c = turned-down c.self.view_is c.args.pid (step.Dup c.args.from) c.from_residual.result _ c.from_residual.ensures.1 (no-file (goal.at.returns-in_err-process-clause-refused c).In_err-process)

pub returns-in_err-process-clause-succeeds : goal.returns-in_err-process-clause-succeeds
returns-in_err-process-clause-succeeds c = not-refused c.self.view_is c.args.pid (step.Dup c.args.from) c.from_residual.result _ (no-file (goal.at.returns-in_err-process-clause-succeeds c).In_err-process)

-- No number is free.
full : (c : In_err-fd) → refusal c.self.inside.store.world c.args.pid (step.Dup c.args.from) ≡ Some c.in_err-fd.field-0.0
full c =
    let missed = missing c.lowest.result EMFILE c.in_err-fd.field-0.0 c.in_err-fd.ensures.value in
    after-number c.in_ok-process.ensures.found (λ r. on_free r 1) ∙ ap (λ b. first_fit ((b, EMFILE) ∷ [])) (none-free c.in_ok-process.process.now.process (sym c.lowest.ensures ∙ missed.0)) ∙ ap Some (sym missed.1)

pub returns-in_err-fd-clause-refused : goal.returns-in_err-fd-clause-refused
returns-in_err-fd-clause-refused c = turned-down c.self.view_is c.args.pid (step.Dup c.args.from) c.from_residual-in_err-fd.result _ c.from_residual-in_err-fd.ensures.1 (full (goal.at.returns-in_err-fd-clause-refused c).In_err-fd)

pub returns-in_err-fd-clause-succeeds : goal.returns-in_err-fd-clause-succeeds
returns-in_err-fd-clause-succeeds c = not-refused c.self.view_is c.args.pid (step.Dup c.args.from) c.from_residual-in_err-fd.result _ (full (goal.at.returns-in_err-fd-clause-succeeds c).In_err-fd)

pub table_in-requires : goal.table_in-requires
table_in-requires c =
    let fd = c.in_ok-fd.fd in
    let f = c.in_ok-process.file in
    let found = c.in_ok-process.ensures.found in
    let least : IsLowest c.in_ok-process.process.now.process fd = record { read = search rules } in
    let room = in-same found.process c.make_room_at.new.store.world (ap (λ (v : World). v.processes) c.make_room_at.ensures.world) in
    record {
      there = is-there room;
      row = c.in_ok-make_room_at.ensures.row;
      limit = below-limit room fd (least-low least);
      free = is-free room fd (not-open least);
      live = subst (λ v. IsLive v f) (sym c.make_room_at.ensures.world) (c.self.invariant.0.whole.tables_live f (held found));
      spared = subst (λ s. NotBegunGarbage s f) (sym c.make_room_at.ensures.pass) (c.lemma_is_spared.ensures f (held found));
    }

pub returns-clause-done : goal.returns-clause-done
returns-clause-done c =
    let found = c.in_ok-process.ensures.found in
    let least : IsLowest c.in_ok-process.process.now.process c.in_ok-fd.fd = record { read = search rules } in
    let fits = after-number found (λ r. on_free r 1) ∙ ap (λ b. first_fit ((b, EMFILE) ∷ [])) (not-short least) in
    let number = is-free_at least found.process in
    let leads = (λ i. install (sym c.make_room_at.ensures.world i) c.args.pid (number i) (ino-is found i)) ∙ sym (ap (λ (s : StoreView). s.world) c.table_in.ensures) in
    does c.self.view_is c.args.pid (step.Dup c.args.from) c.release.new.self (reply.Fd c.in_ok-fd.fd) c.table_in.new.self.world fits (ap reply.Fd number) leads c.release.ensures.settles (c.release.ensures.pass ∙ ap (λ (s : StoreView). s.pass) c.table_in.ensures ∙ c.make_room_at.ensures.pass) (c.release.ensures.since ∙ ap (λ (s : StoreView). s.since) c.table_in.ensures ∙ c.make_room_at.ensures.since)

pub make_room_at-requires : goal.make_room_at-requires
make_room_at-requires c =
    let fd = c.in_ok-fd.fd in
    let found = c.in_ok-process.ensures.found in
    let least : IsLowest c.in_ok-process.process.now.process fd = record { read = search rules } in
    record {
      said = c.has_room_at-has_room.ensures.value ∙ sym (ap (nat_lt fd) c.in_ok-process.ensures.row);
      limit = under-limit found.process fd (least-low least);
    }

pub returns-in_err-make_room_at-clause-succeeds : goal.returns-in_err-make_room_at-clause-succeeds
returns-in_err-make_room_at-clause-succeeds c =
    let found = c.in_ok-process.ensures.found in
    let least : IsLowest c.in_ok-process.process.now.process c.in_ok-fd.fd = record { read = search rules } in
    not-starved c.self.view_is c.args.pid (step.Dup c.args.from) c.from_residual-in_err-make_room_at.result c.in_err-make_room_at.was (λ sure. c.make_room_at.ensures.succeeds (c.has_room_at-has_room.ensures.open (open-from-lowest found.process least sure.room)))
