use Rattle.std.proofs.Common.{rules, ◌≡◌, ◌<◌, length, ◌∙◌, refl, sym, ap, subst, arith, ◌++◌, ◌∷◌, []}
use Rattle.std.specs.Prelude.{Some, nat_lt, slice_get}
use Rattle.af_base.specs.declared.events.Reply.TheVariants as reply
use Rattle.af_base.specs.declared.events.Step.TheVariants as step
use Rattle.std.proofs.lemmas.Option.{slice_get_within}
use Rattle.af_base.specs.Changes.{dequeued, install, with_socket}
use Rattle.af_base.specs.Places.{backlog_at}
use Rattle.af_base.specs.Steps.{first_embryo}
use Rattle.af_base.specs.World.{World}
use Rattle.af_collect.specs.StoreView.{StoreView}
use Rattle.af_collect.specs.Keeping.{NotBegunGarbage}
use Rattle.af_steps.proofs.Connections.{accept-fits, first-waits}
use Rattle.af_steps.specs.Found.{HasSocket}
use Rattle.af_base.proofs.SoundSteps.{goes-on, passes-on}
use Rattle.af_steps.proofs.LookupRows.{below-limit, held, in-same, ino-is, is-free, is-there, under-limit, after-socket, no-socket}
use Rattle.af_steps.proofs.Numbers.{IsLowest, is-free_at, least-low, not-open, not-short, none-free, open-from-lowest}
use Rattle.af_steps.proofs.Outcomes.{does, not-refused, not-starved, starves, turned-down, missing}
use Rattle.af_steps.proofs.engine.Engine.accept.Goals.{After-make_room_at, In_err-check_accept, In_err-fd, In_err-process}
use Rattle.af_base.specs.declared.errno.Errno.TheVariants.{EMFILE}
use Rattle.af_base.specs.Refusals.{first_fit, on_accept, on_free, process_at, refusal, socket_on}
use Rattle.af_steps.proofs.engine.Engine.accept.Goals as goal

-- No socket was found.
unfound : (c : In_err-process) → refusal c.self.inside.store.world c.args.pid (step.Accept c.args.on) ≡ Some c.in_err-process.field-0.0
unfound c =
    let w = c.self.inside.store.world in
    let p = c.args.pid in
    no-socket w p c.args.on (on_accept (socket_on w p c.args.on) ++ on_free (process_at w p) 1) _ c.in_err-process.ensures.refused

pub returns-in_err-process-clause-refused : goal.returns-in_err-process-clause-refused
returns-in_err-process-clause-refused c = turned-down c.self.view_is c.args.pid (step.Accept c.args.on) c.from_residual.result _ c.from_residual.ensures.1 (unfound (goal.at.returns-in_err-process-clause-refused c).In_err-process)

pub returns-in_err-process-clause-succeeds : goal.returns-in_err-process-clause-succeeds
returns-in_err-process-clause-succeeds c = not-refused c.self.view_is c.args.pid (step.Accept c.args.on) c.from_residual.result _ (unfound (goal.at.returns-in_err-process-clause-succeeds c).In_err-process)

-- No embryo waits there.
lonely : (c : In_err-check_accept) → refusal c.self.inside.store.world c.args.pid (step.Accept c.args.on) ≡ Some c.in_err-check_accept.field-0.0
lonely c =
    after-socket c.in_ok-process.ensures.found (λ r look s. on_accept s ++ on_free r 1) ∙ goes-on (on_accept c.in_ok-process.socket) (on_free c.in_ok-process.process.now.process 1) _ c.in_err-check_accept.ensures.err

pub returns-in_err-check_accept-clause-refused : goal.returns-in_err-check_accept-clause-refused
returns-in_err-check_accept-clause-refused c =
    turned-down c.self.view_is c.args.pid (step.Accept c.args.on) c.from_residual-in_err-check_accept.result _ c.from_residual-in_err-check_accept.ensures.1 (lonely (goal.at.returns-in_err-check_accept-clause-refused c).In_err-check_accept)

pub returns-in_err-check_accept-clause-succeeds : goal.returns-in_err-check_accept-clause-succeeds
returns-in_err-check_accept-clause-succeeds c =
    not-refused c.self.view_is c.args.pid (step.Accept c.args.on) c.from_residual-in_err-check_accept.result _ (lonely (goal.at.returns-in_err-check_accept-clause-succeeds c).In_err-check_accept)

-- No number is free.
full : (c : In_err-fd) → refusal c.self.inside.store.world c.args.pid (step.Accept c.args.on) ≡ Some c.in_err-fd.field-0.0
full c =
    let q = c.in_ok-process.process.now.process in
    let missed = missing c.lowest.result EMFILE c.in_err-fd.field-0.0 c.in_err-fd.ensures.value in
    after-socket c.in_ok-process.ensures.found (λ r look s. on_accept s ++ on_free r 1) ∙ passes-on (on_accept c.in_ok-process.socket) (on_free q 1) c.in_ok-check_accept.ensures.ok
    ∙ ap (λ b. first_fit ((b, EMFILE) ∷ [])) (none-free q (sym c.lowest.ensures ∙ missed.0)) ∙ ap Some (sym missed.1)

pub returns-in_err-fd-clause-refused : goal.returns-in_err-fd-clause-refused
returns-in_err-fd-clause-refused c = turned-down c.self.view_is c.args.pid (step.Accept c.args.on) c.from_residual-in_err-fd.result _ c.from_residual-in_err-fd.ensures.1 (full (goal.at.returns-in_err-fd-clause-refused c).In_err-fd)

pub returns-in_err-fd-clause-succeeds : goal.returns-in_err-fd-clause-succeeds
returns-in_err-fd-clause-succeeds c = not-refused c.self.view_is c.args.pid (step.Accept c.args.on) c.from_residual-in_err-fd.result _ (full (goal.at.returns-in_err-fd-clause-succeeds c).In_err-fd)

-- The results of the look-ups.
has : (c : After-make_room_at) → HasSocket c.self.inside.store.world c.args.pid c.in_ok-process.process.now.process c.args.on c.in_ok-process.file c.in_ok-process.socket
has c = c.in_ok-process.ensures.found

-- The number that is taken into use.
least : (c : After-make_room_at) → IsLowest c.in_ok-process.process.now.process c.in_ok-fd.fd
least c = record { read = search rules }

pub returns-in_err-make_room_at-clause-refused : goal.returns-in_err-make_room_at-clause-refused
returns-in_err-make_room_at-clause-refused c =
    let at = (goal.at.returns-in_err-make_room_at-clause-refused c).After-make_room_at in
    starves c.self.view_is c.args.pid (step.Accept c.args.on) (record { world = c.make_room_at.new.store.world; pass = c.make_room_at.new.store.pass; last_pass = c.self.inside.last_pass; since = c.make_room_at.new.store.since }) c.from_residual-in_err-make_room_at.result
    ((λ i. record { world = c.make_room_at.ensures.world i; pass = c.make_room_at.ensures.pass i; last_pass = c.self.inside.last_pass; since = c.make_room_at.ensures.since i }) ∙ c.self.view_is) (search rules) (accept-fits (has at) (search rules) (not-short (least at))) refl

pub take_embryo-requires : goal.take_embryo-requires
take_embryo-requires c =
    let at = (goal.at.take_embryo-requires c).After-make_room_at in
    let fd = c.in_ok-fd.fd in
    let f = c.in_ok-process.file in
    let found = has at in
    let process = found.number.process in
    let kept = in-same process c.make_room_at.new.store.world (ap (λ (v : World). v.processes) c.make_room_at.ensures.world) in
    record {
      there = is-there kept;
      row = c.in_ok-make_room_at.ensures.row;
      limit = below-limit kept fd (least-low (least at));
      free = is-free kept fd (not-open (least at));
      some = subst (λ v. 0 < length (backlog_at v f)) (sym c.make_room_at.ensures.world) (slice_get_within (backlog_at c.self.inside.store.world f) 0 _ (first-waits found (search rules)));
      spared = subst (λ s. NotBegunGarbage s f) (sym c.make_room_at.ensures.pass) (c.lemma_is_spared.ensures f (held found.number));
    }

pub returns-clause-done : goal.returns-clause-done
returns-clause-done c =
    let at = (goal.at.returns-clause-done c).After-make_room_at in
    let f = c.in_ok-process.file in
    let e = first_embryo c.self.inside.store.world c.args.pid c.args.on in
    let found = has at in
    let first : slice_get (backlog_at c.make_room_at.new.store.world f) 0 ≡ Some e = ap (λ v. slice_get (backlog_at v f) 0) c.make_room_at.ensures.world ∙ first-waits found (search rules) in
    let took = c.take_embryo.ensures e first in
    let number = is-free_at (least at) found.number.process in
    let leads = (λ i. install (with_socket (sym c.make_room_at.ensures.world i) (ino-is found.number i) dequeued) c.args.pid (number i) e) ∙ sym (ap (λ (s : StoreView). s.world) took) in
    does c.self.view_is c.args.pid (step.Accept c.args.on) c.release.new.self (reply.Fd c.in_ok-fd.fd) c.take_embryo.new.self.world (accept-fits found (search rules) (not-short (least at))) (ap reply.Fd number) leads c.release.ensures.settles
    (c.release.ensures.pass ∙ ap (λ (s : StoreView). s.pass) took ∙ c.make_room_at.ensures.pass) (c.release.ensures.since ∙ ap (λ (s : StoreView). s.since) took ∙ c.make_room_at.ensures.since)

pub make_room_at-requires : goal.make_room_at-requires
make_room_at-requires c =
    let fd = c.in_ok-fd.fd in
    let free : IsLowest c.in_ok-process.process.now.process fd = record { read = search rules } in
    record {
      said = c.has_room_at-has_room.ensures.value ∙ sym (ap (nat_lt fd) c.in_ok-process.ensures.row);
      limit = under-limit c.in_ok-process.ensures.found.number.process fd (least-low free);
    }

pub returns-in_err-make_room_at-clause-succeeds : goal.returns-in_err-make_room_at-clause-succeeds
returns-in_err-make_room_at-clause-succeeds c =
    let at = (goal.at.returns-in_err-make_room_at-clause-succeeds c).After-make_room_at in
    not-starved c.self.view_is c.args.pid (step.Accept c.args.on) c.from_residual-in_err-make_room_at.result c.in_err-make_room_at.was (λ sure. c.make_room_at.ensures.succeeds (c.has_room_at-has_room.ensures.open (open-from-lowest (has at).number.process (least at) sure.room)))
