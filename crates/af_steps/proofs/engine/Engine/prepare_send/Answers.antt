use Rattle.std.proofs.Common.{rules, ℕ, ◌≡◌, ◌≤◌, length, refl, sym, ap, ◌∙◌, subst, ◌++◌, arith}
use Rattle.std.specs.Prelude.{None, Some, Err}
use Rattle.std.proofs.lemmas.Bool.{leb-false}
use Rattle.af_base.specs.declared.errno.Errno.TheVariants.{ENOMEM}
use Rattle.af_base.specs.declared.events.Step.TheVariants as step
use Rattle.af_base.specs.declared.limits.TheConstants.{MAX_MESSAGES}
use Rattle.af_base.specs.Changes.{push_message}
use Rattle.af_base.specs.Pass.{Machine}
use Rattle.af_base.specs.Places.{queue_at, table_at}
use Rattle.af_base.specs.Refusals.{ino_on, refusal, on_parts, peer_of, process_at, socket_on}
use Rattle.af_base.specs.Steps.{effect}
use Rattle.af_base.specs.World.{Message}
use Rattle.af_base.proofs.SoundSteps.{none-fits}
use Rattle.af_steps.specs.MessageRoom.{HasRoomForMessage, goal_row, message_in, room_row}
use Rattle.af_steps.proofs.LookupRows.{is_process, no-socket}
use Rattle.af_steps.proofs.Outcomes.{starves, turned-down}
use Rattle.af_steps.proofs.Sends.{after-peer, refused-parts, refused-peer, sent, sent-flying, sent-leads, sent-tabled, sent-within}
use Rattle.af_steps.proofs.engine.Engine.prepare_send.Goals.{In_ok-user}
use Rattle.af_steps.proofs.engine.Engine.prepare_send.Goals as goal

pub returns-in_err-process-clause-refused : goal.returns-in_err-process-clause-refused
returns-in_err-process-clause-refused c =
    let w = c.self.inside.store.world in
    let p = c.args.pid in
    let x = socket_on w p c.args.on in
    let attach = c.args.attach.now in
    let e = c.in_err-process.field-0.0 in
    let rest = on_parts (table_at w p) c.args.bytes.now attach
    ++ (goal_row w (ino_on w p c.args.on) x
    ++ room_row w (process_at w p) (peer_of x.state) (length attach)) in
    turned-down c.self.view_is p (step.Send c.args.on c.args.bytes.now attach) c.from_residual.result e c.from_residual.ensures.1 (no-socket w p c.args.on rest e c.in_err-process.ensures.refused)

pub returns-in_err-check_parts-clause-refused : goal.returns-in_err-check_parts-clause-refused
returns-in_err-check_parts-clause-refused c =
    let e = c.in_err-check_parts.field-0.0 in
    turned-down c.self.view_is c.args.pid (step.Send c.args.on c.args.bytes.now c.args.attach.now) c.from_residual-in_err-check_parts.result e c.from_residual-in_err-check_parts.ensures.1
    (refused-parts c.in_ok-process.ensures.found c.args.bytes.now c.args.attach.now e c.in_err-check_parts.ensures.err)

pub returns-in_err-peer-clause-refused : goal.returns-in_err-peer-clause-refused
returns-in_err-peer-clause-refused c =
    let e = c.in_err-peer.field-0.0 in
    turned-down c.self.view_is c.args.pid (step.Send c.args.on c.args.bytes.now c.args.attach.now) c.from_residual-in_err-peer.result e c.from_residual-in_err-peer.ensures.1
    (refused-peer c.in_ok-process.ensures.found c.args.bytes.now c.args.attach.now c.in_ok-check_parts.ensures.ok e c.in_err-peer.ensures.err)

pub returns-in_err-user-clause-refused : goal.returns-in_err-user-clause-refused
returns-in_err-user-clause-refused c =
    let e = c.in_err-user.field-0.0 in
    turned-down c.self.view_is c.args.pid (step.Send c.args.on c.args.bytes.now c.args.attach.now) c.from_residual-in_err-user.result e c.from_residual-in_err-user.ensures.1
    (after-peer c.in_ok-process.ensures.found c.args.bytes.now c.args.attach.now c.in_ok-check_parts.ensures.ok c.in_ok-peer.ensures.ok c.in_ok-peer.peer c.in_ok-peer.ensures.peer ∙ c.in_err-user.ensures.err)

-- Nothing refuses it.
fits : (c : In_ok-user) → refusal c.self.inside.store.world c.args.pid (step.Send c.args.on c.args.bytes.now c.args.attach.now) ≡ None
fits c =
    after-peer c.in_ok-process.ensures.found c.args.bytes.now c.args.attach.now c.in_ok-check_parts.ensures.ok c.in_ok-peer.ensures.ok c.in_ok-peer.peer c.in_ok-peer.ensures.peer ∙ c.in_ok-user.ensures.ok

pub returns-then-len-attach-clause-refused : goal.returns-then-len-attach-clause-refused
returns-then-len-attach-clause-refused c =
    starves c.self.view_is c.args.pid (step.Send c.args.on c.args.bytes.now c.args.attach.now) {X = ℕ} c.args.self.now (Err ENOMEM) refl refl (fits (goal.at.returns-then-len-attach-clause-refused c).In_ok-user) refl

pub returns-clause-fits : goal.returns-clause-fits
returns-clause-fits c =
    subst (λ (m : Machine). refusal m.world c.args.pid (step.Send c.args.on c.args.bytes.now c.args.attach.now) ≡ None) c.self.view_is (fits (goal.at.returns-clause-fits c).In_ok-user)

pub returns-clause-leads : goal.returns-clause-leads
returns-clause-leads c =
    let found = c.in_ok-process.ensures.found in
    let g = c.in_ok-peer.peer in
    let bytes = c.args.bytes.now in
    let m : Message = message_in (record {
      peer = g;
      attached = c.check_parts.new.files;
      user =
          c.in_ok-user.user;
    }) bytes in
    let all : length c.args.attach.now ≤ length c.check_parts.new.files.items =
    (let many = c.len.ensures.value in let few = c.if-len-attach.false in
    omega (arith, many, few)) in
    let is : m ≡ sent found bytes c.args.attach.now =
    λ i. record {
      bytes = bytes;
      attached = c.in_ok-check_parts.ensures.files all i;
      user =
          c.in_ok-user.ensures.user i;
    } in
    subst (λ (x : Machine). effect x.world c.args.pid
    (step.Send c.args.on bytes c.args.attach.now) ≡ push_message x.world g m) c.self.view_is
    (sent-leads found bytes c.args.attach.now m is g c.in_ok-peer.ensures.peer)

pub returns-clause-room : goal.returns-clause-room
returns-clause-room c =
    let found = c.in_ok-process.ensures.found in
    let w = c.self.inside.store.world in
    let g = c.in_ok-peer.peer in
    let q = c.in_ok-process.process.now.process in
    let m : Message = message_in (record { peer = g; attached = c.check_parts.new.files; user = c.in_ok-user.user }) c.args.bytes.now in
    let all : length c.args.attach.now ≤ length c.check_parts.new.files.items =
    (let many = c.len.ensures.value in let few = c.if-len-attach.false in
    omega (arith, many, few)) in
    let is : m ≡ sent found c.args.bytes.now c.args.attach.now = λ i. record { bytes = c.args.bytes.now; attached = c.in_ok-check_parts.ensures.files all i; user = c.in_ok-user.ensures.user i } in
    let process = found.number.process in
    let room = c.in_ok-user.ensures.ok in
    subst (λ (x : Machine). HasRoomForMessage x.world g m) c.self.view_is
    (record {
      socket = search rules;
      queue = leb-false MAX_MESSAGES (length (queue_at w g)) (none-fits (room_row w q g (length c.args.attach.now)) room).rest.rest.rest.here;
      tabled = sent-tabled found c.args.bytes.now c.args.attach.now m is;
      user = (c.args.pid, process.there ∙ ap Some (sym (is_process process)), c.in_ok-user.ensures.user ∙ ap (λ x. x.user) (sym (is_process process)));
      within = sent-within found c.args.bytes.now c.args.attach.now m is c.in_ok-check_parts.ensures.ok;
      flying = sent-flying found c.args.bytes.now c.args.attach.now m is g room;
    })
