use Rattle.std.proofs.Common.{◌∙◌, ◌≡◌, ap, refl, sym}
use Rattle.std.specs.List.{zip}
use Rattle.af_base.specs.Changes.{install_all}
use Rattle.af_ledger.specs.Tally.{kept_of}
use Rattle.af_collect.specs.Receiving.{taken_at}
use Rattle.af_collect.specs.HoldingsView.{filled}
use Rattle.af_collect.proofs.Exact.{exact-same, install-filled, world-is}
use Rattle.af_collect.proofs.Receives.{counted, exact-tabled, received_at, tabled, files-fit, files-known, receives-within, spared-within}
use Rattle.af_collect.specs.contracts.holdings.Holdings.{the_view}
use Rattle.af_collect.proofs.StoreInvariant.{kept_peeked, BothInvariants, both-same, seen-changed, shown, stood}
use Rattle.af_collect.proofs.store.Store.peek_msg.Goals as goal

pub table_in_all-requires-clause-there : goal.table_in_all-requires-clause-there
table_in_all-requires-clause-there c = (receives-within c.self.inside c.holdings.inside _ c.holdings.view_is c.self.view_is c.args.socket.now c.args.max c.args.pid c.args.fds.now c.requires).1

pub table_in_all-requires-clause-known : goal.table_in_all-requires-clause-known
table_in_all-requires-clause-known c = files-known c.self.inside c.holdings.inside _ c.holdings.view_is c.self.view_is c.args.socket.now c.args.max c.args.pid c.args.fds.now c.requires
    c.holdings.invariant _ refl _ (c.attached.ensures.value ∙ ap (λ t. t.message.attached) c.in_ok-seen.ensures)

pub table_in_all-requires-clause-fits : goal.table_in_all-requires-clause-fits
table_in_all-requires-clause-fits c = files-fit c.self.inside c.holdings.inside _ c.holdings.view_is c.self.view_is c.args.socket.now c.args.max c.args.pid c.args.fds.now c.requires
    c.holdings.invariant _ refl _ (c.attached.ensures.value ∙ ap (λ t. t.message.attached) c.in_ok-seen.ensures) c.attached.ensures.bound

-- The world when the files are in the table.
seen : (c : goal.After-table_in_all) → let w = (the_view c.holdings.inside).world in let taken = taken_at w c.args.socket.now c.args.max in
    (the_view (record c.holdings.inside { procs = c.table_in_all.new.procs; files = c.table_in_all.new.files })).world ≡ install_all w c.args.pid (zip c.args.fds.now taken.attached)
seen c =
    let w = (the_view c.holdings.inside).world in
    let all = zip c.args.fds.now (taken_at w c.args.socket.now c.args.max).attached in
    let attached = c.attached.ensures.value ∙ ap (λ t. t.message.attached) c.in_ok-seen.ensures in
    let processes = c.table_in_all.ensures.processes ∙ ap (λ l. filled w.processes c.args.pid (zip c.args.fds.now l)) attached in
    let rest = c.table_in_all.ensures.rest in
    world-is _ (tabled w c.args.pid c.args.fds.now (received_at w c.args.socket.now c.args.max).attached) processes (ap (λ v. v.files) rest) (ap (λ v. v.next) rest) c.table_in_all.ensures.next refl ∙ sym (install-filled w c.args.pid all)

both : (c : goal.After-table_in_all) → BothInvariants c.self.inside c.table_in_all.new.procs c.table_in_all.new.files c.holdings.inside.ledger
both c =
    let p = c.self.inside in
    let h = c.holdings.inside in
    let w = (the_view h).world in
    let k = kept_of h.files.counts h.ledger in
    let s = c.args.socket.now in
    let max = c.args.max in
    let pid = c.args.pid in
    let fds = c.args.fds.now in
    let was = stood p h c.holdings.view_is c.holdings.invariant c.self.invariant in
    let r = receives-within c.self.inside c.holdings.inside _ c.holdings.view_is c.self.view_is c.args.socket.now c.args.max c.args.pid c.args.fds.now c.requires in
    let all = zip fds (taken_at w s max).attached in
    let attached = c.attached.ensures.value ∙ ap (λ t. t.message.attached) c.in_ok-seen.ensures in
    let kept = c.table_in_all.ensures.kept h.ledger ∙ ap (counted k fds) attached in
    both-same _ (install_all w pid all) _ _ _ _ (seen c) kept (ap (λ v. v.marks) c.table_in_all.ensures.rest)
    (exact-same _ _ _ _ (install-filled w pid all) refl (exact-tabled w s max k was.0 c.requires.some r.0 pid fds r.1 r.2))
    (kept_peeked was.0 s max r.0 p.progress.looked pid fds (spared-within c.self.inside c.holdings.inside _ c.holdings.view_is c.self.view_is c.args.socket.now c.args.max c.args.pid c.args.fds.now c.requires) r.1 r.2 was.1)

pub invariant_of-holdings : goal.invariant_of-holdings
invariant_of-holdings c = (both c).0

pub invariant_of-self-2 : goal.invariant_of-self-2
invariant_of-self-2 c = (both c).1

pub returns-clause-world : goal.returns-clause-world
returns-clause-world c =
    let p = c.self.inside in
    let h = c.holdings.inside in
    (λ i. shown p (record { world = seen c i; rows = c.table_in_all.ensures.rows i; message_room = ap (λ v. v.message_room) c.table_in_all.ensures.rest i; marks = ap (λ v. v.marks) c.table_in_all.ensures.rest i; since = ap (λ v. v.since) c.table_in_all.ensures.rest i }))
    ∙ seen-changed p h _ (λ v. install_all v c.args.pid (zip c.args.fds.now (taken_at v c.args.socket.now c.args.max).attached)) c.holdings.view_is c.self.view_is
