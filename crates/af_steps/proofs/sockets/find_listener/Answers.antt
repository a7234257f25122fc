use Rattle.std.proofs.Common.{rules, ◌≡◌, ◌++◌, false, sym, ◌∙◌, subst}
use Rattle.std.specs.Prelude.{None, Some}
use Rattle.af_base.specs.declared.events.SockType.{SockType}
use Rattle.af_base.specs.Names.{named, set_of}
use Rattle.af_base.specs.Refusals.{first_fit, is_datagram, on_files, on_listener, socket_named}
use Rattle.af_steps.specs.Found.{HasListener}
use Rattle.af_steps.proofs.Connections.{listener-found}
use Rattle.af_steps.proofs.sockets.find_listener.Goals as goal

pub returns-clause-found : goal.returns-clause-found
returns-clause-found c =
    let w = c.args.store.now.world in
    let name = c.args.name.now in
    let x = c.in_ok-socket.client in
    let kind : c.kind-kind.result ≡ x.kind = search rules in
    let no : is_datagram x.kind ≡ false = search rules in
    let there = subst (λ k. named w.files (set_of k) name
    ≡ Some c.in_ok-listener.listener) kind c.in_ok-listener.ensures.found in
    let fits = subst (λ k. first_fit (on_listener (socket_named w k name) k ++ on_files w 1)
    ≡ None) kind c.in_ok-listener.ensures.fits in
    subst (HasListener w c.args.pid c.args.on name c.in_ok-socket.socket
    c.in_ok-listener.listener) (sym kind)
    (listener-found c.in_ok-socket.ensures.found name c.requires no
    c.in_ok-check_client.ensures.ok c.in_ok-listener.listener there fits)
