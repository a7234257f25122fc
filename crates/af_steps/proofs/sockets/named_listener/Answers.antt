use Rattle.std.proofs.Common.{rules, ◌≡◌, ◌++◌, sym, ap, ◌∙◌}
use Rattle.std.specs.Prelude.{Some, is_none}
use Rattle.std.proofs.lemmas.Bool.{false≢true}
use Rattle.af_base.specs.Names.{named, set_of}
use Rattle.af_base.specs.Refusals.{first_fit, on_files, on_listener, socket_at, socket_named}
use Rattle.af_base.proofs.SoundSteps.{goes-on}
use Rattle.af_steps.proofs.Connections.{listener-is, some-by}
use Rattle.af_steps.proofs.Outcomes.{told}
use Rattle.af_steps.proofs.sockets.named_listener.Goals as goal

pub unwrap-requires : goal.unwrap-requires
unwrap-requires c =
    let w = c.args.store.now.world in
    let g = c.in_ok-listener.listener in
    let set = set_of c.args.kind in
    let has : named w.files set c.args.name.now ≡ Some g = search rules in
    let there = ap is_none (c.socket.ensures ∙ ap (λ v. socket_at v g) c.holdings-holdings.ensures.world) ∙ listener-is w set c.args.name.now g has in
    some-by c.socket.result (λ none. false≢true (sym there ∙ ap is_none none))

pub returns-in_err-check_listener-clause-refused : goal.returns-in_err-check_listener-clause-refused
returns-in_err-check_listener-clause-refused c =
    let w = c.args.store.now.world in
    let name = c.args.name.now in
    let kind = c.args.kind in
    let e = c.in_err-check_listener.field-0.0 in
    let has : named w.files (set_of kind) name ≡ Some c.in_ok-listener.listener = search rules in
    let listener : socket_named w kind name ≡ c.unwrap.result = search rules in
    let unfit : first_fit (on_listener (socket_named w kind name) kind) ≡ Some e = search rules in
    let row = on_listener (socket_named w kind name) kind ++ on_files w 1 in
    told (λ e. first_fit row
    ≡ Some e) c.from_residual-in_err-check_listener.result e
    c.from_residual-in_err-check_listener.ensures.1
    (goes-on (on_listener (socket_named w kind name) kind) (on_files w 1) e unfit)
