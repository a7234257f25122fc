use Rattle.std.proofs.Common.{rules, ◌≡◌, ◌∙◌, ap, sym, subst}
use Rattle.std.specs.Prelude.{IfSome, None, Some}
use Rattle.std.specs.FinMap as map
use Rattle.af_base.specs.Changes.{change_socket_at, file_with, with_name}
use Rattle.af_base.proofs.Lookups.{changed-live, none_some}
use Rattle.af_base.specs.Names.{named, set_of}
use Rattle.af_listen.specs.NameSets.{names_in, with_names}
use Rattle.af_desc.specs.FilesView.{AreNamed, FilesView, socket_in}
use Rattle.af_desc.proofs.FilesInvariant.{filed-named}
use Rattle.af_desc.proofs.FileNames.{name-bound, named-back, named-is, unchanged}
use Rattle.af_desc.proofs.files.Files.bind.Goals.{After-kind-kind}
use Rattle.af_desc.proofs.files.Files.bind.Goals as goal

pub returns-in_default-clause-ok : goal.returns-in_default-clause-ok
returns-in_default-clause-ok c =
    let none : socket_in c.args.self.now.files c.args.file.now ≡ None = search rules in
    ap (λ fs. record c.args.self.now { files = fs }) (unchanged (with_name c.args.name.now) c.args.self.now.files c.args.file.now none)

-- The socket is this one.
shown : (c : After-kind-kind) → socket_in c.self.inside.rows.files c.args.file.now
    ≡ Some c.in-Some.socket
shown c = ap (λ (v : FilesView). socket_in v.files c.args.file.now) c.self.view_is
    ∙ sym c.socket.ensures ∙ c.in-Some.is

-- The name is free in the set of its type.
free : (c : After-kind-kind)
    → map.get (names_in c.self.inside.names c.kind-kind.result) c.args.name.now ≡ None
free c =
    let a = c.self.inside in
    let kind = c.kind-kind.result in
    let there = subst (λ (v : FilesView). IfSome (socket_in v.files c.args.file.now)
    (λ s. named v.files (set_of s.kind) c.args.name.now
    ≡ None)) (sym c.self.view_is) c.requires.free in
    named-is (set_of kind) (names_in a.names kind) a.rows.files (c.self.invariant.named kind)
    c.args.name.now
    ∙ ap (λ kind. named a.rows.files (set_of kind) c.args.name.now) c.kind-kind.ensures
    ∙ subst (λ o. IfSome o (λ s. named a.rows.files (set_of s.kind) c.args.name.now
    ≡ None)) (shown c) there

pub bind-requires : goal.bind-requires
bind-requires c =
    let listed : c.in_ok-listed.listed.items ≡ c.args.name.now = search rules in
    record {
      free = ap (map.get (names_in c.self.inside.names c.kind-kind.result)) listed
          ∙ free (goal.at.bind-requires c).After-kind-kind;
    }

pub invariant_of-self-in-Err : goal.invariant_of-self-in-Err
invariant_of-self-in-Err c =
    let a = c.self.inside in
    let name = c.args.name.now in
    let k = c.args.file.now in
    let kind = c.kind-kind.result in
    let listed : c.in_ok-listed.listed.items ≡ name = search rules in
    let given = c.in_ok-bind.ensures.ok
    ∙ (λ i. with_names kind
    (map.insert (names_in a.names kind) (listed i) (c.duplicate.ensures i)) a.names) in
    let back = c.unbind.ensures
    ∙ named-back kind a.names name k
    (free (goal.at.invariant_of-self-in-Err c).After-kind-kind) _ given in
    filed-named a.rows c.bind-2.new.self _ _ _ _ _ _ _ c.self.invariant a.rows.files _
    c.in-Err.ensures.err c.self.invariant.begins
    (subst (λ n. AreNamed n a.rows.files) (sym back) c.self.invariant.named)

pub invariant_of-self-in_default-bind : goal.invariant_of-self-in_default-bind
invariant_of-self-in_default-bind c =
    let a = c.self.inside in
    let m = a.rows.files in
    let name = c.args.name.now in
    let k = c.args.file.now in
    let kind = c.kind-kind.result in
    let listed : c.in_ok-listed.listed.items ≡ name = search rules in
    let own : c.of-own.result ≡ name = search rules in
    let given = c.in_ok-bind.ensures.ok
    ∙ (λ i. with_names kind
    (map.insert (names_in a.names kind) (listed i) (c.duplicate.ensures i)) a.names) in
    let set = c.in_default-bind.ensures.ok
    ∙ ap (λ q. record a.rows { files = change_socket_at (with_name q) m k }) own in
    let early = (goal.at.invariant_of-self-in_default-bind c).After-kind-kind in
    let is = shown early in
    let nameless = subst (λ (v : FilesView). IfSome (socket_in v.files k) (λ s. s.name ≡ None)) (sym c.self.view_is) c.requires.nameless in
    let typed = subst (λ o. IfSome o (λ s. kind ≡ s.kind)) (sym is) c.kind-kind.ensures in
    filed-named a.rows c.bind-2.new.self _ _ _ _ _ _ _ c.self.invariant (change_socket_at (with_name name) m k) _ set (changed-live (file_with (with_name name)) m k 0 ∙ c.self.invariant.begins)
    (subst (λ n. AreNamed n (change_socket_at (with_name name) m k)) (sym given)
    (name-bound a.names m c.self.invariant.named kind name k (free early)
    (λ none. none_some _ (sym none ∙ is)) typed nameless))
