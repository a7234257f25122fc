use Rattle.std.proofs.Common.{◌≡◌, sym, ap, ◌∙◌, subst}
use Rattle.std.specs.Prelude.{IfSome}
use Rattle.std.specs.FinMap as map
use Rattle.std.specs.Option.{option_and_then, option_copied}
use Rattle.af_base.specs.Names.{set_of}
use Rattle.af_desc.specs.FilesView.{AreNamed}
use Rattle.af_listen.specs.NameSets.{names_in, with_names}
use Rattle.af_desc.proofs.FileNames.{bound-there, name-freed, named-gone}
use Rattle.af_desc.proofs.files.free_name.Goals as goal

-- The name is freed with its socket.
pub returns-in-Some : goal.returns-in-Some
returns-in-Some c = λ files f named same.
    let had = ap (option_and_then (λ s. s.name)) (sym same) ∙ sym c.name.ensures ∙ ap option_copied c.in-Some.is in
    let own = subst (λ o. IfSome o (λ s. c.kind.result ≡ s.kind)) same c.kind.ensures in
    subst (λ n. AreNamed n (map.remove files f)) (sym (c.unbind.ensures
    ∙ ap (λ name. with_names c.kind.result
    (map.remove (names_in c.args.names.now c.kind.result) name) c.args.names.now)
    c.as_slice.ensures)) (name-freed c.args.names.now files named c.kind.result
    c.in-Some.name.now f (bound-there _ c.kind.result _ own had))

-- It had none.
pub returns-in_default : goal.returns-in_default
returns-in_default c = λ files f named same.
    let none = ap (option_and_then (λ s. s.name)) (sym same) ∙ sym c.name.ensures ∙ ap option_copied c.in_default.is in
    λ kind. named-gone (set_of kind) (names_in c.args.names.now kind) files (named kind) f none
