use Rattle.std.proofs.Common.{◌∙◌, ap}
use Rattle.af_base.specs.Names.{named, set_of}
use Rattle.af_desc.specs.FilesView.{FilesView}
use Rattle.af_desc.proofs.FileNames.{named-is}
use Rattle.af_listen.specs.NameSets.{names_in}
use Rattle.af_desc.proofs.files.Files.find_name.Goals as goal

pub returns : goal.returns
returns c = let kind = c.args.kind in c.find.ensures
    ∙ named-is (set_of kind) (names_in c.self.inside.names kind) c.self.inside.rows.files
    (c.self.invariant.named kind) c.args.name.now
    ∙ ap (λ (v : FilesView). named v.files (set_of kind) c.args.name.now) c.self.view_is
