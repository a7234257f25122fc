use Rattle.std.proofs.Common.{refl}
use Rattle.std.specs.Prelude.{option_copied, unwrap_or}
use Rattle.af_desc.specs.FilesView.{turned}
use Rattle.af_desc.proofs.FilesInvariant.{socket_changed}
use Rattle.af_desc.proofs.files.Files.aim.Goals as goal

pub invariant_of-self : goal.invariant_of-self
invariant_of-self c =
    socket_changed c.self.inside.rows c.aim.new.self _ _ _ _ _ _ _ c.self.invariant
    c.args.file.now (turned (unwrap_or (option_copied c.args.target) 0)) (λ s. refl) c.aim.ensures
