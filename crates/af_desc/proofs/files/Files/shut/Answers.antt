use Rattle.std.proofs.Common.{refl}
use Rattle.af_base.specs.Changes.{shut}
use Rattle.af_desc.proofs.FilesInvariant.{socket_changed}
use Rattle.af_desc.proofs.files.Files.shut.Goals as goal

pub invariant_of-self : goal.invariant_of-self
invariant_of-self c = socket_changed c.self.inside.rows c.shut.new.self _ _ _ _ _ _ _ c.self.invariant c.args.file.now (shut c.args.input c.args.output) (λ s. refl) c.shut.ensures
