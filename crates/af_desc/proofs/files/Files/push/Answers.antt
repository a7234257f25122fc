use Rattle.std.proofs.Common.{refl}
use Rattle.af_base.specs.Changes.{pushed}
use Rattle.af_desc.proofs.FilesInvariant.{socket_changed}
use Rattle.af_desc.proofs.files.Files.push.Goals as goal

pub invariant_of-self : goal.invariant_of-self
invariant_of-self c = socket_changed c.self.inside.rows c.push_message.new.self _ _ _ _ _ _ _ c.self.invariant c.args.file.now (pushed c.args.message) (λ s. refl) c.push_message.ensures
