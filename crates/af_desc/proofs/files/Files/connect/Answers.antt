use Rattle.std.proofs.Common.{refl}
use Rattle.af_base.specs.Changes.{connected}
use Rattle.af_desc.proofs.FilesInvariant.{socket_changed}
use Rattle.af_desc.proofs.files.Files.connect.Goals as goal

pub invariant_of-self : goal.invariant_of-self
invariant_of-self c = socket_changed c.self.inside.rows c.connect.new.self _ _ _ _ _ _ _ c.self.invariant c.args.file.now (connected c.args.peer.now) (λ s. refl) c.connect.ensures
