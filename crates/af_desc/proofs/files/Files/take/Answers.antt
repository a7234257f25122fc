use Rattle.std.proofs.Common.{refl}
use Rattle.af_desc.specs.FilesView.{received_from}
use Rattle.af_desc.proofs.FilesInvariant.{socket_either}
use Rattle.af_desc.proofs.files.Files.take.Goals as goal

pub invariant_of-self : goal.invariant_of-self
invariant_of-self c = socket_either c.self.inside.rows c.take.new.self _ _ _ _ _ _ _ c.self.invariant _ c.take.result c.args.file.now (received_from c.args.max) (λ s. refl) c.take.ensures.rest c.take.ensures.err
