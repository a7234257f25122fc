use Rattle.std.proofs.Common.{refl}
use Rattle.af_base.specs.Changes.{listening}
use Rattle.af_desc.proofs.FilesInvariant.{socket_either}
use Rattle.af_desc.proofs.files.Files.listen.Goals as goal

pub invariant_of-self : goal.invariant_of-self
invariant_of-self c = socket_either c.self.inside.rows c.listen.new.self _ _ _ _ _ _ _ c.self.invariant _ c.listen.result c.args.file.now (listening c.args.most) (λ s. refl) c.listen.ensures.ok c.listen.ensures.err
