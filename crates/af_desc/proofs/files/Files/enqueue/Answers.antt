use Rattle.std.proofs.Common.{refl}
use Rattle.af_base.specs.Changes.{queued}
use Rattle.af_desc.proofs.FilesInvariant.{socket_changed}
use Rattle.af_desc.proofs.files.Files.enqueue.Goals as goal

pub invariant_of-self : goal.invariant_of-self
invariant_of-self c = socket_changed c.self.inside.rows c.enqueue.new.self _ _ _ _ _ _ _ c.self.invariant c.args.file.now (queued c.args.embryo) (λ s. refl) c.enqueue.ensures
