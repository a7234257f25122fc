use Rattle.af_layer.proofs.Origins.{fresh-reached}
use Rattle.af_layer.proofs.layer.Layer.allow_checkpoints.Goals as goal

pub of-requires : goal.of-requires
of-requires c = let book = c.into_book.result in fresh-reached book.seats book.start book.machine book.log c.into_book.ensures.origin c.into_book.ensures.legal
