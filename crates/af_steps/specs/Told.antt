-- The lists of freed files and of changed sockets. Definitions that name no manual page are this
-- project's own.
use Rattle.af_base.specs.Pass.{Machine}
use Rattle.af_desc.specs.Told.{since_telling}
use Rattle.af_desc.specs.declared.told_lists.ToldList.{ToldList}
pub use Rattle.af_desc.specs.declared.told_lists.ToldList.TheVariants.{Changed, Released}

-- The machine that keeps that list too from now on; both lists are empty.
abbrev pub telling : ToldList → Machine → Machine
telling list m = record m {
  since = since_telling list m.since m.world.files m.world.next_ino;
}
