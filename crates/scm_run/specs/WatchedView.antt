-- A watched reader or writer as contracts see it.
use Rattle.std.specs.Prelude.{Bool}

-- The reader or writer, and whether a call on it has failed.
pub record WatchedView (T : Type 0) : Type 0 where
  pub inner : T
  pub has_failed : Bool
