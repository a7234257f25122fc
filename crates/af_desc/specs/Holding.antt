-- The contents of a file, as far as one look at its row tells, and what a pop removes of them.
-- Definitions that name no manual page are this project's own.
use Rattle.std.specs.Prelude.{◌≡◌, ℕ, List, [], ◌∷◌, None, Option, Some, drop}
use Rattle.af_desc.specs.declared.contents.Contents.{Contents}
use Rattle.af_desc.specs.declared.contents.Contents.TheVariants.{Nothing, One, Several}
use Rattle.af_base.specs.Changes.{dequeued}
use Rattle.af_base.specs.World as world
use Rattle.af_desc.specs.FilesView.{IsFirst, popped}
use Rattle.af_desc.specs.declared.contents.Popped.{Popped}
use Rattle.af_desc.specs.declared.contents.Popped.TheVariants.{Embryo, Message}

-- The files that it holds are these, so far as the look tells.
abbrev pub IsContents : Contents → List ℕ → Type 0
IsContents Nothing fs = fs ≡ []
IsContents (One f) fs = fs ≡ f ∷ []
IsContents Several fs = Unit {0}

-- A pop gave the first message of this queue, with these files, or else the first embryo of this
-- backlog, or else nothing.
abbrev pub IsPopped : Option Popped → List ℕ → List world.Message → List ℕ → Type 0
IsPopped (Some (Message user)) files queue backlog = IsFirst files user queue
IsPopped (Some (Embryo f)) files queue backlog = (queue ≡ []) × (backlog ≡ f ∷ drop 1 backlog)
IsPopped None files queue backlog = (queue ≡ []) × (backlog ≡ [])

-- A socket without what a pop gave.
abbrev pub without_popped : Option Popped → world.Socket → world.Socket
without_popped (Some (Message user)) s = popped s
without_popped (Some (Embryo f)) s = dequeued s
without_popped None s = popped s
