-- One part of each value of a map. The definition that names no manual page is this project's own.
use Rattle.std.specs.Prelude.{map}
use Rattle.std.specs.FinMap as finmap
use Rattle.af_base.specs.World.{Map}

-- The map that has at each number a part of what the other has there.
abbrev pub part : {A B : Type 0} → (A → B) → Map A → Map B
part g m = finmap.from_entries (map (λ x. (x.0, g x.1)) (finmap.entries m))
