-- A list of the places of a world.
use Rattle.std.specs.Prelude.{◌≡◌, ℕ, List, map}
use Rattle.jaywardrobe.specs.Counts.{count_in, refs}
use Rattle.jaywardrobe.specs.World.{World}
use Rattle.examples.specs.declared.audit.places.Reference.{Reference}

-- The file of each place, in order, repeats included.
abbrev pub referred_files : List Reference → List ℕ
referred_files places = map (λ p. p.file) places

-- Each file occurs in the list as often as a place of the world holds it (close(2): its reference
-- count).
abbrev pub ListsAll : World → List Reference → Type 0
ListsAll w places = (f : ℕ) → count_in f (referred_files places) ≡ refs w f
