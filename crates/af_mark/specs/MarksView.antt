-- The marks of files. Definitions that name no manual page are this project's own.
use Rattle.std.specs.Prelude.{ℕ, ◌&&◌, Bool, true, false, not, nat_lt, if◌then◌else◌}
use Rattle.std.specs.FinMap as map
use Rattle.std.specs.List.{count_by}
use Rattle.std.specs.Option.{option_map_or}
use Rattle.af_base.specs.World.{Map}
use Rattle.af_mark.specs.declared.color.Color.{Color}
use Rattle.af_mark.specs.declared.color.Color.TheVariants.{Black, Grey, White}

-- The colour of each file that was made and not forgotten since, and the bound of the pass.
pub record MarksView : Type 0 where
  pub colors : Map Color
  pub bound : ℕ

-- Whether it is marked.
abbrev pub is_mark : Color → Bool
is_mark White = false
is_mark Grey = true
is_mark Black = true

-- Whether it is marked and not scanned yet.
abbrev pub is_grey_color : Color → Bool
is_grey_color White = false
is_grey_color Grey = true
is_grey_color Black = false

-- Whether f is known: it was made, and not forgotten since.
abbrev pub knows : MarksView → ℕ → Bool
knows m f = map.contains_key m.colors f

-- Whether f is marked; an unknown file is not.
abbrev pub is_marked : MarksView → ℕ → Bool
is_marked m f = option_map_or is_mark (map.get m.colors f) false

-- Whether f is grey: marked, and not scanned yet.
abbrev pub is_grey : MarksView → ℕ → Bool
is_grey m f = option_map_or is_grey_color (map.get m.colors f) false

-- Whether f is known and not marked.
abbrev pub is_white : MarksView → ℕ → Bool
is_white m f = knows m f && not (is_marked m f)

-- Whether a pass has still to mark f: it was made before, and is not marked.
abbrev pub is_unmarked : MarksView → ℕ → Bool
is_unmarked m f = nat_lt f m.bound && is_white m f

-- f was made: it is known, and not marked.
abbrev pub born : ℕ → MarksView → MarksView
born f m = record m { colors = map.insert m.colors f White }

-- f is forgotten.
abbrev pub forgotten : ℕ → MarksView → MarksView
forgotten f m = record m { colors = map.remove m.colors f }

-- f is grey where it was made before the pass and not marked.
abbrev pub shaded : ℕ → MarksView → MarksView
shaded f m =
    if nat_lt f m.bound && is_white m f then record m { colors = map.insert m.colors f Grey }
    else m

-- The same, but f is black where it was scanned too.
abbrev pub marked_once : Bool → ℕ → MarksView → MarksView
marked_once scanned f m = if nat_lt f m.bound && is_white m f
    then record m { colors = map.insert m.colors f (if scanned then Black else Grey) } else m

-- f was visited: it is marked if a descriptor refers to it.
abbrev pub visited : Bool → ℕ → ℕ → MarksView → MarksView
visited scanned tabled f m = if nat_lt 0 tabled then marked_once scanned f m else m

-- f was scanned, where it was grey.
abbrev pub blackened : ℕ → MarksView → MarksView
blackened f m = if is_grey m f then record m { colors = map.insert m.colors f Black } else m

-- Whether f, of this colour, was made before the pass and is not marked.
abbrev pub white_at : ℕ → ℕ → Color → Bool
white_at bound f c = nat_lt f bound && not (is_mark c)

-- How many known files were made before the pass and are not marked.
abbrev pub white_count : MarksView → ℕ
white_count m = count_by (λ e. white_at m.bound e.0 e.1) (map.entries m.colors)
