-- The colours behind the marks, and the list of the grey files beside them. Definitions that name
-- no manual page are this project's own.
use Rattle.std.specs.Prelude.{◌≡◌, ◌≤◌, ◌-◌, ◌^◌, ℕ, List, nat_eq, Some, if◌then◌else◌}
use Rattle.std.specs.FinMap as map
use Rattle.af_base.specs.Counts.{ListsExactly}
use Rattle.af_base.specs.World.{Map}
use Rattle.ordered_slab.specs.Parts.{part}
use Rattle.af_mark.specs.MarksView.{is_grey_color}
use Rattle.af_mark.specs.declared.color.Color.{Color}
use Rattle.af_mark.specs.declared.color.Color.TheVariants.{Black, Grey, White}

-- The colour of a file, and the epoch of the pass that it is of; 0 is of none.
pub record MarkView : Type 0 where
  pub epoch : ℕ
  pub color : Color

-- The colour that the second word of a mark says.
abbrev pub color_of : ℕ → Color
color_of shade = if nat_eq shade 0 then White else if nat_eq shade (2 ^ 32 - 1) then Black else Grey

-- A mark of no pass.
abbrev pub unmarked : MarkView
unmarked = record { epoch = 0; color = White }

-- A mark of a file that is scanned in this pass.
abbrev pub black_mark : ℕ → MarkView
black_mark epoch = record { epoch = epoch; color = Black }

-- A mark of a file that is to be scanned in this pass.
abbrev pub grey_mark : ℕ → MarkView
grey_mark epoch = record { epoch = epoch; color = Grey }

-- The colour of a mark in this pass: one of an earlier pass is none.
abbrev pub color_in : ℕ → MarkView → Color
color_in epoch x = if nat_eq x.epoch epoch then x.color else White

-- The colours in this pass.
abbrev pub colors_in : ℕ → Map MarkView → Map Color
colors_in epoch m = part (color_in epoch) m

-- No mark is of a later pass.
abbrev pub AreUpTo : ℕ → Map MarkView → Type 0
AreUpTo epoch m = (f : ℕ) (x : MarkView) → map.get m f ≡ Some x → x.epoch ≤ epoch

-- The list has each grey file, once, and no other.
abbrev pub AreGrey : Map Color → List ℕ → Type 0
AreGrey colors fs = ListsExactly is_grey_color colors fs

-- The marks are of this pass or earlier ones, and the list has just the grey files, and room for as
-- many as have a mark.
abbrev pub IsGreyList : Map MarkView → ℕ → List ℕ → ℕ → Type 0
IsGreyList marks epoch grey room = AreUpTo epoch marks × AreGrey (colors_in epoch marks) grey
    × (map.len marks ≤ room)
