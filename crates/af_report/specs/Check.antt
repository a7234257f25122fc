-- The text of a check: what an independent recount says. Definitions that name no manual page are
-- of this project's profile (docs/PROFILE.md).
use Rattle.std.specs.Prelude.{◌≡◌, ℕ, List, [], ◌∷◌, ◌++◌, length, codes}
use Rattle.std.specs.Fmt.{decimal}
use Rattle.std.specs.FinMap as map
use Rattle.af_base.specs.World.{World}
use Rattle.af_base.specs.Reached.{Garbage}
use Rattle.af_plain.specs.Marking.{IsListOf}

-- How many files are live, and how many of them are garbage.
abbrev pub check_text : ℕ → ℕ → List ℕ
check_text live garbage = codes "check ok live "
    ++ (decimal live ++ (codes " garbage " ++ (decimal garbage ++ 10 ∷ [])))

-- The number of live files, and the length of a list that has each garbage file once.
abbrev pub IsChecked : World → ℕ → ℕ → Type 0
IsChecked w live garbage = (live ≡ map.len w.files)
    × ((files : List ℕ) × IsListOf (Garbage w) files × (garbage ≡ length files))

-- The text of a check: the live files are counted, and a list that has each garbage file once.
abbrev pub IsCheckText : World → List ℕ → Type 0
IsCheckText w text = (files : List ℕ) × IsListOf (Garbage w) files
    × (text ≡ check_text (map.len w.files) (length files))
