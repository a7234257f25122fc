-- Cells that are joined, and the line of a file.
use Rattle.std.proofs.Common.{◌≡◌, ℕ, List, [], ◌∷◌, ◌++◌, Some, refl, ap, ◌∙◌, append_assoc}
use Rattle.std.specs.FinMap as map
use Rattle.af_base.specs.Whole.{name_at}
use Rattle.af_base.specs.World.{AsSocket, File, Plain, World}
use Rattle.af_report.specs.Table.{columns, file_line, joined_cells, name_cell, name_text}

-- ---- columns

-- Columns with a space behind each, and others.
pub joined_on : (columns : List (List ℕ)) (next : List ℕ) (others : List (List ℕ)) → joined_cells (columns ++ [] ∷ []) ++ joined_cells (next ∷ others) ≡ joined_cells (columns ++ next ∷ others)
joined_on [] next others = refl
joined_on (column ∷ []) next others = append_assoc column (32 ∷ []) (joined_cells (next ∷ others))
joined_on (column ∷ other ∷ columns) next others =
    append_assoc column (32 ∷ joined_cells (other ∷ (columns ++ [] ∷ []))) (joined_cells (next ∷ others))
    ∙ ap (λ rest. column ++ 32 ∷ rest) (joined_on (other ∷ columns) next others)

-- They were appended, and then the others.
pub appended_on : (columns : List (List ℕ)) (next : List ℕ) (others : List (List ℕ)) (old mid new : List ℕ)
    → mid ≡ old ++ joined_cells (columns ++ [] ∷ []) → new ≡ mid ++ joined_cells (next ∷ others) → new ≡ old ++ joined_cells (columns ++ next ∷ others)
appended_on columns next others old mid new first then =
    then ∙ ap (λ text. text ++ joined_cells (next ∷ others)) first
    ∙ append_assoc old (joined_cells (columns ++ [] ∷ [])) (joined_cells (next ∷ others))
    ∙ ap (λ text. old ++ text) (joined_on columns next others)

-- A column was appended with the space behind it, and then the others.
pub column_on : (column next : List ℕ) (others : List (List ℕ)) (old mid new : List ℕ)
    → mid ≡ old ++ (column ++ 32 ∷ []) → new ≡ mid ++ joined_cells (next ∷ others) → new ≡ old ++ joined_cells (column ∷ next ∷ others)
column_on column next others = appended_on (column ∷ []) next others

-- The columns, the name, and the end of the line.
pub line_made : (columns : List (List ℕ)) (name front old mid named new : List ℕ)
    → front ≡ joined_cells (columns ++ [] ∷ []) → mid ≡ old ++ front → named ≡ mid ++ name → new ≡ named ++ 10 ∷ [] → new ≡ old ++ (joined_cells (columns ++ name ∷ []) ++ 10 ∷ [])
line_made columns name front old mid named new is first second third =
    third ∙ ap (λ text. text ++ 10 ∷ []) (appended_on columns name [] old mid named (first ∙ ap (λ text. old ++ text) is) second)
    ∙ append_assoc old (joined_cells (columns ++ name ∷ [])) (10 ∷ [])

-- ---- what is shown of a file

-- The name of a file that is live.
pub name_shown : (w : World) (f : ℕ) (x : File) → map.get w.files f ≡ Some x → name_text (name_at w f) ≡ name_cell x
name_shown w f Plain at = rw at refl
name_shown w f (AsSocket s) at = rw at refl

-- ---- lines

-- The line of a file of a world.
abbrev pub line : World → ℕ × File → List ℕ
line w entry = file_line w entry.0 entry.1
