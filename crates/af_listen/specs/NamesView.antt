-- Abstract names.
use Rattle.std.specs.Prelude.{ℕ, List, map}
use Rattle.std.specs.Global.{Vec}
use Rattle.std.specs.Ordering.{nat_cmp}
use Rattle.std.specs.Cmp.Lexicographic.{slice_cmp}
use Rattle.std.specs.FinMap.{FinMap, from_entries}

-- Which file has which name: a finite map from the names' bytes (unix(7), abstract names).
abbrev pub NamesView : Type 0
NamesView = FinMap (slice_cmp nat_cmp) ℕ

-- The map of these entries, by the bytes of their keys.
abbrev pub names_of : List (Vec ℕ × ℕ) → NamesView
names_of es = from_entries (map (λ e. (e.0.items, e.1)) es)
