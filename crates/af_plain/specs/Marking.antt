-- How far a search is, and what its list is of. Definitions that name no manual page are of this
-- project's profile (docs/PROFILE.md).
use Rattle.std.specs.Prelude.{◌≡◌, ◌≤◌, ◌⊎◌, ◌↔◌, ℕ, ◌+◌, true, not, List, length}
use Rattle.std.specs.List.{Contains, count_by}
use Rattle.std.specs.List.Sorted.{IsStrictlyIncreasing}
use Rattle.std.specs.Ordering.{nat_cmp}
use Rattle.std.specs.BTreeSet as tree
use Rattle.std.specs.BTreeSet.{BTreeSet}
use Rattle.af_plain.specs.declared.reach.Marking.{Marking}

-- The numbers of the list are those that P is true of, each once, rising.
abbrev pub IsListOf : (ℕ → Type 0) → List ℕ → Type 0
IsListOf P xs = IsStrictlyIncreasing xs × ((f : ℕ) → Contains xs f ↔ P f)

-- How many of a list are not in the set.
abbrev pub count_outside : BTreeSet ℕ → List ℕ → ℕ
count_outside s xs = count_by (λ x. not (tree.contains nat_cmp s x)) xs

-- A search step over these files: it adds just these, and each new one is to be looked at.
pub record Marks (old new : Marking) (found : List ℕ) : Type 0 where
  pub marked : (f : ℕ) → Contains found f → tree.contains nat_cmp new.marked f ≡ true
  pub kept : (f : ℕ) → tree.contains nat_cmp old.marked f ≡ true
      → tree.contains nat_cmp new.marked f ≡ true
  pub only : (f : ℕ) → tree.contains nat_cmp new.marked f ≡ true
      → (tree.contains nat_cmp old.marked f ≡ true) ⊎ Contains found f
  pub fresh : (f : ℕ) → tree.contains nat_cmp new.marked f ≡ true
      → (tree.contains nat_cmp old.marked f ≡ true) ⊎ Contains new.ahead.items f
  pub stays : (f : ℕ) → Contains old.ahead.items f → Contains new.ahead.items f
  pub ahead : (f : ℕ) → Contains new.ahead.items f → Contains old.ahead.items f ⊎ Contains found f
  pub less : (all : List ℕ) → ((f : ℕ) → Contains found f → Contains all f)
      → count_outside new.marked all + length new.ahead.items
      ≤ count_outside old.marked all + length old.ahead.items
