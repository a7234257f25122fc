-- A fact of all numbers up to n, and of the next.
use Rattle.std.proofs.Common.{◌≤◌, ◌+◌, ℕ, inl, inr, sym, subst, arith}
use Rattle.std.proofs.lemmas.Bool.{cases_eq}

-- So of all numbers to n and of the next: of all to the next.
pub one_more : (P : ℕ → Type 0) (n : ℕ) → ((k : ℕ) → 1 ≤ k → k ≤ n → P k) → P (n + 1) → (k : ℕ) → 1 ≤ k → k ≤ n + 1 → P k
one_more P n below here k low high = elim (cases_eq k (n + 1)) [ inl e ↦ subst P (sym e) here | inr ne ↦ below k low (omega arith) ]
