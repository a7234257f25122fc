-- When the words of a command line fit the command.
use Rattle.std.proofs.Common.{◌≡◌, ◌==◌, List, [], ◌∷◌, length, true, refl, ap, arith}
use Rattle.std.proofs.lemmas.Bool.{eqb-true}
use Rattle.clap.specs.Words.{Text, fault_of, is_simple_and_free}
use Rattle.scmgc.specs.Task.{fits, whole_app}

-- The faults of the command are known.
pub known : is_simple_and_free whole_app ≡ true
known = refl

-- A list of no length is empty.
no_length : {X : Type 0} (xs : List X) → (length xs == 0) ≡ true → xs ≡ []
no_length [] e = refl
no_length (x ∷ xs) e = absurd (let none = eqb-true (length (x ∷ xs)) 0 e in omega (arith, none))

-- Words without a fault fit.
pub fits-no_fault : (words : List Text) → fault_of whole_app words ≡ [] → fits words ≡ true
unfolding fits
fits-no_fault words none = ap (λ kinds. length kinds == 0) none

-- Words that fit have no fault.
pub no_fault-fits : (words : List Text) → fits words ≡ true → fault_of whole_app words ≡ []
unfolding fits
no_fault-fits words fit = no_length (fault_of whole_app words) fit
