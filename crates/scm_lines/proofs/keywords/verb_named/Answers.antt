-- Words of four to nine letters with another first letter, some with another later one, and words
-- too long for a verb: all other tactics take long to give up at these.
use Rattle.std.proofs.Common.{[], ◌∷◌, ◌==◌, ◌||◌, arith, get_or, length, not, refl, sym}
use Rattle.std.proofs.lemmas.Bool.Decides.{nat_tests}
use Rattle.scm_lines.specs.Forms.{verb_row, verbs}
use Rattle.scm_lines.proofs.FormLemmas.{no_key}
use Rattle.scm_lines.proofs.KeywordLemmas.{no_other, no_ten}
use Rattle.scm_lines.proofs.keywords.verb_named.Goals as goal

pub returns-in_default-31 : goal.returns-in_default-31
returns-in_default-31 c = no_other verb_row verbs 4 (115 ∷ 114 ∷ 111 ∷ 100 ∷ 112 ∷ 102 ∷ 101 ∷ 98 ∷ []) refl c.args.word.now (omega arith) (grind (arith, nat_tests))

pub returns-in_default-40 : goal.returns-in_default-40
returns-in_default-40 c = no_other verb_row verbs 5 (99 ∷ 108 ∷ []) refl c.args.word.now (omega arith) (grind (arith, nat_tests))

pub returns-in_default-50 : goal.returns-in_default-50
returns-in_default-50 c =
    sym (no_key (λ text. not (length text == 6) || not (get_or text 0 0 == 115)
    || (get_or text 1 0 == 111)) verb_row verbs c.args.word.now refl (grind (arith, nat_tests)))

pub returns-in_default-54 : goal.returns-in_default-54
returns-in_default-54 c =
    sym (no_key (λ text. not (length text == 6) || not (get_or text 0 0 == 108)
    || not (get_or text 1 0 == 105)
    || (get_or text 2 0 == 115)) verb_row verbs c.args.word.now refl (grind (arith, nat_tests)))

pub returns-in_default-56 : goal.returns-in_default-56
returns-in_default-56 c = no_other verb_row verbs 6 (97 ∷ 115 ∷ 108 ∷ []) refl c.args.word.now (omega arith) (grind (arith, nat_tests))

pub returns-in_default-63 : goal.returns-in_default-63
returns-in_default-63 c = no_other verb_row verbs 7 (99 ∷ []) refl c.args.word.now (omega arith) (grind (arith, nat_tests))

pub returns-in_default-69 : goal.returns-in_default-69
returns-in_default-69 c =
    sym (no_key (λ text. not (length text == 8) || not (get_or text 0 0 == 115)
    || not (get_or text 1 0 == 104)
    || (get_or text 2 0 == 117)) verb_row verbs c.args.word.now refl (grind (arith, nat_tests)))

pub returns-in_default-71 : goal.returns-in_default-71
returns-in_default-71 c = no_other verb_row verbs 8 (115 ∷ []) refl c.args.word.now (omega arith) (grind (arith, nat_tests))

pub returns-in_default-80 : goal.returns-in_default-80
returns-in_default-80 c =
    no_other verb_row verbs 9 (117 ∷ []) refl c.args.word.now (omega arith) (grind (
      arith,
      nat_tests,
    ))

pub returns-in_default-81 : goal.returns-in_default-81
returns-in_default-81 c = no_ten verb_row verbs refl c.args.word.now c.in_default.len_at_least
