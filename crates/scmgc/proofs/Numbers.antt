-- How the number of an option is read.
use Rattle.std.proofs.Common.{◌≡◌, ◌<◌, ◌≤◌, ℕ, ◌^◌, List, [], ap, arith, refl, sym, ◌∙◌, subst}
use Rattle.std.specs.Prelude.{Option, Some, None, Result, Ok, Err}
use Rattle.std.specs.Str.Parse.{ParsesUnsigned, digits_value, without_leading_plus}
use Rattle.std.proofs.lemmas.Option.{none-some}
use Rattle.clap.specs.Matches.{ReadsOne, one_text}
use Rattle.clap.specs.Words.{Row, Text, rows_of}
use Rattle.clap.specs.declared.parser.matches.Found.{Found}
use Rattle.clap.proofs.WalkLemmas.{one_text-rows}
use Rattle.scmgc.specs.Task.{HasNumber}

-- The value of an option, or 0.
abbrev or_zero : Option ℕ → ℕ
or_zero (Some n) = n
or_zero None = 0

-- The text of an option, or none.
abbrev or_empty : Option Text → Text
or_empty (Some text) = text
or_empty None = []

-- An option has one number.
pub one_number : (rows : List Row) (name : Text) (least most n m : ℕ) → HasNumber rows name least most n → HasNumber rows name least most m → n ≡ m
one_number rows name least most n m a b = a.value ∙ ap (λ text. digits_value 10 (without_leading_plus text)) (ap or_empty (sym a.found ∙ b.found)) ∙ sym b.value

-- A reader of numbers that reads as u32 does, and what it read of an option.
module _ {E : Type 0} (gives : List ℕ → Result ℕ E → Type 0) (reads : (t : List ℕ) (x : Result ℕ E) → gives t x → ParsesUnsigned 32 10 t x)
    (f : Found) (name : Text) (r : Option ℕ) (none : one_text f name ≡ None → r ≡ None) (value : (t : List ℕ) → one_text f name ≡ Some t → ReadsOne gives t r) where
  -- The number read is the option's, if it is within the bounds.
  pub is_number : (least most n : ℕ) → r ≡ Some n → least ≤ n → n ≤ most → HasNumber (rows_of f) name least most n
  is_number least most n is low high = from (one_text f name) refl where
    from : (o : Option Text) → one_text f name ≡ o → HasNumber (rows_of f) name least most n
    from None e = absurd (none-some n (sym (none e) ∙ is))
    from (Some t) e =
        let parsed = reads t (Ok n) (subst (ReadsOne gives t) is (value t e)) in
        record { text = t; found = sym (one_text-rows f name) ∙ e; numeral = parsed.0.0; value = parsed.1; least_is = low; most_is = high }

  -- An option's number is what was read.
  pub number_is : (least most n : ℕ) → most < 2 ^ 32 → HasNumber (rows_of f) name least most n → r ≡ Some n
  number_is least most n small h = from r refl (value h.text (one_text-rows f name ∙ h.found)) where
    from : (o : Option ℕ) → r ≡ o → ReadsOne gives h.text r → r ≡ Some n
    from (Some m) e got =
        let parsed = reads h.text (Ok m) (subst (ReadsOne gives h.text) e got) in
        e ∙ (λ i. Some ((parsed.1 ∙ sym h.value) i))
    from None e got =
        let bad = subst (ReadsOne gives h.text) e got in
        absurd (reads h.text (Err bad.0) bad.1 (h.numeral, omega (arith, h.value, h.most_is, small)))

  -- Where nothing was read, the option has no number.
  pub none_read : (least most : ℕ) → most < 2 ^ 32 → r ≡ None → (n : ℕ) → HasNumber (rows_of f) name least most n → ⊥
  none_read least most small is n h = absurd (none-some n (sym is ∙ number_is least most n small h))

  -- Where what was read is out of bounds, it has none within them.
  pub out_of_bounds : (least most m : ℕ) → most < 2 ^ 32 → r ≡ Some m → (least ≤ m → m ≤ most → ⊥) → (n : ℕ) → HasNumber (rows_of f) name least most n → ⊥
  out_of_bounds least most m small is outside n h =
      let same : m ≡ n = ap or_zero (sym is ∙ number_is least most n small h) in
      outside (subst (λ k. least ≤ k) (sym same) h.least_is) (subst (λ k. k ≤ most) (sym same) h.most_is)
