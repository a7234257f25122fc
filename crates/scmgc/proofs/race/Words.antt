-- The words that a stream has next, and the events that are left.
use Rattle.std.proofs.Common.{◌≡◌, ◌<◌, ◌∙◌, ◌+◌, ◌-◌, Bool, if◌then◌else◌, map, ℕ, zero, suc, List, [], ◌∷◌, ◌++◌, add-one, ap, arith, drop, length, refl, sym, take}
use Rattle.af_base.specs.declared.events.Step.TheVariants as step
use Rattle.af_base.specs.declared.events.Event.{Event}
use Rattle.af_base.specs.declared.events.Event.TheVariants as event
use Rattle.rand_core.specs.Stream.{Stream, next_u64}
use Rattle.rand_core.specs.Steps.{first_words, steps_u64_high, stream_of}
use Rattle.scmgc.specs.Race.Scripts.{opening_of}
use Rattle.scmgc.specs.Race.Source.{rest_of, words_in}
use Rattle.scmgc.specs.Race.Table.{event_of_word}

-- The next words of a generator's stream are those of its step.
pub words_in-stream_of : {S : Type 0} → (step : S → ℕ × S) → (n : ℕ) → (s : S) → words_in n (stream_of (steps_u64_high step) s) ≡ first_words step n s
unfolding words_in first_words next_u64 stream_of
words_in-stream_of step zero s = refl
words_in-stream_of step (suc n) s = ap (λ words. (step s).0 ∷ words) (words_in-stream_of step n (step s).1)

-- A word that is drawn is the first of those that are left.
pub one-word : (n m : ℕ) → n ≡ suc m → (s rest : Stream) → (word : ℕ) → (word, rest) ≡ next_u64 s → words_in n s ≡ word ∷ words_in m rest
unfolding words_in
one-word n m more s rest word drawn = ap (λ k. words_in k s) more ∙ ap (λ (p : ℕ × Stream). p.0 ∷ words_in m p.1) (sym drawn)

-- Where no word is left, no event of one is.
pub no-word : (n : ℕ) → n ≡ 0 → (s : Stream) → words_in n s ≡ []
unfolding words_in
no-word n none s = ap (λ k. words_in k s) none

-- One element more is taken off a list.
one-taken-suc : {A : Type 0} → (n : ℕ) (xs : List A) (x : A) (rest : List A) → drop n xs ≡ x ∷ rest → (take (suc n) xs ≡ take n xs ++ x ∷ []) × (drop (suc n) xs ≡ rest)
one-taken-suc zero xs x rest is = (ap (take 1) is, ap (drop 1) is)
one-taken-suc (suc n) [] x rest is = absurd (let none = ap length is in omega (arith, none))
one-taken-suc (suc n) (y ∷ ys) x rest is = let less = one-taken-suc n ys x rest is in (ap (λ l. y ∷ l) less.0, less.1)

-- Where none is left, none is taken.
none-taken-suc : {A : Type 0} → (n : ℕ) (xs : List A) → drop n xs ≡ [] → (take (suc n) xs ≡ take n xs) × (drop (suc n) xs ≡ [])
none-taken-suc zero xs is = (ap (take 1) is, ap (drop 1) is)
none-taken-suc (suc n) [] is = (refl, refl)
none-taken-suc (suc n) (y ∷ ys) is = let less = none-taken-suc n ys is in (ap (λ l. y ∷ l) less.0, less.1)

-- A part grows by the event that is made, and what is left shrinks by it.
pub part-grows : {A : Type 0} → (n : ℕ) (all part more left new : List A) (x : A) → part ≡ take n all → left ≡ drop n all → left ≡ x ∷ new → more ≡ part ++ x ∷ [] → (more ≡ take (n + 1) all) × (new ≡ drop (n + 1) all)
part-grows n all part more left new x part_is left_is first is =
    let one = one-taken-suc n all x new (sym left_is ∙ first) in (
      is ∙ ap (λ l. l ++ x ∷ []) part_is ∙ sym one.0 ∙ ap (λ k. take k all) (sym (add-one n)),
      sym one.1 ∙ ap (λ k. drop k all) (sym (add-one n)),
    )

-- Where nothing is left, both stay.
pub part-stays : {A : Type 0} → (n : ℕ) (all part left new : List A) → part ≡ take n all → left ≡ drop n all → left ≡ [] → new ≡ [] → (part ≡ take (n + 1) all) × (new ≡ drop (n + 1) all)
part-stays n all part left new part_is left_is none is =
    let same = none-taken-suc n all (sym left_is ∙ none) in (
      part_is ∙ sym same.0 ∙ ap (λ k. take k all) (sym (add-one n)),
      is ∙ sym same.1 ∙ ap (λ k. drop k all) (sym (add-one n)),
    )

-- Where the whole opening was made, nothing of it is left.
pub no-opening : (worker place : ℕ) → place ≡ 4 → drop place (opening_of worker) ≡ []
no-opening worker place all = ap (λ n. drop n (opening_of worker)) all

-- The next event is that of the next word, once the opening was made.
pub rest-word : (worker workers opened words : ℕ) (ended : Bool) (old new : Stream) (word : ℕ) (made : Event) → opened ≡ 4 → 0 < words → (word, new) ≡ next_u64 old → made ≡ event_of_word worker workers word
    → rest_of worker workers opened words ended old ≡ made ∷ rest_of worker workers opened (words - 1) ended new
rest-word worker workers opened words ended old new word made all some drawn is =
    ap (λ l. l ++ map f (words_in words old) ++ end) (no-opening worker opened all)
    ∙ ap (λ l. map f l ++ end) (one-word words (words - 1) (omega (arith, some)) old new word drawn)
    ∙ ap (λ e. e ∷ map f (words_in (words - 1) new) ++ end) (sym is)
    ∙ ap (λ l. made ∷ l ++ map f (words_in (words - 1) new) ++ end) (sym (no-opening worker opened all)) where
      f : ℕ → Event
      f = event_of_word worker workers

      end : List Event
      end = if ended then [] else event.Proc worker step.Exit ∷ []

-- When all words were drawn, only the exit may be left.
pub rest-end : (worker workers opened words : ℕ) (ended : Bool) (s : Stream) → opened ≡ 4 → words ≡ 0 → rest_of worker workers opened words ended s ≡ (if ended then [] else event.Proc worker step.Exit ∷ [])
rest-end worker workers opened words ended s all none =
    let end : List Event = if ended then [] else event.Proc worker step.Exit ∷ [] in
    ap (λ l. l ++ map (event_of_word worker workers) (words_in words s) ++ end) (no-opening worker opened all)
    ∙ ap (λ l. map (event_of_word worker workers) l ++ end) (no-word words none s)
