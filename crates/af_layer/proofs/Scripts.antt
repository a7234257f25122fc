-- How far a script was done, or a collector's turns.
use Rattle.std.proofs.Common.{◌≡◌, ◌+◌, ℕ, List, [], ◌∷◌, ◌++◌, sym, ap, ◌∙◌, append_assoc, subst}
use Rattle.std.proofs.lemmas.List.{map-append}
use Rattle.af_base.specs.declared.events.Event.{Event}
use Rattle.af_base.specs.declared.events.Reply.{Reply}
use Rattle.af_layer.specs.Log.{Pair}
use Rattle.af_layer.specs.Drive.{OneMore, Turned, next_turn}
use Rattle.af_layer.specs.Workers.{ScriptProgress}

-- One event more.
pub progress-step : (old new more : List Pair) (script from rest : List Event) (e : Event) (r : Reply) → ScriptProgress old script from new → from ≡ e ∷ rest → more ≡ new ++ (e, r) ∷ [] → ScriptProgress old script rest more
progress-step old new more script from rest e r p is grown = record {
  done = p.done ++ e ∷ [];
  split = p.split ∙ ap (λ l. p.done ++ l) is ∙ sym (append_assoc p.done (e ∷ []) rest);
  went = (
    p.went.0 ++ (e, r) ∷ [],
    grown ∙ ap (λ l. l ++ (e, r) ∷ []) p.went.1 ∙ append_assoc old p.went.0 ((e, r) ∷ []),
    map-append (λ pair. pair.0) p.went.0 ((e, r) ∷ []) ∙ ap (λ l. l ++ e ∷ []) p.went.2,
  );
}

-- One turn more of the collector.
pub one_more_turn : (budget n : ℕ) (old list new : List Pair) (e : Event) (r : Reply) → Turned budget old n list → e ≡ next_turn budget list → new ≡ list ++ (e, r) ∷ [] → Turned budget old (n + 1) new
one_more_turn budget n old list new e r turned is grown =
    subst (Turned budget old (n + 1)) (sym (grown ∙ ap (λ (x : Event). list ++ (x, r) ∷ []) is)) (OneMore n list r turned)
