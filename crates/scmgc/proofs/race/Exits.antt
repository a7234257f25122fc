-- A list extended by one part after another, and the exits of children.
use Rattle.std.proofs.Common.{◌≡◌, ◌<◌, ◌+◌, ◌++◌, ℕ, List, [], ◌∷◌, ap, append-nil, append_assoc, length, map, refl, ◌∙◌, slice_index_or, take}
use Rattle.std.specs.Prelude.{Some, None, filter_map}
use Rattle.std.proofs.lemmas.List.{map-append, take_more}
use Rattle.std.proofs.lemmas.List.Elements.{filter_map-append}
use Rattle.af_base.specs.declared.events.Event.{Event}
use Rattle.af_base.specs.declared.events.Event.TheVariants as event
use Rattle.af_base.specs.declared.events.Reply.{Reply}
use Rattle.af_base.specs.declared.events.Reply.TheVariants as reply
use Rattle.af_layer.specs.Drive.{WentOn, events_of}
use Rattle.af_layer.specs.Log.{Pair}
use Rattle.scmgc.specs.Race.{Finishes, EndsInPass, child_of, exit_of, exits_of}

-- A list with one pair more is extended by its event.
pub went-one : (old new : List Pair) (e : Event) (r : Reply) → new ≡ old ++ (e, r) ∷ [] → WentOn old (e ∷ []) new
went-one old new e r grown = ((e, r) ∷ [], grown, refl)

-- A list extended by some events and then by others is extended by all of them.
pub went-on : (old mid new : List Pair) (first second : List Event) → WentOn old first mid → WentOn mid second new → WentOn old (first ++ second) new
went-on old mid new first second a b = (
  a.0 ++ b.0,
  b.1 ∙ ap (λ l. l ++ b.0) a.1 ∙ append_assoc old a.0 b.0,
  map-append (λ p. p.0) a.0 b.0 ∙ ap (λ l. l ++ events_of b.0) a.2 ∙ ap (λ l. first ++ l) b.2,
)

-- The exits of one pair more.
exits-more : (pairs : List Pair) (i : ℕ) (d : Pair) → i < length pairs → exits_of (take (i + 1) pairs) ≡ exits_of (take i pairs) ++ exits_of (slice_index_or pairs i d ∷ [])
exits-more pairs i d lt =
    let this = slice_index_or pairs i d ∷ [] in
    ap exits_of (take_more pairs i d lt)
    ∙ ap (map exit_of) (filter_map-append child_of (take i pairs) this)
    ∙ map-append exit_of (filter_map child_of (take i pairs)) (filter_map child_of this)

-- A pair that is no fork has no exit.
pub exits-skip : (pairs : List Pair) (i : ℕ) (p : Pair) → i < length pairs → slice_index_or pairs i p ≡ p → child_of p ≡ None → exits_of (take (i + 1) pairs) ≡ exits_of (take i pairs)
exits-skip pairs i p lt here none =
    let empty : exits_of (p ∷ []) ≡ [] = rw none refl in
    exits-more pairs i p lt ∙ ap (λ x. exits_of (take i pairs) ++ exits_of (x ∷ [])) here ∙ ap (λ l. exits_of (take i pairs) ++ l) empty ∙ append-nil (exits_of (take i pairs))

-- An answered fork has one.
pub exits-one : (pairs : List Pair) (i child : ℕ) (p : Pair) → i < length pairs → slice_index_or pairs i p ≡ p → child_of p ≡ Some child → exits_of (take (i + 1) pairs) ≡ exits_of (take i pairs) ++ exit_of child ∷ []
exits-one pairs i child p lt here some =
    let one : exits_of (p ∷ []) ≡ exit_of child ∷ [] = rw some refl in
    exits-more pairs i p lt ∙ ap (λ x. exits_of (take i pairs) ++ exits_of (x ∷ [])) here ∙ ap (λ l. exits_of (take i pairs) ++ l) one

-- Such a list ends in a pass, whatever exits it has.
pub in-pass : (exits : List Event) (old new : List Pair) → Finishes exits old new → EndsInPass old new
in-pass exits old new (exited, went, ended) = (
  went.0 ++ ended.0,
  ended.1,
  ended.2,
  ended.3 ∙ ap (λ l. l ++ (event.Pass, reply.Done ended.1 ended.2) ∷ []) (ap (λ l. l ++ ended.0) went.1 ∙ append_assoc old went.0 ended.0),
)
