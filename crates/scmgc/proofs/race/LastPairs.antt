-- The last pair of a list that has one more.
use Rattle.std.proofs.Common.{◌≡◌, ◌∙◌, ◌++◌, ◌∷◌, ◌+◌, ◌-◌, [], List, ap, arith, get_or, length}
use Rattle.std.proofs.Math.Seq.{get_or-append_seam}
use Rattle.std.proofs.lemmas.List.{length-append}

-- The last item of a list that grew by one is that one.
pub last_new : {A : Type 0} (front : List A) (new last : A) (list : List A) → ((d : A) → last ≡ get_or list (length list - 1) d) → list ≡ front ++ new ∷ [] → last ≡ new
last_new front new last list found grew =
    let len : length front + 1 - 1 ≡ length front = omega arith in
    found new ∙ ap (λ l. get_or l (length l - 1) new) grew ∙ ap (λ n. get_or (front ++ new ∷ []) n new) (ap (λ n. n - 1) (length-append front (new ∷ [])) ∙ len) ∙ get_or-append_seam front new [] new
