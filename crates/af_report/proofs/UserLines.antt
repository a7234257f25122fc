-- The lines of the users that are left.
use Rattle.std.proofs.Common.{◌≡◌, ◌≤◌, ℕ, zero, suc, ◌+◌, List, [], ◌∷◌, ◌++◌, drop, length, refl, sym, ap, ◌∙◌, append_assoc, append-nil, arith}
use Rattle.std.specs.Prelude.{Some, slice_get}
use Rattle.std.specs.List.{flat_map}
use Rattle.std.proofs.lemmas.Option.{slice_get_within}
use Rattle.af_base.specs.World.{World}
use Rattle.af_base.specs.Counts.{charged}
use Rattle.af_report.specs.Totals.{user_line}
use Rattle.af_report.proofs.Pieces.{none_left, piece_taken}

-- The list from an element on begins with it.
drop_at : {X : Type 0} (xs : List X) (i : ℕ) (x : X) → slice_get xs i ≡ Some x → drop i xs ≡ x ∷ drop (suc i) xs
drop_at [] i x e = absurd (let low = slice_get_within [] i x e in omega (arith, low))
drop_at (y ∷ xs) zero x e = let same : y ≡ x = cc in ap (λ z. z ∷ xs) same
drop_at (y ∷ xs) (suc i) x e = drop_at xs i x e

-- The list from its end on is empty.
drop_past : {X : Type 0} (xs : List X) (i : ℕ) → length xs ≤ i → drop i xs ≡ []
drop_past [] zero past = refl
drop_past [] (suc i) past = refl
drop_past (y ∷ xs) zero past = absurd (omega (arith, past))
drop_past (y ∷ xs) (suc i) past = drop_past xs i (omega (arith, past))

-- The line of a user of a world.
abbrev pub line : World → ℕ → List ℕ
line w u = user_line u (charged w u)

-- One line more is written.
pub line_more : (w : World) (text more whole : List ℕ) (i u : ℕ) → slice_get w.users i ≡ Some u → more ≡ text ++ line w u → text ++ flat_map (line w) (drop i w.users) ≡ whole
    → more ++ flat_map (line w) (drop (i + 1) w.users) ≡ whole
line_more w text more whole i u at is so =
    let next : i + 1 ≡ suc i = omega arith in
    ap (λ k. more ++ flat_map (line w) (drop k w.users)) next
    ∙ piece_taken (line w) u (drop i w.users) (drop (suc i) w.users) text more whole (drop_at w.users i u at) is so

-- No user is left.
pub lines_done : (w : World) (text whole : List ℕ) (i : ℕ) → length w.users ≤ i → text ++ flat_map (line w) (drop i w.users) ≡ whole → text ≡ whole
lines_done w text whole i past so = none_left (line w) (drop i w.users) text whole (drop_past w.users i past) so

-- One user more is kept.
pub user_more : (us ks ls : List ℕ) (i u : ℕ) → slice_get us i ≡ Some u → ls ≡ ks ++ u ∷ [] → ks ++ drop i us ≡ us → ls ++ drop (i + 1) us ≡ us
user_more us ks ls i u at is so =
    let next : i + 1 ≡ suc i = omega arith in
    ap (λ k. ls ++ drop k us) next
    ∙ ap (λ t. t ++ drop (suc i) us) is
    ∙ append_assoc ks (u ∷ []) (drop (suc i) us)
    ∙ ap (λ r. ks ++ r) (sym (drop_at us i u at))
    ∙ so

-- All users are kept.
pub users_done : (us ks : List ℕ) (i : ℕ) → length us ≤ i → ks ++ drop i us ≡ us → ks ≡ us
users_done us ks i past so = sym (append-nil ks) ∙ ap (λ r. ks ++ r) (sym (drop_past us i past)) ∙ so
