-- The settled world is unique, and can be found one file at a time.
use Rattle.std.proofs.Common.{Ordering, is_eq, ◌≡◌, ℕ, Bool, true, false, not, ◌||◌, ◌⊎◌, inl, inr, List, [], ◌∷◌, refl, sym, ap, ◌∙◌, subst, cond, arith, nat_eq}
use Rattle.std.specs.Prelude.{Option, Some, None, option_map, IsTrue, is_some}
use Rattle.std.specs.Option.{option_map_or}
use Rattle.std.specs.List.{Contains}
use Rattle.std.specs.Ordering.{nat_cmp, eq_by_cmp}
use Rattle.std.specs.Cmp.{nat_cmp_total, both_ways}
use Rattle.std.specs.declared.cmp.Ordering.TheVariants.{Less, Equal, Greater}
use Rattle.std.specs.FinMap as map
use Rattle.std.specs.FinMap.{find, nat_cmp-IsAntisymmetric}
use Rattle.std.proofs.lemmas.Bool.{false≢true, or_cases, eqb-true}
use Rattle.std.proofs.Math.Bool.{or-true}
use Rattle.af_base.specs.declared.events.State.{State}
use Rattle.af_base.specs.declared.events.State.TheVariants as state
use Rattle.af_base.specs.World.{AsSocket, File, Plain, World, is_live}
use Rattle.af_base.specs.Places.{Holds, InTable, contents, held_by}
use Rattle.af_base.specs.Unheld.{Goes, IsSettled, Settles, Unheld, file_without, map_entries, state_without, without}

-- The members determine the new world.
pub settles_once : (w a b : World) → Settles w a → Settles w b → a ≡ b
settles_once w a b s t =
    let same : (f : ℕ) → s.0 f ≡ t.0 f = λ f. both_ways (s.0 f) (t.0 f) (λ e. (t.1 f).1 ((s.1 f).0 e)) (λ e. (s.1 f).1 ((t.1 f).0 e)) in
    s.2 ∙ (λ i. without (λ f. same f i) w) ∙ sym t.2

-- A change of each value of a map is seen at each key.
pub get-map_entries : {X : Type 0} (g : ℕ → X → X) (es : List (ℕ × X)) (q : ℕ) → map.get (map_entries g es) q ≡ option_map (g q) (find nat_cmp q es)
get-map_entries g [] q = map.get-empty nat_cmp q
get-map_entries g (e ∷ es) q =
    map.get-insert nat_cmp_total (map_entries g es) e.0 (g e.0 e.1) q
    ∙ ap (cond (eq_by_cmp nat_cmp q e.0) (Some (g e.0 e.1))) (get-map_entries g es q)
    ∙ mapped (nat_cmp q e.0) refl where
      mapped : (o : Ordering) → nat_cmp q e.0 ≡ o → cond (is_eq o) (Some (g e.0 e.1)) (option_map (g q) (find nat_cmp q es)) ≡ option_map (g q) (cond (is_eq o) (Some e.1) (find nat_cmp q es))
      mapped Equal p = ap (λ k. Some (g k e.1)) (sym (nat_cmp-IsAntisymmetric _ _ p))
      mapped Less p = refl
      mapped Greater p = refl

-- A file after the others were freed.
pub get-without : (gone : ℕ → Bool) (w : World) (q : ℕ) → map.get (without gone w).files q ≡ cond (not (gone q)) (option_map (file_without gone) (map.get w.files q)) None
get-without gone w q =
    map.get-retain_keys (map_entries (λ _. file_without gone) (map.entries w.files)) (λ f. not (gone f)) q (λ x e. ap (λ y. not (gone y)) (sym (nat_cmp-IsAntisymmetric q x e)))
    ∙ ap (λ o. cond (not (gone q)) o None) (get-map_entries (λ _. file_without gone) (map.entries w.files) q ∙ ap (option_map (file_without gone)) (sym (map.get-entries w.files q)))

-- A file without the files of an empty set is as it was.
same_file : (x : File) → file_without (λ _. false) x ≡ x
same_file Plain = refl
same_file (AsSocket s) = ap (λ t. AsSocket (record s { state = t })) (same_state s.state) where
  same_state : (t : State) → state_without (λ _. false) t ≡ t
  same_state state.Idle = refl
  same_state (state.Listening b) = refl
  same_state (state.Connected p) = refl
  same_state state.HungUp = refl
  same_state (state.Sends q) = refl

-- A world without the files of an empty set is as it was.
pub without_none : (w : World) → without (λ _. false) w ≡ w
without_none w = ap (λ fs. record w { files = fs }) (map.same_map nat_cmp_total nat_cmp-IsAntisymmetric _ _ (λ q. get-without (λ _. false) w q ∙ each (map.get w.files q))) where
  each : (o : Option File) → option_map (file_without (λ _. false)) o ≡ o
  each None = refl
  each (Some x) = ap Some (same_file x)

-- Where nothing is to be freed, nothing changes.
pub settles_none : (w : World) → IsSettled w → Settles w w
settles_none w s = (λ _. false, λ f. (λ e. absurd (false≢true e), λ u. absurd (s f u)), sym (without_none w))

-- Where each live file has a holder, nothing is to be freed.
pub settled_by : (w : World) → ((f : ℕ) → IsTrue (is_live w f) → InTable w f ⊎ ((s : ℕ) × Holds w s f)) → IsSettled w
settled_by w held _ (Goes f live no_table holders) =
    elim (held f live) [
      | inl t ↦ no_table t
      | inr h ↦ settled_by w held h.0 (holders h.0 h.1)
    ]

-- A freed socket holds nothing, and any other what it held.
pub held-without : (gone : ℕ → Bool) (w : World) (s : ℕ) → held_by (without gone w) s ≡ cond (not (gone s)) (held_by w s) []
held-without gone w s = ap (λ o. option_map_or contents o []) (get-without gone w s) ∙ each (gone s) (map.get w.files s) where
  same : (x : File) → contents (file_without gone x) ≡ contents x
  same Plain = refl
  same (AsSocket s) = refl

  each : (b : Bool) (o : Option File) → option_map_or contents (cond (not b) (option_map (file_without gone) o) None) [] ≡ cond (not b) (option_map_or contents o []) []
  each true o = refl
  each false None = refl
  each false (Some x) = same x

-- A file is live after others are freed, if it was live and is not among them.
pub live-without : (gone : ℕ → Bool) (w : World) (f : ℕ) → is_live (without gone w) f ≡ cond (not (gone f)) (is_live w f) false
live-without gone w f = ap is_some (get-without gone w f) ∙ each (gone f) (map.get w.files f) where
  each : (b : Bool) (o : Option File) → is_some (cond (not b) (option_map (file_without gone) o) None) ≡ cond (not b) (is_some o) false
  each true o = refl
  each false None = refl
  each false (Some x) = refl

-- An empty list has no element.
pub none_in : (x : ℕ) → ¬ (Contains [] x)
none_in x h = omega (arith, h.1)

-- A file that is live after others are freed was live, and is not among them.
pub stays : (b c : Bool) → cond (not b) c false ≡ true → (b ≡ false) × (c ≡ true)
stays true c e = absurd (false≢true e)
stays false c e = (refl, e)

-- A list that is kept or dropped by a test has an element only if it is kept.
in_left : (b : Bool) (xs : List ℕ) (x : ℕ) → Contains (cond (not b) xs []) x → (b ≡ false) × Contains xs x
in_left true xs x h = absurd (none_in x h)
in_left false xs x h = (refl, h)

-- A socket that holds a file after others are freed is not among them, and held it before.
pub from_without : (g : ℕ → Bool) (w : World) (s f : ℕ) → Holds (without g w) s f → (g s ≡ false) × Holds w s f
from_without g w s f h = in_left (g s) (held_by w s) f (subst (λ xs. Contains xs f) (held-without g w s) h)

-- A socket that is not freed still holds what it held.
pub to_without : (g : ℕ → Bool) (w : World) (s f : ℕ) → g s ≡ false → Holds w s f → Holds (without g w) s f
to_without g w s f e h = subst (λ xs. Contains xs f) (sym (held-without g w s ∙ ap (λ b. cond (not b) (held_by w s) []) e)) h

-- To free some files and then others is to free both at once.
pub without-without : (g h : ℕ → Bool) (w : World) → without h (without g w) ≡ without (λ f. g f || h f) w
without-without g h w = ap (λ fs. record w { files = fs }) (map.same_map nat_cmp_total nat_cmp-IsAntisymmetric _ _ (λ q.
    get-without h (without g w) q ∙ ap (λ o. cond (not (h q)) (option_map (file_without h) o) None) (get-without g w q) ∙ each (g q) (h q) (map.get w.files q) ∙ sym (get-without (λ f. g f || h f) w q))) where
      file : (x : File) → file_without h (file_without g x) ≡ file_without (λ f. g f || h f) x
      file Plain = refl
      file (AsSocket s) = ap (λ t. AsSocket (record s { state = t })) (after s.state) where
        peer : (p : ℕ) (a b : Bool) → h p ≡ b → state_without h (cond a state.HungUp (state.Connected p)) ≡ cond (a || b) state.HungUp (state.Connected p)
        peer p true b e = refl
        peer p false b e = ap (λ c. cond c state.HungUp (state.Connected p)) e

        after : (t : State) → state_without h (state_without g t) ≡ state_without (λ f. g f || h f) t
        after state.Idle = refl
        after (state.Listening b) = refl
        after (state.Connected p) = peer p (g p) (h p) refl
        after state.HungUp = refl
        after (state.Sends q) = refl

      each : (a b : Bool) (o : Option File) → cond (not b) (option_map (file_without h) (cond (not a) (option_map (file_without g) o) None)) None ≡ cond (not (a || b)) (option_map (file_without (λ f. g f || h f)) o) None
      each true true o = refl
      each true false o = refl
      each false true o = refl
      each false false None = refl
      each false false (Some x) = ap Some (file x)

module _ (w : World) (f : ℕ) (live : IsTrue (is_live w f)) (no_table : ¬ (InTable w f)) (no_holder : (s : ℕ) → ¬ (Holds w s f)) where
  -- The world without f.
  abbrev rest : World
  rest = without (nat_eq f) w

  -- A live file without a place is unheld.
  pub first_goes : Unheld w f
  first_goes = Goes f live no_table (λ s h. absurd (no_holder s h))

  -- Numbers that test equal are equal.
  same_of : (g : ℕ) → nat_eq f g ≡ true → f ≡ g
  same_of g e = eqb-true f g e

  -- Where f is not, and where it is.
  other : (s : ℕ) → nat_eq f s ≡ false → held_by rest s ≡ held_by w s
  other s e = held-without (nat_eq f) w s ∙ ap (λ b. cond (not b) (held_by w s) []) e

  -- The file f holds nothing there.
  itself : (s : ℕ) → nat_eq f s ≡ true → held_by rest s ≡ []
  itself s e = held-without (nat_eq f) w s ∙ ap (λ b. cond (not b) (held_by w s) []) e

  -- A file freed from the rest is freed from the whole.
  pub goes_up : (g : ℕ) → Unheld rest g → Unheld w g
  goes_up _ (Goes g l t hs) =
      Goes g (stays _ _ (sym (live-without (nat_eq f) w g) ∙ l)).1 t (λ s h. elim (nat_eq f s) as (λ b. nat_eq f s ≡ b → Unheld w s) [
        | true ↦ λ e. subst (Unheld w) (same_of s e) first_goes
        | false ↦ λ e. goes_up s (hs s (subst (λ xs. Contains xs g) (sym (other s e)) h))
      ] refl)

  -- A freed file is f, or is freed from the rest.
  pub goes_down : (g : ℕ) → Unheld w g → (nat_eq f g ≡ true) ⊎ Unheld rest g
  goes_down _ (Goes g l t hs) = elim (nat_eq f g) as (λ b. nat_eq f g ≡ b → (nat_eq f g ≡ true) ⊎ Unheld rest g) [
    | true ↦ λ e. inl e
    | false ↦ λ e. inr (Goes g (live-without (nat_eq f) w g ∙ ap (λ b. cond (not b) (is_live w g) false) e ∙ l) t (λ s h. elim (nat_eq f s) as (λ b. nat_eq f s ≡ b → Unheld rest s) [
      | true ↦ λ d. absurd (none_in g (subst (λ xs. Contains xs g) (itself s d) h))
      | false ↦ λ d. elim (goes_down s (hs s (subst (λ xs. Contains xs g) (other s d) h))) [ inl y ↦ absurd (false≢true (sym d ∙ y)) | inr u ↦ u ]
    ] refl))
  ] refl

  -- Freeing an unheld file first and settling the rest gives the settled world.
  pub settles_first : (new : World) → Settles rest new → Settles w new
  settles_first new t =
      let up : (g : ℕ) → (nat_eq f g || t.0 g) ≡ true → Unheld w g = λ g e. elim (or_cases _ _ e) [ inl y ↦ subst (Unheld w) (same_of g y) first_goes | inr y ↦ goes_up g ((t.1 g).0 y) ] in
      let down : (g : ℕ) → Unheld w g → (nat_eq f g || t.0 g) ≡ true = λ g u. elim (goes_down g u) [ inl y ↦ ap (λ b. b || t.0 g) y | inr y ↦ ap (λ b. nat_eq f g || b) ((t.1 g).1 y) ∙ or-true (nat_eq f g) ] in
      (λ g. nat_eq f g || t.0 g, λ g. (up g, down g), t.2 ∙ without-without (nat_eq f) t.0 w)
