-- Emptying some sockets and then others, and settling each time, equals emptying all at once.
use Rattle.std.proofs.Common.{◌≡◌, ℕ, Bool, true, false, not, ◌||◌, ◌⊎◌, inl, inr, List, [], refl, sym, ap, ◌∙◌, subst, cond, arith}
use Rattle.std.specs.Prelude.{Option, Some, None, option_map, is_some, if◌then◌else◌}
use Rattle.std.specs.Option.{option_map_or}
use Rattle.std.specs.List.{Contains}
use Rattle.std.specs.Cmp.{nat_cmp_total}
use Rattle.std.specs.FinMap as map
use Rattle.std.specs.FinMap.{nat_cmp-IsAntisymmetric}
use Rattle.std.proofs.lemmas.Bool.{cases_Bool, false≢true, or_cases}
use Rattle.std.proofs.Math.Bool.{or-true}
use Rattle.af_base.specs.World.{AsSocket, File, Plain, World, is_live}
use Rattle.af_base.specs.Places.{Holds, InTable, contents, held_by}
use Rattle.af_base.specs.Unheld.{Goes, Unheld, file_without, without}
use Rattle.af_base.specs.Pass.{Purges, emptied, empty_file}
use Rattle.af_base.proofs.SettledWorlds.{from_without, get-map_entries, get-without, live-without, stays, to_without, without-without}
use Rattle.af_base.proofs.StaysWithin.{neither}

-- A file that is purged is empty, and any other is as it was.
pub get-emptied : (t : ℕ → Bool) (w : World) (q : ℕ) → map.get (emptied t w).files q ≡ option_map (λ x. if t q then empty_file x else x) (map.get w.files q)
get-emptied t w q = get-map_entries (λ f x. if t f then empty_file x else x) (map.entries w.files) q ∙ ap (option_map (λ x. if t q then empty_file x else x)) (sym (map.get-entries w.files q))

-- To empty files frees none.
pub live-emptied : (t : ℕ → Bool) (w : World) (q : ℕ) → is_live (emptied t w) q ≡ is_live w q
live-emptied t w q = ap is_some (get-emptied t w q) ∙ each (map.get w.files q) where
  each : (o : Option File) → is_some (option_map (λ x. if t q then empty_file x else x) o) ≡ is_some o
  each None = refl
  each (Some x) = refl

-- An emptied socket holds nothing, and any other what it held.
pub held-emptied : (t : ℕ → Bool) (w : World) (s : ℕ) → held_by (emptied t w) s ≡ cond (t s) [] (held_by w s)
held-emptied t w s = ap (λ o. option_map_or contents o []) (get-emptied t w s) ∙ each (t s) (map.get w.files s) where
  each : (b : Bool) (o : Option File) → option_map_or contents (option_map (λ x. if b then empty_file x else x) o) [] ≡ cond b [] (option_map_or contents o [])
  each true None = refl
  each true (Some Plain) = refl
  each true (Some (AsSocket s)) = refl
  each false None = refl
  each false (Some x) = refl

-- In one list or the other.
in_first : (b : Bool) (xs : List ℕ) (x : ℕ) → Contains (cond b [] xs) x → (b ≡ false) × Contains xs x
in_first true xs x h = absurd (omega (arith, h.1))
in_first false xs x h = (refl, h)

-- A socket that holds a file after some are emptied is not among them, and held it before.
pub from_emptied : (t : ℕ → Bool) (w : World) (s f : ℕ) → Holds (emptied t w) s f → (t s ≡ false) × Holds w s f
from_emptied t w s f h = in_first (t s) (held_by w s) f (subst (λ xs. Contains xs f) (held-emptied t w s) h)

-- A socket that is not emptied still holds what it held.
pub to_emptied : (t : ℕ → Bool) (w : World) (s f : ℕ) → t s ≡ false → Holds w s f → Holds (emptied t w) s f
to_emptied t w s f e h = subst (λ xs. Contains xs f) (sym (held-emptied t w s ∙ ap (λ b. cond b [] (held_by w s)) e)) h

-- The tests commute.
emptied-without : (t g : ℕ → Bool) (w : World) → emptied t (without g w) ≡ without g (emptied t w)
emptied-without t g w = ap (λ fs. record w { files = fs }) (map.same_map nat_cmp_total nat_cmp-IsAntisymmetric _ _ (λ q.
    get-emptied t (without g w) q ∙ ap (option_map (λ x. if t q then empty_file x else x)) (get-without g w q) ∙ each q (t q) (g q) (map.get w.files q)
    ∙ sym (get-without g (emptied t w) q ∙ ap (λ o. cond (not (g q)) (option_map (file_without g) o) None) (get-emptied t w q)))) where
      each : (q : ℕ) (a b : Bool) (o : Option File) → option_map (λ x. if a then empty_file x else x) (cond (not b) (option_map (file_without g) o) None) ≡ cond (not b) (option_map (file_without g) (option_map (λ x. if a then empty_file x else x) o)) None
      each q a true o = refl
      each q a false None = refl
      each q true false (Some Plain) = refl
      each q true false (Some (AsSocket s)) = refl
      each q false false (Some x) = refl

-- To empty some files and then others is to empty both at once.
pub emptied-emptied : (t u : ℕ → Bool) (w : World) → emptied u (emptied t w) ≡ emptied (λ f. t f || u f) w
emptied-emptied t u w = ap (λ fs. record w { files = fs }) (map.same_map nat_cmp_total nat_cmp-IsAntisymmetric _ _ (λ q.
    get-emptied u (emptied t w) q ∙ ap (option_map (λ x. if u q then empty_file x else x)) (get-emptied t w q) ∙ each (t q) (u q) (map.get w.files q) ∙ sym (get-emptied (λ f. t f || u f) w q))) where
      each : (a b : Bool) (o : Option File) → option_map (λ x. if b then empty_file x else x) (option_map (λ x. if a then empty_file x else x) o) ≡ option_map (λ x. if a || b then empty_file x else x) o
      each a b None = refl
      each true true (Some Plain) = refl
      each true true (Some (AsSocket s)) = refl
      each true false (Some x) = refl
      each false b (Some x) = refl

module _ (t u : ℕ → Bool) (w v z : World) (first : Purges t w v) (second : Purges u v z) where
  -- The files of either part.
  abbrev both : ℕ → Bool
  both f = t f || u f

  -- The world in which both are emptied.
  abbrev all : World
  all = emptied both w

  -- A file freed by the first part is freed.
  goes_first : (f : ℕ) → Unheld (emptied t w) f → Unheld all f
  goes_first _ (Goes f l no_table hs) = Goes f (live-emptied both w f ∙ sym (live-emptied t w f) ∙ l) no_table (λ s h.
      let from = from_emptied both w s f h in
      goes_first s (hs s (to_emptied t w s f (neither _ _ from.0).0 from.1)))

  -- v is the world without the first.
  live_v : (f : ℕ) → is_live v f ≡ cond (not (first.0 f)) (is_live w f) false
  live_v f = ap (λ x. is_live x f) first.2 ∙ live-without first.0 (emptied t w) f ∙ ap (λ b. cond (not (first.0 f)) b false) (live-emptied t w f)

  -- A socket of v is not of the first part, and held in w what it holds in v.
  in_v : (s f : ℕ) → Holds v s f → (first.0 s ≡ false) × ((t s ≡ false) × Holds w s f)
  in_v s f h =
      let one = from_without first.0 (emptied t w) s f (subst (λ x. Holds x s f) first.2 h) in
      (one.0, from_emptied t w s f one.1)

  -- A socket that is not of the first part holds in v what it held in w.
  to_v : (s f : ℕ) → first.0 s ≡ false → t s ≡ false → Holds w s f → Holds v s f
  to_v s f e d h = subst (λ x. Holds x s f) (sym first.2) (to_without first.0 (emptied t w) s f e (to_emptied t w s f d h))

  -- A file in a table of v is in one of w.
  tables_v : (f : ℕ) → InTable v f → InTable w f
  tables_v f h = subst (λ x. InTable x f) first.2 h

  -- A file in a table of w is in one of v.
  to_tables_v : (f : ℕ) → InTable w f → InTable v f
  to_tables_v f h = subst (λ x. InTable x f) (sym first.2) h

  -- A file freed by the second part is freed.
  goes_second : (f : ℕ) → Unheld (emptied u v) f → Unheld all f
  goes_second _ (Goes f l no_table hs) =
      let live = stays _ _ (sym (live_v f) ∙ sym (live-emptied u v f) ∙ l) in
      Goes f (live-emptied both w f ∙ live.1) (λ h. no_table (to_tables_v f h)) (λ s h.
      let from = from_emptied both w s f h in
      let apart = neither _ _ from.0 in
      elim (cases_Bool (first.0 s)) [
        | inl e ↦ goes_first s ((first.1 s).0 e)
        | inr e ↦ goes_second s (hs s (to_emptied u v s f apart.1 (to_v s f e apart.0 from.1)))
      ])

  -- No other file is freed.
  goes_by : (f : ℕ) → Unheld all f → (first.0 f ≡ true) ⊎ Unheld (emptied u v) f
  goes_by _ (Goes f l no_table hs) =
      elim (cases_Bool (first.0 f)) [
        | inl e ↦ inl e
        | inr e ↦ inr (Goes f (live-emptied u v f ∙ live_v f ∙ ap (λ b. cond (not b) (is_live w f) false) e ∙ sym (live-emptied both w f) ∙ l) (λ h. no_table (tables_v f h)) (λ s h.
            let from = from_emptied u v s f h in
            let at = in_v s f from.1 in
            elim (goes_by s (hs s (to_emptied both w s f (ap (λ b. b || u s) at.1.0 ∙ from.0) at.1.1))) [
              | inl d ↦ absurd (false≢true (sym at.0 ∙ d))
              | inr d ↦ d
            ]))
      ]

  -- To purge the first part and then the second purges both.
  pub purges_both : Purges both w z
  purges_both =
      let gone : ℕ → Bool = λ f. first.0 f || second.0 f in
      let up : (f : ℕ) → gone f ≡ true → Unheld all f = λ f e. elim (or_cases _ _ e) [ inl d ↦ goes_first f ((first.1 f).0 d) | inr d ↦ goes_second f ((second.1 f).0 d) ] in
      let down : (f : ℕ) → Unheld all f → gone f ≡ true = λ f h. elim (goes_by f h) [ inl d ↦ ap (λ b. b || second.0 f) d | inr d ↦ ap (λ b. first.0 f || b) ((second.1 f).1 d) ∙ or-true (first.0 f) ] in (
        gone,
        λ f. (up f, down f),
        second.2 ∙ ap (λ x. without second.0 (emptied u x)) first.2 ∙ ap (without second.0) (emptied-without u first.0 (emptied t w) ∙ ap (without first.0) (emptied-emptied t u w)) ∙ without-without first.0 second.0 all,
      )
