-- How the list of users changes with the hash map.
use Rattle.std.proofs.Common.{◌≡◌, ℕ, ◌+◌, ◌-◌, ◌≤◌, zero, suc, Bool, true, false, ◌||◌, List, [], ◌∷◌, ◌++◌, refl, sym, ap, ◌∙◌, subst, cond}
use Rattle.std.specs.Prelude.{Some, None, nat_eq, unwrap_or, is_some, slice_get, IsTrue}
use Rattle.std.specs.List.{list_any}
use Rattle.std.specs.Map.{keys_of, lookup, lookup_key, set_value}
use Rattle.std.proofs.Math.Bool.{or-true}
use Rattle.std.proofs.lemmas.List.Folds.{list_any-append}
use Rattle.std.specs.Option.{option_map_or}
use Rattle.std.specs.Cmp.{nat_eq_equiv}
use Rattle.std.proofs.lemmas.Bool.{eqb-true}
use Rattle.indexmap.specs.IndexMap.{IndexMap, IsUnique, get, insert_entry, set_value_at}
use Rattle.indexmap.proofs.CallerLemmas.{insert_entry-new}
use Rattle.indexmap.proofs.MapLemmas.{insert_entry-first}
use Rattle.indexmap.proofs.RemoveLemmas.{own_first}
use Rattle.std.proofs.lemmas.Map.Made.{is_some-lookup, lookup_key_passes}
use Rattle.af_base.proofs.Lookups.{itself, none_some, some_same}
use Rattle.af_ledger.specs.Tally.{recharged, is_user, with_user}
use Rattle.af_ledger.proofs.Laws.{users-added}

-- A charge that was looked up is low where the user's is.
pub found_below : (us : List (ℕ × ℕ)) (u n units b : ℕ) → Some n ≡ lookup (nat_eq u) us → unwrap_or (lookup (nat_eq u) us) 0 + units ≤ b → n + units ≤ b
found_below us u n units b e h = subst (λ o. unwrap_or o 0 + units ≤ b) (sym e) h

-- And high where the user's is.
pub found_above : (us : List (ℕ × ℕ)) (u n units : ℕ) → Some n ≡ lookup (nat_eq u) us → units ≤ unwrap_or (lookup (nat_eq u) us) 0 → units ≤ n
found_above us u n units e h = subst (λ o. units ≤ unwrap_or o 0) (sym e) h

-- A charge that was looked up is raised.
pub raised : (us new : List (ℕ × ℕ)) (u n units : ℕ) → Some n ≡ lookup (nat_eq u) us → new ≡ set_value (nat_eq u) us (n + units) → new ≡ recharged (λ n. n + units) u us
raised us new u n units e h = h ∙ ap (λ o. option_map_or (λ n. set_value (nat_eq u) us (n + units)) o us) e

-- Or lowered.
pub lowered : (us new : List (ℕ × ℕ)) (u n units : ℕ) → Some n ≡ lookup (nat_eq u) us → new ≡ set_value (nat_eq u) us (n - units) → new ≡ recharged (λ n. n - units) u us
lowered us new u n units e h = h ∙ ap (λ o. option_map_or (λ n. set_value (nat_eq u) us (n - units)) o us) e

-- The charge of an unknown user does not change.
pub stays : (g : ℕ → ℕ) (us : List (ℕ × ℕ)) (u : ℕ) → lookup (nat_eq u) us ≡ None → us ≡ recharged g u us
stays g us u e = ap (λ o. option_map_or (λ n. set_value (nat_eq u) us (g n)) o us) (sym e)

-- A user that a look-up finds is in the list.
pub user_found : (us : List (ℕ × ℕ)) (u : ℕ) (b : Bool) → is_some (lookup (nat_eq u) us) ≡ b → is_user u us ≡ b
user_found us u b e = sym (is_some-lookup (nat_eq u) us) ∙ e

-- A user that is there stays.
pub user_kept : (us : List (ℕ × ℕ)) (u : ℕ) → is_some (lookup (nat_eq u) us) ≡ true → us ≡ with_user u us
user_kept us u e = ap (λ b. cond b us (us ++ (u, 0) ∷ [])) (sym (user_found us u true e))

-- The entry that a search for a user finds is the user's.
pub entry_of_user : (us : List (ℕ × ℕ)) (u i : ℕ) (e : ℕ × ℕ) → Some e.0 ≡ lookup_key (nat_eq u) us → slice_get us i ≡ Some e → slice_get us i ≡ Some (u, e.1)
entry_of_user us u i e key at = at ∙ ap (λ k. Some (k, e.1)) (sym (eqb-true u e.0 (lookup_key_passes (nat_eq u) us e.0 (sym key))))

-- A charge that is inserted for a user at this index replaces the one there.
inserted_again : (u n w : ℕ) (es : List (ℕ × ℕ)) (i : ℕ) → slice_get es i ≡ Some (u, n) → insert_entry nat_eq es u w ≡ set_value (nat_eq u) es w
inserted_again u n w [] i at = absurd (none_some (u, n) at)
inserted_again u n w (e ∷ es) zero at =
    let passes : nat_eq u e.0 ≡ true = ap (λ k. nat_eq u k) (ap (λ x. x.0) (some_same e (u, n) at)) ∙ itself u in
    ap (λ b. cond b ((e.0, w) ∷ es) (e ∷ insert_entry nat_eq es u w)) passes
    ∙ sym (ap (λ b. cond b ((e.0, w) ∷ es) (e ∷ set_value (nat_eq u) es w)) passes)
inserted_again u n w (e ∷ es) (suc i) at = ap (λ l. cond (nat_eq u e.0) ((e.0, w) ∷ es) (e ∷ l)) (inserted_again u n w es i at)

-- A charge that is set at a user's index is set for the user.
pub set_at_index : {S : Type 0} (m : IndexMap ℕ ℕ S) (u n i w : ℕ) → IsUnique nat_eq m → slice_get m.entries i ≡ Some (u, n) → set_value_at m.entries i w ≡ set_value (nat_eq u) m.entries w
set_at_index m u n i w unique at =
    sym (insert_entry-first nat_eq u w m.entries i (own_first nat_eq nat_eq_equiv m.entries i u n unique at)) ∙ inserted_again u n w m.entries i at

-- A new user is added at the end.
pub user_added : {S : Type 0} (m : IndexMap ℕ ℕ S) (new : List (ℕ × ℕ)) (u : ℕ) → get nat_eq m u ≡ None → new ≡ insert_entry nat_eq m.entries u 0 → new ≡ with_user u m.entries
user_added m new u none e =
    e ∙ insert_entry-new nat_eq m u 0 none ∙ ap (λ b. cond b m.entries (m.entries ++ (u, 0) ∷ [])) (sym (user_found m.entries u false (ap is_some none)))

-- The list after changes of the hash map.
pub ruleset user_changes = (found_below, found_above, raised, lowered, stays, user_kept, user_added)

-- A known user stays one when another is added.
pub user-stays : (u v : ℕ) (us : List (ℕ × ℕ)) → IsTrue (is_user u us) → IsTrue (is_user u (with_user v us))
user-stays u v us h = ap (list_any (nat_eq u)) (users-added v us) ∙ by (list_any (nat_eq v) (keys_of us)) where
  by : (b : Bool) → list_any (nat_eq u) (cond b (keys_of us) (keys_of us ++ v ∷ [])) ≡ true
  by true = h
  by false = list_any-append (nat_eq u) (keys_of us) (v ∷ []) ∙ ap (λ b. b || list_any (nat_eq u) (v ∷ [])) h

-- An added user is known.
pub user-added : (u : ℕ) (us : List (ℕ × ℕ)) → IsTrue (is_user u (with_user u us))
user-added u us = ap (list_any (nat_eq u)) (users-added u us) ∙ by (list_any (nat_eq u) (keys_of us)) refl where
  by : (b : Bool) → list_any (nat_eq u) (keys_of us) ≡ b → list_any (nat_eq u) (cond b (keys_of us) (keys_of us ++ u ∷ [])) ≡ true
  by true e = e
  by false e = list_any-append (nat_eq u) (keys_of us) (u ∷ []) ∙ ap (λ b. list_any (nat_eq u) (keys_of us) || (b || false)) (itself u) ∙ or-true (list_any (nat_eq u) (keys_of us))
