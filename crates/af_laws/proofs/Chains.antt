-- Chains of places, forth and back over a change.
use Rattle.std.proofs.Common.{◌≡◌, ◌⊎◌, inl, inr, ℕ, Bool, true, false, [], ◌∷◌, ◌++◌, refl, sym, ap, ◌∙◌, subst, cond}
use Rattle.std.specs.Prelude.{Option, Some, None, is_some, option_map}
use Rattle.std.specs.Option.{option_map_or}
use Rattle.std.specs.List.{Contains}
use Rattle.std.specs.Ordering.{eq_by_cmp, nat_cmp}
use Rattle.std.specs.Cmp.{nat_cmp_total, unsigned_tied}
use Rattle.std.specs.FinMap as map
use Rattle.std.proofs.lemmas.Bool.{cases_Bool, eqb-true}
use Rattle.std.proofs.lemmas.List.Elements.{Contains-append_cases, Contains-append_left, Contains-append_right}
use Rattle.af_base.specs.World.{AsSocket, File, IsLive, Map, Message, Plain, Process, Socket, World}
use Rattle.af_base.specs.Places.{Holds, attached_in, contents, held_by, table_at}
use Rattle.af_base.specs.Unheld.{Goes, Settles, without}
use Rattle.af_base.specs.Reached.{ByTable, BySocket, Reached}
use Rattle.af_base.specs.Changes.{file_with, install, push_message, with_table}
use Rattle.af_base.specs.Pass.{Purges, emptied}
use Rattle.af_base.proofs.NothingInFlight.{all_tabled}
use Rattle.af_base.proofs.Lookups.{none_some}
use Rattle.af_base.proofs.PlaceMoves.{holds-there}
use Rattle.af_base.proofs.Places.{carried-push}
use Rattle.af_base.proofs.PurgeOrder.{from_emptied, to_emptied}
use Rattle.af_base.proofs.SettledWorlds.{from_without, to_without}
use Rattle.af_base.proofs.AllowedSteps.{get-change_at}
use Rattle.af_laws.specs.Reaching.{GroupsOfTheirOwnAreGarbage, InstallKeepsReached, NothingInFlightIsNoGarbage, PlacesKeepReached, PurgingKeepsReached, ReachedIsHeld, SendKeepsReached, SettlingKeepsReached}

-- A socket that holds a file is live.
pub holder_live : (w : World) (s f : ℕ) → Holds w s f → IsLive w s
holder_live w s f h = ap is_some (holds-there w s f h).1

pub places_keep_reached : PlacesKeepReached
places_keep_reached old new has _ (ByTable f t) = ByTable f (has.0 f t)
places_keep_reached old new has _ (BySocket s f r h) = BySocket s f (places_keep_reached old new has s r) (has.1 s f h)

pub reached_is_held : ReachedIsHeld
reached_is_held w _ (ByTable f t) (Goes g l no_table hs) = no_table t
reached_is_held w _ (BySocket s f r h) (Goes g l no_table hs) = reached_is_held w s r (hs s h)

-- A file that a table holds is reached.
pub nothing_in_flight_is_no_garbage : NothingInFlightIsNoGarbage
nothing_in_flight_is_no_garbage w settled none nobody = (all_tabled w settled none nobody, λ f garbage. garbage.1 (ByTable f (all_tabled w settled none nobody f garbage.0)))

pub groups_of_their_own_are_garbage : GroupsOfTheirOwnAreGarbage
groups_of_their_own_are_garbage w group apart closed f is = ((apart f is).0, λ r. out f r is) where
  out : (f : ℕ) → Reached w f → ¬ (group f ≡ true)
  out _ (ByTable f t) is = (apart f is).1 t
  out _ (BySocket s f r h) is = out s r (closed s f is h)

module _ (w new : World) (t : Settles w new) where
  -- No reachable file is freed.
  pub not_gone : (f : ℕ) → Reached w f → t.0 f ≡ false
  not_gone f r = elim (cases_Bool (t.0 f)) [
    | inl e ↦ absurd (reached_is_held w f r ((t.1 f).0 e))
    | inr e ↦ e
  ]

  -- A reachable file is reachable without the freed ones.
  reached_left : (f : ℕ) → Reached w f → Reached (without t.0 w) f
  reached_left _ (ByTable f h) = ByTable f h
  reached_left _ (BySocket s f r h) = BySocket s f (reached_left s r) (to_without t.0 w s f (not_gone s r) h)

  -- A file that is reachable afterwards was reachable.
  pub reached_before : (f : ℕ) → Reached new f → Reached w f
  reached_before f r = places_keep_reached (without t.0 w) w (λ g h. h, λ s g h. (from_without t.0 w s g h).1) f (subst (λ x. Reached x f) t.2 r)

  -- A file that was reachable is reachable afterwards.
  reached_after : (f : ℕ) → Reached w f → Reached new f
  reached_after f r = subst (λ x. Reached x f) (sym t.2) (reached_left f r)

pub settling_keeps_reached : SettlingKeepsReached
settling_keeps_reached w new t f = (reached_after w new t f, reached_before w new t f)

-- Nothing of what is emptied is reached.
module _ (w : World) (test : ℕ → Bool) (apart : (f : ℕ) → test f ≡ true → ¬ (Reached w f)) where
  -- No reachable file is emptied.
  pub not_emptied : (s : ℕ) → Reached w s → test s ≡ false
  not_emptied s r = elim (cases_Bool (test s)) [
    | inl e ↦ absurd (apart s e r)
    | inr e ↦ e
  ]

  -- A reachable file is reachable after the others are emptied.
  pub reached_emptied : (f : ℕ) → Reached w f → Reached (emptied test w) f
  reached_emptied _ (ByTable f h) = ByTable f h
  reached_emptied _ (BySocket s f r h) = BySocket s f (reached_emptied s r) (to_emptied test w s f (not_emptied s r) h)

-- To purge any files makes nothing reached that was not.
pub purging_reaches_nothing : (w new : World) (test : ℕ → Bool) → Purges test w new → (f : ℕ) → Reached new f → Reached w f
purging_reaches_nothing w new test t f r = places_keep_reached (emptied test w) w (λ g h. h, λ s g h. (from_emptied test w s g h).1) f (reached_before (emptied test w) new t f r)

pub purging_keeps_reached : PurgingKeepsReached
purging_keeps_reached w new test garbage t f = (
  λ r. reached_after (emptied test w) new t f (reached_emptied w test (λ g e. (garbage g e).1) f r),
  purging_reaches_nothing w new test t f,
)

-- The entries of the tables after one was changed.
pub table-with_table : (w : World) (p : ℕ) (g : Map ℕ → Map ℕ) (k m : ℕ) → table_at (with_table w p g) k m ≡ option_map_or (λ q. cond (eq_by_cmp nat_cmp k p) (map.get (g q.table) m) (map.get q.table m)) (map.get w.processes k) None
table-with_table w p g k m = ap (λ o. option_map_or (λ q. map.get q.table m) o None) (get-change_at (λ q. record q { table = g q.table }) w.processes p k) ∙ each (eq_by_cmp nat_cmp k p) (map.get w.processes k) where
  each : (b : Bool) (o : Option Process) → option_map_or (λ q. map.get q.table m) (option_map (λ q. cond b (record q { table = g q.table }) q) o) None ≡ option_map_or (λ q. cond b (map.get (g q.table) m) (map.get q.table m)) o None
  each b None = refl
  each true (Some q) = refl
  each false (Some q) = refl

-- Numbers that compare equal are equal.
pub same_number : (x y : ℕ) → eq_by_cmp nat_cmp x y ≡ true → x ≡ y
same_number x y e = eqb-true x y (sym (unsigned_tied x y) ∙ e)

-- A number taken into use: what was open before is open.
still_open : (w : World) (p n g k m h : ℕ) → table_at w p n ≡ None → table_at w k m ≡ Some h → table_at (install w p n g) k m ≡ Some h
still_open w p n g k m h free e = table-with_table w p (λ t. map.insert t n g) k m ∙ by (map.get w.processes k) refl (eq_by_cmp nat_cmp k p) refl where
  by : (o : Option Process) → map.get w.processes k ≡ o → (b : Bool) → eq_by_cmp nat_cmp k p ≡ b → option_map_or (λ q. cond b (map.get (map.insert q.table n g) m) (map.get q.table m)) o None ≡ Some h
  by None is b d = absurd (none_some h (sym (ap (λ o. option_map_or (λ q. map.get q.table m) o None) is) ∙ e))
  by (Some q) is false d = sym (ap (λ o. option_map_or (λ q. map.get q.table m) o None) is) ∙ e
  by (Some q) is true d = map.get-insert nat_cmp_total q.table n g m ∙ at (eq_by_cmp nat_cmp m n) refl where
    at : (c : Bool) → eq_by_cmp nat_cmp m n ≡ c → cond c (Some g) (map.get q.table m) ≡ Some h
    at false i = sym (ap (λ o. option_map_or (λ q. map.get q.table m) o None) is) ∙ e
    at true i = absurd (none_some h (sym free ∙ ap (λ x. table_at w x n) (sym (same_number k p d)) ∙ ap (table_at w k) (sym (same_number m n i)) ∙ e))

pub install_keeps_reached : InstallKeepsReached
install_keeps_reached w p n g f free = places_keep_reached w (install w p n g) (λ h t. (t.0, t.1, still_open w p n g t.0 t.1 h free t.2), λ s h x. x) f

-- A message put into a queue: what was held before is held.
module _ (w : World) (s : ℕ) (m : Message) where
  -- A socket with the message last in its queue.
  abbrev pushed : Socket → Socket
  pushed x = record x { queue = x.queue ++ m ∷ [] }

  -- The files that each file holds afterwards, by its contents before.
  held-push : (q : ℕ) → held_by (push_message w s m) q ≡ option_map_or contents (option_map (λ x. cond (eq_by_cmp nat_cmp q s) (file_with pushed x) x) (map.get w.files q)) []
  held-push q = ap (λ o. option_map_or contents o []) (get-change_at (file_with pushed) w.files s q)

  -- A held file is held afterwards.
  still_held : (q f : ℕ) → Holds w q f → Holds (push_message w s m) q f
  still_held q f h = subst (λ xs. Contains xs f) (sym (held-push q)) (by (eq_by_cmp nat_cmp q s) (map.get w.files q) h) where
    more : (x : Socket) → Contains (attached_in x.queue) f ⊎ Contains x.backlog f → Contains (attached_in (x.queue ++ m ∷ []) ++ x.backlog) f
    more x (inl a) = Contains-append_left _ _ f (subst (λ xs. Contains xs f) (sym (carried-push x.queue m)) (Contains-append_left _ _ f a))
    more x (inr b) = Contains-append_right (attached_in (x.queue ++ m ∷ [])) _ f b

    by : (b : Bool) (o : Option File) → Contains (option_map_or contents o []) f → Contains (option_map_or contents (option_map (λ x. cond b (file_with pushed x) x) o) []) f
    by b None h = h
    by false (Some x) h = h
    by true (Some Plain) h = h
    by true (Some (AsSocket x)) h = more x (Contains-append_cases _ _ f h)

pub send_keeps_reached : SendKeepsReached
send_keeps_reached w s m f = places_keep_reached w (push_message w s m) (λ h t. t, λ q h x. still_held w s m q h x) f
