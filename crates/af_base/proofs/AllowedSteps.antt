-- A step that nothing refuses, and changes that move no place.
use Rattle.std.proofs.Common.{◌≡◌, ℕ, Bool, true, false, inl, [], refl, sym, ap, ◌∙◌, subst, cond, Ordering, is_eq}
use Rattle.std.specs.Prelude.{Option, Some, None, option_map}
use Rattle.std.specs.Option.{option_map_or}
use Rattle.std.specs.Ordering.{nat_cmp, eq_by_cmp}
use Rattle.std.specs.declared.cmp.Ordering.TheVariants.{Less, Equal, Greater}
use Rattle.std.specs.Cmp.{nat_cmp_total}
use Rattle.std.specs.FinMap as map
use Rattle.af_base.specs.declared.errno.Errno.{Errno}
use Rattle.af_base.specs.declared.events.Reply.{Reply}
use Rattle.af_base.specs.World.{AsSocket, File, Map, Plain, Socket, World}
use Rattle.af_base.specs.Places.{contents, held_by}
use Rattle.af_base.specs.Unheld.{Settles}
use Rattle.af_base.specs.Steps.{Outcome}
use Rattle.af_base.specs.Changes.{change_at, file_with, with_socket}
use Rattle.std.proofs.lemmas.Bool.{false≢true}

-- Where no refusal fits, the answer is given and the world settles.
pub accepted : (o : Option Errno) (frugal : Bool) (answer : Reply) (effect old new : World) → o ≡ None → Settles effect new → Outcome o frugal answer effect old answer new
accepted o frugal answer effect old new e s = subst (λ x. Outcome x frugal answer effect old answer new) (sym e) (by frugal) where
  by : (b : Bool) → Outcome None b answer effect old answer new
  by true = (refl, s)
  by false = inl (refl, s)

-- The values of a map after a change at one key.
pub get-change_at : {X : Type 0} (g : X → X) (m : Map X) (k q : ℕ) → map.get (change_at g m k) q ≡ option_map (λ x. cond (eq_by_cmp nat_cmp q k) (g x) x) (map.get m q)
get-change_at {X = X} g m k q = by (map.get m k) refl (nat_cmp q k) refl where
  each : (b : Bool) → b ≡ false → (o : Option X) → o ≡ option_map (λ x. cond b (g x) x) o
  each true e o = absurd (false≢true (sym e))
  each false e None = refl
  each false e (Some x) = refl

  by : (o : Option X) → map.get m k ≡ o → (r : Ordering) → nat_cmp q k ≡ r → map.get (option_map_or (λ x. map.insert m k (g x)) o m) q ≡ option_map (λ x. cond (is_eq r) (g x) x) (map.get m q)
  by None e Equal p = none (ap (map.get m) (map.nat_cmp-IsAntisymmetric q k p) ∙ e) where
    none : map.get m q ≡ None → map.get m q ≡ option_map g (map.get m q)
    none e = e ∙ ap (option_map g) (sym e)
  by None e Less p = each false refl _
  by None e Greater p = each false refl _
  by (Some x) e Equal p = map.get-insert nat_cmp_total m k (g x) q ∙ ap (λ r. cond (is_eq r) (Some (g x)) (map.get m q)) p ∙ sym (ap (option_map g) (ap (map.get m) (map.nat_cmp-IsAntisymmetric q k p) ∙ e))
  by (Some x) e Less p = map.get-insert nat_cmp_total m k (g x) q ∙ ap (λ r. cond (is_eq r) (Some (g x)) (map.get m q)) p ∙ each false refl _
  by (Some x) e Greater p = map.get-insert nat_cmp_total m k (g x) q ∙ ap (λ r. cond (is_eq r) (Some (g x)) (map.get m q)) p ∙ each false refl _

-- A socket changed in no queue and no backlog.
module _ (w : World) (s : ℕ) (g : Socket → Socket) (same : (x : Socket) → contents (AsSocket (g x)) ≡ contents (AsSocket x)) where
  -- Each file holds what it held.
  pub held-with_socket : (q : ℕ) → held_by (with_socket w s g) q ≡ held_by w q
  held-with_socket q = ap (λ o. option_map_or contents o []) (get-change_at (file_with g) w.files s q) ∙ each (eq_by_cmp nat_cmp q s) (map.get w.files q) where
    each : (b : Bool) (o : Option File) → option_map_or contents (option_map (λ x. cond b (file_with g x) x) o) [] ≡ option_map_or contents o []
    each b None = refl
    each true (Some Plain) = refl
    each true (Some (AsSocket x)) = same x
    each false (Some x) = refl
