-- What a change of a socket keeps.
use Rattle.std.proofs.Common.{◌≡◌, ℕ, Bool, true, false, refl, sym, ap, ◌∙◌, cond}
use Rattle.std.specs.Prelude.{Option, Some, None, option_map}
use Rattle.std.specs.Option.{option_and_then, option_map_or}
use Rattle.std.specs.Ordering.{nat_cmp, eq_by_cmp}
use Rattle.std.specs.FinMap as map
use Rattle.af_base.specs.World.{AsSocket, File, Plain, Socket, World}
use Rattle.af_base.specs.Changes.{file_with, with_socket}
use Rattle.af_base.specs.Refusals.{socket_at, socket_of}
use Rattle.af_base.proofs.AllowedSteps.{get-change_at}
use Rattle.af_base.proofs.Lookups.{insert-here, none_some, some_same}
use Rattle.af_base.proofs.Trees.{insert_same}

-- A number that gives a socket is that of a file that is it.
pub file_of_socket : (w : World) (f : ℕ) (s : Socket) → socket_at w f ≡ Some s
    → map.get w.files f ≡ Some (AsSocket s)
file_of_socket w f s = by (map.get w.files f) where
  by : (o : Option File) → option_and_then socket_of o ≡ Some s → o ≡ Some (AsSocket s)
  by None e = absurd (none_some s e)
  by (Some Plain) e = absurd (none_some s e)
  by (Some (AsSocket x)) e = ap (λ y. Some (AsSocket y)) (some_same x s e)

module _ (w : World) (s : ℕ) (g : Socket → Socket) where
  -- What is read alike of a socket and of the changed one is read alike of each file.
  pub read_alike : {X : Type 0} (F : Option File → X)
      → ((x : Socket) → F (Some (AsSocket (g x))) ≡ F (Some (AsSocket x))) → (q : ℕ)
      → F (map.get (with_socket w s g).files q) ≡ F (map.get w.files q)
  read_alike F same q = ap F (get-change_at (file_with g) w.files s q) ∙ each (eq_by_cmp nat_cmp q s) (map.get w.files q) where
    each : (b : Bool) (o : Option File) → F (option_map (λ x. cond b (file_with g x) x) o) ≡ F o
    each b None = refl
    each true (Some Plain) = refl
    each true (Some (AsSocket x)) = same x
    each false (Some x) = refl

  -- The file there is a changed one.
  pub is_changed : (y : File) → map.get (with_socket w s g).files s ≡ Some y
      → (x : File) × (y ≡ file_with g x)
  is_changed y = by (map.get w.files s) refl where
    by : (o : Option File) → map.get w.files s ≡ o
        → map.get (option_map_or (λ x. map.insert w.files s (file_with g x)) o w.files) s ≡ Some y
        → (x : File) × (y ≡ file_with g x)
    by None e d = absurd (none_some y (sym e ∙ d))
    by (Some x) e d = (x, sym (some_same _ y (sym (insert-here w.files s (file_with g x)) ∙ d)))

  -- Where the file there is as the change leaves it, the world stays.
  pub nothing_changed : ((x : File) → map.get w.files s ≡ Some x → file_with g x ≡ x)
      → with_socket w s g ≡ w
  nothing_changed same = ap (λ fs. record w { files = fs }) (by (map.get w.files s) refl) where
    by : (o : Option File) → map.get w.files s ≡ o
        → option_map_or (λ x. map.insert w.files s (file_with g x)) o w.files ≡ w.files
    by None e = refl
    by (Some x) e = ap (map.insert w.files s) (same x e) ∙ insert_same w.files s x e
