-- Counts and files after a file is freed.
use Rattle.std.proofs.Common.{◌≡◌, ℕ, ◌+◌, Bool, true, false, not, inl, inr, length, refl, sym, ap, ◌∙◌, cond, nat_eq, arith}
use Rattle.std.specs.Prelude.{Option, Some, None, option_map}
use Rattle.std.specs.FinMap as map
use Rattle.af_base.specs.World.{AsSocket, File, Plain, World}
use Rattle.af_base.specs.Places.{queue_of}
use Rattle.af_base.specs.Counts.{total_of}
use Rattle.af_base.specs.Unheld.{file_without, without}
use Rattle.af_base.specs.Release.{messages_in}
use Rattle.af_base.proofs.Sums.{total-remove}
use Rattle.af_base.proofs.SettledWorlds.{get-without}
use Rattle.af_base.proofs.Totals.{total-same}
use Rattle.af_base.proofs.Lookups.{none_some, not_same, remove-here, remove-other, same_or_not, some_same, told_apart}

-- A file that is not gone is what it was, but for a peer that has hung up.
pub without-stays : (gone : ℕ → Bool) (w : World) (q : ℕ) (x : File) → gone q ≡ false → map.get w.files q ≡ Some x → map.get (without gone w).files q ≡ Some (file_without gone x)
without-stays gone w q x e is = get-without gone w q ∙ ap (λ b. cond (not b) (option_map (file_without gone) (map.get w.files q)) None) e ∙ ap (option_map (file_without gone)) is

-- A file that is there afterwards was there before, and is not gone.
pub without-was : (gone : ℕ → Bool) (w : World) (q : ℕ) (y : File) → map.get (without gone w).files q ≡ Some y → (x : File) × (map.get w.files q ≡ Some x) × (gone q ≡ false) × (file_without gone x ≡ y)
without-was gone w q y is = by (gone q) refl (map.get w.files q) refl (sym (get-without gone w q) ∙ is) where
  by : (b : Bool) → gone q ≡ b → (o : Option File) → map.get w.files q ≡ o → cond (not (gone q)) (option_map (file_without gone) (map.get w.files q)) None ≡ Some y
      → (x : File) × (map.get w.files q ≡ Some x) × (gone q ≡ false) × (file_without gone x ≡ y)
  by true e o d k = absurd (none_some y (sym (ap (λ b. cond (not b) (option_map (file_without gone) (map.get w.files q)) None) e) ∙ k))
  by false e None d k = absurd (none_some y (sym (ap (λ b. cond (not b) (option_map (file_without gone) (map.get w.files q)) None) e ∙ ap (option_map (file_without gone)) d) ∙ k))
  by false e (Some x) d k = (x, d, e, some_same _ y (sym (ap (λ b. cond (not b) (option_map (file_without gone) (map.get w.files q)) None) e ∙ ap (option_map (file_without gone)) d) ∙ k))

-- A sum that ignores peers decreases by the part of the freed file.
pub total-without : (F : File → ℕ) → ((gone : ℕ → Bool) (x : File) → F (file_without gone x) ≡ F x) → (w : World) (f : ℕ) (x : File) → map.get w.files f ≡ Some x → total_of F (without (nat_eq f) w).files + F x ≡ total_of F w.files
total-without F same w f x is =
    let other : total_of F (without (nat_eq f) w).files ≡ total_of F (map.remove w.files f) = total-same F F (without (nat_eq f) w).files (map.remove w.files f) up down in
    omega (arith, other, total-remove F w.files f x is) where
      up : (k : ℕ) (y : File) → map.get (without (nat_eq f) w).files k ≡ Some y → (z : File) × (map.get (map.remove w.files f) k ≡ Some z) × (F y ≡ F z)
      up k y e =
          let was = without-was (nat_eq f) w k y e in
          (was.0, remove-other w.files f k (told_apart k f (λ s. not_same f k was.2 (sym s))) ∙ was.1, ap F (sym was.3) ∙ same (nat_eq f) was.0)

      down : (k : ℕ) (z : File) → map.get (map.remove w.files f) k ≡ Some z → (y : File) × (map.get (without (nat_eq f) w).files k ≡ Some y) × (F y ≡ F z)
      down k z e = elim (same_or_not k f) [
        | inl s ↦ absurd (none_some z (sym (remove-here w.files f) ∙ ap (map.get (map.remove w.files f)) (sym s) ∙ e))
        | inr a ↦ (file_without (nat_eq f) z, without-stays (nat_eq f) w k z (told_apart f k (λ s. not_same k f a (sym s))) (sym (remove-other w.files f k a) ∙ e), same (nat_eq f) z)
      ]

-- A socket that hung up keeps its queue.
pub same_queue : (gone : ℕ → Bool) (x : File) → queue_of (file_without gone x) ≡ queue_of x
same_queue gone Plain = refl
same_queue gone (AsSocket s) = refl

-- With a file the messages of its queue are freed, and no others.
pub messages-without : (w : World) (f : ℕ) (x : File) → map.get w.files f ≡ Some x → messages_in (without (nat_eq f) w) + length (queue_of x) ≡ messages_in w
messages-without w f x is = total-without (λ y. length (queue_of y)) (λ gone y. ap length (same_queue gone y)) w f x is
