-- The settled world is settled, and an unheld file may be freed first.
use Rattle.std.proofs.Common.{◌≡◌, inl, inr, ℕ, Bool, true, false, not, ◌||◌, ◌&&◌, refl, sym, ap, ◌∙◌, subst, nat_eq}
use Rattle.std.specs.Prelude.{Option, Some, None}
use Rattle.std.proofs.Math.Bool.{and-true}
use Rattle.std.proofs.lemmas.Bool.{and_from, and_parts, eqb-true, false≢true}
use Rattle.af_base.specs.declared.errno.Errno.{Errno}
use Rattle.af_base.specs.declared.events.Reply.{Reply}
use Rattle.af_base.specs.Steps.{Outcome}
use Rattle.af_base.specs.World.{World, IsLive}
use Rattle.af_base.specs.Places.{InTable, Holds}
use Rattle.af_base.specs.Unheld.{Goes, Settles, Unheld, without}
use Rattle.af_base.proofs.SettledWorlds.{first_goes, goes_down, goes_up, live-without, settled_by, settles_first, settles_none, settles_once, stays, without-without}
use Rattle.af_base.proofs.Soundness.{settled-settles}
use Rattle.af_laws.specs.Settling.{CyclesStay, HeldWorldIsSettled, SettledStays, SettlesToOne, SettlingSettles, SettlingTwiceIsOnce, UnplacedGoesFirst, UnplacedIsUnheld}

-- What holds of the old world, and wherever an effect that nothing refuses settles, holds after any
-- outcome.
pub outcome_keeps : (P : World → Type 0) (o : Option Errno) (frugal : Bool) (answer : Reply) (effect old : World) (r : Reply) (new : World) → P old → (o ≡ None → Settles effect new → P new) → Outcome o frugal answer effect old r new → P new
outcome_keeps P (Some e) frugal answer effect old r new was then out = subst P (sym out.1) was
outcome_keeps P None true answer effect old r new was then out = then refl out.1
outcome_keeps P None false answer effect old r new was then (inl y) = then refl y.1
outcome_keeps P None false answer effect old r new was then (inr y) = subst P (sym y.1) was

pub settles_to_one : SettlesToOne
settles_to_one = settles_once

pub settled_stays : SettledStays
settled_stays w new h = (λ s. settles_once w new w s (settles_none w h), λ e. subst (Settles w) (sym e) (settles_none w h))

pub settling_settles : SettlingSettles
settling_settles = settled-settles

pub settling_twice_is_once : SettlingTwiceIsOnce
settling_twice_is_once w v new s = settled_stays v new (settled-settles w v s)

pub held_world_is_settled : HeldWorldIsSettled
held_world_is_settled = settled_by

pub cycles_stay : CyclesStay
cycles_stay w cycle held f e u = none f u e where
  none : (f : ℕ) → Unheld w f → cycle f ≡ true → ⊥
  none _ (Goes f l no_table hs) e =
      let by = held f e in
      none by.0 (hs by.0 by.2) by.1

pub unplaced_is_unheld : UnplacedIsUnheld
unplaced_is_unheld w f l none = Goes f l (λ t. none (inl t)) (λ s h. absurd (none (inr (s, h))))

module _ (w new : World) (f : ℕ) (live : IsLive w f) (no_table : ¬ (InTable w f)) (no_holder : (s : ℕ) → ¬ (Holds w s f)) (s : Settles w new) where
  -- The world without f.
  abbrev rest : World
  rest = without (nat_eq f) w

  -- The files freed from the rest: all that are freed but f.
  abbrev gone : ℕ → Bool
  gone g = s.0 g && not (nat_eq f g)

  -- A number does not both equal f and differ from it.
  apart : (g : ℕ) → nat_eq f g ≡ true → not (nat_eq f g) ≡ true → ⊥
  apart g d e = false≢true (sym (ap not d) ∙ e)

  -- Each other file that is freed is unheld without f.
  goes : (g : ℕ) → gone g ≡ true → Unheld rest g
  goes g e =
      let h = and_parts _ _ e in
      elim (goes_down w f live no_table no_holder g ((s.1 g).0 h.0)) [
        | inl d ↦ absurd (apart g d h.1)
        | inr u ↦ u
      ]

  -- A file that is unheld without f is another.
  differs : (g : ℕ) → Unheld rest g → not (nat_eq f g) ≡ true
  differs _ (Goes g l t hs) = ap not (stays _ _ (sym (live-without (nat_eq f) w g) ∙ l)).0

  -- It is freed.
  went : (g : ℕ) → Unheld rest g → gone g ≡ true
  went g u = and_from _ _ ((s.1 g).1 (goes_up w f live no_table no_holder g u)) (differs g u)

  -- The freed files are f and the others.
  same : (g : ℕ) → s.0 g ≡ (nat_eq f g || gone g)
  same g = by (nat_eq f g) refl where
    by : (b : Bool) → nat_eq f g ≡ b → s.0 g ≡ (b || (s.0 g && not b))
    by true e =
        (s.1 g).1 (subst (Unheld w) (eqb-true f g e) (first_goes w f live no_table no_holder))
    by false e = sym (and-true (s.0 g))

  -- The world without f settles to the same.
  rest_settles : Settles rest new
  rest_settles = (gone, λ g. (goes g, went g), s.2 ∙ (λ i. without (λ g. same g i) w) ∙ sym (without-without (nat_eq f) gone w))

pub unplaced_goes_first : UnplacedGoesFirst
unplaced_goes_first w new f l none =
    let no_table : ¬ (InTable w f) = λ t. none (inl t) in
    let no_holder : (s : ℕ) → ¬ (Holds w s f) = λ s h. none (inr (s, h)) in
    (rest_settles w new f l no_table no_holder, settles_first w f l no_table no_holder new)
