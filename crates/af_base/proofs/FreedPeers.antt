-- A file that is freed changes its peer alone, where peers are mutual.
use Rattle.std.proofs.Common.{◌≡◌, ℕ, Bool, true, false, not, refl, sym, ap, ◌∙◌, cond, nat_eq}
use Rattle.std.specs.Prelude.{Option, Some, None, option_map}
use Rattle.std.specs.Option.{option_map_or}
use Rattle.std.specs.Ordering.{nat_cmp, eq_by_cmp}
use Rattle.std.specs.Cmp.{nat_cmp_total, unsigned_tied}
use Rattle.std.specs.FinMap as map
use Rattle.std.specs.FinMap.{nat_cmp-IsAntisymmetric}
use Rattle.std.proofs.lemmas.Bool.{false≢true, eqb-true, eq-eqb}
use Rattle.af_base.specs.declared.events.State.{State}
use Rattle.af_base.specs.declared.events.State.TheVariants as state
use Rattle.af_base.specs.World.{AsSocket, File, Map, Plain, Socket, World}
use Rattle.af_base.specs.Unheld.{file_without, state_without, without}
use Rattle.af_base.specs.Changes.{change_at, file_with}
use Rattle.af_base.specs.Whole.{AreMutual, state_at, state_of}
use Rattle.af_base.proofs.SettledWorlds.{get-without}
use Rattle.af_base.proofs.AllowedSteps.{get-change_at}

-- A socket whose peer was freed; a plain file stays as it is.
abbrev pub hang_up : File → File
hang_up x = file_with (λ s. record s { state = state.HungUp }) x

-- The file gone, and its peer hung up.
abbrev pub drop_with : State → ℕ → Map File → Map File
drop_with (state.Connected p) f m = change_at hang_up (map.remove m f) p
drop_with state.Idle f m = map.remove m f
drop_with (state.Listening b) f m = map.remove m f
drop_with state.HungUp f m = map.remove m f
drop_with (state.Sends q) f m = map.remove m f

-- Whether q is the peer in this state.
abbrev pub is_peer : State → ℕ → Bool
is_peer (state.Connected p) q = eq_by_cmp nat_cmp q p
is_peer state.Idle q = false
is_peer (state.Listening b) q = false
is_peer state.HungUp q = false
is_peer (state.Sends p) q = false

-- To map a file to itself changes nothing.
same : (o : Option File) → o ≡ option_map (λ x. x) o
same None = refl
same (Some x) = refl

-- The file of a number after one is freed: none if it is that one, hung up if it is the peer.
get-drop_with : (t : State) (f : ℕ) (m : Map File) (q : ℕ) → map.get (drop_with t f m) q ≡ option_map (λ x. cond (is_peer t q) (hang_up x) x) (cond (eq_by_cmp nat_cmp q f) None (map.get m q))
get-drop_with (state.Connected p) f m q = get-change_at hang_up (map.remove m f) p q ∙ ap (option_map (λ x. cond (eq_by_cmp nat_cmp q p) (hang_up x) x)) (map.get-remove nat_cmp_total m f q)
get-drop_with state.Idle f m q = map.get-remove nat_cmp_total m f q ∙ same _
get-drop_with (state.Listening b) f m q = map.get-remove nat_cmp_total m f q ∙ same _
get-drop_with state.HungUp f m q = map.get-remove nat_cmp_total m f q ∙ same _
get-drop_with (state.Sends p) f m q = map.get-remove nat_cmp_total m f q ∙ same _

-- The peer that a state names is the one that it is connected to.
peer_is : (t : State) (q : ℕ) → is_peer t q ≡ true → t ≡ state.Connected q
peer_is (state.Connected p) q e = ap state.Connected (sym (eqb-true q p (sym (unsigned_tied q p) ∙ e)))
peer_is state.Idle q e = absurd (false≢true e)
peer_is (state.Listening b) q e = absurd (false≢true e)
peer_is state.HungUp q e = absurd (false≢true e)
peer_is (state.Sends p) q e = absurd (false≢true e)

module _ (w : World) (f : ℕ) (pairs : AreMutual w) where
  -- The state that a socket has then.
  state_then : (q : ℕ) (s : Socket) → map.get w.files q ≡ Some (AsSocket s) → (b : Bool) → is_peer (state_at w f) q ≡ b → state_without (nat_eq f) s.state ≡ cond b state.HungUp s.state
  state_then q s is true e =
      let at : state_at w q ≡ state.Connected f = pairs f q (peer_is (state_at w f) q e) in
      let here : s.state ≡ state.Connected f = ap (λ o. option_map_or state_of o state.Idle) (sym is) ∙ at in
      ap (state_without (nat_eq f)) here ∙ ap (λ b. cond b state.HungUp (state.Connected f)) (eq-eqb f f refl)
  state_then q s is false e = by s.state refl where
    apart : (p : ℕ) → s.state ≡ state.Connected p → (c : Bool) → nat_eq f p ≡ c → cond c state.HungUp (state.Connected p) ≡ state.Connected p
    apart p r false d = refl
    apart p r true d =
        let to : state_at w q ≡ state.Connected f = ap (λ o. option_map_or state_of o state.Idle) is ∙ r ∙ ap state.Connected (sym (eqb-true f p d)) in
        absurd (false≢true (sym e ∙ ap (λ t. is_peer t q) (pairs q f to) ∙ unsigned_tied q q ∙ eq-eqb q q refl))

    by : (t : State) → s.state ≡ t → state_without (nat_eq f) t ≡ t
    by state.Idle r = refl
    by (state.Listening b) r = refl
    by state.HungUp r = refl
    by (state.Sends p) r = refl
    by (state.Connected p) r = apart p r (nat_eq f p) refl

  -- To free one file removes it and hangs up its peer.
  pub without_one : without (nat_eq f) w ≡ record w { files = drop_with (state_at w f) f w.files }
  without_one = ap (λ fs. record w { files = fs }) (map.same_map nat_cmp_total nat_cmp-IsAntisymmetric _ _ (λ q.
      get-without (nat_eq f) w q ∙ each q (map.get w.files q) refl (nat_eq f q) refl ∙ sym (get-drop_with (state_at w f) f w.files q))) where
        tied : (q : ℕ) → eq_by_cmp nat_cmp q f ≡ nat_eq f q
        tied q = unsigned_tied q f ∙ turn (nat_eq q f) (nat_eq f q) refl refl where
          turn : (a b : Bool) → nat_eq q f ≡ a → nat_eq f q ≡ b → a ≡ b
          turn true true d e = refl
          turn false false d e = refl
          turn true false d e = absurd (false≢true (sym e ∙ eq-eqb f q (sym (eqb-true q f d))))
          turn false true d e = absurd (false≢true (sym d ∙ eq-eqb q f (sym (eqb-true f q e))))

        each : (q : ℕ) (o : Option File) → map.get w.files q ≡ o → (b : Bool) → nat_eq f q ≡ b → cond (not b) (option_map (file_without (nat_eq f)) o) None ≡ option_map (λ x. cond (is_peer (state_at w f) q) (hang_up x) x) (cond (eq_by_cmp nat_cmp q f) None o)
        each q o is true e = sym (ap (λ c. option_map (λ x. cond (is_peer (state_at w f) q) (hang_up x) x) (cond c None o)) (tied q ∙ e))
        each q None is false e = sym (ap (λ c. option_map (λ x. cond (is_peer (state_at w f) q) (hang_up x) x) (cond c None None)) (tied q ∙ e))
        each q (Some Plain) is false e = sym (ap (λ c. option_map (λ x. cond (is_peer (state_at w f) q) (hang_up x) x) (cond c None (Some Plain))) (tied q ∙ e) ∙ plain (is_peer (state_at w f) q)) where
          plain : (c : Bool) → Some (cond c (hang_up Plain) Plain) ≡ Some Plain
          plain true = refl
          plain false = refl
        each q (Some (AsSocket s)) is false e =
            ap (λ t. Some (AsSocket (record s { state = t }))) (state_then q s is (is_peer (state_at w f) q) refl)
            ∙ sym (ap (λ c. option_map (λ x. cond (is_peer (state_at w f) q) (hang_up x) x) (cond c None (Some (AsSocket s)))) (tied q ∙ e) ∙ sock (is_peer (state_at w f) q)) where
              sock : (c : Bool) → Some (cond c (hang_up (AsSocket s)) (AsSocket s)) ≡ Some (AsSocket (record s { state = cond c state.HungUp s.state }))
              sock true = refl
              sock false = refl
