-- The sockets that slices empty, one after the other.
use Rattle.std.proofs.Common.{◌≡◌, ◌≤◌, ◌+◌, ◌↔◌, ℕ, zero, suc, Bool, true, false, ◌||◌, [], ◌∷◌, ◌++◌, refl, sym, ap, ◌∙◌, subst, nat_eq, arith, length-append}
use Rattle.std.specs.Prelude.{Option, Some, None, is_some, option_map, if◌then◌else◌}
use Rattle.std.specs.List.{list_any, All}
use Rattle.std.specs.Cmp.{nat_cmp_total}
use Rattle.std.specs.FinMap as map
use Rattle.std.specs.FinMap.{nat_cmp-IsAntisymmetric}
use Rattle.std.proofs.lemmas.Bool.{eqb-true, false≢true}
use Rattle.std.proofs.lemmas.List.Elements.{All-append, All-contains}
use Rattle.std.proofs.lemmas.List.Folds.{list_any-append}
use Rattle.std.proofs.lemmas.Map.Views.{Contains-from_any}
use Rattle.std.proofs.Math.Bool.{or-false}
use Rattle.af_base.specs.World.{File, IsLive, World}
use Rattle.af_base.specs.Unheld.{IsSettled, Settles}
use Rattle.af_base.specs.Pass.{Purges, emptied, empty_file}
use Rattle.af_base.specs.Reached.{Garbage}
use Rattle.af_base.proofs.SettledWorlds.{settles_none}
use Rattle.af_base.proofs.PurgeOrder.{get-emptied, purges_both}
use Rattle.af_collect.specs.Purged.{ArePurged}
use Rattle.af_collect.proofs.MarkTests.{turned}

-- To empty files that are gone changes nothing.
emptied_gone : (t : ℕ → Bool) (w : World) → ((f : ℕ) → t f ≡ true → ¬ (IsLive w f)) → emptied t w ≡ w
emptied_gone t w gone = ap (λ fs. record w { files = fs }) (map.same_map nat_cmp_total nat_cmp-IsAntisymmetric _ _ (λ q. get-emptied t w q ∙ each (t q) (map.get w.files q) (gone q))) where
  each : (b : Bool) (o : Option File) → (b ≡ true → ¬ (is_some o ≡ true)) → option_map (λ x. if b then empty_file x else x) o ≡ o
  each b None n = refl
  each true (Some x) n = absurd (n refl refl)
  each false (Some x) n = refl

-- To purge files that are gone changes a settled world in nothing.
purges_gone : (t : ℕ → Bool) (w : World) → IsSettled w → ((f : ℕ) → t f ≡ true → ¬ (IsLive w f)) → Purges t w w
purges_gone t w settled gone = subst (λ v. Settles v w) (sym (emptied_gone t w gone)) (settles_none w settled)

module _ {begun : World} where
  -- Where nothing is done, nothing was purged.
  pub purged_none : (w : World) (n : ℕ) → IsSettled w → ArePurged begun w w n
  purged_none w n s = record {
    files = [];
    few = omega arith;
    of_garbage = λ k d h. absurd (omega (arith, h));
    purged = purges_gone (λ _. false) w s (λ f e. absurd (false≢true e));
  }

  -- Where one file is emptied and the world settles, that one was purged.
  pub purged_one : (w v : World) (x : ℕ) → Garbage begun x → Settles (emptied (nat_eq x) w) v → ArePurged begun w v 1
  purged_one w v x g s = record {
    files = x ∷ [];
    few = omega arith;
    of_garbage = one_only;
    purged = subst (λ t. Settles (emptied t w) v) (λ i f. same f i) s;
  } where
    one_only : All (Garbage begun) (x ∷ [])
    one_only zero d h = g
    one_only (suc k) d h = absurd (omega (arith, h))

    same : (f : ℕ) → nat_eq x f ≡ list_any (nat_eq f) (x ∷ [])
    same f = turned x f ∙ sym (or-false (nat_eq f x))

  -- Sockets emptied one after the other are as if emptied at once.
  pub purged_join : (a b c : World) (n k : ℕ) → ArePurged begun a b n → ArePurged begun b c k → ArePurged begun a c (n + k)
  purged_join a b c n k p q = record {
    files = p.files ++ q.files;
    few = let l = length-append p.files q.files in let x = p.few in let y = q.few in omega (arith, l, x, y);
    of_garbage = All-append (Garbage begun) p.files q.files p.of_garbage q.of_garbage;
    purged = subst (λ t. Settles (emptied t a) c) (λ i f. sym (list_any-append (nat_eq f) p.files q.files) i)
        (purges_both (λ f. list_any (nat_eq f) p.files) (λ f. list_any (nat_eq f) q.files) a b c p.purged q.purged);
  }

  -- A bound is below a larger bound.
  pub purged_more : (a b : World) (n k : ℕ) → n ≤ k → ArePurged begun a b n → ArePurged begun a b k
  purged_more a b n k l p = record { files = p.files; few = let x = p.few in omega (arith, l, x); of_garbage = p.of_garbage; purged = p.purged }

  -- Where no garbage of the begin is left, exactly that garbage was purged.
  pub purged_whole : (now : World) (n : ℕ) (test : ℕ → Bool) → ArePurged begun begun now n → IsSettled now → ((f : ℕ) → Garbage begun f → ¬ (IsLive now f))
      → ((f : ℕ) → (test f ≡ true) ↔ Garbage begun f) → Purges test begun now
  purged_whole now n test p settled gone decides =
      subst (λ t. Purges t begun now) (λ i f. all f i)
      (purges_both (λ f. list_any (nat_eq f) p.files) test begun now now p.purged (purges_gone test now settled (λ f e. gone f ((decides f).0 e)))) where
        within : (f : ℕ) → list_any (nat_eq f) p.files ≡ true → test f ≡ true
        within f e = (decides f).1 (All-contains (Garbage begun) p.files f p.of_garbage (Contains-from_any eqb-true f p.files e))

        by : (a b : Bool) → (a ≡ true → b ≡ true) → (a || b) ≡ b
        by true b h = sym (h refl)
        by false b h = refl

        all : (f : ℕ) → (list_any (nat_eq f) p.files || test f) ≡ test f
        all f = by (list_any (nat_eq f) p.files) (test f) (within f)
