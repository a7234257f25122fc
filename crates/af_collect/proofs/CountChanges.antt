-- Files that come into a table, or of which the counts alone change, one after the other.
use Rattle.std.proofs.Common.{◌≡◌, ℕ, List, [], ◌∷◌, length, refl, arith, ◌≤◌, take, ap, sym, ◌∙◌}
use Rattle.std.specs.List.{zip}
use Rattle.std.specs.Prelude.{unwrap_or}
use Rattle.std.specs.FinMap as map
use Rattle.std.proofs.lemmas.List.{take_all}
use Rattle.af_base.specs.World.{Map}
use Rattle.af_base.proofs.Lookups.{insert-here}
use Rattle.af_ledger.specs.Tally.{Tally, with_ref, with_refs, LedgerView, count_in_map, kept_of}
use Rattle.af_ledger.specs.declared.place.Place.TheVariants.{Table}
use Rattle.af_ledger.specs.Counted.{CountView, fewer, more, uncounted}
use Rattle.af_ledger.specs.declared.place.Place.{Place}
use Rattle.af_desc.specs.FilesView.{FilesView, with_file_ref, with_moved_ref, without_file_ref}
use Rattle.af_collect.proofs.ProcessTables.{insert_twice}

-- No number is left.
pub no-numbers : (ns fs : List ℕ) → length ns ≡ 0 → zip ns fs ≡ []
no-numbers [] fs e = refl
no-numbers (n ∷ ns) fs e = absurd (omega (arith, e))

-- No file is left.
pub no-files : (ns fs : List ℕ) → length fs ≡ 0 → zip ns fs ≡ []
no-files [] fs e = refl
no-files (n ∷ ns) [] e = refl
no-files (n ∷ ns) (f ∷ fs) e = absurd (omega (arith, e))

-- The charges stay.
pub charges-filled : (fs : List ℕ) (k : Tally) → with_refs Table fs k ≡ record k { counts = (with_refs Table fs k).counts }
charges-filled [] k = refl
charges-filled (f ∷ fs) k = charges-filled fs (with_ref Table f k)

-- Where the counts alone changed before, and change once more, the counts alone have changed.
pub counts-alone : (start before after : FilesView) (m : Map CountView) → after ≡ record before { counts = m } → before ≡ record start { counts = before.counts } → after ≡ record start { counts = after.counts }
counts-alone start before after m one rest =
    one ∙ ap {A = FilesView} {B = FilesView} (λ v. record v { counts = m }) rest ∙ ap {B = FilesView} (λ x. record start { counts = x }) (sym (ap (λ v. v.counts) one))

-- Once each file has its change, and the ledger that of all, all is as after that change of all.
pub changed-all : (to : List ℕ → Tally → Tally) (fs : List ℕ) (i : ℕ) (k : Tally) (counts : Map CountView) (l n : LedgerView) → length fs ≤ i → counts ≡ (to (take i fs) k).counts → l ≡ n → kept_of (to fs k).counts n ≡ to fs k → kept_of counts l ≡ to fs k
changed-all to fs i k counts l n past each ledger all =
    ap (λ m. kept_of m l) each ∙ ap (λ gs. kept_of (to gs k).counts l) (take_all i fs past) ∙ ap (kept_of (to fs k).counts) ledger ∙ all

-- A place that moves is one more, and one less.
pub moved-is : (p : Place) (f : ℕ) (v : FilesView) → with_moved_ref p f v ≡ without_file_ref p f (with_file_ref Table f v)
moved-is p f v =
    let c = more Table (count_in_map v.counts f) in
    let here : count_in_map (map.insert v.counts f c) f ≡ c = ap (λ o. unwrap_or o uncounted) (insert-here v.counts f c) in
    ap (λ m. record v { counts = m }) (ap (λ d. map.insert v.counts f (fewer p d)) (sym here) ∙ sym (insert_twice v.counts f c (fewer p (count_in_map (map.insert v.counts f c) f))))
