-- Changes keep a world settled.
use Rattle.std.proofs.Common.{◌≡◌, ℕ, refl, sym, ap, ◌∙◌, subst, arith}
use Rattle.std.specs.Prelude.{Option, Some, None}
use Rattle.std.specs.Option.{option_map_or}
use Rattle.std.specs.FinMap as map
use Rattle.af_base.specs.World.{Process, World}
use Rattle.af_base.specs.Places.{table_at}
use Rattle.af_base.specs.Unheld.{IsSettled}
use Rattle.af_base.specs.Changes.{install}
use Rattle.af_base.proofs.SettledPlaces.{settled-counted, settled-held}
use Rattle.af_base.proofs.PlaceMoves.{there-table}
use Rattle.af_base.proofs.Places.{refs-install}

-- A number taken into use that was free.
pub settled-install : (w : World) (p n g : ℕ) → IsSettled w → table_at w p n ≡ None → IsSettled (install w p n g)
settled-install w p n g s free = by (map.get w.processes p) refl where
  by : (o : Option Process) → map.get w.processes p ≡ o → IsSettled (install w p n g)
  by None e = subst IsSettled (sym (ap (λ o. record w { processes = option_map_or (λ q. map.insert w.processes p (record q { table = map.insert q.table n g })) o w.processes }) e)) s
  by (Some q) e = settled-counted (install w p n g) (λ f l.
      let held = settled-held w f s l in
      omega (arith, held, refs-install w p n g f q e (sym (there-table w p n q e) ∙ free)))
