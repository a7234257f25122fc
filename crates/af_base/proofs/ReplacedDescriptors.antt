-- A descriptor that refers to another file than before.
use Rattle.std.proofs.Common.{◌≡◌, ℕ, ◌+◌, ap, arith}
use Rattle.std.specs.Prelude.{Some}
use Rattle.std.specs.Option.{option_map_or}
use Rattle.std.specs.FinMap as map
use Rattle.af_base.specs.World.{Process, World}
use Rattle.af_base.specs.Counts.{one, refs, total_of}
use Rattle.af_base.specs.Changes.{install}
use Rattle.af_base.proofs.Sums.{total-change_at, total-insert}

-- One place less of the old file, and one more of the new one.
pub refs-replace : (w : World) (p n g h f : ℕ) (q : Process) → map.get w.processes p ≡ Some q → map.get q.table n ≡ Some h → refs (install w p n g) f + one f h ≡ refs w f + one f g
refs-replace w p n g h f q at is =
    let table = total-insert (one f) q.table n g in
    let before = ap (λ o. total_of (one f) (map.insert q.table n g) + option_map_or (one f) o 0) is in
    omega (arith, table, before, total-change_at (λ r. total_of (one f) r.table) (λ r. record r { table = map.insert r.table n g }) w.processes p q at)
