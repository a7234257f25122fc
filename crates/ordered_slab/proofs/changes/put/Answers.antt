use Rattle.std.proofs.Common.{◌≡◌, refl, ◌∙◌, subst, sym}
use Rattle.std.specs.Prelude.{None}
use Rattle.std.specs.FinMap as map
use Rattle.ordered_slab.specs.Rows.{AreListed}
use Rattle.ordered_slab.specs.SlabValues.{keys_of}
use Rattle.ordered_slab.proofs.SlabValues.{came_listed, came_place, came_values, put_new}
use Rattle.ordered_slab.proofs.Searches.{nowhere}
use Rattle.ordered_slab.proofs.changes.put.Goals as goal

-- Each number has its row after the packing.
listed : {g : _} (c : goal.After-push g) → AreListed c.pack.new.self.rows (keys_of c.args.slab.now)
listed c q k at = c.pack.ensures.kept q k at (c.requires.listed q k at)

-- The number had no key.
new : {g : _} (c : goal.After-push g) → map.get (keys_of c.args.slab.now) c.args.ino ≡ None
new c = nowhere (keys_of c.args.slab.now) c.args.ino (λ k at. c.push.ensures.new k (listed c c.args.ino k at))

pub returns-clause-values : goal.returns-clause-values
returns-clause-values g c =
    came_values c.args.slab.now c.insert_reserved-key.new.self c.args.ino c.insert_reserved-key.result c.requires.place _
    c.insert_reserved-key.ensures.was_vacant (new c) c.insert_reserved-key.ensures.updates (c.duplicate.ensures ∙ c.new-file.ensures) c.insert_reserved-key.ensures.len

pub returns-clause-new : goal.returns-clause-new
returns-clause-new g c =
    put_new (keys_of c.args.slab.now) (map.insert (keys_of c.args.slab.now) c.args.ino c.insert_reserved-key.result) c.args.slab.now c.insert_reserved-key.new.self c.args.ino c.insert_reserved-key.result _ c.requires.place
    c.insert_reserved-key.ensures.was_vacant refl (new c) c.insert_reserved-key.ensures.updates

pub returns-clause-place : goal.returns-clause-place
returns-clause-place g c =
    came_place c.args.slab.now c.insert_reserved-key.new.self c.args.ino c.insert_reserved-key.result c.requires.place _
    c.insert_reserved-key.ensures.was_vacant (new c) c.insert_reserved-key.ensures.updates (c.duplicate.ensures ∙ c.new-file.ensures) c.insert_reserved-key.ensures.len

pub returns-clause-listed : goal.returns-clause-listed
returns-clause-listed g c = subst (λ rows. AreListed rows (keys_of c.insert_reserved-key.new.self)) (sym c.push.ensures.rows)
    (came_listed c.args.slab.now c.insert_reserved-key.new.self c.args.ino c.insert_reserved-key.result c.requires.place _
    c.insert_reserved-key.ensures.was_vacant (new c) c.insert_reserved-key.ensures.updates (c.duplicate.ensures ∙ c.new-file.ensures) c.insert_reserved-key.ensures.len c.pack.new.self.rows (listed c))
