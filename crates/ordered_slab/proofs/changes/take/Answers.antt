use Rattle.std.proofs.Common.{◌≡◌, sym, ap, ◌∙◌}
use Rattle.std.specs.Prelude.{Some}
use Rattle.std.specs.FinMap as map
use Rattle.ordered_slab.specs.SlabValues.{keys_of}
use Rattle.ordered_slab.proofs.SlabValues.{stood, went_had, went_none, went_place, went_values}
use Rattle.ordered_slab.proofs.changes.take.Goals as goal
use Rattle.ordered_slab.proofs.changes.take.Goals.{Joined-not-stands_at, then-not-stands_at+in_ok-key, else-not-stands_at}

-- The key is the number's: by the hint, or by the order.
right : {g : _} (c : goal.Joined-not-stands_at g) → map.get (keys_of c.args.slab.now) c.args.file.now ≡ Some c.if-not-stands_at.key
right c = elim c.if-not-stands_at.branch [
  | then-not-stands_at+in_ok-key w ↦ ap (map.get (keys_of c.args.slab.now)) (sym w.ino.ensures) ∙ sym w.key_of.ensures.key ∙ w.in_ok-key.was ∙ ap Some (sym w.key-is)
  | else-not-stands_at w ↦ stood (keys_of c.args.slab.now) c.args.slab.now c.requires.place _ _ (c.stands_at.ensures w.if-not-stands_at.false) ∙ ap Some (sym w.key-is)
]

pub trim-requires-clause-place : goal.trim-requires-clause-place
trim-requires-clause-place g c =
    went_place c.args.slab.now c.remove-entry.new.self c.args.file.now c.if-not-stands_at.key c.requires.place (right (goal.at.trim-requires-clause-place g c).Joined-not-stands_at) c.remove-entry.ensures.updates c.remove-entry.ensures.len

pub trim-requires-clause-gone : goal.trim-requires-clause-gone
trim-requires-clause-gone g c =
    went_none c.args.slab.now c.remove-entry.new.self c.args.file.now c.if-not-stands_at.key c.requires.place (right (goal.at.trim-requires-clause-gone g c).Joined-not-stands_at) c.remove-entry.ensures.updates c.remove-entry.ensures.len

pub returns-clause-values : goal.returns-clause-values
returns-clause-values g c =
    went_values c.args.slab.now c.remove-entry.new.self c.args.file.now c.if-not-stands_at.key c.requires.place (right (goal.at.returns-clause-values g c).Joined-not-stands_at) c.remove-entry.ensures.updates c.remove-entry.ensures.len

pub returns-clause-place : goal.returns-clause-place
returns-clause-place g c =
    went_place c.args.slab.now c.remove-entry.new.self c.args.file.now c.if-not-stands_at.key c.requires.place (right (goal.at.returns-clause-place g c).Joined-not-stands_at) c.remove-entry.ensures.updates c.remove-entry.ensures.len

pub returns-clause-listed : goal.returns-clause-listed
returns-clause-listed g c = λ q k at.
    let had = went_had c.args.slab.now c.remove-entry.new.self c.args.file.now c.if-not-stands_at.key c.requires.place (right (goal.at.returns-clause-listed g c).Joined-not-stands_at) c.remove-entry.ensures.updates c.remove-entry.ensures.len q k at in
    c.trim.ensures.kept q k at (c.requires.listed q k had)
