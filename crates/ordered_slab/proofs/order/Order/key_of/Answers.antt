use Rattle.std.proofs.Common.{◌≡◌, ℕ, ◌-◌, inl, inr, drop, take, length, sym, ap, subst, ◌∙◌}
use Rattle.std.specs.Prelude.{Option, Some, None, IfSome, IfNone}
use Rattle.std.specs.FinMap as map
use Rattle.ordered_slab.specs.Rows.{Rise, HasRow}
use Rattle.ordered_slab.specs.SlabValues.{keys_of}
use Rattle.ordered_slab.proofs.Rows.{in_either, rest, rise_left, rise_right}
use Rattle.ordered_slab.proofs.Searches.{nowhere}
use Rattle.ordered_slab.proofs.order.Order.key_of.Goals as goal

pub key_in-requires-clause-rise : goal.key_in-requires-clause-rise
key_in-requires-clause-rise g c =
    subst Rise (sym (ap (take c.self.inside.packed) c.deref.ensures.value)) (rise_left (take c.self.inside.packed c.self.inside.rows.items) (drop c.self.inside.read c.self.inside.rows.items) c.self.invariant.0)

pub key_in-requires-in-None-clause-rise : goal.key_in-requires-in-None-clause-rise
key_in-requires-in-None-clause-rise g c =
    let unread = rest c.deref-in-None.result.now c.self.inside.read ∙ ap (drop c.self.inside.read) c.deref-in-None.ensures.value in
    subst Rise (sym unread) (rise_right (take c.self.inside.packed c.self.inside.rows.items) (drop c.self.inside.read c.self.inside.rows.items) c.self.invariant.0)

pub returns-in-None-clause-key : goal.returns-in-None-clause-key
returns-in-None-clause-key g c = by c.key_in-in-None.result c.key_in-in-None.ensures.key c.key_in-in-None.ensures.none where
  by : (o : Option ℕ) → IfSome o (λ k. map.get (keys_of c.args.slab.now) c.args.ino ≡ Some k)
      → IfNone o ((k : ℕ) → map.get (keys_of c.args.slab.now) c.args.ino ≡ Some k → HasRow (take (length c.deref-in-None.result.now - c.self.inside.read) (drop c.self.inside.read c.deref-in-None.result.now)) c.args.ino k → ⊥)
      → o ≡ map.get (keys_of c.args.slab.now) c.args.ino
  by (Some k) some none = sym some
  by None some none = sym (nowhere (keys_of c.args.slab.now) c.args.ino (λ k at.
      let x = subst (λ a. HasRow a.rows c.args.ino k) (sym c.self.view_is) (c.requires.listed c.args.ino k at) in
      let unread = rest c.deref-in-None.result.now c.self.inside.read ∙ ap (drop c.self.inside.read) c.deref-in-None.ensures.value in
      elim (in_either (take c.self.inside.packed c.self.inside.rows.items) (drop c.self.inside.read c.self.inside.rows.items) c.args.ino k x) [
        | inl a ↦ c.in-None.ensures.none k at (subst (λ xs. HasRow xs c.args.ino k) (sym (ap (take c.self.inside.packed) c.deref.ensures.value)) a)
        | inr a ↦ none k at (subst (λ xs. HasRow xs c.args.ino k) (sym unread) a)
      ]))
