-- A write through the reference changes the value of this number alone.
use Rattle.std.proofs.Common.{◌≡◌, ◌-◌, ◌≤◌, ◌∙◌, ◌⊎◌, ℕ, List, inl, refl, sym, ap, subst}
use Rattle.std.specs.Prelude.{Some, min}
use Rattle.std.specs.FinMap as map
use Rattle.slab.specs.Slab as slab
use Rattle.slab.specs.Slab.{Slab}
use Rattle.af_base.specs.World.{Map}
use Rattle.ordered_slab.specs.declared.numbered_value.NumberedValue.{NumberedValue}
use Rattle.ordered_slab.specs.OrderedSlabView.{OrderedSlabView, with_value}
use Rattle.ordered_slab.specs.OrderView.{OrderRowView}
use Rattle.ordered_slab.specs.Rows.{AreListed}
use Rattle.ordered_slab.specs.SlabValues.{AreInPlace, keys_of, values_of}
use Rattle.ordered_slab.proofs.SlabValues.{stood, there, write_in_place, write_keys, write_len, write_values}
use Rattle.ordered_slab.proofs.numbered.OrderedSlab.get_mut.Goals as goal

-- Whatever is written, all stays in place with its row, and there is as much room.
kept : {V : Type 0} (rows : List OrderRowView) (s : Slab (NumberedValue V)) (f k : ℕ) (x : NumberedValue V) (w : V) → AreInPlace (keys_of s) s × AreListed rows (keys_of s) × (slab.slab_len s ≤ s.capacity) → map.get (keys_of s) f ≡ Some k → slab.get s k ≡ Some x
    → let t = slab.with_value s k (record x { value = w }) in AreInPlace (keys_of t) t × AreListed rows (keys_of t) × (slab.slab_len t ≤ s.capacity)
kept rows s f k x w h was at =
    let y : NumberedValue _ = record x { value = w } in
    let same = write_keys s f k x y h.0 was at refl in (
      subst (λ m. AreInPlace m (slab.with_value s k y)) same (write_in_place (keys_of s) s f k x y h.0 was at refl),
      subst (AreListed rows) same h.1,
      subst (λ n. n ≤ s.capacity) (sym (write_len (keys_of s) s f k x y h.0 was at)) h.2,
    )

-- The written value is that of this number.
written : {V : Type 0} (a : OrderedSlabView V) (s : Slab (NumberedValue V)) (last r f k : ℕ) (x : NumberedValue V) (w : V) → AreInPlace (keys_of s) s → map.get (keys_of s) f ≡ Some k → slab.get s k ≡ Some x
    → record { values = values_of (keys_of s) s; last = last; room = min r (s.capacity - slab.slab_len s) } ≡ a
    → let t = slab.with_value s k (record x { value = w }) in record { values = values_of (keys_of t) t; last = last; room = min r (s.capacity - slab.slab_len t) } ≡ with_value a f w
written a s last r f k x w h was at view =
    let y : NumberedValue _ = record x { value = w } in
    let values = ap (λ m. values_of m (slab.with_value s k y)) (sym (write_keys s f k x y h was at refl)) ∙ write_values (keys_of s) s f k x y h was at in
    (λ j. record {
      values = values j;
      last = last;
      room = min r (s.capacity - write_len (keys_of s) s f k x y h was at j);
    }) ∙ ap (λ a. with_value a f w) view

-- The lent value is that of this number.
lent : {V : Type 0} (a : OrderedSlabView V) (m : Map ℕ) (s : Slab (NumberedValue V)) (last room f k : ℕ) (x : NumberedValue V) (v : V) → AreInPlace m s → map.get m f ≡ Some k → slab.get s k ≡ Some x
    → record { values = values_of m s; last = last; room = room } ≡ a → v ≡ x.value → Some v ≡ map.get a.values f
lent a m s last room f k x v h was at view is = ap Some is ∙ sym (there m s f k x x h was at) ∙ ap (λ a. map.get a.values f) view

-- The same borrow, whose end is said in another way.
same_borrow : {N W S : Type 0} (n : N) (x y : W → S) → x ≡ y → ◌≡◌ {A = (N × (W → S)) ⊎ S} (inl (n, x)) (inl (n, y))
same_borrow n x y e = λ i. inl (n, e i)

pub invariant_of-self-lent : goal.invariant_of-self-lent
invariant_of-self-lent g c w =
    let was = stood (keys_of c.self.inside.slab) c.self.inside.slab c.self.invariant.0 _ _ (c.stands_at.ensures c.if-stands_at.true) in
    kept c.self.inside.order.rows c.self.inside.slab c.args.file.now _ c.index_mut.result.now w c.self.invariant was c.index_mut.ensures.value

pub invariant_of-self-lent-2 : goal.invariant_of-self-lent-2
invariant_of-self-lent-2 g c w =
    let was = ap (map.get (keys_of c.self.inside.slab)) (sym c.ino.ensures) ∙ sym c.key_of.ensures.key ∙ c.in_ok-key.was in
    kept c.self.inside.order.rows c.self.inside.slab c.args.file.now c.in_ok-key.key c.index_mut-2.result.now w c.self.invariant was c.index_mut-2.ensures.value

pub returns-then-stands_at : goal.returns-then-stands_at
returns-then-stands_at g c =
    let m = (keys_of c.self.inside.slab) in
    let s = c.self.inside.slab in
    let x = c.index_mut.result.now in
    let f = c.args.file.now in
    let was = stood m s c.self.invariant.0 _ _ (c.stands_at.ensures c.if-stands_at.true) in
    let at = c.index_mut.ensures.value in (
      same_borrow _ _ _ (λ i w. written _ s c.self.inside.order.last c.self.inside.order.room f _ x w c.self.invariant.0 was at c.self.view_is i),
      record {
        writes_back = tt;
        value = lent _ m s _ _ f _ x _ c.self.invariant.0 was at c.self.view_is refl;
      },
    )

pub returns : goal.returns
returns g c =
    let m = (keys_of c.self.inside.slab) in
    let s = c.self.inside.slab in
    let x = c.index_mut-2.result.now in
    let f = c.args.file.now in
    let was = ap (map.get m) (sym c.ino.ensures) ∙ sym c.key_of.ensures.key ∙ c.in_ok-key.was in
    let at = c.index_mut-2.ensures.value in (
      same_borrow _ _ _ (λ i w. written _ s c.self.inside.order.last c.self.inside.order.room f _ x w c.self.invariant.0 was at c.self.view_is i),
      record {
        writes_back = tt;
        value = lent _ m s _ _ f _ x _ c.self.invariant.0 was at c.self.view_is refl;
      },
    )
