use Rattle.std.proofs.Common.{rules, ◌≡◌, ◌≤◌, ◌<◌, ◌+◌, ℕ, take, drop, length, length-take, inl, inr, sym, ap, subst, ◌∙◌, arith}
use Rattle.std.specs.Prelude.{Some}
use Rattle.std.specs.FinMap as map
use Rattle.std.proofs.lemmas.Bool.{false≢true}
use Rattle.ordered_slab.specs.OrderView.{OrderRowView}
use Rattle.ordered_slab.specs.Rows.{row_at, Rise, HasRow}
use Rattle.ordered_slab.specs.SlabValues.{keys_of}
use Rattle.ordered_slab.proofs.Rows.{in_either, rise_right}
use Rattle.ordered_slab.proofs.Searches.{nowhere, passed, read_here}
use Rattle.ordered_slab.proofs.order.Order.next_but_one.Goals as goal

-- No packing has read a row.
unread : {g : _} (c : goal.After-duplicate g) → c.self.inside.read ≡ 0
unread c = let none = c.if-self-gt0.false in omega (arith, none)

-- So all rows rise,
rise : {g : _} (c : goal.After-duplicate g) → Rise c.self.inside.rows.items
rise c = let rows = c.self.inside.rows.items in subst (λ n. Rise (drop n rows)) (unread c) (rise_right (take c.self.inside.packed c.self.inside.rows.items) (drop c.self.inside.read rows) c.self.invariant.0)

-- and there are two at this position.
two : {g : _} (c : goal.After-duplicate g) → c.args.at + 1 < length c.self.inside.rows.items
two c = search (rules, arith)

-- The first of them is of the next number,
first : {g : _} (c : goal.After-duplicate g) → (row_at c.self.inside.rows.items c.args.at).ino ≡ c.args.ino + 1
first c =
    let here = read_here c.self.inside.rows.items c.args.at c.index.result.now (let l = two c in omega (arith, l)) c.index.ensures in
    omega (arith, c.if-number-ino.false, c.number-2.view_is, c.ino.view_is, c.number.ensures.number, c.number.ensures.some, ap (λ r. r.ino) here)

-- and the answer is that of the second.
second : {g : _} (c : goal.After-duplicate g) → c.duplicate.result ≡ (row_at c.self.inside.rows.items (c.args.at + 1)).ino
second c = c.duplicate.ensures ∙ c.file.ensures ∙ ap (λ r. r.ino) (read_here c.self.inside.rows.items (c.args.at + 1) c.index-2.result.now (two c) c.index-2.ensures)

pub returns-clause-above : goal.returns-clause-above
returns-clause-above g c =
    let up = rise c c.args.at (c.args.at + 1) (omega arith) (two c) in
    omega (arith, up, first c, second c)

pub returns-clause-least : goal.returns-clause-least
returns-clause-least g c = λ q above before. nowhere (keys_of c.args.slab.now) q (λ k at.
    let rows = c.self.inside.rows.items in
    let here = read_here rows c.args.at c.index.result.now (let l = two c in omega (arith, l)) c.index.ensures in
    let low : (i : ℕ) → i < c.args.at → (row_at rows i).ino ≤ c.args.ino = λ i l. let up = rise c i c.args.at l (let m = two c in omega (arith, m)) in omega (arith, up, first c) in
    let dead : (j n m : ℕ) → c.args.at ≤ j → j < c.args.at + 1 → row_at rows j ≡ record { ino = n; key = m } → map.get (keys_of c.args.slab.now) n ≡ Some m → ⊥ = λ j n m from end is live.
    let row = here ∙ ap (row_at rows) (let e : c.args.at ≡ j = omega (arith, from, end) in e) ∙ is in
    false≢true (sym c.if-is_live.false ∙ c.is_live.ensures.dead (ap (λ (r : OrderRowView). map.get (keys_of c.args.slab.now) r.ino) row ∙ live ∙ ap (λ (r : OrderRowView). Some r.key) (sym row))) in
    elim (in_either (take c.self.inside.packed c.self.inside.rows.items) (drop c.self.inside.read rows) q k (subst (λ a. HasRow a.rows q k) (sym c.self.view_is) (c.requires.listed q k at))) [
      | inl a ↦ let long = length-take c.self.inside.packed rows in let few = c.self.invariant.2 in absurd (omega (arith, a.1, long, few, unread c))
      | inr a ↦ passed rows (rise c) (keys_of c.args.slab.now) c.args.ino c.args.at (c.args.at + 1) low dead q k above (λ _. subst (λ n. q < n) (second c) before) at (subst (λ n. HasRow (drop n rows) q k) (unread c) a)
    ])
