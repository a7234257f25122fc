use Rattle.std.proofs.Common.{◌≡◌, ◌≤◌, ◌+◌, ◌-◌, ℕ, List, length, take, drop, sym, ap, ◌∙◌, arith, length-drop}
use lib.Seq.{paste}
use Rattle.std.specs.List.{refill}
use Rattle.std.proofs.lemmas.List.{take_all, take_at}
use Rattle.std.proofs.lemmas.List.Edits.{take-paste}
use Rattle.af_base.proofs.items.Items.keep.Goals as goal

-- A part of the list that is moved to its front.
moved : {A : Type 0} (s r p : List A) (from count : ℕ) → from + count ≤ length s → r ≡ s → length p ≡ length r → p ≡ paste r 0 (drop from r) (from + count - from) → take count (refill (length s) s p) ≡ take count (drop from s)
moved s r p from count fits same len is =
    let parts : from + count - from ≡ count = omega arith in
    let on : count ≡ 0 + count = omega arith in
    ap (take count) (take_at p (drop (length p) s) (length s) (len ∙ ap length same) ∙ is ∙ (λ i. paste (same i) 0 (drop from (same i)) (parts i)))
    ∙ ap (λ k. take k (paste s 0 (drop from s) count)) on ∙ take-paste s 0 (drop from s) count (omega arith) (omega (arith, length-drop from s))

pub returns-then-count-len : goal.returns-then-count-len
returns-then-count-len g c =
    let s = c.self.inside.items.items in
    c.truncate.ensures.items ∙ moved s c.as_mut_slice.result.now c.copy_within.new.self c.args.from c.args.count (omega (arith, ap length c.self.view_is)) c.as_mut_slice.ensures.value c.copy_within.ensures.len c.copy_within.ensures.after
    ∙ ap (λ l. take c.args.count (drop c.args.from l)) c.self.view_is

-- All items stay.
whole : {A : Type 0} (s : List A) (from count : ℕ) → from + count ≤ length s → length s ≤ count → s ≡ take count (drop from s)
whole s from count fits all =
    let none : from ≡ 0 = omega arith in
    sym (ap (λ n. take count (drop n s)) none ∙ take_all count s all)

pub returns-else-count-len : goal.returns-else-count-len
returns-else-count-len g c = whole c.args.self.now c.args.from c.args.count c.requires (omega arith)
