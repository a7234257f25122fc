use Rattle.std.proofs.Common.{rules, ◌≡◌, ◌<◌, ℕ, ◌+◌, List, [], ◌∷◌, ◌++◌, length, take, filter_map, sym, ap, ◌∙◌, arith, false}
use Rattle.std.specs.Prelude.{Option, Some, slice_index_or, is_none}
use Rattle.std.specs.FinMap as map
use Rattle.std.specs.List.{cons_option, list_any}
use Rattle.std.proofs.lemmas.Bool.{true≢false}
use Rattle.std.proofs.lemmas.List.{length-append, take_more}
use Rattle.std.proofs.lemmas.List.Elements.{filter_map-append}
use Rattle.std.proofs.lemmas.List.Folds.{list_any-append}
use Rattle.af_steps.proofs.messages.check_parts.Goals.{then-has_room, else-has_room}
use Rattle.af_steps.proofs.messages.check_parts.Goals as goal

module _ (g : ℕ → Option ℕ) (xs : List ℕ) (i x f : ℕ) (within : i < length xs) (is : x ≡ slice_index_or xs i x) (found : g x ≡ Some f) where
  -- One number more is looked at.
  next : take (i + 1) xs ≡ take i xs ++ x ∷ []
  next = take_more xs i x within ∙ ap (λ y. take i xs ++ y ∷ []) (sym is)

  -- It is open.
  open-more : list_any (λ n. is_none (g n)) (take i xs) ≡ false → list_any (λ n. is_none (g n)) (take (i + 1) xs) ≡ false
  open-more before = ap (list_any (λ n. is_none (g n))) next ∙ list_any-append (λ n. is_none (g n)) (take i xs) (x ∷ []) ∙ grind (arith, before, ap is_none found)

  -- Its file comes into the list.
  file-more : (fs now : List ℕ) → fs ≡ filter_map g (take i xs) → now ≡ fs ++ f ∷ [] → now ≡ filter_map g (take (i + 1) xs)
  file-more fs now before after = after ∙ ap (λ ys. ys ++ f ∷ []) before ∙ sym (ap (filter_map g) next ∙ filter_map-append g (take i xs) (x ∷ []) ∙ ap (λ r. filter_map g (take i xs) ++ cons_option r []) found)

pub loop-fd-preserved : goal.loop-fd-preserved
loop-fd-preserved c =
    let g = map.get c.args.process.now.process.table in
    let xs = c.args.attach.now in
    let i = c.loop-fd.fd-index in
    let x = c.fd-item.result in
    let found : g x ≡ Some c.in-Some.file = search rules in
    let open_so_far = open-more g xs i x c.in-Some.file c.loop-fd-test.true c.fd-item.is found c.loop-fd.invariant.open_so_far in
    elim c.if-has_room.branch [
      | then-has_room w ↦
          let yes = w.if-has_room.true in
          let items = ap (λ fs. fs.items) w.files-is ∙ w.push_reserved.ensures.items in
          record {
            open_so_far = open_so_far;
            files = λ _. file-more g xs i x c.in-Some.file c.loop-fd-test.true c.fd-item.is found c.loop-fd.files.items c.if-has_room.files.items (c.loop-fd.invariant.files yes) items;
            none = λ no. absurd (true≢false (sym yes ∙ no));
            few = (let long = ap length items ∙ length-append c.loop-fd.files.items _ in let before = c.loop-fd.invariant.few in omega (arith, long, before));
            room = λ _. (let same = ap (λ fs. fs.capacity) w.files-is ∙ w.push_reserved.ensures.capacity in let before = c.loop-fd.invariant.room yes in omega (arith, same, before));
          }
      | else-has_room w ↦
          let no = w.if-has_room.false in
          let same = ap (λ fs. fs.items) w.files-is in
          record {
            open_so_far = open_so_far;
            files = λ yes. absurd (true≢false (sym yes ∙ no));
            none = λ _. same ∙ c.loop-fd.invariant.none no;
            few = (let before = c.loop-fd.invariant.few in let long = ap length same in omega (arith, long, before));
            room = λ yes. absurd (true≢false (sym yes ∙ no));
          }
    ]
