use Rattle.std.proofs.Common.{rules, ◌≡◌, ◌<◌, ◌+◌, ◌++◌, ◌∷◌, [], ℕ, List, ap, slice_index_or, sym, ◌∙◌, subst}
use Rattle.af_layer.specs.Seats.{SeatView}
use Rattle.af_layer.proofs.FirstSeats.{one_seat_more}
use Rattle.af_layer.proofs.layer.Layer.open.Goals as goal

pub loop-before-preserved : goal.loop-before-preserved
loop-before-preserved c =
    let before = c.loop-before.before in
    let pushed = c.push_reserved.ensures.items ∙ ap (λ s. c.loop-before.list.items ++ s ∷ []) c.new-in-loop-before.ensures in
    record {
      len = search rules;
      room = search rules;
      each = subst (λ (l : List SeatView). (i : ℕ) (other : SeatView) → i < before + 1 → slice_index_or l i other ≡ record { number = i + 1; list = [] }) (sym pushed)
          (one_seat_more before c.loop-before.list.items (search rules) c.loop-before.invariant.each);
    }
