-- The view of a seat.
use Rattle.std.specs.Prelude.{◌++◌, ◌∷◌, [], ℕ, List}
use Rattle.af_base.specs.declared.events.Event.{Event}
use Rattle.af_base.specs.declared.events.Reply.{Reply}
use Rattle.af_layer.specs.Log.{Pair}

-- The number of a seat, and the events that were done from it, in order, each with its reply.
pub record SeatView : Type 0 where
  pub number : ℕ
  pub list : List Pair

-- A seat with one pair more.
abbrev pub grown : SeatView → Event → Reply → SeatView
grown s e r = record s { list = s.list ++ (e, r) ∷ [] }
