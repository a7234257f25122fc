-- The outcome of a delivery.
use Rattle.std.specs.Prelude.{◌≡◌, ℕ, Bool, false, List, [], ◌∷◌, Option, Some, is_none}
use Rattle.std.specs.FinMap as map
use Rattle.std.specs.Option.{option_and_then}
use Rattle.jaywardrobe.specs.Types.reply
use Rattle.jaywardrobe.specs.Types.step
use Rattle.jaywardrobe.specs.Outcome.{Does}
use Rattle.jaywardrobe.specs.OwnedView.{OwnedView}
use Rattle.jaywardrobe.specs.Pass.{Machine}
use Rattle.jaywardrobe.specs.Places.{table_at}
use Rattle.jaywardrobe.specs.Refusals.{ino_on, socket_at, socket_on}
use Rattle.jaywardrobe.specs.World.{World}

-- A descriptor of process q refers to the file of a descriptor of process p (unix(7), SCM_RIGHTS:
-- an open file description travels).
abbrev pub Delivers : World → ℕ → ℕ → World → ℕ → ℕ → Type 0
Delivers old p n new q m = (f : ℕ) × (table_at old p n ≡ Some f) × (table_at new q m ≡ Some f)

-- The value of the file of a descriptor of process p.
abbrev pub descriptor_value : {T : Type 0} → OwnedView T → ℕ → ℕ → Option T
descriptor_value o p n = option_and_then (map.get o.values) (table_at o.machine.world p n)

-- Process p has a socket at n, in whose queue nothing waits.
pub record IsIdle (w : World) (p n : ℕ) : Type 0 where
  pub open_number : is_none (table_at w p n) ≡ false
  pub is_socket : is_none (socket_at w (ino_on w p n)) ≡ false
  pub empty : (socket_on w p n).queue ≡ []

-- Process p received one descriptor at n, and has it at `got` (recvmsg(2)).
abbrev pub Takes : Machine → ℕ → ℕ → ℕ → Machine → Type 0
Takes old p n got new =
    (bytes : List ℕ) × (trunc : Bool) × (ctrunc : Bool)
    × Does old p (step.Recv n 1 1) (reply.Got bytes (got ∷ []) trunc ctrunc) new
