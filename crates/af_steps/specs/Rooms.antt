-- Where a step needs no memory from the allocator. Definitions that name no manual page are of this
-- project's profile (docs/PROFILE.md).
use Rattle.std.specs.Prelude.{◌≡◌, ◌≤◌, ◌<◌, ◌-◌, ℕ, None, length, true}
use Rattle.af_base.specs.declared.events.Event.{Event}
use Rattle.af_base.specs.declared.events.Event.TheVariants as event
use Rattle.af_base.specs.declared.events.Reply.{Reply}
use Rattle.af_base.specs.declared.events.Step.{Step}
use Rattle.af_base.specs.declared.events.Step.TheVariants as step
use Rattle.af_base.specs.Refusals.{process_at, refusal, socket_on}
use Rattle.af_base.specs.Steps.{answer, free_at, got_at}
use Rattle.af_base.specs.Take.{keeps_borders}
use Rattle.af_base.specs.World.{World}
use Rattle.af_table.specs.Rooms.{IsOpenFrom}

-- Process p has room for all that the step adds: in its table, and of a received packet at most
-- four numbers, which lie in the answer. Of other steps nothing is said.
abbrev pub HasRoom : World → ℕ → Step → Type 0
HasRoom w p (step.Dup n) = IsOpenFrom (process_at w p).table (free_at w p 0)
HasRoom w p (step.Dup2 n m) = IsOpenFrom (process_at w p).table m
HasRoom w p (step.Accept n) = IsOpenFrom (process_at w p).table (free_at w p 0)
HasRoom w p (step.Recv n max_bytes max_fds) =
    let q = process_at w p in
    let got = got_at w p n max_bytes max_fds in
    (keeps_borders (socket_on w p n).kind ≡ true) × (length got ≤ 4)
    × (0 < length got → IsOpenFrom q.table (q.limit - 1))
HasRoom w p s = ⊥

-- The step of process p cannot fail: no test of its row fits, and there is room.
pub record CannotFail (w : World) (p : ℕ) (s : Step) : Type 0 where
  pub fits : refusal w p s ≡ None
  pub room : HasRoom w p s

-- Where the step cannot fail, this is the machine's answer, and not ENOMEM.
abbrev pub Succeeds : World → ℕ → Step → Reply → Type 0
Succeeds w p s r = CannotFail w p s → r ≡ answer w p s

-- The same of an event, if it is a step of a process.
abbrev pub EventSucceeds : World → Event → Reply → Type 0
EventSucceeds w (event.Proc p s) r = Succeeds w p s r
EventSucceeds w e r = Unit {0}
