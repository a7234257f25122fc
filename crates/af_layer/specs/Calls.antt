-- The effect of a call, and when it does nothing. The definition that names no manual page is of
-- this project's profile (docs/PROFILE.md).
use Rattle.std.specs.Prelude.{◌≡◌, ◌≤◌, ◌+◌, ◌++◌, ◌∷◌, [], ◌&&◌, Bool, if◌then◌else◌, ℕ, Option, Some, None, Result, Err, IfErr, length, nat_le}
use Rattle.af_base.specs.declared.events.Event.{Event}
use Rattle.af_base.specs.declared.events.Reply.{Reply}
use Rattle.af_base.specs.declared.limits.TheConstants.{MAX_LOG}
use Rattle.af_base.specs.Run.{Step}
use Rattle.af_layer.specs.declared.book.CallError.{CallError}
use Rattle.af_layer.specs.declared.book.CallError.TheVariants as fault
use Rattle.af_layer.specs.Log.{BookView}

-- The number is that of a seat, counted from 1.
abbrev pub is_seat : ℕ → ℕ → Bool
is_seat seats k = nat_le 1 k && nat_le k seats

-- Why a call does nothing, but for out of memory, in this order: there is no such seat, or the log
-- is full.
abbrev pub call_refusal : BookView → ℕ → Option CallError
call_refusal b k = if is_seat b.seats k
    then (if nat_le MAX_LOG (length b.log) then Some fault.LogFull else None) else Some fault.NoSeat

-- A refusal is what the call answers; where there is none, it fails only for lack of memory.
abbrev pub RefusedBy : {R : Type 0} → Option CallError → Result R CallError → Type 0
RefusedBy (Some e) r = r ≡ Err e
RefusedBy None r = IfErr r (λ e. e ≡ fault.NoRoom)

-- A call: the machine does one step, and the book appends the entry of this seat with the event and
-- its reply. That uses up the room of one entry at most.
pub record Calls (old : BookView) (seat : ℕ) (e : Event) (r : Reply) (new : BookView) : Type 0 where
  pub log : new.log ≡ old.log ++ record { seat = seat; event = e; reply = r } ∷ []
  pub step : Step old.machine e r new.machine
  pub seats : new.seats ≡ old.seats
  pub start : new.start ≡ old.start
  pub room : old.room ≤ new.room + 1
