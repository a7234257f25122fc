-- The outcome of a call of the engine. Definitions that name no manual page are of this project's
-- profile (docs/PROFILE.md).
use Rattle.std.specs.Prelude.{◌≡◌, ℕ, Bool, true, false, Option, Some, None}
use Rattle.af_base.specs.declared.errno.Errno.{Errno}
use Rattle.af_base.specs.declared.errno.Errno.TheVariants.{ENOMEM}
use Rattle.af_base.specs.declared.events.Reply.{Reply}
use Rattle.af_base.specs.declared.events.Reply.TheVariants as reply
use Rattle.af_base.specs.declared.events.Step.{Step}
use Rattle.af_base.specs.Pass.{Machine, SamePass}
use Rattle.af_base.specs.Refusals.{refusal, spawn_refusal}
use Rattle.af_base.specs.Steps.{ProcessStep, answer, effect, needs_no_memory, spawned}
use Rattle.af_base.specs.Unheld.{Settles}
use Rattle.af_base.specs.World.{World}
use Rattle.af_steps.specs.declared.messages.Received.{Received}
use Rattle.af_steps.specs.declared.messages.Received.TheVariants as got
use Rattle.af_steps.specs.declared.passes.Finished.{Finished}
use Rattle.af_steps.specs.declared.passes.Progress.{Progress}
use Rattle.af_steps.specs.declared.passes.Progress.TheVariants as progress

-- Process p did the step: no test of its row fits, this is the answer, and the changed world is
-- settled. The collector does nothing.
abbrev pub Does : Machine → ℕ → Step → Reply → Machine → Type 0
Does old p s r new = (refusal old.world p s ≡ None) × (r ≡ answer old.world p s)
    × Settles (effect old.world p s) new.world × SamePass old new

-- A process was started: no test of the row fits, this is its number, and the world with it is
-- settled. The collector does nothing.
abbrev pub Starts : Machine → ℕ → ℕ → Bool → ℕ → Machine → Type 0
Starts old uid nofile privileged p new =
    (spawn_refusal old.world nofile ≡ None) × (p ≡ old.world.next_pid)
    × Settles (spawned old.world uid nofile privileged) new.world × SamePass old new

-- The error of a row: that of the first test that fits; if none fits it may be out of memory,
-- unless no memory is needed.
abbrev pub error_of : Option Errno → Bool → Option Errno
error_of (Some e) frugal = Some e
error_of None true = None
error_of None false = Some ENOMEM

-- The error that can come of the step.
abbrev pub step_error : World → ℕ → Step → Option Errno
step_error w p s = error_of (refusal w p s) (needs_no_memory s)

-- The step was refused by this error, and nothing changed.
abbrev pub Refuses : Machine → ℕ → Step → Errno → Machine → Type 0
Refuses old p s e new = (step_error old.world p s ≡ Some e) × (new ≡ old)

-- The start of a process was refused by this error, and nothing changed.
abbrev pub RefusesStart : Machine → ℕ → Errno → Machine → Type 0
RefusesStart old nofile e new =
    (error_of (spawn_refusal old.world nofile) false ≡ Some e) × (new ≡ old)

-- The reply of a receive or a peek (recvmsg(2)).
abbrev pub got_reply : Received → Reply
got_reply (got.Got bytes fds trunc ctrunc) = reply.Got bytes fds trunc ctrunc
got_reply got.End = reply.End

-- The reply of a pass that is over.
abbrev pub finished_reply : Finished → Reply
finished_reply f = reply.Done f.pass f.reclaimed

-- The reply of a slice.
abbrev pub progress_reply : Progress → Reply
progress_reply progress.Working = reply.Working
progress_reply (progress.Done f) = finished_reply f

-- A step of process p leads from `old` to `new` with this reply, and the collector does nothing.
abbrev pub Answers : Machine → ℕ → Step → Reply → Machine → Type 0
Answers old p s r new = ProcessStep old.world p s r new.world × SamePass old new
