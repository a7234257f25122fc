-- Laws of a peek, and of a changed limit. The definition that names no manual page is of this
-- project's profile (docs/PROFILE.md).
use Rattle.std.specs.Prelude.{◌≡◌, ℕ}
use Rattle.af_base.specs.declared.events.Reply.{Reply}
use Rattle.af_base.specs.declared.events.Step.TheVariants as step
use Rattle.af_base.specs.World.{World}
use Rattle.af_base.specs.Places.{queue_at, table_at}
use Rattle.af_base.specs.Counts.{charged, inflight}
use Rattle.af_base.specs.Unheld.{IsSettled}
use Rattle.af_base.specs.Steps.{ProcessStep, taken_on}

-- A peek leaves every queue as it is, with all its files, whatever the answer (recvmsg(2),
-- MSG_PEEK).
abbrev pub PeekChangesNoQueue : Type 0
PeekChangesNoQueue = (old new : World) (p n max_bytes max_fds : ℕ) (r : Reply) → IsSettled old
    → ProcessStep old p (step.Peek n max_bytes max_fds) r new
    → (s : ℕ) → queue_at new s ≡ queue_at old s

-- A peek changes no user's charge.
abbrev pub PeekChangesNoCharge : Type 0
PeekChangesNoCharge = (old new : World) (p n max_bytes max_fds : ℕ) (r : Reply) → IsSettled old
    → ProcessStep old p (step.Peek n max_bytes max_fds) r new
    → (u : ℕ) → charged new u ≡ charged old u

-- A peek changes no file's in-flight count (unix(7): until it is accepted by a receive).
abbrev pub PeekChangesNoFlight : Type 0
PeekChangesNoFlight = (old new : World) (p n max_bytes max_fds : ℕ) (r : Reply) → IsSettled old
    → ProcessStep old p (step.Peek n max_bytes max_fds) r new
    → (f : ℕ) → inflight new f ≡ inflight old f

-- After a peek, a receive or another peek gives what it would have given before: the same bytes and
-- files (recvmsg(2), MSG_PEEK).
abbrev pub PeekSeesWhatIsReceived : Type 0
PeekSeesWhatIsReceived = (old new : World) (p n max_bytes max_fds : ℕ) (r : Reply) → IsSettled old
    → ProcessStep old p (step.Peek n max_bytes max_fds) r new
    → (asked : ℕ) → taken_on new p n asked ≡ taken_on old p n asked

-- A changed limit closes nothing: each descriptor refers to the same file, whatever the reply
-- (setrlimit(2), RLIMIT_NOFILE).
abbrev pub LimitClosesNothing : Type 0
LimitClosesNothing = (old new : World) (p limit : ℕ) (r : Reply) → IsSettled old
    → ProcessStep old p (step.Limit limit) r new → (q n : ℕ) → table_at new q n ≡ table_at old q n
