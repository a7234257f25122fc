-- The reply of a step is no longer than a receive can make it.
use Rattle.std.proofs.Common.{◌≡◌, ◌≤◌, ℕ, ◌+◌, ◌*◌, ◌⊎◌, Bool, true, false, not, inl, inr, List, [], ◌∷◌, length, min, refl, sym, ◌∙◌, subst, cond, arith, nat_eq}
use Rattle.std.specs.Prelude.{Option, Some, None, ◌&&◌, nat_le, nat_lt, if◌then◌else◌}
use Rattle.std.specs.List.{Contains, find}
use Rattle.std.specs.Option.{option_and_then}
use Rattle.std.specs.Prelude.{unwrap_or}
use Rattle.std.specs.FinMap as map
use Rattle.std.proofs.lemmas.Bool.{false≢true, leb-true}
use Rattle.std.proofs.lemmas.List.{length-take}
use Rattle.af_base.specs.World.{AsSocket, File, IsLive, Message, Plain, World}
use Rattle.af_base.specs.Places.{table_at}
use Rattle.af_base.specs.Table.{free_numbers}
use Rattle.af_base.specs.Refusals.{no_socket, process_at, recv_row, refusal, socket_at, socket_of, socket_on, spawn_refusal}
use Rattle.af_base.specs.Run.{Step as MachineStep}
use Rattle.af_base.specs.Steps.{Outcome, answer, effect, got_at, needs_no_memory, received, spawned, taken_on}
use Rattle.af_base.specs.Take.{has_files, joined, take_from}
use Rattle.af_base.specs.Pass.{Begins, GoesOn, Idle, Machine, Pass, PassesWhole, Running, Slices}
use Rattle.af_base.specs.Reached.{Garbage, IsGarbageCount}
use Rattle.af_base.specs.Whole.{IsSound, IsWithin}
use Rattle.af_base.specs.declared.errno.Errno.{Errno}
use Rattle.af_base.specs.declared.errno.Errno.TheVariants.{ESRCH}
use Rattle.af_base.specs.declared.events.Event.{Event}
use Rattle.af_base.specs.declared.events.Event.TheVariants as event
use Rattle.af_base.specs.declared.events.Reply.{Reply}
use Rattle.af_base.specs.declared.events.Reply.TheVariants as reply
use Rattle.af_base.specs.declared.events.SockType.{SockType}
use Rattle.af_base.specs.declared.events.SockType.TheVariants.{Dgram, Seqpacket, Stream}
use Rattle.af_base.specs.declared.events.Step.{Step}
use Rattle.af_base.specs.declared.events.Step.TheVariants as step
use Rattle.af_base.specs.declared.limits.TheConstants.{MAX_BYTES, SCM_MAX_FD}
use Rattle.af_base.proofs.PurgedWorlds.{slice-by}
use Rattle.af_base.proofs.Elements.{Contains-first, Contains-later, Contains-none}
use Rattle.af_base.proofs.Lookups.{none_some, some_same}
use Rattle.af_base.proofs.SoundSteps.{NoneFits, none-fits}
use Rattle.af_base.proofs.ReceivedFiles.{AreWithin, before, find-here, find-later, up_to}
use Rattle.scm_run.specs.Text.{IsShort}

-- A message found in a queue is in it.
found-within : (q : List Message) (m : Message) → find has_files q ≡ Some m → Contains q m
found-within [] m e = absurd (none_some m e)
found-within (x ∷ q) m e = by (found-within q m) (has_files x) refl where
  by : (find has_files q ≡ Some m → Contains q m) → (b : Bool) → has_files x ≡ b → Contains (x ∷ q) m
  by rest true t = subst (Contains (x ∷ q)) (some_same x m (sym (find-here x q t) ∙ e)) (Contains-first x q)
  by rest false t = Contains-later x q m (rest (sym (find-later x q t) ∙ e))

-- A receive from a stream takes at most as many bytes as it asks for, and the files of one message
-- at most.
stream-within : (q : List Message) (n : ℕ) → n ≤ MAX_BYTES → AreWithin q → (o : Option Message) → find has_files q ≡ o → (length (up_to q n o).bytes ≤ MAX_BYTES) × (length (up_to q n o).attached ≤ SCM_MAX_FD)
stream-within q n low k None e = (omega (arith, low, length-take (min n (before q)) (joined q)), by (nat_lt (before q) (min n (before q)))) where
  by : (b : Bool) → length (cond {A = List ℕ} b [] []) ≤ SCM_MAX_FD
  by true = omega arith
  by false = omega arith
stream-within q n low k (Some m) e = (omega (arith, low, length-take (min n (before q + length m.bytes)) (joined q)), by (nat_lt (before q) (min n (before q + length m.bytes)))) where
  few : length m.attached ≤ SCM_MAX_FD
  few = (k m (found-within q m e)).attached

  by : (b : Bool) → length (if b then m.attached else []) ≤ SCM_MAX_FD
  by true = few
  by false = omega arith

-- So is what is taken of it.
taken-within : (kind : SockType) (q : List Message) (n : ℕ) → n ≤ MAX_BYTES → AreWithin q → (length (take_from kind q n).bytes ≤ MAX_BYTES) × (length (take_from kind q n).attached ≤ SCM_MAX_FD)
taken-within Stream q n low k = stream-within q n low k (find has_files q) refl
taken-within Seqpacket [] n low k = (omega arith, omega arith)
taken-within Seqpacket (m ∷ q) n low k =
    let few = (k m (Contains-first m q)).attached in
    (omega (arith, low, length-take n m.bytes), omega (arith, few))
taken-within Dgram [] n low k = (omega arith, omega arith)
taken-within Dgram (m ∷ q) n low k =
    let few = (k m (Contains-first m q)).attached in
    (omega (arith, low, length-take n m.bytes), omega (arith, few))

-- The socket at a number of a process has such a queue.
queue-within : (w : World) (p n : ℕ) → IsWithin w → AreWithin (socket_on w p n).queue
queue-within w p n k = at (table_at w p n) where
  there : (f : ℕ) (o : Option File) → map.get w.files f ≡ o → AreWithin (unwrap_or (option_and_then socket_of o) no_socket).queue
  there f None e = λ m h. absurd (Contains-none m h)
  there f (Some Plain) e = λ m h. absurd (Contains-none m h)
  there f (Some (AsSocket s)) e = (k.sockets f s e).messages

  at : (o : Option ℕ) → AreWithin (unwrap_or (option_and_then (socket_at w) o) no_socket).queue
  at None = λ m h. absurd (Contains-none m h)
  at (Some f) = there f (map.get w.files f) (λ _. map.get w.files f)

-- Both are true where it is not so that one is false.
second : (a b : Bool) → not (a && b) ≡ false → b ≡ true
second true true e = refl
second true false e = absurd (false≢true (sym e))
second false b e = absurd (false≢true (sym e))

-- The reply of a receive or a peek.
received-short : (w : World) (p n max_bytes max_fds : ℕ) → IsWithin w → NoneFits (recv_row w p n max_bytes) → IsShort (received w p n max_bytes max_fds)
received-short w p n max_bytes max_fds k row = by (nat_eq (length (socket_on w p n).queue) 0) where
  asked : max_bytes ≤ MAX_BYTES
  asked = leb-true max_bytes MAX_BYTES (second (nat_le 1 max_bytes) (nat_le max_bytes MAX_BYTES) row.rest.rest.here)

  taken : (length (taken_on w p n max_bytes).bytes ≤ MAX_BYTES) × (length (taken_on w p n max_bytes).attached ≤ SCM_MAX_FD)
  taken = taken-within (socket_on w p n).kind (socket_on w p n).queue max_bytes asked (queue-within w p n k)

  few : length (got_at w p n max_bytes max_fds) ≤ SCM_MAX_FD
  few = let most = taken.1 in omega (arith, most, length-take (min (length (taken_on w p n max_bytes).attached) max_fds) (free_numbers (process_at w p)))

  by : (b : Bool) → IsShort (if b then reply.End else reply.Got (taken_on w p n max_bytes).bytes (got_at w p n max_bytes max_fds) (taken_on w p n max_bytes).trunc (nat_lt (length (got_at w p n max_bytes max_fds)) (length (taken_on w p n max_bytes).attached)))
  by true = tt
  by false = (taken.0, few)

-- The reply of a step that is not refused.
answer-short : (w : World) (p : ℕ) (s : Step) → IsWithin w → refusal w p s ≡ None → IsShort (answer w p s)
answer-short w p (step.Recv n max_bytes max_fds) k fits = received-short w p n max_bytes max_fds k (none-fits ((not (map.contains_key w.processes p), ESRCH) ∷ recv_row w p n max_bytes) fits).rest
answer-short w p (step.Peek n max_bytes max_fds) k fits = received-short w p n max_bytes max_fds k (none-fits ((not (map.contains_key w.processes p), ESRCH) ∷ recv_row w p n max_bytes) fits).rest
answer-short w p s k fits = tt

-- The reply of an outcome.
outcome-short : (now old new : World) (answer r : Reply) (o : Option Errno) (frugal : Bool) → (o ≡ None → IsShort answer) → Outcome o frugal answer now old r new → IsShort r
outcome-short now old new answer r (Some e) frugal short h = subst IsShort (sym h.0) tt
outcome-short now old new answer r None true short h = subst IsShort (sym h.0) (short refl)
outcome-short now old new answer r None false short (inl h) = subst IsShort (sym h.0) (short refl)
outcome-short now old new answer r None false short (inr h) = subst IsShort (sym h.0) tt

-- The reply to the begin of a pass.
begin-short : (p : Pass) (old new : Machine) (r : Reply) → Begins p old r new → IsShort r
begin-short Idle old new r h = subst IsShort (sym h.0) tt
begin-short (Running begun spent) old new r h = subst IsShort (sym h.0) tt

-- The reply to a slice that leaves work.
goes-short : (begun old new : World) (spent b pass : ℕ) (r : Reply) (after : Pass) → Slices begun old spent b pass r new after → IsShort r
goes-short begun old new spent b pass r after h = by h.answered where
  by : ((r ≡ reply.Working) × (after ≡ Running begun (spent + b)) × (spent + b ≤ 3 * map.len begun.files)) ⊎ ((n : ℕ) × IsGarbageCount begun n × (r ≡ reply.Done pass n) × (after ≡ Idle) × ((f : ℕ) → Garbage begun f → ¬ (IsLive new f))) → IsShort r
  by (inl w) = subst IsShort (sym w.0) tt
  by (inr d) = subst IsShort (sym d.2) tt

-- The reply to a slice.
slice-short : (p : Pass) (old new : Machine) (b : ℕ) (r : Reply) → GoesOn p old b r new → IsShort r
slice-short Idle old new b r h = subst IsShort (sym h.0) tt
slice-short (Running begun spent) old new b r h = elim (slice-by begun spent b old new r h) [
  | inl k ↦ subst IsShort (sym k.0) tt
  | inr k ↦ goes-short begun old.world new.world spent b old.last_pass r new.pass k.0
]

-- The reply to a whole pass.
pass-short : (p : Pass) (old new : Machine) (r : Reply) → PassesWhole p old r new → IsShort r
pass-short Idle old new r h = subst IsShort (sym h.0.answered) tt
pass-short (Running begun spent) old new r h = subst IsShort (sym h.0) tt

-- The reply to any event.
pub step-short : (old new : Machine) (e : Event) (r : Reply) → IsSound old.world → MachineStep old e r new → IsShort r
step-short old new (event.Spawn uid nofile privileged) r sound h =
    outcome-short (spawned old.world uid nofile privileged) old.world new.world (reply.Pid old.world.next_pid) r (spawn_refusal old.world nofile) false (λ none. tt) h.0
step-short old new (event.Proc p s) r sound h =
    outcome-short (effect old.world p s) old.world new.world (answer old.world p s) r (refusal old.world p s) (needs_no_memory s) (answer-short old.world p s sound.within) h.0
step-short old new event.Begin r sound h = begin-short old.pass old new r h
step-short old new (event.Slice b) r sound h = slice-short old.pass old new b r h
step-short old new event.Pass r sound h = pass-short old.pass old new r h
