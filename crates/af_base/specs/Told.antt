-- The lists of files that were freed, and of sockets whose readiness may have changed, since both
-- were last emptied. Definitions that name no manual page are this project's own.
use Rattle.std.specs.Prelude.{◌≡◌, ◌+◌, ◌≤◌, ℕ, Bool, true, List, IsTrue, is_some, nat_lt, if◌then◌else◌}
use Rattle.std.specs.Option.{option_and_then}
use Rattle.std.specs.FinMap as map
use Rattle.af_base.specs.declared.events.State.TheVariants as state
use Rattle.af_base.specs.Counts.{count_in}
use Rattle.af_base.specs.Ready.{face_in, ready, ready_in}
use Rattle.af_base.specs.Refusals.{socket_of}
use Rattle.af_base.specs.Whole.{state_at}
use Rattle.af_base.specs.World.{File, Map, Since, World}

-- Whether the number was live when the lists were emptied last, or was given out since.
abbrev pub was_given : Since → ℕ → ℕ → Bool
was_given since next f =
    if nat_lt f since.next then map.contains_key since.files f else nat_lt f next

-- Each number that was live then, or was given out since, is live or in the list, once; no other is
-- in it.
abbrev pub AreReleased : {V : Type 0} → Map V → ℕ → Since → List ℕ → Type 0
AreReleased live next since told = (f : ℕ)
    → count_in f told + (if map.contains_key live f then 1 else 0)
    ≡ (if was_given since next f then 1 else 0)

-- Whether the number is a socket's among these files.
abbrev pub is_socket_in : Map File → ℕ → Bool
is_socket_in files f = is_some (option_and_then socket_of (map.get files f))

-- Each number in the list is there once, and is a live socket's.
abbrev pub AreSocketsOnce : Map File → List ℕ → Type 0
AreSocketsOnce files told = (f : ℕ) → count_in f told ≤ (if is_socket_in files f then 1 else 0)

-- A socket that is not in the list has the face that it had then.
abbrev pub AreChanged : Map File → Since → List ℕ → Type 0
AreChanged files since told = (f : ℕ) → IsTrue (is_socket_in files f) → count_in f told ≡ 0
    → face_in files f ≡ face_in since.files f

-- The list has the files of the world that were freed.
abbrev pub TellsReleased : World → Since → List ℕ → Type 0
TellsReleased w since told = since.released ≡ true → AreReleased w.files w.next_ino since told

-- The target q is not in the list, and was not freed since.
pub record HasTargetAsThen (w : World) (since : Since) (told : List ℕ) (q : ℕ) : Type 0 where
  pub untold : count_in q told ≡ 0
  pub there : IsTrue (is_socket_in since.files q) → IsTrue (is_socket_in w.files q)

-- A socket that is not in the list, and whose peer or target is not, is ready for what it was then;
-- but for one whose target was freed, which the list of freed files tells.
abbrev pub TellsChanged : World → Since → List ℕ → Type 0
TellsChanged w since told =
    since.changed ≡ true → (f : ℕ) → IsTrue (is_socket_in w.files f)
    → count_in f told ≡ 0 → ((q : ℕ) → state_at w f ≡ state.Connected q → count_in q told ≡ 0)
    → ((q : ℕ) → state_at w f ≡ state.Sends q → HasTargetAsThen w since told q)
    → ready w f ≡ ready_in since.files f
