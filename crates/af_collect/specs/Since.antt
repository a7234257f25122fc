-- The invariant of a running pass, over the world at its begin and the world now. Definitions that
-- name no manual page are of this project's profile (docs/PROFILE.md).
use Rattle.std.specs.Prelude.{◌≡◌, ◌≤◌, ◌<◌, ◌+◌, ◌*◌, ℕ, Bool, true, false, not, ◌&&◌, ◌||◌, nat_eq, ◌⊎◌}
use Rattle.std.specs.List.{count_by}
use Rattle.std.specs.Option.{option_map_or}
use Rattle.std.specs.FinMap as map
use Rattle.af_base.specs.World.{World, IsLive, is_live}
use Rattle.af_base.specs.Places.{Holds, InTable}
use Rattle.af_base.specs.Reached.{Garbage, IsGarbageCount, Reached, is_socket}
use Rattle.af_base.specs.Whole.{IsSound}

-- Whether the file is a socket (unix(7)).
abbrev pub is_socket_at : World → ℕ → Bool
is_socket_at w f = option_map_or is_socket (map.get w.files f) false

-- How many files of the begin are live now and pass the test.
abbrev pub live_count : World → World → (ℕ → Bool) → ℕ
live_count begun now test = count_by (λ e. is_live now e.0 && test e.0) (map.entries begun.files)

-- How many sockets of the begin are live now and not marked.
abbrev pub left_count : World → World → (ℕ → Bool) → ℕ
left_count begun now marked = count_by (λ e. is_socket e.1 && (is_live now e.0 && not (marked e.0)))
    (map.entries begun.files)

-- A holder of garbage of the begin is garbage of the begin, and no table holds any: none strays to
-- where a process could reach it (net/unix/garbage.c: garbage stays out of reach).
pub record NoneStray (begun now : World) : Type 0 where
  pub queues : (s f : ℕ) → Holds now s f → Garbage begun f → Garbage begun s
  pub tables : (f : ℕ) → Garbage begun f → ¬ (InTable now f)

-- The begin was sound; its files are those below the bound, as long as they live, and no other file
-- becomes one of them (this project's profile: a number is never used again).
pub record IsSince (begun now : World) (bound : ℕ) : Type 0 where
  pub sound : IsSound begun
  pub below : (f : ℕ) → IsLive begun f → f < bound
  pub old : (f : ℕ) → IsLive now f → f < bound → IsLive begun f
  pub kinds : (f : ℕ) → IsLive begun f → IsLive now f → is_socket_at now f ≡ is_socket_at begun f
  pub stray : NoneStray begun now

-- Whether the file was marked and scanned (net/unix/garbage.c).
abbrev pub is_scanned : (ℕ → Bool) → (ℕ → Bool) → ℕ → Bool
is_scanned marked grey f = marked f && not (grey f)

-- A file that a reached file of the begin held is marked, or freed, or its holder is live, not
-- scanned, and holds it still; a file that a table held is marked, or freed, or not visited and in
-- a table; no garbage is marked (net/unix/garbage.c: from the tables on).
pub record AreMarks (begun now : World) (marked grey visited : ℕ → Bool) : Type 0 where
  pub queues : (s f : ℕ) → Reached begun s → Holds begun s f
      → (marked f ≡ true) ⊎ ((is_live now f ≡ false)
      ⊎ ((is_live now s ≡ true) × (is_scanned marked grey s ≡ false) × Holds now s f))
  pub tables : (f : ℕ) → InTable begun f
      → (marked f ≡ true) ⊎ ((is_live now f ≡ false) ⊎ ((visited f ≡ false) × InTable now f))
  pub only_reached : (f : ℕ) → Garbage begun f → marked f ≡ false

-- Marking continues: the marks are as they should be, and the garbage of the begin is live and
-- keeps its places.
pub record IsMarking (begun now : World) (marked grey visited : ℕ → Bool) : Type 0 where
  pub marks : AreMarks begun now marked grey visited
  pub live : (f : ℕ) → Garbage begun f → IsLive now f
  pub queues : (s f : ℕ) → Garbage begun f → Holds begun s f → Holds now s f

-- Marking has ended: each unmarked file is garbage of the begin, the swept ones hold none of it,
-- and the freed sockets of it were counted.
pub record IsSweeping (begun now : World) (marked swept : ℕ → Bool) (reclaimed : ℕ) : Type 0 where
  pub unmarked : (f : ℕ) → IsLive begun f → IsLive now f → marked f ≡ false → Garbage begun f
  pub only_reached : (f : ℕ) → Garbage begun f → marked f ≡ false
  pub empty : (s f : ℕ) → swept s ≡ true → Holds now s f → ¬ (Garbage begun f)
  pub counted : IsGarbageCount begun (reclaimed + left_count begun now marked)

-- The units done are at least the live files of the begin that were visited, scanned and swept.
-- With those that are left they are at most three for each file of the begin (this project's
-- profile: what a budget counts).
pub record AreCounted (begun now : World) (visited scanned swept : ℕ → Bool)
    (looked : ℕ) : Type 0 where
  pub at_least : live_count begun now visited + live_count begun now scanned
      + live_count begun now swept ≤ looked
  pub at_most : looked + live_count begun now (λ f. not (visited f))
      + live_count begun now (λ f. not (scanned f)) + live_count begun now (λ f. not (swept f))
      ≤ 3 * map.len begun.files

-- A change of places, or a file more: the files of the begin stay as they were, and no garbage of
-- the begin is in a new place.
pub record Moves (begun old new : World) : Type 0 where
  pub live_same : (f : ℕ) → IsLive begun f → is_live new f ≡ is_live old f
  pub live_stay : (f : ℕ) → IsLive old f → IsLive new f
  pub kind_same : (f : ℕ) → IsLive begun f → is_socket_at new f ≡ is_socket_at old f
  pub queues_gain : (s f : ℕ) → Holds new s f → Holds old s f ⊎ (¬ (Garbage begun f))
  pub tables_gain : (f : ℕ) → InTable new f → InTable old f ⊎ (¬ (Garbage begun f))

-- A file that loses a place while marking is marked, and is no garbage of the begin.
pub record Covers (begun old new : World) (marked visited : ℕ → Bool) : Type 0 where
  pub queues_keep : (s f : ℕ) → Garbage begun f → Holds old s f → Holds new s f
  pub queues_lose : (s f : ℕ) → IsLive begun f → Holds old s f → Holds new s f ⊎ (marked f ≡ true)
  pub tables_lose : (f : ℕ) → IsLive begun f → visited f ≡ false → InTable old f
      → InTable new f ⊎ (marked f ≡ true)

-- The test, and x too.
abbrev pub also : (ℕ → Bool) → ℕ → ℕ → Bool
also test x f = test f || nat_eq x f

-- Grey as before, and x too if it was not marked.
abbrev pub also_grey : (ℕ → Bool) → (ℕ → Bool) → ℕ → ℕ → Bool
also_grey marked grey x f = grey f || (nat_eq x f && not (marked f))

-- The test, but not x.
abbrev pub but : (ℕ → Bool) → ℕ → ℕ → Bool
but test x f = test f && not (nat_eq x f)
