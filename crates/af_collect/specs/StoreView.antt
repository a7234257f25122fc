-- The view of a store, and the invariant of its parts. Definitions that name no manual page are of
-- this project's profile (docs/PROFILE.md).
use Rattle.std.specs.Prelude.{◌≡◌, ℕ, Bool, List, [], Option, None, Some, slice_get, true}
use Rattle.std.specs.Option.{option_map_or}
use Rattle.af_base.specs.declared.events.Reply.{Reply}
use Rattle.af_base.specs.declared.events.Reply.TheVariants as reply
use Rattle.af_base.specs.Pass.{Pass}
use Rattle.af_base.specs.Places.{queue_at}
use Rattle.af_base.specs.World.{IsLive, Map, Since, World}
use Rattle.af_table.specs.Procs.{row_in}
use Rattle.af_collect.specs.HoldingsView.{HoldingsView}
use Rattle.af_mark.specs.MarksView.{MarksView, is_marked}
use Rattle.af_collect.specs.Keeping.{PassInvariant, is_marking, shaded_all}
use Rattle.af_collect.specs.declared.progress.PassProgress.{PassProgress}

-- The world, the size of each table, whether there is room for a message more, the world when the
-- last pass began, the running pass, its marks, its progress, and the period of the lists.
pub record StoreView : Type 0 where
  pub world : World
  pub rows : Map ℕ
  pub message_room : Bool
  pub begun : World
  pub pass : Pass
  pub marks : MarksView
  pub progress : PassProgress
  pub since : Since

-- Below which number process p has room: below none, where there is no such process.
abbrev pub room_at : StoreView → ℕ → ℕ
room_at s p = row_in s.rows p

-- The invariant of the pass of this store.
abbrev pub KeepsPass : StoreView → Type 0
KeepsPass s = PassInvariant s.world s.begun s.marks s.progress

-- All these files are shaded, and nothing else changes.
abbrev pub Shades : List ℕ → HoldingsView → HoldingsView → Type 0
Shades files old new = new ≡ record old { marks = shaded_all files old.marks }

-- Where a pass marks, each of these files that was there at its begin is marked.
abbrev pub MarksAll : (ℕ → Type 0) → StoreView → StoreView → Type 0
MarksAll these old new = is_marking old.progress.stage ≡ true → (f : ℕ) → these f
    → IsLive old.begun f → is_marked new.marks f ≡ true

-- The reply to a slice: the pass has work left, or it is done, and this many sockets were garbage.
abbrev pub slice_reply : ℕ → Option ℕ → Reply
slice_reply pass None = reply.Working
slice_reply pass (Some n) = reply.Done pass n

-- The files attached to the first message of the queue of s.
abbrev pub first_attached : World → ℕ → List ℕ
first_attached w s = option_map_or (λ m. m.attached) (slice_get (queue_at w s) 0) []
