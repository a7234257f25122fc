-- The world after a file lost the first of the files that it holds, and the files after a
-- descriptor lost its own. Definitions that name no manual page are of this project's profile
-- (docs/PROFILE.md).
use Rattle.std.specs.Prelude.{ℕ, ◌+◌, ◌∷◌, [], Option, drop, length, nat_eq, if◌then◌else◌}
use Rattle.std.specs.Option.{option_map_or}
use Rattle.af_base.specs.World.{World}
use Rattle.af_base.specs.Places.{backlog_at, queue_at}
use Rattle.af_base.specs.Changes.{dequeued, with_queue, with_socket}
use Rattle.af_desc.specs.FilesView.{FilesView, without_file_ref}
use Rattle.af_ledger.specs.declared.place.Place.TheVariants.{Table}
use Rattle.af_collect.specs.declared.progress.Stage.{Stage}
use Rattle.af_collect.specs.Keeping.{shaded_in}

-- How many messages and embryos wait at a file (unix(7), listen(2)).
abbrev pub places_at : World → ℕ → ℕ
places_at w s = length (queue_at w s) + length (backlog_at w s)

-- The world without the first message of a file, or, where it has none, without its first embryo.
abbrev pub without_place : World → ℕ → World
without_place w s = if nat_eq (length (queue_at w s)) 0 then with_socket w s dequeued
    else with_queue w s (drop 1 (queue_at w s))

-- The files after a descriptor lost its reference to f, which is marked while marking.
abbrev pub without_descriptor : Stage → ℕ → FilesView → FilesView
without_descriptor stage f v = without_file_ref Table f (record v {
  marks = shaded_in stage (f ∷ []) v.marks;
})

-- The files after a descriptor lost its reference to this file, if it referred to one.
abbrev pub vacated : Stage → Option ℕ → FilesView → FilesView
vacated stage o v = option_map_or (λ f. without_descriptor stage f v) o v
