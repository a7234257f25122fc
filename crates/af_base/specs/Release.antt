-- A measure of what a release can find to do.
use Rattle.std.specs.Prelude.{ℕ, length}
use Rattle.af_base.specs.World.{World}
use Rattle.af_base.specs.Places.{queue_of}
use Rattle.af_base.specs.Counts.{total_of}

-- How many messages wait in all queues together (unix(7)).
abbrev pub messages_in : World → ℕ
messages_in w = total_of (λ x. length (queue_of x)) w.files
