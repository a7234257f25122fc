-- How many places hold a file, and how many are charged to a user: numbers of places, repeats
-- included. Definitions that name no manual page are this project's own, or of its profile
-- (docs/PROFILE.md).
use Rattle.std.specs.Prelude.{◌≡◌, ℕ, ◌+◌, Bool, List, length, nat_eq, false, if◌then◌else◌}
use Rattle.std.specs.List.{sum_by, count_by}
use Rattle.std.specs.FinMap as map
use Rattle.std.specs.Option.{option_map_or}
use Rattle.af_base.specs.World.{World, Map, Message}
use Rattle.af_base.specs.Places.{attached_in, backlog_of, contents, queue_of}

-- The sum of the values of a map.
abbrev pub total_of : {X : Type 0} → (X → ℕ) → Map X → ℕ
total_of f m = sum_by (λ e. f e.1) (map.entries m)

-- How often a list has f.
abbrev pub count_in : ℕ → List ℕ → ℕ
count_in f xs = count_by (nat_eq f) xs

-- The list has just the keys whose value is chosen, each once.
abbrev pub ListsExactly : {X : Type 0} → (X → Bool) → Map X → List ℕ → Type 0
ListsExactly chosen m fs = (f : ℕ)
    → count_in f fs ≡ (if option_map_or chosen (map.get m f) false then 1 else 0)

-- One where the two are equal.
abbrev pub one : ℕ → ℕ → ℕ
one f g = if nat_eq f g then 1 else 0

-- The number of descriptors that refer to f, in all tables (open(2)).
abbrev pub tabled : World → ℕ → ℕ
tabled w f = total_of (λ p. total_of (λ g. one f g) p.table) w.processes

-- The reference count: how many places hold f, in tables, queues and backlogs (close(2): a
-- description is freed with its last reference).
abbrev pub refs : World → ℕ → ℕ
refs w f = tabled w f + total_of (λ x. count_in f (contents x)) w.files

-- The in-flight count: how many queue places hold f, sent and not yet accepted by a receive
-- (unix(7), ETOOMANYREFS).
abbrev pub inflight : World → ℕ → ℕ
inflight w f = total_of (λ x. count_in f (attached_in (queue_of x))) w.files

-- How many backlog places hold f: one, where f is an embryo (listen(2)).
abbrev pub waiting : World → ℕ → ℕ
waiting w f = total_of (λ x. count_in f (backlog_of x)) w.files

-- The charge of a message to user u: the number of attached files, repeats included, if u sent it.
abbrev pub charge : ℕ → Message → ℕ
charge u m = if nat_eq u m.user then length m.attached else 0

-- The charge of user u: the queue places in messages that its processes sent (unix(7),
-- ETOOMANYREFS; whom it counts is this project's profile).
abbrev pub charged : World → ℕ → ℕ
charged w u = total_of (λ x. sum_by (charge u) (queue_of x)) w.files

-- All queue places (unix(7), ETOOMANYREFS).
abbrev pub total : World → ℕ
total w = total_of (λ x. sum_by (λ m. length m.attached) (queue_of x)) w.files
