-- The content of a ledger, and how one place more or less changes it. Definitions that name no
-- manual page are this project's own.
use Rattle.std.specs.Prelude.{ℕ, ◌+◌, ◌-◌, ◌<◌, ◌≤◌, ◌^◌, Bool, false, IsTrue, List, [], ◌∷◌, ◌++◌, length, nat_eq, unwrap_or, if◌then◌else◌}
use Rattle.std.specs.FinMap as map
use Rattle.std.specs.List.{Contains, list_any}
use Rattle.std.specs.Map.{lookup, keys_of, set_value}
use Rattle.std.specs.Option.{option_map_or}
use Rattle.af_base.specs.World.{Map}
use Rattle.af_base.specs.Counts.{ListsExactly, count_in}
use Rattle.af_ledger.specs.Counted.{CountView, uncounted, places_in, more, fewer, IsCountable, IsCounted}
use Rattle.af_ledger.specs.declared.place.Place.{Place}
use Rattle.af_ledger.specs.declared.place.Place.TheVariants.{Table, Queue, Backlog}

-- Each user with what it is charged, in the order in which they came, and what is charged to all
-- together.
pub record LedgerView : Type 0 where
  pub users : List (ℕ × ℕ)
  pub total : ℕ

-- The numbers of each file that is there, and what users are charged.
pub record Tally : Type 0 where
  pub counts : Map CountView
  pub users : List (ℕ × ℕ)
  pub total : ℕ

-- The content, if the counts of files and the charges are separate.
abbrev pub kept_of : Map CountView → LedgerView → Tally
kept_of counts charged = record { counts = counts; users = charged.users; total = charged.total }

-- The counts of f in this map; all are 0 for an unknown file.
abbrev pub count_in_map : Map CountView → ℕ → CountView
count_in_map m f = unwrap_or (map.get m f) uncounted

-- The numbers of a file.
abbrev pub count_of : Tally → ℕ → CountView
count_of k f = count_in_map k.counts f

-- Whether the numbers of f are kept.
abbrev pub has_count : Tally → ℕ → Bool
has_count k f = map.contains_key k.counts f

-- Whether f is unreferenced: its counts are kept, and no place holds it (close(2): a description is
-- freed with its last reference).
abbrev pub is_unreferenced : Map CountView → ℕ → Bool
is_unreferenced m f = option_map_or (λ c. nat_eq (places_in c) 0) (map.get m f) false

-- The list has each unreferenced file, once, and no other.
abbrev pub AreUnreferenced : Map CountView → List ℕ → Type 0
AreUnreferenced m fs = ListsExactly (λ c. nat_eq (places_in c) 0) m fs

-- The number of places that hold a file (close(2): a description is freed with its last reference).
abbrev pub refs_of : Tally → ℕ → ℕ
refs_of k f = places_in (count_of k f)

-- The charge of a user; 0 for an unknown one (unix(7), ETOOMANYREFS; whom it counts is this
-- project's own).
abbrev pub charge_in : List (ℕ × ℕ) → ℕ → ℕ
charge_in us u = unwrap_or (lookup (nat_eq u) us) 0

-- The same of what is kept.
abbrev pub charge_of : Tally → ℕ → ℕ
charge_of k u = charge_in k.users u

-- The users with another charge of u, if u is there.
abbrev pub recharged : (ℕ → ℕ) → ℕ → List (ℕ × ℕ) → List (ℕ × ℕ)
recharged g u us = option_map_or (λ n. set_value (nat_eq u) us (g n)) (lookup (nat_eq u) us) us

-- Whether the user is there.
abbrev pub is_user : ℕ → List (ℕ × ℕ) → Bool
is_user u us = list_any (nat_eq u) (keys_of us)

-- The users and u, last if it is new, and then with no charge.
abbrev pub with_user : ℕ → List (ℕ × ℕ) → List (ℕ × ℕ)
with_user u us = if is_user u us then us else us ++ (u, 0) ∷ []

-- This many units of charge more (unix(7), ETOOMANYREFS: sent, and not yet received).
abbrev pub charged_by : ℕ → ℕ → Tally → Tally
charged_by units u k = record k {
  users = recharged (λ n. n + units) u k.users;
  total = k.total + units;
}

-- This many units of charge less (unix(7), ETOOMANYREFS).
abbrev pub freed_by : ℕ → ℕ → Tally → Tally
freed_by units u k = record k {
  users = recharged (λ n. n - units) u k.users;
  total = k.total - units;
}

-- The unit of charge of a place more: only one in a queue has one.
abbrev pub charged_more : Place → Tally → Tally
charged_more Table k = k
charged_more (Queue u) k = charged_by 1 u k
charged_more Backlog k = k

-- The unit of charge of a place less.
abbrev pub charged_less : Place → Tally → Tally
charged_less Table k = k
charged_less (Queue u) k = freed_by 1 u k
charged_less Backlog k = k

-- One place more holds f.
abbrev pub with_ref : Place → ℕ → Tally → Tally
with_ref p f k =
    charged_more p (record k { counts = map.insert k.counts f (more p (count_of k f)) })

-- One place less holds f.
abbrev pub without_ref : Place → ℕ → Tally → Tally
without_ref p f k =
    charged_less p (record k { counts = map.insert k.counts f (fewer p (count_of k f)) })

-- A charged user is known, and the charges are low enough for one unit more.
abbrev pub IsChargeable : Place → Tally → Type 0
IsChargeable Table k = Unit {0}
IsChargeable (Queue u) k =
    IsTrue (is_user u k.users) × (charge_of k u < 2 ^ 63) × (k.total < 2 ^ 63)
IsChargeable Backlog k = Unit {0}

-- The unit is charged.
abbrev pub IsCharged : Place → Tally → Type 0
IsCharged Table k = Unit {0}
IsCharged (Queue u) k = (0 < charge_of k u) × (0 < k.total)
IsCharged Backlog k = Unit {0}

-- A place more of f can be counted and charged.
abbrev pub CanHold : Place → ℕ → Tally → Type 0
CanHold p f k = IsCountable p (count_of k f) × IsChargeable p k

-- A place in a queue more of each of these files can be counted, and charged to user u.
pub record CanHoldAll (u : ℕ) (fs : List ℕ) (k : Tally) : Type 0 where
  pub known : (f : ℕ) → Contains fs f → IsTrue (has_count k f)
  pub countable : (f : ℕ) → (count_of k f).inflight + length fs < 2 ^ 21
  pub user : IsTrue (is_user u k.users)
  pub charge : charge_of k u + length fs < 2 ^ 63
  pub total : k.total + length fs < 2 ^ 63

-- One place more holds each of these files.
abbrev pub with_refs : Place → List ℕ → Tally → Tally
with_refs p [] k = k
with_refs p (f ∷ fs) k = with_refs p fs (with_ref p f k)

-- A place in a queue of each of these files is counted, and charged to user u.
pub record CanDropAll (u : ℕ) (fs : List ℕ) (k : Tally) : Type 0 where
  pub counted : (f : ℕ) → count_in f fs ≤ (count_of k f).inflight
  pub charge : length fs ≤ charge_of k u
  pub total : length fs ≤ k.total

-- One place less holds each of these files.
abbrev pub without_refs : Place → List ℕ → Tally → Tally
without_refs p [] k = k
without_refs p (f ∷ fs) k = without_refs p fs (without_ref p f k)

-- A place of f is counted and charged.
abbrev pub CanDrop : Place → ℕ → Tally → Type 0
CanDrop p f k = IsCounted p (count_of k f) × IsCharged p k
