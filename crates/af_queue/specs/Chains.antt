-- Messages of many queues in one slab, each linked to the one behind it. Definitions that name no
-- manual page are this project's own.
use Rattle.std.specs.Prelude.{◌≡◌, ◌&&◌, Bool, nat_lt, ◌<◌, ◌≤◌, ◌+◌, ◌^◌, ℕ, zero, suc, List, [], ◌∷◌, Some, nat_eq, true, false}
use Rattle.std.specs.List.{list_any}
use Rattle.std.specs.Option.{option_map_or}
use Rattle.slab.specs.Slab as slots
use Rattle.slab.specs.Slab.{HasRoomFor, Slab, slab_len}
use Rattle.af_base.specs.World.{Message}
use Rattle.af_base.specs.Places.{attached_in}
use Rattle.af_base.specs.Whole.{IsMessageWithin}
use Rattle.af_base.specs.declared.limits.TheConstants.{MAX_MESSAGES}
use Rattle.af_queue.specs.declared.chain.Chain.{Chain}
use Rattle.af_queue.specs.declared.chain.Node.{Node}

-- The key of the one behind.
abbrev pub next_at : Slab Node → ℕ → ℕ
next_at s k = option_map_or (λ x. x.next) (slots.get s k) 0

-- The keys of n nodes from this one on.
abbrev pub node_keys_from : Slab Node → ℕ → ℕ → List ℕ
node_keys_from s k zero = []
node_keys_from s k (suc n) = k ∷ node_keys_from s (next_at s k) n

-- The messages of n nodes from this one on.
abbrev pub messages_from : Slab Node → ℕ → ℕ → List Message
messages_from s k zero = []
messages_from s k (suc n) =
    option_map_or (λ x. x.message ∷ messages_from s x.next n) (slots.get s k) []

-- The keys of a queue's nodes.
abbrev pub node_keys : Slab Node → Chain → List ℕ
node_keys s c = node_keys_from s c.first c.len

-- The messages of a queue, first in, first out.
abbrev pub messages_of : Slab Node → Chain → List Message
messages_of s c = messages_from s c.first c.len

-- The n nodes from this one on exist, and are distinct, and each message is within the limits; the
-- last has key l.
abbrev pub IsPath : Slab Node → ℕ → ℕ → ℕ → Type 0
IsPath s l k zero = k ≡ k
IsPath s l k (suc n) =
    (x : Node) × ((slots.get s k ≡ Some x)
    × (list_any (nat_eq k) (node_keys_from s x.next n) ≡ false) × (n ≡ zero → k ≡ l)
    × IsMessageWithin x.message × IsPath s l x.next n)

-- The nodes of a queue, 64 at most, are linked. Its messages have attached files only if it says
-- so.
pub record IsChain (s : Slab Node) (c : Chain) : Type 0 where
  pub few : c.len ≤ MAX_MESSAGES
  pub path : IsPath s c.last c.first c.len
  pub no_files : c.has_files ≡ false → attached_in (messages_of s c) ≡ []

-- Whether the node at this key is one of the queue's.
abbrev pub has_node : Slab Node → Chain → ℕ → Bool
has_node s c q = list_any (nat_eq q) (node_keys s c)

-- No node is of both queues.
abbrev pub AreApart : Slab Node → Chain → Chain → Type 0
AreApart s c d = (q : ℕ) → has_node s c q ≡ true → has_node s d q ≡ false

-- Each node that is not of the queue c is as it was, and not of the queue d, which c became.
abbrev pub SameElsewhere : Slab Node → Chain → Slab Node → Chain → Type 0
SameElsewhere s c t d = (q : ℕ) (x : Node) → slots.get s q ≡ Some x → has_node s c q ≡ false
    → (slots.get t q ≡ Some x) × (has_node t d q ≡ false)

-- No node is lost: as many come and go as the queue has messages more or less.
abbrev pub KeepsNodes : Slab Node → Chain → Slab Node → Chain → Type 0
KeepsNodes s c t d = slab_len t + c.len ≡ slab_len s + d.len

-- The slab has room for one node more, under a key of 32 bits.
abbrev pub HasRoom : Slab Node → Type 0
HasRoom s = HasRoomFor s 1 × (s.vacant_key < 2 ^ 32)

-- Whether the slab has room for one node more, under a key of 32 bits.
abbrev pub has_room : Slab Node → Bool
has_room s = nat_lt (slab_len s) s.capacity && nat_lt s.vacant_key (2 ^ 32)
