-- Messages in a slab, linked one behind another.
use Rattle.std.proofs.Common.{◌≡◌, ◌≢◌, ℕ, zero, suc, ◌+◌, ◌-◌, ◌<◌, ◌||◌, Bool, true, false, List, [], ◌∷◌, ◌++◌, length, refl, sym, ap, ◌∙◌, subst, nat_eq, true≢false, suc-ne-zero, arith, rules}
use Rattle.std.specs.Prelude.{Some, None, IsSome, drop, if◌then◌else◌, nat_le, nat_lt}
use Rattle.std.specs.List.{list_any, slice_get}
use Rattle.std.specs.Option.{option_map_or}
use Rattle.std.proofs.lemmas.Bool.{eqb-true, eq-eqb, ltb-false}
use Rattle.std.proofs.lemmas.List.{length-drop}
use Rattle.slab.specs.Slab as slots
use Rattle.slab.specs.Slab.{SameValues, Slab, Updates}
use Rattle.slab.proofs.SlabLemmas.{Updates-with_value}
use Rattle.std.proofs.lemmas.Grind.{flat_map-append}
use Rattle.af_base.specs.Places.{attached_in}
use Rattle.af_base.specs.Take.{cut, has_files}
use Rattle.af_base.specs.Whole.{IsMessageWithin}
use Rattle.af_base.specs.World.{Message}
use Rattle.af_base.proofs.Lookups.{none_some, some_same}
use Rattle.af_queue.specs.declared.chain.Chain.{Chain}
use Rattle.af_queue.specs.declared.chain.Node.{Node}
use Rattle.af_queue.specs.Chains.{has_node, node_keys_from, node_keys, messages_from, messages_of, next_at, AreApart, IsChain, IsPath, SameElsewhere}
use Rattle.af_queue.specs.Queued.{AreWithin}
use Rattle.af_queue.proofs.Spans.{cut-part}

-- The next key of a node that is there is the one that it names.
next_there : (s : Slab Node) (k : ℕ) (x : Node) → slots.get s k ≡ Some x → next_at s k ≡ x.next
next_there s k x e = ap (λ o. option_map_or (λ y. y.next) o 0) e

-- The messages from a node on are its own and those from the next on.
first_there : (s : Slab Node) (k n : ℕ) (x : Node) → slots.get s k ≡ Some x → messages_from s k (suc n) ≡ x.message ∷ messages_from s x.next n
first_there s k n x e = ap (λ o. option_map_or (λ y. y.message ∷ messages_from s y.next n) o []) e

-- The other slab has the same at each of these keys.
abbrev pub KeepsKeys : Slab Node → Slab Node → List ℕ → Type 0
KeepsKeys s t ks = (q : ℕ) → list_any (nat_eq q) ks ≡ true → slots.get t q ≡ slots.get s q

-- A key is among the keys that begin with it.
itself : (k : ℕ) (ks : List ℕ) → list_any (nat_eq k) (k ∷ ks) ≡ true
itself k ks = ap (λ b. b || list_any (nat_eq k) ks) (eq-eqb k k refl)

-- A key among some is among these and one more in front.
behind : (q k : ℕ) (ks : List ℕ) → list_any (nat_eq q) ks ≡ true → list_any (nat_eq q) (k ∷ ks) ≡ true
behind q k ks h = by (nat_eq q k) where
  by : (b : Bool) → b || list_any (nat_eq q) ks ≡ true
  by true = refl
  by false = h

module _ (s t : Slab Node) (l : ℕ) where
  -- An invariant of a path is one of the rest of it.
  rest_kept : (k n : ℕ) (x : Node) → slots.get s k ≡ Some x → KeepsKeys s t (node_keys_from s k (suc n)) → KeepsKeys s t (node_keys_from s x.next n)
  rest_kept k n x at keeps q h = keeps q (behind q k (node_keys_from s (next_at s k) n) (ap (λ z. list_any (nat_eq q) (node_keys_from s z n)) (next_there s k x at) ∙ h))

  -- The other slab has the same first node, where it keeps the keys.
  first_kept : (k n : ℕ) (x : Node) → slots.get s k ≡ Some x → KeepsKeys s t (node_keys_from s k (suc n)) → slots.get t k ≡ Some x
  first_kept k n x at keeps = keeps k (itself k (node_keys_from s (next_at s k) n)) ∙ at

  -- A path whose nodes are kept has the same keys there.
  keys_kept : (k n : ℕ) → IsPath s l k n → KeepsKeys s t (node_keys_from s k n) → node_keys_from t k n ≡ node_keys_from s k n
  keys_kept k zero p keeps = refl
  keys_kept k (suc n) p keeps =
      let x = p.0 in
      ap (λ ks. k ∷ ks)
      (ap (λ z. node_keys_from t z n) (next_there t k x (first_kept k n x p.1.0 keeps))
      ∙ keys_kept x.next n p.1.4 (rest_kept k n x p.1.0 keeps)
      ∙ ap (λ z. node_keys_from s z n) (sym (next_there s k x p.1.0)))

  -- A path whose nodes are kept is one there too.
  pub path_kept : (k n : ℕ) → IsPath s l k n → KeepsKeys s t (node_keys_from s k n) → IsPath t l k n
  path_kept k zero p keeps = refl
  path_kept k (suc n) p keeps =
      let x = p.0 in
      let rest = rest_kept k n x p.1.0 keeps in
      let apart = subst (λ ks. list_any (nat_eq k) ks ≡ false) (sym (keys_kept x.next n p.1.4 rest)) p.1.1 in
      (x, (first_kept k n x p.1.0 keeps, apart, p.1.2, p.1.3, path_kept x.next n p.1.4 rest))

  -- And shows the same messages.
  pub messages_kept : (k n : ℕ) → IsPath s l k n → KeepsKeys s t (node_keys_from s k n) → messages_from t k n ≡ messages_from s k n
  messages_kept k zero p keeps = refl
  messages_kept k (suc n) p keeps =
      let x = p.0 in
      first_there t k n x (first_kept k n x p.1.0 keeps)
      ∙ ap (λ ms. x.message ∷ ms) (messages_kept x.next n p.1.4 (rest_kept k n x p.1.0 keeps))
      ∙ sym (first_there s k n x p.1.0)

-- There is a node at each key of a path.
pub node_there : (s : Slab Node) (l q k n : ℕ) → IsPath s l k n → list_any (nat_eq q) (node_keys_from s k n) ≡ true → (x : Node) × (slots.get s q ≡ Some x)
node_there s l q k zero p h = absurd (true≢false (sym h))
node_there s l q k (suc n) p h =
    by (nat_eq q k) refl h (λ h. node_there s l q p.0.next n p.1.4 (ap (λ z. list_any (nat_eq q) (node_keys_from s z n)) (sym (next_there s k p.0 p.1.0)) ∙ h)) where
      by : (b : Bool) → nat_eq q k ≡ b → b || list_any (nat_eq q) (node_keys_from s (next_at s k) n) ≡ true → (list_any (nat_eq q) (node_keys_from s (next_at s k) n) ≡ true → (x : Node) × (slots.get s q ≡ Some x)) → (x : Node) × (slots.get s q ≡ Some x)
      by true e h rest = (p.0, ap (slots.get s) (eqb-true q k e) ∙ p.1.0)
      by false e h rest = rest h

-- Each node at none of the first keys is as it was, and at none of the others.
abbrev pub StaysApart : Slab Node → List ℕ → Slab Node → List ℕ → Type 0
StaysApart s ks t js = (q : ℕ) (x : Node) → slots.get s q ≡ Some x → list_any (nat_eq q) ks ≡ false → (slots.get t q ≡ Some x) × (list_any (nat_eq q) js ≡ false)

-- A key that is not among some is not the first, and is not among the rest.
off_all : (q k : ℕ) (ks : List ℕ) → list_any (nat_eq q) (k ∷ ks) ≡ false → (q ≢ k) × (list_any (nat_eq q) ks ≡ false)
off_all q k ks off = (λ e. true≢false (sym (ap (λ z. list_any (nat_eq z) (k ∷ ks)) e ∙ itself k ks) ∙ off), by (nat_eq q k) off) where
  by : (b : Bool) → b || list_any (nat_eq q) ks ≡ false → list_any (nat_eq q) ks ≡ false
  by true h = absurd (true≢false h)
  by false h = h

-- Numbers that differ compare unequal.
neqb : (a b : ℕ) → a ≢ b → nat_eq a b ≡ false
neqb a b ne = by (nat_eq a b) refl where
  by : (c : Bool) → nat_eq a b ≡ c → nat_eq a b ≡ false
  by true e = absurd (ne (eqb-true a b e))
  by false e = e

-- The last node's key is among the keys.
last_in : (s : Slab Node) (l : ℕ) (k n : ℕ) → IsPath s l k (suc n) → list_any (nat_eq l) (node_keys_from s k (suc n)) ≡ true
last_in s l k zero p = ap (λ b. b || false) (eq-eqb l k (sym (p.1.2 refl)))
last_in s l k (suc n) p =
    let x = p.0 in
    let rest = ap (λ z. list_any (nat_eq l) (node_keys_from s z (suc n))) (next_there s k x p.1.0) ∙ last_in s l x.next n p.1.4 in
    by (nat_eq l k) rest where
      by : (b : Bool) → {c : Bool} → c ≡ true → b || c ≡ true
      by true h = refl
      by false h = h

-- Behind the last node of a path there is one more now, and its key is noted there.
module _ (s u : Slab Node) (l key : ℕ) (node : Node)
    (vacant : slots.get s key ≡ None) (put : slots.get u key ≡ Some node) (within : IsMessageWithin node.message)
    (linked : (x : Node) → slots.get s l ≡ Some x → slots.get u l ≡ Some (record x { next = key }))
    (others : (q : ℕ) → q ≢ key → q ≢ l → slots.get u q ≡ slots.get s q) where
  -- A node that is there is not the new one.
  fresh : (q : ℕ) (x : Node) → slots.get s q ≡ Some x → q ≢ key
  fresh q x at e = none_some x (sym vacant ∙ ap (slots.get s) (sym e) ∙ at)

  -- The key of a node that is there compares unequal to the new key.
  apart_key : (q : ℕ) (x : Node) → slots.get s q ≡ Some x → nat_eq q key ≡ false
  apart_key q x at = neqb q key (fresh q x at)

  -- A node before the last stays.
  pub before : (k n : ℕ) (x : Node) → slots.get s k ≡ Some x → list_any (nat_eq k) (node_keys_from s x.next (suc n)) ≡ false → IsPath s l x.next (suc n) → slots.get u k ≡ Some x
  before k n x at apart rest = others k (fresh k x at) not_last ∙ at where
    not_last : k ≢ l
    not_last e = absurd (true≢false (sym (last_in s l x.next n rest) ∙ ap (λ z. list_any (nat_eq z) (node_keys_from s x.next (suc n))) (sym e) ∙ apart))

  -- The keys of the longer path are the old ones, and then the new one.
  keys_more : (k n : ℕ) → IsPath s l k (suc n) → node_keys_from u k (suc (suc n)) ≡ node_keys_from s k (suc n) ++ key ∷ []
  keys_more k zero p =
      let x = p.0 in
      let at = subst (λ q. slots.get u q ≡ Some (record x { next = key })) (sym (p.1.2 refl)) (linked x (ap (slots.get s) (sym (p.1.2 refl)) ∙ p.1.0)) in
      ap (λ z. k ∷ z ∷ []) (next_there u k (record x { next = key }) at)
  keys_more k (suc n) p =
      let x = p.0 in
      ap (λ ks. k ∷ ks)
      (ap (λ z. node_keys_from u z (suc (suc n))) (next_there u k x (before k n x p.1.0 p.1.1 p.1.4))
      ∙ keys_more x.next n p.1.4
      ∙ ap (λ z. node_keys_from s z (suc n) ++ key ∷ []) (sym (next_there s k x p.1.0)))

  -- A key that is not among some, and is not the new one, is not among these and the new one.
  list_any_more : (q : ℕ) (ks : List ℕ) → list_any (nat_eq q) ks ≡ false → nat_eq q key ≡ false → list_any (nat_eq q) (ks ++ key ∷ []) ≡ false
  list_any_more q [] none off = ap (λ b. b || false) off
  list_any_more q (k ∷ ks) none off = by (nat_eq q k) none (λ h. list_any_more q ks h off) where
    by : (b : Bool) → b || list_any (nat_eq q) ks ≡ false → (list_any (nat_eq q) ks ≡ false → list_any (nat_eq q) (ks ++ key ∷ []) ≡ false) → b || list_any (nat_eq q) (ks ++ key ∷ []) ≡ false
    by true h rest = h
    by false h rest = rest h

  -- It is the last of a longer path.
  pub path_more : (k n : ℕ) → IsPath s l k (suc n) → IsPath u key k (suc (suc n))
  path_more k zero p =
      let x = p.0 in
      let at = subst (λ q. slots.get u q ≡ Some (record x { next = key })) (sym (p.1.2 refl)) (linked x (ap (slots.get s) (sym (p.1.2 refl)) ∙ p.1.0)) in
      (record x { next = key }, (at, ap (λ b. b || false) (apart_key k x p.1.0), (λ e. absurd (suc-ne-zero _ e)), p.1.3, (node, (put, refl, (λ e. refl), within, refl))))
  path_more k (suc n) p =
      let x = p.0 in
      let apart = ap (list_any (nat_eq k)) (keys_more x.next n p.1.4) ∙ list_any_more k (node_keys_from s x.next (suc n)) p.1.1 (apart_key k x p.1.0) in
      (x, (before k n x p.1.0 p.1.1 p.1.4, apart, (λ e. absurd (suc-ne-zero _ e)), p.1.3, path_more x.next n p.1.4))

  -- Its message comes last.
  pub messages_more : (k n : ℕ) → IsPath s l k (suc n) → messages_from u k (suc (suc n)) ≡ messages_from s k (suc n) ++ node.message ∷ []
  messages_more k zero p =
      let x = p.0 in
      let at = subst (λ q. slots.get u q ≡ Some (record x { next = key })) (sym (p.1.2 refl)) (linked x (ap (slots.get s) (sym (p.1.2 refl)) ∙ p.1.0)) in
      first_there u k (suc zero) (record x { next = key }) at
      ∙ ap (λ ms. x.message ∷ ms) (first_there u key zero node put)
      ∙ ap (λ ms. ms ++ node.message ∷ []) (sym (first_there s k zero x p.1.0))
  messages_more k (suc n) p =
      let x = p.0 in
      first_there u k (suc (suc n)) x (before k n x p.1.0 p.1.1 p.1.4)
      ∙ ap (λ ms. x.message ∷ ms) (messages_more x.next n p.1.4)
      ∙ ap (λ ms. ms ++ node.message ∷ []) (sym (first_there s k (suc n) x p.1.0))

-- The last node of a path is there.
last_there : (s : Slab Node) (l : ℕ) (k n : ℕ) → IsPath s l k (suc n) → (x : Node) × (slots.get s l ≡ Some x)
last_there s l k zero p = (p.0, ap (slots.get s) (sym (p.1.2 refl)) ∙ p.1.0)
last_there s l k (suc n) p = last_there s l p.0.next n p.1.4

-- A node comes into a slab, and then one that was there is linked to it.
module _ (s t u : Slab Node) (l key : ℕ) (node : Node) (vacant : slots.get s key ≡ None) (within : IsMessageWithin node.message) (update : Updates s t key (Some node))
    (linked : (x : Node) → slots.get t l ≡ Some x → slots.get u l ≡ Some (record x { next = key }))
    (others : (q : ℕ) → q ≢ l → slots.get u q ≡ slots.get t q) where
  -- A node that was there before the insertion is there after it.
  old : (q : ℕ) (x : Node) → slots.get s q ≡ Some x → slots.get t q ≡ Some x
  old q x at = update.others q (λ e. none_some x (sym vacant ∙ ap (slots.get s) (sym e) ∙ at)) ∙ at

  -- The new key is not that of the last node.
  key_off : (k n : ℕ) → IsPath s l k (suc n) → key ≢ l
  key_off k n p e = let x = last_there s l k n p in none_some x.0 (sym vacant ∙ ap (slots.get s) e ∙ x.1)

  -- A queue that had messages has one more.
  pub pushed : (k n : ℕ) → n ≢ zero → IsPath s l k n → IsPath u key k (n + 1) × (messages_from u k (n + 1) ≡ messages_from s k n ++ node.message ∷ [])
  pushed k zero ne p = absurd (ne refl)
  pushed k (suc n) ne p =
      subst (λ z. IsPath u key k z × (messages_from u k z ≡ messages_from s k (suc n) ++ node.message ∷ [])) one_more
      (path_more s u l key node vacant put within link rest k n p, messages_more s u l key node vacant put within link rest k n p) where
        one_more : suc (suc n) ≡ suc n + 1
        one_more = omega arith

        put : slots.get u key ≡ Some node
        put = others key (key_off k n p) ∙ update.changed

        link : (x : Node) → slots.get s l ≡ Some x → slots.get u l ≡ Some (record x { next = key })
        link x at = linked x (old l x at)

        rest : (q : ℕ) → q ≢ key → q ≢ l → slots.get u q ≡ slots.get s q
        rest q off not_last = others q not_last ∙ update.others q off

  -- Nothing else changes.
  pub pushed_elsewhere : (k n : ℕ) → n ≢ zero → IsPath s l k n → StaysApart s (node_keys_from s k n) u (node_keys_from u k (n + 1))
  pushed_elsewhere k zero ne p q x at off = absurd (ne refl)
  pushed_elsewhere k (suc n) ne p q x at off = (others q not_last ∙ old q x at, ap (λ z. list_any (nat_eq q) (node_keys_from u k z)) (sym one_more) ∙ ap (list_any (nat_eq q)) more ∙ still) where
    one_more : suc (suc n) ≡ suc n + 1
    one_more = omega arith

    not_last : q ≢ l
    not_last e = true≢false (sym (ap (λ z. list_any (nat_eq z) (node_keys_from s k (suc n))) e ∙ last_in s l k n p) ∙ off)

    put : slots.get u key ≡ Some node
    put = others key (key_off k n p) ∙ update.changed

    rest : (q : ℕ) → q ≢ key → q ≢ l → slots.get u q ≡ slots.get s q
    rest q off not_last = others q not_last ∙ update.others q off

    more : node_keys_from u k (suc (suc n)) ≡ node_keys_from s k (suc n) ++ key ∷ []
    more = keys_more s u l key node vacant put within (λ x at. linked x (old l x at)) rest k n p

    still : list_any (nat_eq q) (node_keys_from s k (suc n) ++ key ∷ []) ≡ false
    still = list_any_more s u l key node vacant put within (λ x at. linked x (old l x at)) rest q (node_keys_from s k (suc n)) off (neqb q key (λ e. none_some x (sym vacant ∙ ap (slots.get s) (sym e) ∙ at)))

-- The first node of a path is removed.
module _ (s t : Slab Node) (l k n : ℕ) (p : IsPath s l k (suc n)) (update : Updates s t k None) where
  -- The nodes behind the first stay.
  rest_stays : KeepsKeys s t (node_keys_from s p.0.next n)
  rest_stays q h = update.others q (λ e. true≢false (sym h ∙ ap (λ z. list_any (nat_eq z) (node_keys_from s p.0.next n)) e ∙ p.1.1))

  -- The nodes behind the first are a path.
  pub popped : IsPath t l p.0.next n
  popped = path_kept s t l p.0.next n p.1.4 rest_stays

  -- The messages were that of the first node, and then those that are left.
  pub messages_popped : messages_from s k (suc n) ≡ p.0.message ∷ messages_from t p.0.next n
  messages_popped = first_there s k n p.0 p.1.0 ∙ ap (λ ms. p.0.message ∷ ms) (sym (messages_kept s t l p.0.next n p.1.4 rest_stays))

  -- The nodes of other queues stay.
  popped_elsewhere : StaysApart s (node_keys_from s k (suc n)) t (node_keys_from t p.0.next n)
  popped_elsewhere q x at off =
      let apart = off_all q k (node_keys_from s (next_at s k) n) off in
      let same = keys_kept s t l p.0.next n p.1.4 rest_stays in
      (update.others q apart.0 ∙ at, ap (list_any (nat_eq q)) same ∙ ap (λ z. list_any (nat_eq q) (node_keys_from s z n)) (sym (next_there s k p.0 p.1.0)) ∙ apart.1)

  -- The removed node was the first.
  pub popped_at : (node : Node) → slots.get s k ≡ Some node → IsPath t l node.next (suc n - 1) × (messages_from s k (suc n) ≡ node.message ∷ messages_from t node.next (suc n - 1)) × StaysApart s (node_keys_from s k (suc n)) t (node_keys_from t node.next (suc n - 1))
  popped_at node at =
      subst (λ y. IsPath t l y.next (suc n - 1) × (messages_from s k (suc n) ≡ y.message ∷ messages_from t y.next (suc n - 1)) × StaysApart s (node_keys_from s k (suc n)) t (node_keys_from t y.next (suc n - 1))) (some_same p.0 node (sym p.1.0 ∙ at))
      (subst (λ z. IsPath t l p.0.next z × (messages_from s k (suc n) ≡ p.0.message ∷ messages_from t p.0.next z) × StaysApart s (node_keys_from s k (suc n)) t (node_keys_from t p.0.next z)) less (popped, messages_popped, popped_elsewhere)) where
        less : n ≡ suc n - 1
        less = omega arith

-- The first message of a queue that has some.
pub pops : (s t : Slab Node) (l k n : ℕ) (node : Node) → n ≢ zero → slots.get s k ≡ Some node → Updates s t k None → IsPath s l k n → IsPath t l node.next (n - 1) × (messages_from s k n ≡ node.message ∷ messages_from t node.next (n - 1)) × StaysApart s (node_keys_from s k n) t (node_keys_from t node.next (n - 1))
pops s t l k zero node ne at update p = absurd (ne refl)
pops s t l k (suc n) node ne at update p = popped_at s t l k n p update node at

-- The message of the first node of a path is another one.
module _ (s t : Slab Node) (l k n : ℕ) (p : IsPath s l k (suc n)) (m : Message) (within : IsMessageWithin m) (here : slots.get t k ≡ Some (record p.0 { message = m })) (others : (q : ℕ) → q ≢ k → slots.get t q ≡ slots.get s q) where
  -- The nodes behind the first stay.
  rest_as_it_was : KeepsKeys s t (node_keys_from s p.0.next n)
  rest_as_it_was q h = others q (λ e. true≢false (sym h ∙ ap (λ z. list_any (nat_eq z) (node_keys_from s p.0.next n)) e ∙ p.1.1))

  -- The nodes are still a path.
  pub changed : IsPath t l k (suc n)
  changed =
      let apart = subst (λ ks. list_any (nat_eq k) ks ≡ false) (sym (keys_kept s t l p.0.next n p.1.4 rest_as_it_was)) p.1.1 in
      (record p.0 { message = m }, (here, apart, p.1.2, within, path_kept s t l p.0.next n p.1.4 rest_as_it_was))

  -- The first message is the other one, and those behind it are as before.
  pub messages_changed : messages_from t k (suc n) ≡ m ∷ messages_from s p.0.next n
  messages_changed = first_there t k n (record p.0 { message = m }) here ∙ ap (λ ms. m ∷ ms) (messages_kept s t l p.0.next n p.1.4 rest_as_it_was)

  -- The nodes of other queues stay.
  pub changed_elsewhere : StaysApart s (node_keys_from s k (suc n)) t (node_keys_from t k (suc n))
  changed_elsewhere q x at off =
      let rest = ap (λ z. node_keys_from t z n) (next_there t k (record p.0 { message = m }) here) ∙ keys_kept s t l p.0.next n p.1.4 rest_as_it_was ∙ ap (λ z. node_keys_from s z n) (sym (next_there s k p.0 p.1.0)) in
      (others q (off_all q k (node_keys_from s (next_at s k) n) off).0 ∙ at, ap (λ ks. list_any (nat_eq q) (k ∷ ks)) rest ∙ off)

-- Its first bytes go, and its files.
module _ (s : Slab Node) (l k n : ℕ) (node : Node) (m : Message) (count : ℕ) (some : 0 < count) (at : slots.get s k ≡ Some node) (is : m ≡ record node.message { bytes = drop count node.message.bytes; attached = [] }) where
  -- The nodes are still a path, the messages are cut, and the nodes of other queues stay.
  pub shortened : IsPath s l k n → count < option_map_or (λ m. length m.bytes) (slice_get (messages_from s k n) 0) 0
      → IsPath (slots.with_value s k (record node { message = m })) l k n × (messages_from (slots.with_value s k (record node { message = m })) k n ≡ cut count (messages_from s k n)) × StaysApart s (node_keys_from s k n) (slots.with_value s k (record node { message = m })) (node_keys_from (slots.with_value s k (record node { message = m })) k n)
  shortened p long = by n p long where
    by : (n : ℕ) → IsPath s l k n → count < option_map_or (λ m. length m.bytes) (slice_get (messages_from s k n) 0) 0
        → IsPath (slots.with_value s k (record node { message = m })) l k n × (messages_from (slots.with_value s k (record node { message = m })) k n ≡ cut count (messages_from s k n)) × StaysApart s (node_keys_from s k n) (slots.with_value s k (record node { message = m })) (node_keys_from (slots.with_value s k (record node { message = m })) k n)
    by zero p long = absurd (omega (arith, long))
    by (suc n) p long =
        let same : p.0 ≡ node = some_same p.0 node (sym p.1.0 ∙ at) in
        let t = slots.with_value s k (record node { message = m }) in
        let update = Updates-with_value s k (record node { message = m }) (subst IsSome (sym at) (search rules)) in
        let other : Some (record node { message = m }) ≡ Some (record p.0 { message = m }) = ap (λ (y : Node). Some (record y { message = m })) (sym same) in
        let here : slots.get t k ≡ Some (record p.0 { message = m }) = update.changed ∙ other in
        let less : m ≡ record p.0.message { bytes = drop count p.0.message.bytes; attached = [] } = is ∙ ap (λ (y : Node). record y.message { bytes = drop count y.message.bytes; attached = [] }) (sym same) in
        let bytes : length m.bytes ≡ length p.0.message.bytes - count = ap (λ (y : Message). length y.bytes) less ∙ length-drop count p.0.message.bytes in
        let files : length m.attached ≡ 0 = ap (λ (y : Message). length y.attached) less in
        let part : count < length p.0.message.bytes = subst (λ q. count < option_map_or (λ m. length m.bytes) (slice_get q 0) 0) (first_there s k n p.0 p.1.0) long in
        let most = p.1.3.bytes in
        let within : IsMessageWithin m = record { some = omega (arith, bytes, part); bytes = omega (arith, bytes, most); attached = omega (arith, files) } in (
          changed s t l k n p m within here update.others,
          messages_changed s t l k n p m within here update.others
              ∙ ap (λ z. z ∷ messages_from s p.0.next n) less
              ∙ sym (cut-part p.0.message (messages_from s p.0.next n) count some part)
              ∙ ap (cut count) (sym (first_there s k n p.0 p.1.0)),
          changed_elsewhere s t l k n p m within here update.others,
        )

-- A queue has as many messages as nodes, each within the limits.
pub path_many : (s : Slab Node) (l k n : ℕ) → IsPath s l k n → length (messages_from s k n) ≡ n
path_many s l k zero p = refl
path_many s l k (suc n) p = ap length (first_there s k n p.0 p.1.0) ∙ ap suc (path_many s l p.0.next n p.1.4)

-- The messages of a path are within the limits.
pub path_within : (s : Slab Node) (l k n : ℕ) → IsPath s l k n → AreWithin (messages_from s k n)
path_within s l k zero p = tt
path_within s l k (suc n) p = subst AreWithin (sym (first_there s k n p.0 p.1.0)) (p.1.3, path_within s l p.0.next n p.1.4)

-- Where the nodes that are not of the queue c stay, so does a queue apart from it.
module _ (s t : Slab Node) (c d o : Chain) (same : SameElsewhere s c t d) (apart : AreApart s o c) (h : IsChain s o) where
  -- Its nodes stay.
  other_nodes : KeepsKeys s t (node_keys s o)
  other_nodes q among = let there = node_there s o.last q o.first o.len h.path among in (same q there.0 there.1 (apart q among)).0 ∙ sym there.1

  -- It has the same messages.
  pub other_queue : IsChain t o × (messages_of t o ≡ messages_of s o)
  other_queue =
      let kept = messages_kept s t o.last o.first o.len h.path other_nodes in
      (record { few = h.few; path = path_kept s t o.last o.first o.len h.path other_nodes; no_files = λ e. ap attached_in kept ∙ h.no_files e }, kept)

  -- It is still apart.
  pub other_apart : AreApart t o d
  other_apart q among =
      let among = ap (list_any (nat_eq q)) (sym (keys_kept s t o.last o.first o.len h.path other_nodes)) ∙ among in
      let there = node_there s o.last q o.first o.len h.path among in
      (same q there.0 there.1 (apart q among)).1

  -- It is still apart from each other queue.
  pub other_pair : (e : Chain) → AreApart s o e → AreApart s e c → IsChain s e → AreApart t o e
  other_pair e off apart_e h_e q among =
      let keys_e = keys_kept s t e.last e.first e.len h_e.path (λ q among. let there = node_there s e.last q e.first e.len h_e.path among in (same q there.0 there.1 (apart_e q among)).0 ∙ sym there.1) in
      ap (list_any (nat_eq q)) keys_e ∙ off q (ap (list_any (nat_eq q)) (sym (keys_kept s t o.last o.first o.len h.path other_nodes)) ∙ among)

-- Two queues that are apart are apart the other way round.
pub apart_both : (s : Slab Node) (c d : Chain) → AreApart s c d → AreApart s d c
apart_both s c d apart q among = by (has_node s c q) refl where
  by : (b : Bool) → has_node s c q ≡ b → has_node s c q ≡ false
  by true e = absurd (true≢false (sym among ∙ apart q e))
  by false e = e

-- A queue without messages is apart from each.
pub none_apart : (s : Slab Node) (c d : Chain) → c.len ≡ 0 → AreApart s c d
none_apart s c d e q among = absurd (true≢false (sym among ∙ ap (λ n. list_any (nat_eq q) (node_keys_from s c.first n)) e))

-- Where all nodes stay, so does a queue.
pub same_queue : (s t : Slab Node) (c : Chain) → SameValues s t → IsChain s c → IsChain t c × (messages_of t c ≡ messages_of s c)
same_queue s t c same h =
    let kept = messages_kept s t c.last c.first c.len h.path (λ q e. same q) in
    (record { few = h.few; path = path_kept s t c.last c.first c.len h.path (λ q e. same q); no_files = λ e. ap attached_in kept ∙ h.no_files e }, kept)

-- Where all nodes stay, two queues that are apart still are.
pub same_apart : (s t : Slab Node) (c d : Chain) → SameValues s t → IsChain s c → IsChain s d → AreApart s c d → AreApart t c d
same_apart s t c d same h k apart q among =
    ap (list_any (nat_eq q)) (keys_kept s t d.last d.first d.len k.path (λ q e. same q))
    ∙ apart q (ap (list_any (nat_eq q)) (sym (keys_kept s t c.last c.first c.len h.path (λ q e. same q))) ∙ among)

-- No message, in a queue of nothing.
pub none_of : (s : Slab Node) (c : Chain) → c.len ≡ 0 → messages_of s c ≡ []
none_of s c e = ap (messages_from s c.first) e

-- A chain of length 0 is one.
pub none_chain : (s : Slab Node) (c : Chain) → c.len ≡ 0 → IsChain s c
none_chain s c e = record { few = omega (arith, e); path = subst (IsPath s c.last c.first) (sym e) refl; no_files = λ _. ap attached_in (none_of s c e) }

-- Where nothing is attached to all messages, nothing is attached to those behind the first.
pub no_files_behind : (m : Message) (q : List Message) → attached_in (m ∷ q) ≡ [] → attached_in q ≡ []
no_files_behind m q e = by m.attached e where
  by : (fs : List ℕ) → fs ++ attached_in q ≡ [] → attached_in q ≡ []
  by [] none = none
  by (f ∷ fs) none = let long = ap length none in absurd (omega (arith, long))

-- Nor is anything once their first bytes are gone.
pub no_files_cut : (n : ℕ) (q : List Message) → attached_in q ≡ [] → attached_in (cut n q) ≡ []
no_files_cut n [] e = refl
no_files_cut n (m ∷ q) e = by (no_files_cut (n - length m.bytes) q (no_files_behind m q e)) (nat_le (length m.bytes) n) (nat_lt 0 n) where
  by : attached_in (cut (n - length m.bytes) q) ≡ [] → (gone some : Bool) → attached_in (if gone then cut (n - length m.bytes) q else if some then record m { bytes = drop n m.bytes; attached = [] } ∷ q else m ∷ q) ≡ []
  by later true some = later
  by later false true = no_files_behind m q e
  by later false false = e

-- A message has no files if the test says so.
no_files_of : (m : Message) → has_files m ≡ false → m.attached ≡ []
no_files_of m e = by m.attached e where
  by : (fs : List ℕ) → nat_lt 0 (length fs) ≡ false → fs ≡ []
  by [] none = refl
  by (f ∷ fs) none = let few = ltb-false 0 (length (f ∷ fs)) none in absurd (omega (arith, few))

-- Nor with a message more that has none.
pub no_files_pushed : (q : List Message) (m : Message) → attached_in q ≡ [] → has_files m ≡ false → attached_in (q ++ m ∷ []) ≡ []
no_files_pushed q m none e =
    flat_map-append (λ m. m.attached) q (m ∷ []) ∙ ap (λ fs. fs ++ (m.attached ++ [])) none ∙ ap (λ fs. fs ++ []) (no_files_of m e)
