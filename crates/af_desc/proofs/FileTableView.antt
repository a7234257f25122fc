-- Three maps of one row, as it is added, changed in part, and removed; the messages of all.
use Rattle.std.proofs.Common.{◌≡◌, ℕ, ◌⊎◌, inl, inr, false, List, [], refl, sym, ap, ◌∙◌, subst, nat_eq}
use Rattle.std.specs.Prelude.{Option, Some, None, IfSome, if◌then◌else◌, is_some, option_map}
use Rattle.std.specs.Option.{option_and_then}
use Rattle.std.specs.FinMap as map
use Rattle.std.specs.FinMap.{nat_cmp-IsAntisymmetric, same_map}
use Rattle.std.specs.Ordering.{nat_cmp}
use Rattle.std.specs.Cmp.{nat_cmp_total}
use Rattle.slab.specs.Slab.{SameValues, Slab}
use Rattle.af_base.specs.Changes.{change_socket_at, file_with}
use Rattle.af_base.specs.Places.{backlog_of, queue_of}
use Rattle.af_base.specs.Refusals.{socket_of}
use Rattle.af_base.specs.World.{AsSocket, Map, Message, Socket}
use Rattle.af_base.proofs.Lookups.{insert-here, insert-other, none_some, not_same, remove-here, remove-other, same_or_not, some_same}
use Rattle.ordered_slab.proofs.Parts.{part_get, part_kept, part_put}
use Rattle.ordered_slab.proofs.Values.{lent_changed, lent_same}
use Rattle.af_queue.specs.Chains.{messages_of, AreApart, IsChain, SameElsewhere}
use Rattle.af_queue.specs.declared.chain.Node.{Node}
use Rattle.af_queue.proofs.Chains.{apart_both, none_apart, none_chain, none_of, other_apart, other_pair, other_queue, same_apart, same_queue}
use Rattle.af_desc.specs.FilesView.{socket_in}
use Rattle.af_desc.specs.Form.{embryos_of}
use Rattle.af_desc.specs.FileTableView.{counts_of, file_in, file_of, files_of, marks_of, refilled, socket_of_row, AreChained}
use Rattle.af_desc.specs.declared.file_row.FileRow.{FileRow}
use Rattle.af_desc.proofs.FileNames.{unchanged}

-- A socket that has nothing to receive is as it is.
pub refilled_none : (s : Socket) (q : List Message) → q ≡ [] → s.queue ≡ [] → refilled q s ≡ s
refilled_none s q none silent = λ i. refilled ((none ∙ sym silent) i) s

-- The row of a file is written to in one part.
module _ (m : Map FileRow) (f : ℕ) (x : FileRow) (at : map.get m f ≡ Some x) where
  -- In another part: the counts stay.
  pub counts_kept : (y : FileRow) → y.count ≡ x.count → counts_of (map.insert m f y) ≡ counts_of m
  counts_kept y same = part_kept (λ r. r.count) m f x y at same

  -- In another part: the mark stays.
  pub marks_kept : (y : FileRow) → y.mark ≡ x.mark → marks_of (map.insert m f y) ≡ marks_of m
  marks_kept y same = part_kept (λ r. r.mark) m f x y at same

  module _ (s : Slab Node) where
    -- The file is what its row says, with its messages.
    pub file_is : map.get (files_of s m) f ≡ Some (file_in s x)
    file_is = part_get (file_in s) m f ∙ ap (option_map (file_in s)) at

-- After an insertion a row is the inserted one, or was there.
row_put : (m : Map FileRow) (f : ℕ) (x : FileRow) (g : ℕ) (z : FileRow) → map.get (map.insert m f x) g ≡ Some z → ((g ≡ f) × (x ≡ z)) ⊎ ((nat_eq g f ≡ false) × (map.get m g ≡ Some z))
row_put m f x g z is = elim (same_or_not g f) [
  | inl e ↦ inl (e, some_same x z (sym (ap (map.get (map.insert m f x)) e ∙ insert-here m f x) ∙ is))
  | inr off ↦ inr (off, sym (insert-other m f x g off) ∙ is)
]

-- Rows with the chains of rows that were there.
pub chains_from : (s : Slab Node) (m n : Map FileRow) → ((g : ℕ) (z : FileRow) → map.get n g ≡ Some z → (x : FileRow) × (map.get m g ≡ Some x) × (x.chain ≡ z.chain)) → AreChained s m → AreChained s n
chains_from s m n was h = record {
  each = λ g z at. let x = was g z at in subst (IsChain s) x.2 (h.each g x.0 x.1);
  apart = λ f g y z at is off.
      let x = was f y at in
      let w = was g z is in
      subst (λ c. AreApart s c z.chain) x.2 (subst (AreApart s x.0.chain) w.2 (h.apart f g x.0 w.0 x.1 w.1 off));
}

-- A row is written to, but for its chain.
pub chains_stay : (s : Slab Node) (m : Map FileRow) (f : ℕ) (y : FileRow) → option_map (λ r. r.chain) (map.get m f) ≡ Some y.chain → AreChained s m → AreChained s (map.insert m f y)
chains_stay s m f y is = chains_from s m (map.insert m f y) (λ g z at. elim (row_put m f y g z at) [
  | inl here ↦ by g (map.get m g) refl z (ap (λ k. option_map (λ r. r.chain) (map.get m k)) here.0 ∙ is ∙ ap (λ (r : FileRow). Some r.chain) here.1)
  | inr off ↦ (z, off.1, refl)
]) where
  by : (g : ℕ) (o : Option FileRow) → map.get m g ≡ o → (z : FileRow) → option_map (λ r. r.chain) o ≡ Some z.chain → (x : FileRow) × (map.get m g ≡ Some x) × (x.chain ≡ z.chain)
  by g None at z e = absurd (none_some z.chain e)
  by g (Some x) at z e = (x, at, some_same x.chain z.chain e)

-- A row comes that has nothing to receive.
module _ (s : Slab Node) (m : Map FileRow) (f : ℕ) (x : FileRow) (none : x.chain.len ≡ 0) where
  -- Each row has a chain of its own.
  pub chains_put : AreChained s m → AreChained s (map.insert m f x)
  chains_put h = record {
    each = λ g z at. elim (row_put m f x g z at) [
      | inl here ↦ subst (λ (r : FileRow). IsChain s r.chain) here.1 (none_chain s x.chain none)
      | inr off ↦ h.each g z off.1
    ];
    apart = λ g k y z at is off. elim (row_put m f x g y at) [
      | inl here ↦ subst (λ (r : FileRow). AreApart s r.chain z.chain) here.1 (none_apart s x.chain z.chain none)
      | inr there ↦ elim (row_put m f x k z is) [
        | inl here ↦ subst (λ (r : FileRow). AreApart s y.chain r.chain) here.1 (apart_both s x.chain y.chain (none_apart s x.chain y.chain none))
        | inr where_else ↦ h.apart g k y z there.1 where_else.1 off
      ]
    ];
  }

  -- The files have the new one.
  pub files_put : IfSome x.kind (λ e. e.queue ≡ []) → files_of s (map.insert m f x) ≡ map.insert (files_of s m) f (file_of x.kind)
  files_put silent = part_put (file_in s) m f x ∙ ap (map.insert (files_of s m) f) (by x.kind silent) where
    by : (o : Option Socket) → IfSome o (λ e. e.queue ≡ []) → file_of (option_map (refilled (messages_of s x.chain)) o) ≡ file_of o
    by None h = refl
    by (Some e) h = ap AsSocket (refilled_none e (messages_of s x.chain) (none_of s x.chain none) h)

-- A row is removed.
pub chains_taken : (s : Slab Node) (m : Map FileRow) (f : ℕ) → AreChained s m → AreChained s (map.remove m f)
chains_taken s m f = chains_from s m (map.remove m f) (λ g z is. elim (same_or_not g f) [
  | inl e ↦ absurd (none_some z (sym (ap (map.get (map.remove m f)) e ∙ remove-here m f) ∙ is))
  | inr off ↦ (z, sym (remove-other m f g off) ∙ is, refl)
])

-- No row.
pub chains_none : (s : Slab Node) (m : Map FileRow) → m ≡ map.empty → AreChained s m
chains_none s m none = record {
  each = λ g z is. absurd (empty g z is);
  apart = λ f g y z at is off. absurd (empty f y at);
} where
  empty : (g : ℕ) (z : FileRow) → map.get m g ≡ Some z → ⊥
  empty g z is = none_some z (sym (ap (λ n. map.get n g) none ∙ map.get-empty nat_cmp g) ∙ is)

-- The rows that exist as rows are added, changed in a part other than their chain, and removed.
pub ruleset chains = (chains_stay, chains_put, chains_taken, chains_none, files_put)

-- The socket that a row is has the messages of its chain.
pub socket_at : (s : Slab Node) (m : Map FileRow) (f : ℕ) (x : FileRow) → map.get m f ≡ Some x → socket_in (files_of s m) f ≡ socket_of_row s x
socket_at s m f x at = ap (option_and_then socket_of) (file_is m f x at s) ∙ by x.kind where
  by : (o : Option Socket) → socket_of (file_of (option_map (refilled (messages_of s x.chain)) o)) ≡ option_map (refilled (messages_of s x.chain)) o
  by None = refl
  by (Some e) = refl

-- A fact on that socket is one on its kind.
pub if_socket : (P : Socket → Type 0) (q : List Message) (o r : Option Socket) → r ≡ option_map (refilled q) o → IfSome r P → IfSome o (λ e. P (refilled q e))
if_socket P q None r is h = tt
if_socket P q (Some e) r is h = subst (λ z. IfSome z P) is h

-- The messages of a row are those of its chain, if it is a socket.
pub queue_of_kind : (q : List Message) (o : Option Socket) → queue_of (file_of (option_map (refilled q) o)) ≡ (if is_some o then q else [])
queue_of_kind q None = refl
queue_of_kind q (Some e) = refl

-- The embryos of a socket do not depend on its messages.
pub backlog_of_kind : (q : List Message) (o : Option Socket) → backlog_of (file_of (option_map (refilled q) o)) ≡ embryos_of o
backlog_of_kind q None = refl
backlog_of_kind q (Some e) = refl

-- A changed socket is still one.
pub socket_kept : (g : Socket → Socket) (o : Option Socket) → is_some (option_map g o) ≡ is_some o
socket_kept g None = refl
socket_kept g (Some e) = refl

-- A row whose file is another's, changed, is as much a socket's.
pub socket_same : (g : Socket → Socket) (q r : List Message) (o p : Option Socket) → file_of (option_map (refilled r) p) ≡ file_with g (file_of (option_map (refilled q) o)) → is_some p ≡ is_some o
socket_same g q r o p is = sym (shown r p) ∙ ap (λ z. is_some (socket_of z)) is ∙ changed o where
  shown : (r : List Message) (p : Option Socket) → is_some (socket_of (file_of (option_map (refilled r) p))) ≡ is_some p
  shown r None = refl
  shown r (Some e) = refl

  changed : (o : Option Socket) → is_some (socket_of (file_with g (file_of (option_map (refilled q) o)))) ≡ is_some o
  changed None = refl
  changed (Some e) = refl

-- A file changes as its kind does.
kind_changed : (g : Socket → Socket) (q : List Message) (o : Option Socket) → ((e : Socket) → refilled q (g e) ≡ g (refilled q e)) → file_of (option_map (refilled q) (option_map g o)) ≡ file_with g (file_of (option_map (refilled q) o))
kind_changed g q None same = refl
kind_changed g q (Some e) same = ap AsSocket (same e)

-- A file changes as its messages do.
pub queue_changed : (g : Socket → Socket) (q r : List Message) (o : Option Socket) → ((e : Socket) → o ≡ Some e → refilled r e ≡ g (refilled q e)) → file_of (option_map (refilled r) o) ≡ file_with g (file_of (option_map (refilled q) o))
queue_changed g q r None same = refl
queue_changed g q r (Some e) same = ap AsSocket (same e refl)

-- A file's messages change, and all other files' stay where they are.
module _ (s t : Slab Node) (m : Map FileRow) (f : ℕ) (x y : FileRow) (at : map.get m f ≡ Some x) (h : AreChained s m) (own : IsChain t y.chain) (others : SameElsewhere s x.chain t y.chain) where
  -- Another row has the chain and the messages that it had.
  pub stays : (g : ℕ) (z : FileRow) → nat_eq g f ≡ false → map.get m g ≡ Some z → IsChain t z.chain × (messages_of t z.chain ≡ messages_of s z.chain)
  stays g z off was = other_queue s t x.chain y.chain z.chain others (h.apart g f z x was at off) (h.each g z was)

  -- Its chain is apart from the changed one.
  apart : (g : ℕ) (z : FileRow) → nat_eq g f ≡ false → map.get m g ≡ Some z → AreApart t z.chain y.chain
  apart g z off was = other_apart s t x.chain y.chain z.chain others (h.apart g f z x was at off) (h.each g z was)

  -- Each row has a chain of its own still.
  pub chains_changed : AreChained t (map.insert m f y)
  chains_changed = record {
    each = λ g z is. elim (row_put m f y g z is) [
      | inl here ↦ subst (λ (r : FileRow). IsChain t r.chain) here.1 own
      | inr off ↦ (stays g z off.0 off.1).0
    ];
    apart = λ g k v w is at_k off. elim (row_put m f y g v is) [
      | inl here ↦ elim (row_put m f y k w at_k) [
        | inl too ↦ absurd (not_same g k off (here.0 ∙ sym too.0))
        | inr there ↦ subst (λ (r : FileRow). AreApart t r.chain w.chain) here.1 (apart_both t w.chain y.chain (apart k w there.0 there.1))
      ]
      | inr there ↦ elim (row_put m f y k w at_k) [
        | inl here ↦ subst (λ (r : FileRow). AreApart t v.chain r.chain) here.1 (apart g v there.0 there.1)
        | inr too ↦ other_pair s t x.chain y.chain v.chain others (h.apart g f v x there.1 at there.0) (h.each g v there.1)
            w.chain (h.apart g k v w there.1 too.1 off) (h.apart k f w x too.1 at too.0) (h.each k w too.1)
      ]
    ];
  }

  -- The files have the changed one.
  files_changed : files_of t (map.insert m f y) ≡ map.insert (files_of s m) f (file_in t y)
  files_changed = same_map nat_cmp_total nat_cmp-IsAntisymmetric _ _ (λ g. each g (same_or_not g f)) where
    kept : (g : ℕ) → nat_eq g f ≡ false → (q : Option FileRow) → map.get m g ≡ q → option_map (file_in t) q ≡ option_map (file_in s) q
    kept g off None was = refl
    kept g off (Some z) was = ap (λ q. Some (file_of (option_map (refilled q) z.kind))) (stays g z off was).1

    each : (g : ℕ) → (g ≡ f) ⊎ (nat_eq g f ≡ false) → map.get (files_of t (map.insert m f y)) g ≡ map.get (map.insert (files_of s m) f (file_in t y)) g
    each g (inl here) =
        part_get (file_in t) (map.insert m f y) g ∙ ap (option_map (file_in t)) (ap (map.get (map.insert m f y)) here ∙ insert-here m f y)
        ∙ sym (ap (map.get (map.insert (files_of s m) f (file_in t y))) here ∙ insert-here (files_of s m) f (file_in t y))
    each g (inr off) =
        part_get (file_in t) (map.insert m f y) g ∙ ap (option_map (file_in t)) (insert-other m f y g off) ∙ kept g off (map.get m g) refl
        ∙ sym (part_get (file_in s) m g) ∙ sym (insert-other (files_of s m) f (file_in t y) g off)

  -- Its file changes as its messages do.
  pub messages_changed : (g : Socket → Socket) → file_in t y ≡ file_with g (file_in s x) → files_of t (map.insert m f y) ≡ change_socket_at g (files_of s m) f
  messages_changed g is = files_changed ∙ lent_changed (files_of s m) f (file_in s x) (file_in t y) (file_is m f x at s) (file_with g) is

  -- A file that shows the same leaves all files as they were.
  pub messages_stay : file_in t y ≡ file_in s x → files_of t (map.insert m f y) ≡ files_of s m
  messages_stay is = files_changed ∙ lent_same (files_of s m) f (file_in s x) (file_in t y) (file_is m f x at s) is

-- There is room for messages more: those of all files stay.
module _ (s t : Slab Node) (m : Map FileRow) (same : SameValues s t) (h : AreChained s m) where
  -- Each row has a chain of its own there.
  pub chains_roomed : AreChained t m
  chains_roomed = record {
    each = λ g z at. (same_queue s t z.chain same (h.each g z at)).0;
    apart = λ f g y z at is off. same_apart s t y.chain z.chain same (h.each f y at) (h.each g z is) (h.apart f g y z at is off);
  }

-- An unknown file is no socket, and no change of a socket changes it.
module _ (s : Slab Node) (m : Map FileRow) (f : ℕ) where
  -- An unknown file is no socket.
  pub stranger_is_none : map.get m f ≡ None → socket_in (files_of s m) f ≡ None
  stranger_is_none none = ap (option_and_then socket_of) (part_get (file_in s) m f ∙ ap (option_map (file_in s)) none)

-- A socket changes that is written to in its row.
module _ (s : Slab Node) (m : Map FileRow) (f : ℕ) (g : Socket → Socket) where
  -- The files have the changed socket.
  pub row_changed : (x y : FileRow) → map.get m f ≡ Some x → y.kind ≡ option_map g x.kind → y.chain ≡ x.chain → ((q : List Message) (e : Socket) → refilled q (g e) ≡ g (refilled q e)) → files_of s (map.insert m f y) ≡ change_socket_at g (files_of s m) f
  row_changed x y at kind chain same = part_put (file_in s) m f y ∙ lent_changed (files_of s m) f (file_in s x) (file_in s y) (file_is m f x at s) (file_with g) changed where
    changed : file_in s y ≡ file_with g (file_in s x)
    changed = (λ i. file_of (option_map (refilled (messages_of s (chain i))) (kind i))) ∙ kind_changed g (messages_of s x.chain) x.kind (same (messages_of s x.chain))

  -- A change of an unknown file changes nothing.
  pub none_changed : map.get m f ≡ None → files_of s m ≡ change_socket_at g (files_of s m) f
  none_changed none = unchanged g (files_of s m) f (stranger_is_none s m f none)

-- Sockets that change.
pub ruleset rows = (row_changed, none_changed, chains_stay, counts_kept, marks_kept)

-- Messages that come and go.
pub ruleset messages = (chains_changed, messages_changed, messages_stay, none_changed, counts_kept, marks_kept)
