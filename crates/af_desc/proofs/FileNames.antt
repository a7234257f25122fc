-- The names are just those of the files, whatever files are made, freed or changed.
use Rattle.std.proofs.Common.{◌≡◌, ℕ, Bool, true, false, ◌⊎◌, inl, inr, List, [], refl, sym, ap, ◌∙◌, cond, nat_eq, arith}
use Rattle.std.specs.Prelude.{◌↔◌, Option, Some, None, IfSome, is_some, option_map}
use Rattle.std.specs.Option.{option_and_then, option_map_or}
use Rattle.std.specs.FinMap as map
use Rattle.std.specs.FinMap.{get-empty, get-insert, get-remove, nat_cmp-IsAntisymmetric, same_map, slice_cmp-IsAntisymmetric}
use Rattle.std.specs.Ordering.{nat_cmp, eq_by_cmp}
use Rattle.std.specs.Cmp.{nat_cmp_total}
use Rattle.std.specs.Cmp.Lexicographic.{nat_list_cmp_total, pointwise, slice_cmp, texts_ties}
use Rattle.std.proofs.lemmas.Bool.{false≢true}
use Rattle.af_base.specs.Changes.{change_socket_at, file_with, with_name}
use Rattle.af_base.specs.declared.events.SockType.{SockType}
use Rattle.af_base.specs.declared.events.SockType.TheVariants.{Dgram, Seqpacket, Stream}
use Rattle.af_base.specs.Names.{bound_to, named, set_of}
use Rattle.af_base.specs.Refusals.{socket_of}
use Rattle.af_base.specs.World.{AsSocket, File, Map, Plain, Socket, World}
use Rattle.af_base.proofs.Lookups.{insert-here, insert-other, none_some, not_same, remove-here, remove-other, same_or_not, some_same}
use Rattle.af_base.proofs.SocketNames.{bound_of, named-none, named-some}
use Rattle.af_base.proofs.DerivedEquality.{list_itself, list_same}
use Rattle.af_desc.specs.FilesView.{AreNamed, AreNamedIn, bound_in, name_in, name_of, socket_in}
use Rattle.af_listen.specs.NameSets.{names_in, no_names, with_names}
use Rattle.af_listen.specs.NamesView.{NamesView}
use Rattle.af_listen.specs.declared.name_sets.NameSets.{NameSets}

-- The set and the name of what is there.
name-at : (m : Map File) (f : ℕ) (o : Option File) → map.get m f ≡ o
    → bound_in m f ≡ option_and_then bound_of o
name-at m f o e = ap (λ o. option_and_then bound_to (option_and_then socket_of o)) e ∙ by o where
  by : (o : Option File)
      → option_and_then bound_to (option_and_then socket_of o) ≡ option_and_then bound_of o
  by None = refl
  by (Some x) = refl

-- A socket without a name is in no set.
unbound : (o : Option Socket) → option_and_then (λ s. s.name) o ≡ None
    → option_and_then bound_to o ≡ None
unbound None e = refl
unbound (Some s) e = ap (option_map {U = ℕ × List ℕ} (λ name. (set_of s.kind, name))) e

-- A socket with a name has it in the set of its type.
pub bound-there : (o : Option Socket) (kind : SockType) (name : List ℕ)
    → IfSome o (λ s. kind ≡ s.kind) → option_and_then (λ s. s.name) o ≡ Some name
    → option_and_then bound_to o ≡ Some (set_of kind, name)
bound-there None kind name own e = absurd (none_some name e)
bound-there (Some s) kind name own e =
    ap (option_map {U = ℕ × List ℕ} (λ name. (set_of s.kind, name))) e
    ∙ ap {B = Option (ℕ × List ℕ)} (λ kind. Some (set_of kind, name)) (sym own)

-- What is true of a changed set, and of those of the other types, is true of each.
each-set : (P : ℕ → NamesView → Type 0) (kind : SockType) (own : NamesView) (names : NameSets)
    → P (set_of kind) own
    → ((k : SockType) → ¬ (set_of k ≡ set_of kind) → P (set_of k) (names_in names k))
    → (k : SockType) → P (set_of k) (names_in (with_names kind own names) k)
each-set P Stream own names here there Stream = here
each-set P Stream own names here there Seqpacket = here
each-set P Stream own names here there Dgram = there Dgram (λ e. omega (arith, e))
each-set P Seqpacket own names here there Stream = here
each-set P Seqpacket own names here there Seqpacket = here
each-set P Seqpacket own names here there Dgram = there Dgram (λ e. omega (arith, e))
each-set P Dgram own names here there Stream = there Stream (λ e. omega (arith, e))
each-set P Dgram own names here there Seqpacket = there Seqpacket (λ e. omega (arith, e))
each-set P Dgram own names here there Dgram = here

-- A change of a socket that leaves its name and its type alone.
name-kept : (g : Socket → Socket) → ((s : Socket) → bound_to (g s) ≡ bound_to s) → (x : File)
    → bound_of (file_with g x) ≡ bound_of x
name-kept g same Plain = refl
name-kept g same (AsSocket s) = same s

-- No name and no file.
none-yet : (set : ℕ) (names : NamesView) (m : Map File) → names ≡ map.empty
    → m ≡ map.empty → AreNamedIn set names m
none-yet set names m no_name no_file = record {
  each = λ name f. (
    λ e. absurd (none_some f (sym (ap (λ n. map.get n name) no_name ∙ get-empty (slice_cmp nat_cmp) name) ∙ e)),
    λ e. absurd (none_some (set, name) (sym (name-at m f None (ap (λ n. map.get n f) no_file ∙ get-empty nat_cmp f)) ∙ e)),
  );
}

-- The same of the sets of all types.
pub named-none-yet : (names : NameSets) (m : Map File) → names ≡ no_names → m ≡ map.empty
    → AreNamed names m
named-none-yet names m no_name no_file Stream =
    none-yet 0 names.connections m (ap (λ n. n.connections) no_name) no_file
named-none-yet names m no_name no_file Seqpacket =
    none-yet 0 names.connections m (ap (λ n. n.connections) no_name) no_file
named-none-yet names m no_name no_file Dgram =
    none-yet 1 names.datagrams m (ap (λ n. n.datagrams) no_name) no_file

module _ (set : ℕ) (names : NamesView) (m : Map File) (h : AreNamedIn set names m) where
  -- Files of which each has the name that it had, in its set.
  same-names : (n : Map File) → ((f : ℕ) → bound_in n f ≡ bound_in m f) → AreNamedIn set names n
  same-names n same = record { each = λ name f. (λ e. same f ∙ (h.each name f).0 e, λ e. (h.each name f).1 (sym (same f) ∙ e)) }

  -- Files of which one alone changed, which is bound in this set neither before nor after.
  elsewhere : (k : ℕ) (n : Map File)
      → ((f : ℕ) → nat_eq f k ≡ false → map.get n f ≡ map.get m f)
      → ((name : List ℕ) → ¬ (bound_in m k ≡ Some (set, name)))
      → ((name : List ℕ) → ¬ (bound_in n k ≡ Some (set, name))) → AreNamedIn set names n
  elsewhere k n same was is = record {
    each = λ name f. elim (same_or_not f k) [
      | inl e ↦ (
        λ at. absurd (was name (sym (ap (bound_in m) e) ∙ (h.each name f).0 at)),
        λ at. absurd (is name (sym (ap (bound_in n) e) ∙ at)),
      )
      | inr e ↦
          let stays = ap (λ o. option_and_then bound_to (option_and_then socket_of o)) (same f e) in
          (λ at. stays ∙ (h.each name f).0 at, λ at. (h.each name f).1 (sym stays ∙ at))
    ];
  }

  -- A file changed, but for its name and its set.
  pub named-insert : (k : ℕ) (x y : File) → map.get m k ≡ Some x → bound_of y ≡ bound_of x
      → AreNamedIn set names (map.insert m k y)
  named-insert k x y at same = same-names (map.insert m k y) (λ f. elim (same_or_not f k) [
    | inl e ↦ ap (bound_in (map.insert m k y)) e ∙ name-at (map.insert m k y) k (Some y) (insert-here m k y) ∙ same ∙ sym (name-at m k (Some x) at) ∙ sym (ap (bound_in m) e)
    | inr e ↦ ap (λ o. option_and_then bound_to (option_and_then socket_of o)) (insert-other m k y f e)
  ])

  -- A file more, without a name.
  pub named-new : (k : ℕ) (y : File) → map.contains_key m k ≡ false → name_of y ≡ None
      → AreNamedIn set names (map.insert m k y)
  named-new k y new same = same-names (map.insert m k y) (λ f. elim (same_or_not f k) [
    | inl e ↦ ap (bound_in (map.insert m k y)) e ∙ name-at (map.insert m k y) k (Some y) (insert-here m k y) ∙ unbound (socket_of y) same ∙ sym (name-at m k None (nothing (map.get m k) new)) ∙ sym (ap (bound_in m) e)
    | inr e ↦ ap (λ o. option_and_then bound_to (option_and_then socket_of o)) (insert-other m k y f e)
  ]) where
    nothing : (o : Option File) → is_some o ≡ false → o ≡ None
    nothing None e = refl
    nothing (Some x) e = absurd (false≢true (sym e))

  -- A file without a name is freed, or an unknown one.
  pub named-gone : (k : ℕ) → name_in m k ≡ None → AreNamedIn set names (map.remove m k)
  named-gone k none = same-names (map.remove m k) (λ f. elim (same_or_not f k) [
    | inl e ↦ ap (bound_in (map.remove m k)) e ∙ name-at (map.remove m k) k None (remove-here m k) ∙ sym (unbound (socket_in m k) none) ∙ sym (ap (bound_in m) e)
    | inr e ↦ ap (λ o. option_and_then bound_to (option_and_then socket_of o)) (remove-other m k f e)
  ])

  -- The socket that a name finds in the set.
  pub named-is : (name : List ℕ) → map.get names name ≡ named m set name
  named-is name = by (named m set name) refl where
    world : World
    world = record { processes = map.empty; files = m; next_ino = 0; next_pid = 0; users = [] }

    by : (o : Option ℕ) → named m set name ≡ o → map.get names name ≡ o
    by (Some f) e = (h.each name f).1 (named-some world set name f e)
    by None e = none (map.get names name) refl where
      none : (o : Option ℕ) → map.get names name ≡ o → o ≡ None
      none None is = refl
      none (Some f) is = absurd (named-none world set name e f ((h.each name f).0 is))

-- Two names are equal, or differ.
one-or-two : (a b : List ℕ) → (a ≡ b) ⊎ (eq_by_cmp (slice_cmp nat_cmp) a b ≡ false)
one-or-two a b = by (eq_by_cmp (slice_cmp nat_cmp) a b) refl where
  by : (c : Bool) → eq_by_cmp (slice_cmp nat_cmp) a b ≡ c → (a ≡ b) ⊎ (eq_by_cmp (slice_cmp nat_cmp) a b ≡ false)
  by true e = inl (list_same a b (texts_ties a b ∙ e))
  by false e = inr e

module _ (set : ℕ) (names : NamesView) (m : Map File) (h : AreNamedIn set names m) (name : List ℕ)
  where
    -- A removed name leads nowhere.
    taken-here : map.get (map.remove names name) name ≡ None
    taken-here = get-remove nat_list_cmp_total names name name ∙ ap (λ b. cond b None (map.get names name)) (sym (texts_ties name name) ∙ list_itself name)

    -- Another name leads where it did.
    taken-other : (q : List ℕ) → eq_by_cmp (slice_cmp nat_cmp) q name ≡ false → map.get (map.remove names name) q ≡ map.get names q
    taken-other q e = get-remove nat_list_cmp_total names name q ∙ ap (λ b. cond b None (map.get names q)) e

    -- A new name leads to its file.
    given-here : (f : ℕ) → map.get (map.insert names name f) name ≡ Some f
    given-here f = get-insert nat_list_cmp_total names name f name ∙ ap (λ b. cond b (Some f) (map.get names name)) (sym (texts_ties name name) ∙ list_itself name)

    -- Another name leads where it did before.
    given-other : (f : ℕ) (q : List ℕ) → eq_by_cmp (slice_cmp nat_cmp) q name ≡ false → map.get (map.insert names name f) q ≡ map.get names q
    given-other f q e = get-insert nat_list_cmp_total names name f q ∙ ap (λ b. cond b (Some f) (map.get names q)) e

    -- The file of the name is freed, and the name with it.
    pub named-freed : (k : ℕ) → bound_in m k ≡ Some (set, name)
        → AreNamedIn set (map.remove names name) (map.remove m k)
    named-freed k had = record { each = λ q f. freed q f (one-or-two q name) } where
      gone : bound_in (map.remove m k) k ≡ None
      gone = name-at (map.remove m k) k None (remove-here m k)

      other : (f : ℕ) → nat_eq f k ≡ false → bound_in (map.remove m k) f ≡ bound_in m f
      other f far = ap (λ o. option_and_then bound_to (option_and_then socket_of o)) (remove-other m k f far)

      was : (q : List ℕ) (f : ℕ) → bound_in (map.remove m k) f ≡ Some (set, q)
          → (f ≡ k) ⊎ (nat_eq f k ≡ false) → bound_in m f ≡ Some (set, q)
      was q f is (inl same) = absurd (none_some (set, q) (sym gone ∙ sym (ap (bound_in (map.remove m k)) same) ∙ is))
      was q f is (inr far) = sym (other f far) ∙ is

      alone : (q : List ℕ) (f : ℕ) → q ≡ name → bound_in (map.remove m k) f ≡ Some (set, q)
          → (f ≡ k) ⊎ (nat_eq f k ≡ false) → ⊥
      alone q f e is (inl same) = none_some (set, q) (sym gone ∙ sym (ap (bound_in (map.remove m k)) same) ∙ is)
      alone q f e is (inr far) =
          let at_f = (h.each q f).1 (was q f is (inr far)) in
          not_same f k far (some_same f k (sym at_f ∙ ap (map.get names) e ∙ ((h.each name k).1 had)))

      stays : (q : List ℕ) (f : ℕ) → eq_by_cmp (slice_cmp nat_cmp) q name ≡ false
          → map.get names q ≡ Some f → (f ≡ k) ⊎ (nat_eq f k ≡ false)
          → bound_in (map.remove m k) f ≡ Some (set, q)
      stays q f e is (inl same) =
          let both = ap (λ x. x.1) (some_same (set, q) (set, name) (sym ((h.each q f).0 is) ∙ ap (bound_in m) same ∙ had)) in
          absurd (false≢true (sym e ∙ sym (texts_ties q name) ∙ ap (λ x. pointwise nat_eq x name) both ∙ list_itself name))
      stays q f e is (inr far) = other f far ∙ (h.each q f).0 is

      freed : (q : List ℕ) (f : ℕ) → (q ≡ name) ⊎ (eq_by_cmp (slice_cmp nat_cmp) q name ≡ false)
          → (map.get (map.remove names name) q ≡ Some f) ↔ (bound_in (map.remove m k) f ≡ Some (set, q))
      freed q f (inl e) = (
        λ is. absurd (none_some f (sym taken-here ∙ sym (ap (map.get (map.remove names name)) e) ∙ is)),
        λ is. absurd (alone q f e is (same_or_not f k)),
      )
      freed q f (inr e) = (
        λ is. stays q f e (sym (taken-other q e) ∙ is) (same_or_not f k),
        λ is. taken-other q e ∙ (h.each q f).1 (was q f is (same_or_not f k)),
      )

    -- A file gets the name, which was nobody's, and had none before.
    pub named-given : (k : ℕ) (x y : File) → map.get names name ≡ None → map.get m k ≡ Some x
        → name_of x ≡ None → bound_of y ≡ Some (set, name)
        → AreNamedIn set (map.insert names name k) (map.insert m k y)
    named-given k x y free at nameless gets = record { each = λ q f. given q f (one-or-two q name) } where
      here : bound_in (map.insert m k y) k ≡ Some (set, name)
      here = name-at (map.insert m k y) k (Some y) (insert-here m k y) ∙ gets

      before : bound_in m k ≡ None
      before = name-at m k (Some x) at ∙ unbound (socket_of x) nameless

      other : (f : ℕ) → nat_eq f k ≡ false → bound_in (map.insert m k y) f ≡ bound_in m f
      other f far = ap (λ o. option_and_then bound_to (option_and_then socket_of o)) (insert-other m k y f far)

      only : (q : List ℕ) (f : ℕ) → q ≡ name → bound_in (map.insert m k y) f ≡ Some (set, q)
          → (f ≡ k) ⊎ (nat_eq f k ≡ false) → f ≡ k
      only q f e is (inl same) = same
      only q f e is (inr far) = absurd (none_some f (sym free ∙ ap (map.get names) (sym e) ∙ (h.each q f).1 (sym (other f far) ∙ is)))

      stays : (q : List ℕ) (f : ℕ) → map.get names q ≡ Some f → (f ≡ k) ⊎ (nat_eq f k ≡ false)
          → bound_in (map.insert m k y) f ≡ Some (set, q)
      stays q f is (inl same) = absurd (none_some (set, q) (sym before ∙ sym (ap (bound_in m) same) ∙ (h.each q f).0 is))
      stays q f is (inr far) = other f far ∙ (h.each q f).0 is

      was : (q : List ℕ) (f : ℕ) → eq_by_cmp (slice_cmp nat_cmp) q name ≡ false
          → bound_in (map.insert m k y) f ≡ Some (set, q) → (f ≡ k) ⊎ (nat_eq f k ≡ false)
          → bound_in m f ≡ Some (set, q)
      was q f e is (inl same) =
          let both = ap (λ x. x.1) (some_same (set, q) (set, name) (sym is ∙ ap (bound_in (map.insert m k y)) same ∙ here)) in
          absurd (false≢true (sym e ∙ sym (texts_ties q name) ∙ ap (λ x. pointwise nat_eq x name) both ∙ list_itself name))
      was q f e is (inr far) = sym (other f far) ∙ is

      given : (q : List ℕ) (f : ℕ) → (q ≡ name) ⊎ (eq_by_cmp (slice_cmp nat_cmp) q name ≡ false)
          → (map.get (map.insert names name k) q ≡ Some f) ↔ (bound_in (map.insert m k y) f ≡ Some (set, q))
      given q f (inl e) = (
        λ is.
            let same = some_same k f (sym (given-here k) ∙ sym (ap (map.get (map.insert names name k)) e) ∙ is) in
            ap (bound_in (map.insert m k y)) (sym same) ∙ here ∙ ap {B = Option (ℕ × List ℕ)} (λ n. Some (set, n)) (sym e),
        λ is. ap (map.get (map.insert names name k)) e ∙ given-here k ∙ ap Some (sym (only q f e is (same_or_not f k))),
      )
      given q f (inr e) = (
        λ is. stays q f (sym (given-other k q e) ∙ is) (same_or_not f k),
        λ is. given-other k q e ∙ (h.each q f).1 (was q f e is (same_or_not f k)),
      )

-- A name that was free, given and taken back.
given-back : (names : NamesView) (name : List ℕ) (k : ℕ) → map.get names name ≡ None
    → map.remove (map.insert names name k) name ≡ names
given-back names name k free =
    same_map nat_list_cmp_total (slice_cmp-IsAntisymmetric nat_cmp-IsAntisymmetric) _ _
    (λ q. each q (one-or-two q name)) where
      removed : (q : List ℕ) → map.get (map.remove (map.insert names name k) name) q
          ≡ cond (eq_by_cmp (slice_cmp nat_cmp) q name) None (map.get (map.insert names name k) q)
      removed q = get-remove nat_list_cmp_total (map.insert names name k) name q

      each : (q : List ℕ) → (q ≡ name) ⊎ (eq_by_cmp (slice_cmp nat_cmp) q name ≡ false)
          → map.get (map.remove (map.insert names name k) name) q ≡ map.get names q
      each q (inl e) = ap (map.get (map.remove (map.insert names name k) name)) e ∙ removed name
          ∙ ap (λ b. cond b None (map.get (map.insert names name k) name)) (sym (texts_ties name name)
          ∙ list_itself name) ∙ sym free ∙ sym (ap (map.get names) e)
      each q (inr e) = removed q ∙ ap (λ b. cond b None (map.get (map.insert names name k) q)) e
          ∙ get-insert nat_list_cmp_total names name k q ∙ ap (λ b. cond b (Some k) (map.get names q)) e

-- The same in the set of a type.
pub named-back : (kind : SockType) (names : NameSets) (name : List ℕ) (k : ℕ)
    → map.get (names_in names kind) name ≡ None
    → (given : NameSets) → given ≡ with_names kind (map.insert (names_in names kind) name k) names
    → with_names kind (map.remove (names_in given kind) name) given ≡ names
named-back kind names name k free given is =
    ap (λ n. with_names kind (map.remove (names_in n kind) name) n) is ∙ by kind free where
      by : (kind : SockType) → map.get (names_in names kind) name ≡ None
          → with_names kind (map.remove
          (names_in (with_names kind (map.insert (names_in names kind) name k) names) kind) name)
          (with_names kind (map.insert (names_in names kind) name k) names) ≡ names
      by Stream free = ap {B =
          NameSets} (λ own. record names {
            connections =
                own;
          }) (given-back names.connections name k free)
      by Seqpacket free = ap {B =
          NameSets} (λ own. record names {
            connections =
                own;
          }) (given-back names.connections name k free)
      by Dgram free = ap {B =
          NameSets} (λ own. record names { datagrams = own }) (given-back names.datagrams name k free)

module _ (names : NameSets) (m : Map File) (h : AreNamed names m) (kind : SockType)
    (name : List ℕ) where
  -- The file of a name is freed, and the name with it, in the set of its type.
  pub name-freed : (k : ℕ) → bound_in m k ≡ Some (set_of kind, name)
      → AreNamed (with_names kind (map.remove (names_in names kind) name) names) (map.remove m k)
  name-freed k had = each-set (λ set own. AreNamedIn set own (map.remove m k)) kind _ names
      (named-freed (set_of kind) (names_in names kind) m (h kind) name k had)
      (λ t apart. elsewhere (set_of t) (names_in names t) m (h t) k (map.remove m k)
      (remove-other m k)
      (λ q is. apart (ap (λ x. x.0) (some_same (set_of t, q) (set_of kind, name) (sym is ∙ had))))
      (λ q is. none_some (set_of t, q) (sym (name-at (map.remove m k) k None (remove-here m k))
      ∙ is)))

  -- A socket without a name gets this one, which was free in the set of its type.
  name-given : (k : ℕ) (s : Socket) → map.get (names_in names kind) name ≡ None
      → map.get m k ≡ Some (AsSocket s) → kind ≡ s.kind → s.name ≡ None
      → AreNamed (with_names kind (map.insert (names_in names kind) name k) names)
      (map.insert m k (AsSocket (with_name name s)))
  name-given k s free at own nameless =
      let new = map.insert m k (AsSocket (with_name name s)) in
      let gets : bound_to (with_name name s) ≡ Some (set_of kind, name) =
      ap {B = Option (ℕ × List ℕ)} (λ kind. Some (set_of kind, name)) (sym own) in
      let here = name-at new k (Some (AsSocket (with_name name s))) (insert-here m k _) ∙ gets in
      let before = name-at m k (Some (AsSocket s)) at ∙ unbound (Some s) nameless in
      each-set (λ set own. AreNamedIn set own new) kind _ names
      (named-given (set_of kind) (names_in names kind) m (h kind) name k (AsSocket s)
      (AsSocket (with_name name s)) free at nameless gets)
      (λ t apart. elsewhere (set_of t) (names_in names t) m (h t) k new (insert-other m k _)
      (λ q is. none_some (set_of t, q) (sym before ∙ is))
      (λ q is. apart (ap (λ x. x.0) (some_same (set_of t, q) (set_of kind, name) (sym is ∙ here)))))

  -- The same where the socket is looked up.
  pub name-bound : (k : ℕ) → map.get (names_in names kind) name ≡ None
      → ¬ (socket_in m k ≡ None) → IfSome (socket_in m k) (λ s. kind ≡ s.kind)
      → IfSome (socket_in m k) (λ s. s.name ≡ None)
      → AreNamed (with_names kind (map.insert (names_in names kind) name k) names)
      (change_socket_at (with_name name) m k)
  name-bound k free some own nameless = by (map.get m k) refl some own nameless where
    by : (o : Option File) → map.get m k ≡ o → ¬ (option_and_then socket_of o ≡ None)
        → IfSome (option_and_then socket_of o) (λ s. kind ≡ s.kind)
        → IfSome (option_and_then socket_of o) (λ s. s.name ≡ None)
        → AreNamed (with_names kind (map.insert (names_in names kind) name k) names)
        (option_map_or (λ x. map.insert m k (file_with (with_name name) x)) o m)
    by None at some own nameless = absurd (some refl)
    by (Some Plain) at some own nameless = absurd (some refl)
    by (Some (AsSocket s)) at some own nameless = name-given k s free at own nameless

-- A socket changed, but for its name and its type.
pub named-changed : (set : ℕ) (names : NamesView) (m : Map File) (f : ℕ) (g : Socket → Socket)
    → ((s : Socket) → bound_to (g s) ≡ bound_to s) → AreNamedIn set names m
    → AreNamedIn set names (change_socket_at g m f)
named-changed set names m f g same h = by (map.get m f) refl where
  by : (o : Option File) → map.get m f ≡ o
      → AreNamedIn set names (option_map_or (λ x. map.insert m f (file_with g x)) o m)
  by None at = h
  by (Some x) at = named-insert set names m h f x (file_with g x) at (name-kept g same x)

-- A change of a socket keeps a plain file and an unknown one.
pub unchanged : (g : Socket → Socket) (m : Map File) (k : ℕ) → socket_in m k ≡ None → m ≡ change_socket_at g m k
unchanged g m k none = by (map.get m k) refl none where
  by : (o : Option File) → map.get m k ≡ o → option_and_then socket_of o ≡ None → m ≡ option_map_or (λ x. map.insert m k (file_with g x)) o m
  by None at e = refl
  by (Some (AsSocket s)) at e = absurd (none_some s (sym e))
  by (Some Plain) at e = same_map nat_cmp_total nat_cmp-IsAntisymmetric m (map.insert m k Plain) (λ f. elim (same_or_not f k) [
    | inl same ↦ ap (map.get m) same ∙ at ∙ sym (insert-here m k Plain) ∙ sym (ap (map.get (map.insert m k Plain)) same)
    | inr far ↦ sym (insert-other m k Plain f far)
  ])
