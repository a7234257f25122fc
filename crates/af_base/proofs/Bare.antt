-- A bare world has the places, the charges and the reach of the whole one.
use Rattle.std.proofs.Common.{◌≡◌, ℕ, ◌+◌, List, [], ◌++◌, refl, sym, ap, ◌∙◌, subst, map}
use Rattle.std.specs.Prelude.{Option, Some, None, option_map, is_some, ◌↔◌, length}
use Rattle.std.specs.Option.{option_map_or}
use Rattle.std.specs.List.{sum_by, Contains}
use Rattle.std.specs.FinMap as finmap
use Rattle.std.proofs.lemmas.List.Folds.{flat_map-map}
use Rattle.af_base.specs.World.{World, Map, Process, File, Message, Plain, AsSocket, is_live}
use Rattle.af_base.specs.Places.{table_at, held_by, contents, attached_in, queue_of}
use Rattle.af_base.specs.Counts.{total_of, count_in, one, charge, tabled, refs, inflight, charged, total}
use Rattle.af_base.specs.Reached.{Reached, ByTable, BySocket, Garbage}
use Rattle.af_base.specs.Unheld.{map_entries}
use Rattle.af_base.specs.Bare.{bare, bare_file, bare_message, bare_process}
use Rattle.af_base.proofs.SettledWorlds.{get-map_entries}
use Rattle.af_base.proofs.Lookups.{none_some, some_same}
use Rattle.af_base.proofs.MapsOfLists.{sum_by-mapped}
use Rattle.af_base.proofs.Totals.{total-same}

module _ {X : Type 0} (g : X → X) where
  -- A lookup in a map whose values were each changed.
  get-each : (m : Map X) (q : ℕ) → finmap.get (map_entries (λ _. g) (finmap.entries m)) q ≡ option_map g (finmap.get m q)
  get-each m q = get-map_entries (λ _. g) (finmap.entries m) q ∙ ap (option_map g) (sym (finmap.get-entries m q))

  -- A value of a changed map comes from a value before.
  was : (o : Option X) (y : X) → option_map g o ≡ Some y → (x : X) × (o ≡ Some x) × (g x ≡ y)
  was None y e = absurd (none_some y e)
  was (Some x) y e = (x, refl, some_same (g x) y e)

  -- Each value changed to one that weighs the same.
  total-each : (F : X → ℕ) → ((x : X) → F (g x) ≡ F x) → (m : Map X) → total_of F (map_entries (λ _. g) (finmap.entries m)) ≡ total_of F m
  total-each F same m = total-same F F (map_entries (λ _. g) (finmap.entries m)) m
      (λ k y is. let at = was (finmap.get m k) y (sym (get-each m k) ∙ is) in (at.0, at.1, ap F (sym at.2) ∙ same at.0))
      (λ k x is. (g x, get-each m k ∙ ap (option_map g) is, same x))

-- A file is carried by a bare queue exactly when the queue carries it.
carried-bare : (q : List Message) → attached_in (map bare_message q) ≡ attached_in q
carried-bare q = flat_map-map (λ m. m.attached) bare_message q

-- A bare file holds the same files.
contents-bare : (x : File) → contents (bare_file x) ≡ contents x
contents-bare Plain = refl
contents-bare (AsSocket s) = ap (λ c. c ++ s.backlog) (carried-bare s.queue)

-- A bare file has the same files in its queue.
queue-bare : (x : File) → attached_in (queue_of (bare_file x)) ≡ attached_in (queue_of x)
queue-bare Plain = refl
queue-bare (AsSocket s) = carried-bare s.queue

-- A sum that ignores payload bytes is the same over bare messages.
weight-bare : (F : Message → ℕ) → ((m : Message) → F (bare_message m) ≡ F m) → (x : File) → sum_by F (queue_of (bare_file x)) ≡ sum_by F (queue_of x)
weight-bare F same Plain = refl
weight-bare F same (AsSocket s) = sum_by-mapped F bare_message s.queue ∙ (λ i. sum_by (λ m. same m i) s.queue)

module _ (w : World) where
  -- The number of descriptors that refer to a file.
  pub tabled-bare : (f : ℕ) → tabled (bare w) f ≡ tabled w f
  tabled-bare f = total-each bare_process (λ p. total_of (λ g. one f g) p.table) (λ x. refl) w.processes

  -- The reference count.
  pub refs-bare : (f : ℕ) → refs (bare w) f ≡ refs w f
  refs-bare f = (λ i. tabled-bare f i + total-each bare_file (λ x. count_in f (contents x)) (λ x. ap (count_in f) (contents-bare x)) w.files i)

  -- The in-flight count.
  pub inflight-bare : (f : ℕ) → inflight (bare w) f ≡ inflight w f
  inflight-bare f = total-each bare_file (λ x. count_in f (attached_in (queue_of x))) (λ x. ap (count_in f) (queue-bare x)) w.files

  -- The charge of a user.
  pub charged-bare : (u : ℕ) → charged (bare w) u ≡ charged w u
  charged-bare u = total-each bare_file (λ x. sum_by (charge u) (queue_of x)) (weight-bare (charge u) (λ m. refl)) w.files

  -- The charge of all users.
  pub total-bare : total (bare w) ≡ total w
  total-bare = total-each bare_file (λ x. sum_by (λ m. length m.attached) (queue_of x)) (weight-bare (λ m. length m.attached) (λ m. refl)) w.files

  -- Which files are live.
  pub live-bare : (f : ℕ) → is_live (bare w) f ≡ is_live w f
  live-bare f = ap is_some (get-each bare_file w.files f) ∙ still (finmap.get w.files f) where
    still : (o : Option File) → is_some (option_map bare_file o) ≡ is_some o
    still None = refl
    still (Some x) = refl

  -- The file that a descriptor refers to.
  pub table_at-bare : (p n : ℕ) → table_at (bare w) p n ≡ table_at w p n
  table_at-bare p n = ap (λ o. option_map_or (λ q. finmap.get q.table n) o None) (get-each bare_process w.processes p) ∙ still (finmap.get w.processes p) where
    still : (o : Option Process) → option_map_or (λ q. finmap.get q.table n) (option_map bare_process o) None ≡ option_map_or (λ q. finmap.get q.table n) o None
    still None = refl
    still (Some q) = refl

  -- The files that a socket holds.
  pub held-bare : (s : ℕ) → held_by (bare w) s ≡ held_by w s
  held-bare s = ap (λ o. option_map_or contents o []) (get-each bare_file w.files s) ∙ still (finmap.get w.files s) where
    still : (o : Option File) → option_map_or contents (option_map bare_file o) [] ≡ option_map_or contents o []
    still None = refl
    still (Some x) = contents-bare x

  -- A file that is reachable in the bare world is reachable.
  reached-from_bare : (f : ℕ) → Reached (bare w) f → Reached w f
  reached-from_bare _ (ByTable f t) = ByTable f (t.0, t.1, sym (table_at-bare t.0 t.1) ∙ t.2)
  reached-from_bare _ (BySocket s f r h) = BySocket s f (reached-from_bare s r) (subst (λ xs. Contains xs f) (held-bare s) h)

  -- A reachable file is reachable in the bare world.
  reached-to_bare : (f : ℕ) → Reached w f → Reached (bare w) f
  reached-to_bare _ (ByTable f t) = ByTable f (t.0, t.1, table_at-bare t.0 t.1 ∙ t.2)
  reached-to_bare _ (BySocket s f r h) = BySocket s f (reached-to_bare s r) (subst (λ xs. Contains xs f) (sym (held-bare s)) h)

  -- The set of reachable files.
  pub reached-bare : (f : ℕ) → Reached (bare w) f ↔ Reached w f
  reached-bare f = (reached-from_bare f, reached-to_bare f)

  -- The set of garbage files.
  pub garbage-bare : (f : ℕ) → Garbage (bare w) f ↔ Garbage w f
  garbage-bare f = (λ g. (sym (live-bare f) ∙ g.0, λ r. g.1 (reached-to_bare f r)), λ g. (live-bare f ∙ g.0, λ r. g.1 (reached-from_bare f r)))
