-- Changes of tables, as changes of places.
use Rattle.std.proofs.Common.{◌≡◌, ◌<◌, ℕ, zero, suc, Bool, true, false, not, ◌⊎◌, inl, inr, List, [], ◌∷◌, ◌++◌, length, refl, sym, ap, ◌∙◌, subst, cond, nat_eq, arith}
use Rattle.std.specs.Prelude.{Some, None, is_some, option_map, IsTrue, if◌then◌else◌}
use Rattle.std.specs.Option.{option_map_or}
use Rattle.std.specs.List.{Contains, list_any, slice_index_or, zip}
use Rattle.std.specs.Ordering.{eq_by_cmp, nat_cmp}
use Rattle.std.specs.Cmp.{unsigned_tied}
use Rattle.std.specs.FinMap as map
use Rattle.std.proofs.lemmas.Bool.{eq-eqb}
use Rattle.af_base.specs.World.{IsLive, Map, Process, World}
use Rattle.af_base.specs.Places.{InTable, held_in, table_at}
use Rattle.af_base.specs.Reached.{Garbage, is_socket}
use Rattle.af_base.specs.Changes.{add_process, add_user, change_at, install, install_all, remove_process, set_limit, uninstall, with_table}
use Rattle.af_base.specs.Refusals.{process_at}
use Rattle.af_base.specs.Table.{lowest_free}
use Rattle.af_base.specs.Steps.{spawned}
use Rattle.af_base.proofs.Elements.{Contains-first, Contains-later, Contains-none}
use Rattle.af_base.proofs.ProcessExits.{tabled-remove}
use Rattle.af_base.proofs.Free.{AreFree, first-free, free-lowest_free, rest-free}
use Rattle.af_base.proofs.ProcessLimits.{table_at-limited, tabled-limited}
use Rattle.af_base.proofs.Lookups.{insert-here, insert-other, none_some, remove-other, same_or_not, some_same}
use Rattle.af_base.proofs.PlaceMoves.{table-there, tabled-install, tabled-uninstall, there-install, there-table}
use Rattle.af_base.proofs.SoundSteps.{process-there}
use Rattle.af_base.proofs.AllowedSteps.{get-change_at}
use Rattle.af_collect.specs.Since.{Covers, Moves}

-- Nothing changes.
pub moves_itself : (begun w : World) → Moves begun w w
moves_itself begun w = record {
  live_same = λ f l. refl;
  live_stay = λ f l. l;
  kind_same = λ f l. refl;
  queues_gain = λ s f h. inl h;
  tables_gain = λ f t. inl t;
}

-- Where nothing changes, nothing is lost.
pub covers_itself : (begun w : World) (marked visited : ℕ → Bool) → Covers begun w w marked visited
covers_itself begun w marked visited = record {
  queues_keep = λ s f g h. h;
  queues_lose = λ s f l h. inl h;
  tables_lose = λ f l v t. inl t;
}

-- Two changes of places, one after the other, are one.
pub moves_then : {begun u v w : World} → Moves begun u v → Moves begun v w → Moves begun u w
moves_then a b = record {
  live_same = λ f l. b.live_same f l ∙ a.live_same f l;
  live_stay = λ f l. b.live_stay f (a.live_stay f l);
  kind_same = λ f l. b.kind_same f l ∙ a.kind_same f l;
  queues_gain = λ s f h. elim (b.queues_gain s f h) [ inl y ↦ a.queues_gain s f y | inr y ↦ inr y ];
  tables_gain = λ f t. elim (b.tables_gain f t) [ inl y ↦ a.tables_gain f y | inr y ↦ inr y ];
}

-- Where each of two changes, one after the other, loses only what may be lost, they do together.
pub covers_then : {begun u v w : World} {marked visited : ℕ → Bool} → Covers begun u v marked visited → Covers begun v w marked visited → Covers begun u w marked visited
covers_then a b = record {
  queues_keep = λ s f g h. b.queues_keep s f g (a.queues_keep s f g h);
  queues_lose = λ s f l h. elim (a.queues_lose s f l h) [ inl y ↦ b.queues_lose s f l y | inr y ↦ inr y ];
  tables_lose = λ f l v t. elim (a.tables_lose f l v t) [ inl y ↦ b.tables_lose f l v y | inr y ↦ inr y ];
}

-- The files stay, and each file that a table has was in a table, or is no garbage.
pub moves_tables : (begun old new : World) → new.files ≡ old.files → ((f : ℕ) → InTable new f → InTable old f ⊎ (¬ (Garbage begun f))) → Moves begun old new
moves_tables begun old new same gain = record {
  live_same = λ f l. ap (λ fs. map.contains_key fs f) same;
  live_stay = λ f l. ap (λ fs. map.contains_key fs f) same ∙ l;
  kind_same = λ f l. ap (λ fs. option_map_or is_socket (map.get fs f) false) same;
  queues_gain = λ s f h. inl (subst (λ fs. Contains (held_in fs s) f) same h);
  tables_gain = gain;
}

-- The files stay, and each file of the begin that leaves the tables is marked.
pub covers_tables : (begun old new : World) (marked visited : ℕ → Bool) → new.files ≡ old.files → ((f : ℕ) → IsLive begun f → InTable old f → InTable new f ⊎ (marked f ≡ true)) → Covers begun old new marked visited
covers_tables begun old new marked visited same lose = record {
  queues_keep = λ s f g h. subst (λ fs. Contains (held_in fs s) f) (sym same) h;
  queues_lose = λ s f l h. inl (subst (λ fs. Contains (held_in fs s) f) (sym same) h);
  tables_lose = λ f l v t. lose f l t;
}

-- A value of a map after one key was changed is unchanged, or at that key.
pub changed-then : {X : Type 0} (g : X → X) (m : Map X) (k q : ℕ) (x : X) → map.get m q ≡ Some x → ((q ≡ k) × (map.get (change_at g m k) q ≡ Some (g x))) ⊎ (map.get (change_at g m k) q ≡ Some x)
changed-then {X = X} g m k q x at = elim (same_or_not q k) [
  | inl same ↦ inl (same, found true (eq-eqb q k same))
  | inr apart ↦ inr (found false apart)
] where
  found : (b : Bool) → nat_eq q k ≡ b → map.get (change_at g m k) q ≡ Some (cond b (g x) x)
  found b e = get-change_at g m k q ∙ ap (option_map (λ y. cond (eq_by_cmp nat_cmp q k) (g y) y)) at ∙ ap (λ c. Some (cond c (g x) x)) (unsigned_tied q k ∙ e)

-- A file in a table before a change is in it after, or the change removed it.
tabled-left : {A : Type 0} (w : World) (p : ℕ) (g : Map ℕ → Map ℕ) (f : ℕ)
    → ((r : Process) (n : ℕ) → map.get w.processes p ≡ Some r → map.get r.table n ≡ Some f → (map.get (g r.table) n ≡ Some f) ⊎ A) → InTable w f → InTable (with_table w p g) f ⊎ A
tabled-left w p g f lose t =
    let was = table-there w t.0 t.1 f t.2 in
    elim (changed-then (λ r. record r { table = g r.table }) w.processes p t.0 was.0 was.1) [
      | inl y ↦ elim (lose was.0 t.1 (ap (map.get w.processes) (sym y.0) ∙ was.1) was.2) [ inl z ↦ inl (t.0, t.1, there-table (with_table w p g) t.0 t.1 _ y.1 ∙ z) | inr z ↦ inr z ]
      | inr y ↦ inl (t.0, t.1, there-table (with_table w p g) t.0 t.1 was.0 y ∙ was.2)
    ]

-- A number taken into use for a file that is no garbage.
pub moves_install : (begun w : World) (p n f : ℕ) → ¬ (Garbage begun f) → Moves begun w (install w p n f)
moves_install begun w p n f spared = moves_tables begun w (install w p n f) refl (λ h t. elim (tabled-install w p n f h t) [
  | inl y ↦ inl y
  | inr y ↦ inr (subst (λ k. ¬ (Garbage begun k)) y spared)
])

-- A number put in place of one whose file is marked, if it is of the begin.
pub covers_replace : (begun w : World) (p n f : ℕ) (marked visited : ℕ → Bool) → ((h : ℕ) → table_at w p n ≡ Some h → IsLive begun h → marked h ≡ true) → Covers begun w (install w p n f) marked visited
covers_replace begun w p n f marked visited was = covers_tables begun w (install w p n f) marked visited refl (λ h l t.
    tabled-left w p (λ t. map.insert t n f) h (λ r m at is. elim (same_or_not m n) [
      | inl same ↦ inr (was h (there-table w p n r at ∙ ap (map.get r.table) (sym same) ∙ is) l)
      | inr apart ↦ inl (insert-other r.table n f m apart ∙ is)
    ]) t)

-- At a number that is free nothing is lost.
pub covers_install : (begun w : World) (p n f : ℕ) (marked visited : ℕ → Bool) → table_at w p n ≡ None → Covers begun w (install w p n f) marked visited
covers_install begun w p n f marked visited free = covers_replace begun w p n f marked visited (λ h is l. absurd (none_some h (sym free ∙ is)))

-- A number given up.
pub moves_uninstall : (begun w : World) (p n : ℕ) → Moves begun w (uninstall w p n)
moves_uninstall begun w p n = moves_tables begun w (uninstall w p n) refl (λ f t. inl (tabled-uninstall w p n f t))

-- A number given up whose file is marked, if it is of the begin.
pub covers_uninstall : (begun w : World) (p n : ℕ) (marked visited : ℕ → Bool) → ((f : ℕ) → table_at w p n ≡ Some f → IsLive begun f → marked f ≡ true) → Covers begun w (uninstall w p n) marked visited
covers_uninstall begun w p n marked visited was = covers_tables begun w (uninstall w p n) marked visited refl (λ f l t.
    tabled-left w p (λ t. map.remove t n) f (λ r m at is. elim (same_or_not m n) [
      | inl same ↦ inr (was f (there-table w p n r at ∙ ap (map.get r.table) (sym same) ∙ is) l)
      | inr apart ↦ inl (remove-other r.table n m apart ∙ is)
    ]) t)

-- Another limit of a process.
pub moves_limited : (begun w : World) (p n : ℕ) → Moves begun w (set_limit w p n)
moves_limited begun w p n = moves_tables begun w (set_limit w p n) refl (λ f t. inl (tabled-limited w p n f t))

-- By it nothing is lost.
pub covers_limited : (begun w : World) (p n : ℕ) (marked visited : ℕ → Bool) → Covers begun w (set_limit w p n) marked visited
covers_limited begun w p n marked visited = covers_tables begun w (set_limit w p n) marked visited refl (λ f l t. inl (t.0, t.1, table_at-limited w p n t.0 t.1 ∙ t.2))

-- A process gone.
pub moves_remove_process : (begun w : World) (p : ℕ) → Moves begun w (remove_process w p)
moves_remove_process begun w p = moves_tables begun w (remove_process w p) refl (λ f t. inl (tabled-remove w p f t))

-- A process gone, where what its table had is marked, if it is of the begin.
pub covers_remove_process : (begun w : World) (p : ℕ) (marked visited : ℕ → Bool) → ((n f : ℕ) → table_at w p n ≡ Some f → IsLive begun f → marked f ≡ true) → Covers begun w (remove_process w p) marked visited
covers_remove_process begun w p marked visited was = covers_tables begun w (remove_process w p) marked visited refl (λ f l t. elim (same_or_not t.0 p) [
  | inl same ↦ inr (was t.1 f (ap (λ q. table_at w q t.1) (sym same) ∙ t.2) l)
  | inr apart ↦ inl (t.0, t.1, ap (λ o. option_map_or (λ q. map.get q.table t.1) o None) (remove-other w.processes p t.0 apart) ∙ t.2)
])

-- A process more, whose table has files that were in tables.
pub moves_add_process : (begun w : World) (q : Process) → ((n f : ℕ) → map.get q.table n ≡ Some f → InTable w f) → Moves begun w (add_process w q)
moves_add_process begun w q tabled = moves_tables begun w (add_process w q) refl (λ f t.
    let at = table-there (add_process w q) t.0 t.1 f t.2 in
    elim (same_or_not t.0 w.next_pid) [
      | inl same ↦ inl (tabled t.1 f (ap (λ r. map.get r.table t.1) (some_same q at.0 (sym (insert-here w.processes w.next_pid q) ∙ ap (map.get (map.insert w.processes w.next_pid q)) (sym same) ∙ at.1)) ∙ at.2))
      | inr apart ↦ inl (t.0, t.1, there-table w t.0 t.1 at.0 (sym (insert-other w.processes w.next_pid q t.0 apart) ∙ at.1) ∙ at.2)
    ])

-- A process more, with a number above all: nothing is lost.
pub covers_add_process : (begun w : World) (q : Process) (marked visited : ℕ → Bool) → ((p : ℕ) → IsTrue (map.contains_key w.processes p) → p < w.next_pid) → Covers begun w (add_process w q) marked visited
covers_add_process begun w q marked visited numbered = covers_tables begun w (add_process w q) marked visited refl (λ f l t.
    let at = table-there w t.0 t.1 f t.2 in
    elim (same_or_not t.0 w.next_pid) [
      | inl same ↦ absurd (omega (arith, same, numbered t.0 (ap is_some at.1)))
      | inr apart ↦ inl (t.0, t.1, there-table (add_process w q) t.0 t.1 at.0 (insert-other w.processes w.next_pid q t.0 apart ∙ at.1) ∙ at.2)
    ])

-- A child, which has the table of a process that is there.
pub moves_fork : (begun w : World) (p : ℕ) → IsTrue (map.contains_key w.processes p) → Moves begun w (add_process w (process_at w p))
moves_fork begun w p there = moves_add_process begun w (process_at w p) (λ n f is. (p, n, there-table w p n (process_at w p) (process-there w p (ap not there)) ∙ is))

-- A user more, after a change of places.
moves_add_user : (begun v w : World) (u : ℕ) → Moves begun v w → Moves begun v (add_user w u)
moves_add_user begun v w u m = by (list_any (nat_eq u) w.users) where
  by : (b : Bool) → Moves begun v (if b then w else record w { users = w.users ++ u ∷ [] })
  by true = m
  by false = record { live_same = m.live_same; live_stay = m.live_stay; kind_same = m.kind_same; queues_gain = m.queues_gain; tables_gain = m.tables_gain }

-- A user more, after a change that may lose places.
covers_add_user : (begun v w : World) (u : ℕ) (marked visited : ℕ → Bool) → Covers begun v w marked visited → Covers begun v (add_user w u) marked visited
covers_add_user begun v w u marked visited c = by (list_any (nat_eq u) w.users) where
  by : (b : Bool) → Covers begun v (if b then w else record w { users = w.users ++ u ∷ [] }) marked visited
  by true = c
  by false = record { queues_keep = c.queues_keep; queues_lose = c.queues_lose; tables_lose = c.tables_lose }

-- A process started, whose table is empty.
pub moves_spawned : (begun w : World) (uid nofile : ℕ) (privileged : Bool) → Moves begun w (spawned w uid nofile privileged)
moves_spawned begun w uid nofile privileged = moves_add_user begun w _ uid (moves_add_process begun w _ (λ n f is. absurd (none_some f (sym (map.get-empty nat_cmp n) ∙ is))))

-- A process started, with a number above all: nothing is lost.
pub covers_spawned : (begun w : World) (uid nofile : ℕ) (privileged : Bool) (marked visited : ℕ → Bool) → ((p : ℕ) → IsTrue (map.contains_key w.processes p) → p < w.next_pid) → Covers begun w (spawned w uid nofile privileged) marked visited
covers_spawned begun w uid nofile privileged marked visited numbered = covers_add_user begun w _ uid marked visited (covers_add_process begun w _ marked visited numbered)

-- Numbers taken into use, one after the other, for files that are no garbage.
pub moves_install_all : (begun w : World) (p : ℕ) (es : List (ℕ × ℕ)) → ((e : ℕ × ℕ) → Contains es e → ¬ (Garbage begun e.1)) → Moves begun w (install_all w p es)
moves_install_all begun w p [] spared = moves_itself begun w
moves_install_all begun w p (e ∷ es) spared = moves_then (moves_install begun w p e.0 e.1 (spared e (Contains-first e es))) (moves_install_all begun (install w p e.0 e.1) p es (λ d h. spared d (Contains-later e es d h)))

-- A file that comes with a number is among the files.
file-zipped : (ns fs : List ℕ) (e : ℕ × ℕ) → Contains (zip ns fs) e → Contains fs e.1
file-zipped [] fs e h = absurd (Contains-none e h)
file-zipped (n ∷ ns) [] e h = absurd (Contains-none e h)
file-zipped (n ∷ ns) (f ∷ fs) e h = at (λ d. file-zipped ns fs e d) h.0 h.1 h.2 where
  at : (Contains (zip ns fs) e → Contains fs e.1) → (k : ℕ) → k < length ((n, f) ∷ zip ns fs) → slice_index_or ((n, f) ∷ zip ns fs) k e ≡ e → Contains (f ∷ fs) e.1
  at rest zero l is = subst (λ d. Contains (f ∷ fs) d.1) is (Contains-first f fs)
  at rest (suc k) l is = Contains-later f fs e.1 (rest (k, omega (arith, l), is))

-- Numbers of one list taken into use for the files of another, which are no garbage.
pub moves_install_files : (begun w : World) (p : ℕ) (ns fs : List ℕ) → ((f : ℕ) → Contains fs f → ¬ (Garbage begun f)) → Moves begun w (install_all w p (zip ns fs))
moves_install_files begun w p ns fs spared = moves_install_all begun w p (zip ns fs) (λ e h. spared e.1 (file-zipped ns fs e h))

-- Free numbers taken into use, one after the other: nothing is lost.
pub covers_install_all : (begun w : World) (p : ℕ) (q : Process) (ns fs : List ℕ) (marked visited : ℕ → Bool) → map.get w.processes p ≡ Some q → AreFree q ns → Covers begun w (install_all w p (zip ns fs)) marked visited
covers_install_all begun w p q [] fs marked visited at free = covers_itself begun w marked visited
covers_install_all begun w p q (n ∷ ns) [] marked visited at free = covers_itself begun w marked visited
covers_install_all begun w p q (n ∷ ns) (f ∷ fs) marked visited at free =
    covers_then
    (covers_install begun w p n f marked visited (there-table w p n q at ∙ first-free q n ns free))
    (covers_install_all begun (install w p n f) p (record q { table = map.insert q.table n f }) ns fs marked visited (there-install w p n f q at) (rest-free q n ns f free))

-- The lowest free numbers of a process that is there taken into use: nothing is lost.
pub covers_install_lowest : (begun w : World) (p : ℕ) (ns fs : List ℕ) (marked visited : ℕ → Bool) → IsTrue (map.contains_key w.processes p) → (k : ℕ) × (ns ≡ lowest_free k (process_at w p)) → Covers begun w (install_all w p (zip ns fs)) marked visited
covers_install_lowest begun w p ns fs marked visited there lowest =
    covers_install_all begun w p (process_at w p) ns fs marked visited (process-there w p (ap not there)) (subst (AreFree (process_at w p)) (sym lowest.1) (free-lowest_free lowest.0 (process_at w p)))
