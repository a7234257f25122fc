-- Where places come from and where they go, under each change.
use Rattle.std.proofs.Common.{◌≡◌, ℕ, Bool, true, false, ◌⊎◌, inl, inr, [], refl, sym, ap, ◌∙◌, subst, cond, nat_eq, arith}
use Rattle.std.specs.Prelude.{Option, Some, None, option_map}
use Rattle.std.specs.Option.{option_map_or}
use Rattle.std.specs.List.{Contains}
use Rattle.std.specs.Ordering.{nat_cmp, eq_by_cmp}
use Rattle.std.specs.FinMap as map
use Rattle.af_base.specs.declared.events.State.TheVariants as state
use Rattle.af_base.specs.World.{AsSocket, File, Map, Plain, Process, Socket, World, is_live}
use Rattle.af_base.specs.Places.{Holds, InTable, contents, table_at}
use Rattle.af_base.specs.Counts.{total_of}
use Rattle.af_base.specs.Changes.{file_with, install, uninstall, with_socket, with_table}
use Rattle.af_base.specs.Whole.{state_at, state_of}
use Rattle.af_base.proofs.SettledWorlds.{none_in}
use Rattle.af_base.proofs.AllowedSteps.{get-change_at}
use Rattle.af_base.proofs.Sums.{total-change_at}
use Rattle.af_base.proofs.Lookups.{changed-live, changed-was, insert-here, insert-other, none_some, remove-here, remove-other, same_or_not, some_same}

-- The file that a descriptor refers to is in a table.
pub table-there : (w : World) (p n g : ℕ) → table_at w p n ≡ Some g → (q : Process) × (map.get w.processes p ≡ Some q) × (map.get q.table n ≡ Some g)
table-there w p n g = by (map.get w.processes p) refl where
  by : (o : Option Process) → map.get w.processes p ≡ o → option_map_or (λ q. map.get q.table n) o None ≡ Some g → (q : Process) × (map.get w.processes p ≡ Some q) × (map.get q.table n ≡ Some g)
  by None e is = absurd (none_some g is)
  by (Some q) e is = (q, e, is)

-- A file in a process's table is one that a descriptor refers to.
pub there-table : (w : World) (p n : ℕ) (q : Process) → map.get w.processes p ≡ Some q → table_at w p n ≡ map.get q.table n
there-table w p n q e = ap (λ o. option_map_or (λ r. map.get r.table n) o None) e

-- The holder of a file is a file that has it.
pub holds-there : (w : World) (s f : ℕ) → Holds w s f → (x : File) × (map.get w.files s ≡ Some x) × Contains (contents x) f
holds-there w s f = by (map.get w.files s) refl where
  by : (o : Option File) → map.get w.files s ≡ o → Contains (option_map_or contents o []) f → (x : File) × (map.get w.files s ≡ Some x) × Contains (contents x) f
  by None e h = absurd (none_in f h)
  by (Some x) e h = (x, e, h)

-- A file that has another holds it.
pub there-holds : (w : World) (s f : ℕ) (x : File) → map.get w.files s ≡ Some x → Contains (contents x) f → Holds w s f
there-holds w s f x e h = subst (λ o. Contains (option_map_or contents o []) f) (sym e) h

-- A socket's change leaves every file where it is.
pub live-changed : (w : World) (s : ℕ) (g : Socket → Socket) (q : ℕ) → is_live (with_socket w s g) q ≡ is_live w q
live-changed w s g q = changed-live (file_with g) w.files s q

-- A socket that was changed is there.
pub there-changed : (w : World) (s : ℕ) (g : Socket → Socket) (x : Socket) → map.get w.files s ≡ Some (AsSocket x) → map.get (with_socket w s g).files s ≡ Some (AsSocket (g x))
there-changed w s g x at = ap (λ o. map.get (option_map_or (λ y. map.insert w.files s (file_with g y)) o w.files) s) at ∙ insert-here w.files s (AsSocket (g x))

-- The other files are there as before.
pub others-changed : (w : World) (s : ℕ) (g : Socket → Socket) (q : ℕ) → nat_eq q s ≡ false → map.get (with_socket w s g).files q ≡ map.get w.files q
others-changed w s g q apart = by (map.get w.files s) where
  by : (o : Option File) → map.get (option_map_or (λ y. map.insert w.files s (file_with g y)) o w.files) q ≡ map.get w.files q
  by None = refl
  by (Some y) = insert-other w.files s (file_with g y) q apart

-- The connection state of a live file.
pub state-there : (w : World) (f : ℕ) (x : File) → map.get w.files f ≡ Some x → state_at w f ≡ state_of x
state-there w f x at = ap (λ o. option_map_or state_of o state.Idle) at

-- Another file keeps its connection state.
pub state-others : (w : World) (s : ℕ) (g : Socket → Socket) (q : ℕ) → nat_eq q s ≡ false → state_at (with_socket w s g) q ≡ state_at w q
state-others w s g q apart = ap (λ o. option_map_or state_of o state.Idle) (others-changed w s g q apart)

-- A sum that no change of a socket alters is the same.
pub total-changed : (F : File → ℕ) (w : World) (s : ℕ) (g : Socket → Socket) → ((x : Socket) → F (AsSocket (g x)) ≡ F (AsSocket x)) → total_of F (with_socket w s g).files ≡ total_of F w.files
total-changed F w s g same = by (map.get w.files s) refl where
  each : (x : File) → F (file_with g x) ≡ F x
  each Plain = refl
  each (AsSocket x) = same x

  by : (o : Option File) → map.get w.files s ≡ o → total_of F (with_socket w s g).files ≡ total_of F w.files
  by None e = ap (λ o. total_of F (option_map_or (λ y. map.insert w.files s (file_with g y)) o w.files)) e
  by (Some x) e = omega (arith, each x, total-change_at F (file_with g) w.files s x e)

-- A socket's change that leaves alone whom it talks to.
pub state-changed : (w : World) (s : ℕ) (g : Socket → Socket) → ((x : Socket) → (g x).state ≡ x.state) → (q : ℕ) → state_at (with_socket w s g) q ≡ state_at w q
state-changed w s g same q = ap (λ o. option_map_or state_of o state.Idle) (get-change_at (file_with g) w.files s q) ∙ each (eq_by_cmp nat_cmp q s) (map.get w.files q) where
  each : (b : Bool) (o : Option File) → option_map_or state_of (option_map (λ x. cond b (file_with g x) x) o) state.Idle ≡ option_map_or state_of o state.Idle
  each b None = refl
  each true (Some Plain) = refl
  each true (Some (AsSocket x)) = same x
  each false (Some x) = refl

-- After a change of a socket, a held file was held before, or the change added it.
pub held-changed : {A : Type 0} (w : World) (s : ℕ) (g : Socket → Socket) (q f : ℕ)
    → ((x : Socket) → map.get w.files s ≡ Some (AsSocket x) → Contains (contents (AsSocket (g x))) f → Contains (contents (AsSocket x)) f ⊎ A) → Holds (with_socket w s g) q f → Holds w q f ⊎ A
held-changed {A = A} w s g q f gain h =
    let new = holds-there (with_socket w s g) q f h in
    let was = changed-was (file_with g) w.files s q new.0 new.1 in
    elim was.2 [
      | inl y ↦ by was.0 was.1 y.0 (subst (λ z. Contains (contents z) f) y.1 new.2)
      | inr y ↦ inl (there-holds w q f was.0 was.1 (subst (λ z. Contains (contents z) f) y new.2))
    ] where
      by : (x : File) → map.get w.files q ≡ Some x → q ≡ s → Contains (contents (file_with g x)) f → Holds w q f ⊎ A
      by Plain e same k = inl (there-holds w q f Plain e k)
      by (AsSocket x) e same k = elim (gain x (ap (map.get w.files) (sym same) ∙ e) k) [
        | inl y ↦ inl (there-holds w q f (AsSocket x) e y)
        | inr y ↦ inr y
      ]

-- After a change, a file in a table was in it before, or the change added it.
pub tabled-changed : {A : Type 0} (w : World) (p : ℕ) (g : Map ℕ → Map ℕ) (f : ℕ)
    → ((r : Process) (n : ℕ) → map.get w.processes p ≡ Some r → map.get (g r.table) n ≡ Some f → (map.get r.table n ≡ Some f) ⊎ A) → InTable (with_table w p g) f → InTable w f ⊎ A
tabled-changed {A = A} w p g f gain t =
    let new = table-there (with_table w p g) t.0 t.1 f t.2 in
    let was = changed-was (λ r. record r { table = g r.table }) w.processes p t.0 new.0 new.1 in
    let stood : map.get was.0.table t.1 ≡ Some f → InTable w f = λ e. (t.0, t.1, there-table w t.0 t.1 was.0 was.1 ∙ e) in
    elim was.2 [
      | inl y ↦ elim (gain was.0 t.1 (ap (map.get w.processes) (sym y.0) ∙ was.1) (sym (ap (λ r. map.get r.table t.1) y.1) ∙ new.2)) [ inl z ↦ inl (stood z) | inr z ↦ inr z ]
      | inr y ↦ inl (stood (sym (ap (λ r. map.get r.table t.1) y) ∙ new.2))
    ]

-- After a descriptor is allocated, the tables refer to the same files, and its file.
pub tabled-install : (w : World) (p n g f : ℕ) → InTable (install w p n g) f → InTable w f ⊎ (g ≡ f)
tabled-install w p n g f = tabled-changed w p (λ t. map.insert t n g) f (λ r q at is. elim (same_or_not q n) [
  | inl same ↦ inr (some_same g f (sym (insert-here r.table n g) ∙ ap (map.get (map.insert r.table n g)) (sym same) ∙ is))
  | inr apart ↦ inl (sym (insert-other r.table n g q apart) ∙ is)
])

-- After a descriptor is closed, a file in a table was in one before.
pub tabled-uninstall : (w : World) (p n f : ℕ) → InTable (uninstall w p n) f → InTable w f
tabled-uninstall w p n f t = elim (tabled-changed {A = ⊥} w p (λ t. map.remove t n) f (λ r q at is. inl (elim (same_or_not q n) [
  | inl same ↦ absurd (none_some f (sym (remove-here r.table n) ∙ ap (map.get (map.remove r.table n)) (sym same) ∙ is))
  | inr apart ↦ sym (remove-other r.table n q apart) ∙ is
])) t) [ inl y ↦ y | inr y ↦ absurd y ]

-- The process with a number more in use.
pub there-install : (w : World) (p n g : ℕ) (q : Process) → map.get w.processes p ≡ Some q → map.get (install w p n g).processes p ≡ Some (record q { table = map.insert q.table n g })
there-install w p n g q at = ap (λ o. map.get (option_map_or (λ r. map.insert w.processes p (record r { table = map.insert r.table n g })) o w.processes) p) at ∙ insert-here w.processes p (record q { table = map.insert q.table n g })
