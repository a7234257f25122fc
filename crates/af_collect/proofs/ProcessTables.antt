-- A process that joins the world, and one that leaves it, number by number.
use Rattle.std.proofs.Common.{not, ◌≡◌, ◌<◌, ◌≤◌, ℕ, ◌+◌, Bool, true, false, inl, inr, refl, sym, ap, ◌∙◌, subst, cond, nat_eq, arith}
use Rattle.std.specs.Prelude.{◌⊎◌, Option, Some, None, IsTrue, is_some, option_map}
use Rattle.std.specs.Option.{option_map_or}
use Rattle.std.specs.Cmp.{nat_cmp_total, unsigned_tied}
use Rattle.std.specs.Ordering.{nat_cmp}
use Rattle.std.specs.FinMap as map
use Rattle.std.specs.FinMap.{nat_cmp-IsAntisymmetric}
use Rattle.std.proofs.lemmas.Bool.{cases_lt, false≢true}
use Rattle.af_base.specs.World.{Map, Process, World}
use Rattle.af_base.specs.Places.{table_at}
use Rattle.af_base.specs.Refusals.{is_at_process_limit, process_at}
use Rattle.af_base.specs.Changes.{add_process, change_at, install, remove_process, uninstall}
use Rattle.af_base.proofs.NewFiles.{whole-add_process}
use Rattle.af_base.proofs.Lookups.{insert-here, insert-other, itself, none_some, not_same, remove-here, remove-other, same_or_not, told_apart}
use Rattle.af_base.proofs.PlaceMoves.{there-table}
use Rattle.af_base.proofs.AllowedSteps.{get-change_at}
use Rattle.af_base.proofs.SoundSteps.{process-there}
use Rattle.af_base.proofs.StaysWithin.{within-add_process}
use Rattle.af_ledger.specs.Tally.{CanDrop, CanHold, Tally, with_ref, without_ref}
use Rattle.af_ledger.specs.declared.place.Place.TheVariants.{Table}
use Rattle.af_collect.specs.Agreement.{IsExact, Joins}
use Rattle.af_collect.proofs.Exact.{agrees-add_process, exact-install, exact-removed, exact-uninstall}
use Rattle.af_collect.proofs.Bounds.{can-drop-table, can-hold-table}

-- Maps with the same below a number and from it on are one.
same-parts : {X : Type 0} (a b : Map X) (from : ℕ) → ((n : ℕ) → n < from → map.get a n ≡ map.get b n) → ((n : ℕ) → from ≤ n → map.get a n ≡ map.get b n) → a ≡ b
same-parts a b from below above = map.same_map nat_cmp_total nat_cmp-IsAntisymmetric _ _ (λ n. elim (cases_lt n from) [ inl under ↦ below n under | inr over ↦ above n over ])

-- A value put twice is put once.
pub insert_twice : {X : Type 0} (m : Map X) (k : ℕ) (x y : X) → map.insert (map.insert m k x) k y ≡ map.insert m k y
insert_twice m k x y = map.same_map nat_cmp_total nat_cmp-IsAntisymmetric _ _ (λ q. elim (same_or_not q k) [
  | inl e ↦ ap (map.get (map.insert (map.insert m k x) k y)) e ∙ insert-here (map.insert m k x) k y ∙ sym (ap (map.get (map.insert m k y)) e ∙ insert-here m k y)
  | inr a ↦ insert-other (map.insert m k x) k y q a ∙ insert-other m k x q a ∙ sym (insert-other m k y q a)
])

-- A number of a process that came is a number that it came with.
install-added : (w : World) (q : Process) (n f : ℕ) → install (add_process w q) w.next_pid n f ≡ add_process w (record q { table = map.insert q.table n f })
install-added w q n f =
    ap (λ (o : Option Process). record (add_process w q) { processes = option_map_or (λ x. map.insert (add_process w q).processes w.next_pid (record x { table = map.insert x.table n f })) o (add_process w q).processes })
    (insert-here w.processes w.next_pid q)
    ∙ ap (λ m. record (add_process w q) { processes = m }) (insert_twice w.processes w.next_pid q (record q { table = map.insert q.table n f }))

-- q has joined w with its numbers from `low` on and below `from`, and each is counted.
pub record Joining (w : World) (q : Process) (low from : ℕ) (k : Tally) : Type 0 where
  pub table : Map ℕ
  pub inside : (n : ℕ) → low ≤ n → n < from → map.get table n ≡ map.get q.table n
  pub under : (n : ℕ) → n < low → map.get table n ≡ None
  pub above : (n : ℕ) → from ≤ n → map.get table n ≡ None
  pub exact : IsExact (add_process w (record q { table = table })) k

module _ (w : World) (q : Process) where
  -- It has joined with no number yet.
  pub joining-none : (n : ℕ) (k : Tally) → Joins w q k → Joining w q n n k
  joining-none n k j =
      let bare : Process = record q { table = map.empty } in
      let none : (m f : ℕ) → map.get {X = ℕ} {R = nat_cmp} map.empty m ≡ Some f → ⊥ = λ m f is. none_some f (sym (map.get-empty nat_cmp m) ∙ is) in
      record {
        table = map.empty;
        inside = λ m reached below. absurd (omega (arith, reached, below));
        under = λ m below. map.get-empty nat_cmp m;
        above = λ m over. map.get-empty nat_cmp m;
        exact = record {
          whole = whole-add_process w bare j.exact.whole (λ m f is. absurd (none m f is));
          within = within-add_process w bare j.exact.within j.room (record {
            limit = j.within.limit;
            numbers = λ m l. absurd (false≢true (sym (ap is_some (map.get-empty nat_cmp m)) ∙ l));
          });
          agrees = agrees-add_process w bare k j.exact.whole refl j.known j.exact.agrees;
          counted = j.exact.counted;
        };
      }

  -- It has joined with all its numbers.
  pub joining-done : (from : ℕ) (k : Tally) → Joining w q 0 from k → ((n : ℕ) → from ≤ n → map.get q.table n ≡ None) → IsExact (add_process w q) k
  joining-done from k c none = subst (λ t. IsExact (add_process w (record q { table = t })) k) (same-parts c.table q.table from (λ n below. c.inside n (omega arith) below) (λ n over. c.above n over ∙ sym (none n over))) c.exact

  module _ (low from : ℕ) (k : Tally) (c : Joining w q low from k) where
    -- Free descriptors are passed over.
    pub joining-past : (n : ℕ) → from ≤ n → ((m : ℕ) → from ≤ m → m < n → map.get q.table m ≡ None) → Joining w q low n k
    joining-past n past between = record {
      table = c.table;
      inside = λ m reached below. elim (cases_lt m from) [ inl under ↦ c.inside m reached under | inr over ↦ c.above m over ∙ sym (between m over below) ];
      under = c.under;
      above = λ m over. c.above m (omega (arith, over, past));
      exact = c.exact;
    }

    module _ (old : Tally) (j : Joins w q old) (n f : ℕ) (is : map.get q.table n ≡ Some f) where
      -- One place more of the file of a descriptor can be counted.
      pub joining-fits : CanHold Table f k
      joining-fits = can-hold-table (add_process w (record q { table = c.table })) f k c.exact.within c.exact.agrees

      -- A process of the world that has all its numbers holds the file of a descriptor.
      pub joining-held : (p : ℕ) → map.get w.processes p ≡ Some q → CanDrop Table f k
      joining-held p at =
          let part : Process = record q { table = c.table } in
          let numbered = j.exact.whole.processes_numbered p (ap is_some at) in
          let there = insert-other w.processes w.next_pid part p (told_apart p w.next_pid (λ e. omega (arith, e, numbered))) ∙ at in
          can-drop-table (add_process w part) p n f k (there-table (add_process w part) p n q there ∙ is) c.exact.agrees

      -- A number that it had not joined with is counted.
      exact-more : map.get c.table n ≡ None → IsExact (add_process w (record q { table = map.insert c.table n f })) (with_ref Table f k)
      exact-more free =
          let part : Process = record q { table = c.table } in
          subst (λ v. IsExact v (with_ref Table f k)) (install-added w part n f)
          (exact-install (add_process w part) w.next_pid n f part k (insert-here w.processes w.next_pid part) free (j.within.numbers n (ap is_some is)) (j.live n f is) c.exact)

      -- It has that number as the process has.
      at-more : (m : ℕ) → (map.get c.table m ≡ map.get q.table m) ⊎ (m ≡ n) → map.get (map.insert c.table n f) m ≡ map.get q.table m
      at-more m was = elim (same_or_not m n) [
        | inl e ↦ ap (map.get (map.insert c.table n f)) e ∙ insert-here c.table n f ∙ sym (ap (map.get q.table) e ∙ is)
        | inr a ↦ insert-other c.table n f m a ∙ elim was [ inl same ↦ same | inr e ↦ absurd (not_same m n a e) ]
      ]

      -- And no other.
      none-more : (m : ℕ) → ¬ (m ≡ n) → map.get c.table m ≡ None → map.get (map.insert c.table n f) m ≡ None
      none-more m apart was = insert-other c.table n f m (told_apart m n apart) ∙ was

      -- It has joined with the next number above.
      pub joining-up : low ≤ n → n ≡ from → Joining w q low (n + 1) (with_ref Table f k)
      joining-up reached next = record {
        table = map.insert c.table n f;
        inside = λ m over below. at-more m (elim (cases_lt m n) [ inl l ↦ inl (c.inside m over (omega (arith, l, next))) | inr g ↦ inr (omega (arith, g, below)) ]);
        under = λ m below. none-more m (λ e. omega (arith, e, below, reached)) (c.under m below);
        above = λ m over. none-more m (λ e. omega (arith, e, over)) (c.above m (omega (arith, over, next)));
        exact = exact-more (c.above n (omega (arith, next)));
      }

      -- It has joined with the next number below.
      pub joining-down : n < from → n + 1 ≡ low → Joining w q n from (with_ref Table f k)
      joining-down below next = record {
        table = map.insert c.table n f;
        inside = λ m over less. at-more m (elim (cases_lt n m) [ inl l ↦ inl (c.inside m (omega (arith, l, next)) less) | inr g ↦ inr (omega (arith, g, over)) ]);
        under = λ m less. none-more m (λ e. omega (arith, e, less)) (c.under m (omega (arith, less, next)));
        above = λ m over. none-more m (λ e. omega (arith, e, over, below)) (c.above m over);
        exact = exact-more (c.under n (omega (arith, next)));
      }

-- The files of a process's descriptors after one was closed.
pub table-uninstall : (w : World) (p n m : ℕ) → table_at (uninstall w p n) p m ≡ cond (nat_eq m n) None (table_at w p m)
table-uninstall w p n m =
    ap (λ (o : Option Process). option_map_or (λ q. map.get q.table m) o None) (get-change_at less w.processes p p)
    ∙ ap (λ (b : Bool). option_map_or (λ (q : Process). map.get q.table m) (option_map {T = Process} {U = Process} (λ q. cond b (less q) q) (map.get w.processes p)) None) (unsigned_tied p p ∙ itself p)
    ∙ by (map.get w.processes p) where
      less : Process → Process
      less q = record q { table = map.remove q.table n }

      by : (o : Option Process) → option_map_or (λ (q : Process). map.get q.table m) (option_map {T = Process} {U = Process} (λ q. less q) o) None ≡ cond (nat_eq m n) None (option_map_or (λ (q : Process). map.get q.table m) o None)
      by None = nothing (nat_eq m n) where
        nothing : (b : Bool) → ◌≡◌ {A = Option ℕ} None (cond b None None)
        nothing true = refl
        nothing false = refl
      by (Some q) = map.get-remove nat_cmp_total q.table n m ∙ ap (λ b. cond b None (map.get q.table m)) (unsigned_tied m n)

-- Without the process the number does not matter.
pub removed-uninstall : (w : World) (p n : ℕ) → remove_process (uninstall w p n) p ≡ remove_process w p
removed-uninstall w p n = ap (λ m. record w { processes = m }) (map.same_map nat_cmp_total nat_cmp-IsAntisymmetric _ _ (λ r. elim (same_or_not r p) [
  | inl e ↦ ap (map.get (map.remove changed p)) e ∙ remove-here changed p ∙ sym (ap (map.get (map.remove w.processes p)) e ∙ remove-here w.processes p)
  | inr a ↦ remove-other changed p r a ∙ get-change_at g w.processes p r ∙ ap (λ b. option_map (λ q. cond b (g q) q) (map.get w.processes r)) (unsigned_tied r p ∙ a) ∙ kept (map.get w.processes r) ∙ sym (remove-other w.processes p r a)
])) where
  g : Process → Process
  g q = record q { table = map.remove q.table n }

  changed : Map Process
  changed = change_at g w.processes p

  kept : (o : Option Process) → option_map (λ q. q) o ≡ o
  kept None = refl
  kept (Some q) = refl

-- The process p of w, which was q, gave up its numbers from `low` on and below `from`.
pub record Leaving (w : World) (p : ℕ) (q : Process) (low from : ℕ) (k : Tally) : Type 0 where
  pub world : World
  pub rest : remove_process world p ≡ remove_process w p
  pub inside : (n : ℕ) → low ≤ n → n < from → table_at world p n ≡ None
  pub under : (n : ℕ) → n < low → table_at world p n ≡ map.get q.table n
  pub above : (n : ℕ) → from ≤ n → table_at world p n ≡ map.get q.table n
  pub exact : IsExact world k

-- It gave up no number yet.
pub leaving-none : (w : World) (p : ℕ) (q : Process) (n : ℕ) (k : Tally) → map.get w.processes p ≡ Some q → IsExact w k → Leaving w p q n n k
leaving-none w p q n k at exact = record {
  world = w;
  rest = refl;
  inside = λ m reached below. absurd (omega (arith, reached, below));
  under = λ m below. there-table w p m q at;
  above = λ m over. there-table w p m q at;
  exact = exact;
}

-- It closed all its descriptors, and ends.
pub leaving-done : (w : World) (p : ℕ) (q : Process) (from : ℕ) (k : Tally) → Leaving w p q 0 from k → ((n : ℕ) → from ≤ n → map.get q.table n ≡ None) → IsExact (remove_process w p) k
leaving-done w p q from k c none = subst (λ v. IsExact v k) c.rest (exact-removed c.world p k (λ n. elim (cases_lt n from) [ inl below ↦ c.inside n (omega arith) below | inr over ↦ c.above n over ∙ none n over ]) c.exact)

module _ (w : World) (p : ℕ) (q : Process) (low from : ℕ) (k : Tally) (c : Leaving w p q low from k) where
  -- Free descriptors are passed over.
  pub leaving-past : (n : ℕ) → from ≤ n → ((m : ℕ) → from ≤ m → m < n → map.get q.table m ≡ None) → Leaving w p q low n k
  leaving-past n past between = record {
    world = c.world;
    rest = c.rest;
    inside = λ m reached below. elim (cases_lt m from) [ inl under ↦ c.inside m reached under | inr over ↦ c.above m over ∙ between m over below ];
    under = c.under;
    above = λ m over. c.above m (omega (arith, over, past));
    exact = c.exact;
  }

  module _ (n f : ℕ) (left : (n < low) ⊎ (from ≤ n)) (is : map.get q.table n ≡ Some f) where
    here : table_at c.world p n ≡ Some f
    here = elim left [ inl below ↦ c.under n below | inr over ↦ c.above n over ] ∙ is

    -- A number that it has left is counted.
    pub leaving-counted : CanDrop Table f k
    leaving-counted = can-drop-table c.world p n f k here c.exact.agrees

    -- It gave that number up.
    gone-more : (m : ℕ) → (table_at c.world p m ≡ None) ⊎ (m ≡ n) → table_at (uninstall c.world p n) p m ≡ None
    gone-more m was = table-uninstall c.world p n m ∙ by (nat_eq m n) refl where
      by : (b : Bool) → nat_eq m n ≡ b → cond b None (table_at c.world p m) ≡ None
      by true e = refl
      by false e = elim was [ inl none ↦ none | inr same ↦ absurd (not_same m n e same) ]

    -- And no other.
    kept-more : (m : ℕ) → ¬ (m ≡ n) → table_at c.world p m ≡ map.get q.table m → table_at (uninstall c.world p n) p m ≡ map.get q.table m
    kept-more m apart was = table-uninstall c.world p n m ∙ ap (λ b. cond b None (table_at c.world p m)) (told_apart m n apart) ∙ was

    -- It gave up the next number above.
    pub leaving-up : low ≤ n → n ≡ from → Leaving w p q low (n + 1) (without_ref Table f k)
    leaving-up reached next = record {
      world = uninstall c.world p n;
      rest = removed-uninstall c.world p n ∙ c.rest;
      inside = λ m over below. gone-more m (elim (cases_lt m n) [ inl l ↦ inl (c.inside m over (omega (arith, l, next))) | inr g ↦ inr (omega (arith, g, below)) ]);
      under = λ m below. kept-more m (λ e. omega (arith, e, below, reached)) (c.under m below);
      above = λ m over. kept-more m (λ e. omega (arith, e, over)) (c.above m (omega (arith, over, next)));
      exact = exact-uninstall c.world p n f k here c.exact;
    }

    -- It gave up the next number below.
    pub leaving-down : n < from → n + 1 ≡ low → Leaving w p q n from (without_ref Table f k)
    leaving-down below next = record {
      world = uninstall c.world p n;
      rest = removed-uninstall c.world p n ∙ c.rest;
      inside = λ m over less. gone-more m (elim (cases_lt n m) [ inl l ↦ inl (c.inside m (omega (arith, l, next)) less) | inr g ↦ inr (omega (arith, g, over)) ]);
      under = λ m less. kept-more m (λ e. omega (arith, e, less)) (c.under m (omega (arith, less, next)));
      above = λ m over. kept-more m (λ e. omega (arith, e, over, below)) (c.above m over);
      exact = exact-uninstall c.world p n f k here c.exact;
    }

-- A child with the open numbers of its parent can join.
pub joins-child : (w : World) (p : ℕ) (q : Process) (k : Tally) → is_at_process_limit w ≡ false → map.get w.processes p ≡ Some q → IsExact w k → Joins w q k
joins-child w p q k room at h = record {
  exact = h;
  room = room;
  within = h.within.processes p q at;
  live = λ n f is. h.whole.tables_live f (p, n, there-table w p n q at ∙ is);
  known = h.agrees.known p q at;
}

-- So can a copy of a process that is there.
pub joins-copy : (w : World) (p : ℕ) (q : Process) (k : Tally) → is_at_process_limit w ≡ false → IsTrue (map.contains_key w.processes p) → q ≡ process_at w p → IsExact w k → Joins w q k
joins-copy w p q k room there is h = subst (λ r. Joins w r k) (sym is) (joins-child w p (process_at w p) k room (process-there w p (ap not there)) h)
