-- A descriptor that refers to another file from now on, or is closed: both invariants hold then.
use Rattle.std.proofs.Common.{◌≡◌, ◌<◌, ℕ, false, inl, inr, nat_eq, refl, sym, ap, ◌∙◌, subst, not, true, ◌&&◌, [], add-zero, arith}
use Rattle.std.specs.Prelude.{Option, Some, None, IfSome, IsTrue, is_some, unwrap_or}
use Rattle.std.specs.Option.{option_map_or}
use Rattle.std.specs.Cmp.{nat_cmp_total}
use Rattle.std.specs.FinMap as map
use Rattle.std.specs.FinMap.{nat_cmp-IsAntisymmetric}
use Rattle.std.proofs.Math.Bool.{and-false}
use Rattle.af_base.specs.declared.limits.TheConstants.{MAX_NOFILE}
use Rattle.af_base.specs.World.{IsLive, Map, Process, World}
use Rattle.af_base.specs.Places.{table_at, contents, held_in, queue_in, queue_of}
use Rattle.af_base.specs.Changes.{install, installed, taken_out, uninstall, change_at}
use Rattle.af_base.proofs.Lookups.{insert-here, insert-other, remove-here, remove-other, same_or_not, none_some, there}
use Rattle.af_base.proofs.PlaceMoves.{there-table}
use Rattle.af_base.proofs.Trees.{insert_same}
use Rattle.af_base.specs.Refusals.{process_at, socket_at}
use Rattle.af_base.proofs.SoundSteps.{process-there}
use Rattle.af_base.proofs.StaysWithin.{below-most}
use Rattle.af_base.specs.Counts.{refs}
use Rattle.af_base.specs.Unheld.{Settles, without}
use Rattle.af_base.proofs.PlacesAndCounts.{held_by_none}
use Rattle.af_base.proofs.SettledPlaces.{settles-without}
use Rattle.af_ledger.specs.Tally.{Tally, with_ref, without_ref, LedgerView, count_in_map, kept_of}
use Rattle.af_ledger.specs.declared.place.Place.TheVariants.{Table}
use Rattle.af_ledger.specs.Counted.{IsCountable, IsCounted, fewer, places_in, uncounted}
use Rattle.af_mark.specs.MarksView.{is_marked, forgotten, is_unmarked}
use Rattle.af_table.proofs.Tables.{remove-none}
use Rattle.af_table.specs.Procs.{Procs}
use Rattle.af_desc.specs.FilesView.{FilesView, with_file_ref}
use Rattle.af_desc.specs.FilesView as desc
use Rattle.af_collect.specs.Agreement.{IsExact}
use Rattle.af_collect.proofs.Exact.{exact-install, exact-uninstall, world-is, exact-gone, agrees-refs}
use Rattle.af_collect.proofs.ProcessTables.{insert_twice}
use Rattle.af_collect.specs.Limits.{IsBelowLimit}
use Rattle.af_collect.specs.Keeping.{NotBegunGarbage, PassInvariant, below, is_marking, counted}
use Rattle.af_collect.specs.Losing.{vacated, without_descriptor}
use Rattle.af_collect.specs.StoreView.{StoreView}
use Rattle.af_collect.specs.contracts.holdings.Holdings.{the_view}
use Rattle.af_collect.specs.declared.holdings.Holdings.TheInside.{Inside}
use Rattle.af_collect.specs.declared.store.Store.TheInside.{Inside as StoreInside}
use Rattle.af_collect.specs.declared.progress.Stage.{Stage}
use Rattle.af_collect.proofs.Bounds.{can-drop-table, can-hold-table}
use Rattle.af_collect.proofs.LostFiles.{kept_closed, marked_closed}
use Rattle.af_collect.proofs.StoreInvariant.{kept_tables, BothInvariants, both-same, seen-world, shown}
use Rattle.af_collect.proofs.SparedFiles.{spared_running}
use Rattle.af_collect.proofs.TablePlaces.{covers_replace, moves_install, covers_uninstall, moves_uninstall}
use Rattle.af_collect.specs.HoldingsView.{HoldingsView, world_of}
use Rattle.af_collect.proofs.FreedFiles.{gone_end}
use Rattle.af_collect.proofs.LentProcesses.{seen-same, stands-same}
use Rattle.af_collect.proofs.PassChanges.{kept_gone}
use Rattle.af_collect.proofs.VisiblePass.{counted_gone}

-- Maps with the same at a key and beside it are one.
same-beside : {X : Type 0} (a b : Map X) (k : ℕ) → map.get a k ≡ map.get b k → ((q : ℕ) → nat_eq q k ≡ false → map.get a q ≡ map.get b q) → a ≡ b
same-beside a b k here beside = map.same_map nat_cmp_total nat_cmp-IsAntisymmetric a b (λ q. elim (same_or_not q k) [ inl e ↦ subst (λ j. map.get a j ≡ map.get b j) (sym e) here | inr apart ↦ beside q apart ])

-- A value put where one was removed is put once.
insert-removed : {X : Type 0} (m : Map X) (k : ℕ) (x : X) → map.insert (map.remove m k) k x ≡ map.insert m k x
insert-removed m k x = same-beside (map.insert (map.remove m k) k x) (map.insert m k x) k (insert-here (map.remove m k) k x ∙ sym (insert-here m k x)) (λ q a. insert-other (map.remove m k) k x q a ∙ remove-other m k q a ∙ sym (insert-other m k x q a))

module _ (w : World) (p n : ℕ) (q : Process) (there : map.get w.processes p ≡ Some q) where
  -- The process, after its number was given up.
  abbrev less : Process
  less = taken_out n q

  -- The process changed.
  abbrev changed : (Process → Process) → World
  changed g = record w { processes = map.insert w.processes p (g q) }

  -- The world after a change of the process.
  changes : (g : Process → Process) → record w { processes = option_map_or (λ x. map.insert w.processes p (g x)) (map.get w.processes p) w.processes } ≡ changed g
  changes g = ap (λ (o : Option Process). record w { processes = option_map_or (λ x. map.insert w.processes p (g x)) o w.processes }) there

  -- It is there without the number.
  there-less : map.get (uninstall w p n).processes p ≡ Some less
  there-less = ap (λ (v : World). map.get v.processes p) (changes (taken_out n)) ∙ insert-here w.processes p less

  -- A free number need not be given up.
  uninstall-free : table_at w p n ≡ None → uninstall w p n ≡ w
  uninstall-free free =
      changes (taken_out n)
      ∙ ap (λ (t : Map ℕ). record w { processes = map.insert w.processes p (record q { table = t }) }) (remove-none q.table n (sym (there-table w p n q there) ∙ free))
      ∙ ap (λ (m : Map Process). record w { processes = m }) (insert_same w.processes p q there)

  -- An install is the same after the descriptor was removed first.
  install-uninstalled : (f : ℕ) → install (uninstall w p n) p n f ≡ install w p n f
  install-uninstalled f =
      ap (λ (o : Option Process). record (uninstall w p n) { processes = option_map_or (λ x. map.insert (uninstall w p n).processes p (installed n f x)) o (uninstall w p n).processes }) there-less
      ∙ ap (λ (v : World). record v { processes = map.insert v.processes p (installed n f less) }) (changes (taken_out n))
      ∙ ap (λ (m : Map Process). record w { processes = m }) (insert_twice w.processes p less (installed n f less))
      ∙ ap (λ (t : Map ℕ). record w { processes = map.insert w.processes p (record q { table = t }) }) (insert-removed q.table n f)
      ∙ sym (changes (installed n f))

  module _ (k : Tally) (exact : IsExact w k) where
    -- The file that it referred to, if any, is given up.
    pub exact-vacated : (o : Option ℕ) → table_at w p n ≡ o → IsExact (uninstall w p n) (option_map_or (λ g. without_ref Table g k) o k)
    exact-vacated None is = subst (λ v. IsExact v k) (sym (uninstall-free is)) exact
    exact-vacated (Some g) is = exact-uninstall w p n g k is exact

    -- It refers to a live file from now on.
    pub exact-replaced : (o : Option ℕ) (f : ℕ) → table_at w p n ≡ o → n < MAX_NOFILE → IsLive w f → IsExact (install w p n f) (with_ref Table f (option_map_or (λ g. without_ref Table g k) o k))
    exact-replaced o f is low live =
        let vacated = option_map_or (λ g. without_ref Table g k) o k in
        subst (λ v. IsExact v (with_ref Table f vacated)) (install-uninstalled f) (exact-install (uninstall w p n) p n f less vacated there-less (remove-here q.table n) low live (exact-vacated o is))

-- To close a descriptor that is not open changes nothing.
pub uninstall-none : (w : World) (p n : ℕ) → table_at w p n ≡ None → uninstall w p n ≡ w
uninstall-none w p n free = by (map.get w.processes p) refl where
  by : (o : Option Process) → map.get w.processes p ≡ o → uninstall w p n ≡ w
  by None none = ap (λ (o : Option Process). record w { processes = option_map_or (λ x. map.insert w.processes p (taken_out n x)) o w.processes }) none
  by (Some q) there = uninstall-free w p n q there free

-- The needs of a replacement: a process, a descriptor below its limit, and a live file (dup2(2)).
abbrev pub Replaces : World → ℕ → ℕ → ℕ → Type 0
Replaces w pid fd f = IsTrue (map.contains_key w.processes pid) × IsBelowLimit w pid fd × IsLive w f

-- The counts of the files after a descriptor lost its file, if any.
kept-vacated : (s : Stage) (o : Option ℕ) (v : FilesView) (l : LedgerView) → kept_of (vacated s o v).counts l ≡ option_map_or (λ f. without_ref Table f (kept_of v.counts l)) o (kept_of v.counts l)
kept-vacated s None v l = refl
kept-vacated s (Some f) v l = refl

-- The rest of them, but for the marks.
rest-vacated : (s : Stage) (o : Option ℕ) (v : FilesView) → vacated s o v ≡ record v { counts = (vacated s o v).counts; marks = (vacated s o v).marks }
rest-vacated s None v = refl
rest-vacated s (Some f) v = refl

-- ---- both invariants

-- A descriptor that is not open: nothing changes.
module _ (p : StoreInside) (h : Inside) (pid fd : ℕ) (free : table_at (the_view h).world pid fd ≡ None) (procs : Procs) (processes : procs.processes ≡ (uninstall (the_view h).world pid fd).processes) (next : procs.next_pid ≡ h.procs.next_pid) where
  -- The processes are as they were.
  same-unopened : procs.processes ≡ h.procs.processes
  same-unopened = processes ∙ ap (λ (v : World). v.processes) (uninstall-none (the_view h).world pid fd free)

  -- And so are the invariants.
  pub stands-unopened : BothInvariants p h.procs h.files h.ledger → BothInvariants p procs h.files h.ledger
  stands-unopened = stands-same p h procs same-unopened next

  -- And what a caller sees.
  pub seen-unopened : (o : StoreView) → the_view h ≡ p.holdings → shown p p.holdings ≡ o → procs.rows ≡ h.procs.rows → shown p (record (the_view h) { world = world_of procs h.files h.ledger; rows = procs.rows }) ≡ o
  seen-unopened o opened is rows = seen-same p h procs same-unopened next o opened is ∙ ap (λ r. record o { rows = r }) (rows ∙ ap (λ (t : HoldingsView). t.rows) opened ∙ ap (λ (t : StoreView). t.rows) is)

module _ (p : StoreInside) (h : Inside) (was : BothInvariants p h.procs h.files h.ledger) (pid fd : ℕ) where
  -- The world before.
  abbrev w : World
  w = (the_view h).world

  -- The world when the pass began.
  abbrev begun : World
  begun = p.begun.value.world

  -- The descriptor refers to another file from now on.
  module _ (o : Option ℕ) (is : table_at w pid fd ≡ o) where
    -- The files without the reference of the replaced one.
    abbrev left : FilesView
    left = vacated p.progress.stage o h.files

    -- The file that it referred to is counted.
    pub counted-replaced : IfSome o (λ f. IsCounted Table (count_in_map h.files.counts f))
    counted-replaced = by o is where
      by : (o : Option ℕ) → table_at w pid fd ≡ o → IfSome o (λ f. IsCounted Table (count_in_map h.files.counts f))
      by None e = tt
      by (Some f) e = (can-drop-table w pid fd f (kept_of h.files.counts h.ledger) e was.0.agrees).0

    -- Once that file is marked, the invariant of the pass holds.
    kept-left : PassInvariant w begun left.marks p.progress
    kept-left = by o is where
      by : (o : Option ℕ) → table_at w pid fd ≡ o → PassInvariant w begun (vacated p.progress.stage o h.files).marks p.progress
      by None e = was.1
      by (Some f) e = kept_closed pid fd f was.0.whole e was.1

    -- It is marked while marking, if it is of the begin.
    marked-left : is_marking p.progress.stage ≡ true → (g : ℕ) → table_at w pid fd ≡ Some g → IsLive begun g → is_marked left.marks g ≡ true
    marked-left t g at b = by o is where
      by : (o : Option ℕ) → table_at w pid fd ≡ o → is_marked (vacated p.progress.stage o h.files).marks g ≡ true
      by None e = absurd (none_some g (sym e ∙ at))
      by (Some f) e = marked_closed pid fd f was.0.whole e t was.1 g at b

    module _ (v : StoreView) (opened : the_view h ≡ p.holdings) (seen : shown p p.holdings ≡ v) (f : ℕ) (needs : Replaces v.world pid fd f) where
      asked : Replaces w pid fd f
      asked = subst (λ u. Replaces u pid fd f) (seen-world p h v opened seen) needs

      at : map.get w.processes pid ≡ Some (process_at w pid)
      at = process-there w pid (ap not asked.0)

      -- Without that file all is exact: another live file can be held.
      pub can-hold-left : (fs : FilesView) → fs ≡ left → IsTrue (map.contains_key fs.counts f) × IsCountable Table (count_in_map fs.counts f)
      can-hold-left fs files =
          let exact = exact-vacated w pid fd (process_at w pid) at (kept_of h.files.counts h.ledger) was.0 o is in
          let left : IsExact (uninstall w pid fd) (kept_of fs.counts h.ledger) = subst (IsExact (uninstall w pid fd)) (sym (ap (λ u. kept_of u.counts h.ledger) files ∙ kept-vacated p.progress.stage o h.files h.ledger)) exact in
          (left.counted f ∙ asked.2, (can-hold-table (uninstall w pid fd) f (kept_of fs.counts h.ledger) left.within left.agrees).0)

      -- With the other file in its place both invariants hold.
      pub stands-replaced : NotBegunGarbage v.pass f → (procs : Procs) → procs.processes ≡ change_at (installed fd f) h.procs.processes pid → procs.next_pid ≡ h.procs.next_pid
          → (fs : FilesView) → fs ≡ with_file_ref Table f left → BothInvariants p procs fs h.ledger
      stands-replaced spared procs processes next fs files =
          let k = kept_of h.files.counts h.ledger in
          let low = below-most w pid fd (process_at w pid) was.0.within at (asked.1 (process_at w pid) at) in
          let rest = rest-vacated p.progress.stage o h.files in
          let running = subst (λ (t : StoreView). NotBegunGarbage t.pass f) (sym seen) spared in
          subst (λ u. BothInvariants p procs u h.ledger) (sym files)
          (both-same _ (install w pid fd f) _ (with_ref Table f (option_map_or (λ g. without_ref Table g k) o k)) _ left.marks
          (world-is _ _ processes (ap (λ u. u.files) rest) (ap (λ u. u.next) rest) next refl) (ap (with_ref Table f) (kept-vacated p.progress.stage o h.files h.ledger)) refl
          (exact-replaced w pid fd (process_at w pid) at k was.0 o f is low asked.2)
          (kept_tables (install w pid fd f) refl refl (λ t. moves_install begun w pid fd f (spared_running p.progress.stage begun p.progress.looked f t running)) (λ t. covers_replace begun w pid fd f (is_marked left.marks) (below p.progress.visited) (marked-left t)) kept-left))

  -- A descriptor that is open is closed.
  module _ (f : ℕ) (is : table_at w pid fd ≡ Some f) where
    -- The world without the descriptor.
    abbrev closed : World
    closed = uninstall w pid fd

    -- The files without its reference.
    abbrev rest : FilesView
    rest = without_descriptor p.progress.stage f h.files

    -- Their counts, with the charges.
    abbrev tally : Tally
    tally = kept_of rest.counts h.ledger

    -- The file is counted in a table.
    pub counted-closed : IsCounted Table (count_in_map h.files.counts f)
    counted-closed = (can-drop-table w pid fd f (kept_of h.files.counts h.ledger) is was.0.agrees).0

    -- Without the descriptor the counts are exact.
    exact-closed : IsExact closed tally
    exact-closed = exact-uninstall w pid fd f (kept_of h.files.counts h.ledger) is was.0

    -- And so is the invariant of the pass.
    kept-closed : PassInvariant closed begun rest.marks p.progress
    kept-closed = kept_tables closed refl refl (λ _. moves_uninstall begun w pid fd)
        (λ t. covers_uninstall begun w pid fd (is_marked rest.marks) (below p.progress.visited) (marked_closed pid fd f was.0.whole is t was.1)) (kept_closed pid fd f was.0.whole is was.1)

    module _ (procs : Procs) (processes : procs.processes ≡ closed.processes) (next : procs.next_pid ≡ h.procs.next_pid) where
      -- The world is the one without the descriptor.
      pub world-closed : world_of procs rest h.ledger ≡ closed
      world-closed = world-is _ _ processes refl refl next refl

      -- And both invariants hold.
      pub stands-closed : BothInvariants p procs rest h.ledger
      stands-closed = both-same _ closed _ tally _ rest.marks world-closed refl refl exact-closed kept-closed

      module _ (silent : queue_in h.files.files f ≡ []) (bare : held_in h.files.files f ≡ []) (spared : is_unmarked rest.marks f ≡ false) (last : places_in (count_in_map h.files.counts f) ≡ 1) where
        live : IsLive closed f
        live = was.0.whole.tables_live f (pid, fd, is)

        -- No place holds the file any more.
        unheld : refs closed f ≡ 0
        unheld =
            let now = ap (λ o. places_in (unwrap_or o uncounted)) (insert-here h.files.counts f (fewer Table (count_in_map h.files.counts f))) in
            omega (arith, counted-closed, now, last, agrees-refs closed tally exact-closed.agrees f)

        -- The world is the one without the file then.
        pub world-freed : world_of procs (desc.freed f rest) h.ledger ≡ without (nat_eq f) closed
        world-freed = world-is _ _ processes refl refl next refl ∙ gone_end closed f exact-closed.whole.peers

        -- It is not counted as garbage.
        uncounted-freed : counted closed rest.marks f p.progress ≡ p.progress
        uncounted-freed =
            sym (counted_gone closed rest.marks p.progress f false (kept-closed.known f ∙ live) (sym (ap (λ b. is_some (socket_at closed f) && b) spared ∙ and-false (is_some (socket_at closed f)))))
            ∙ ap (λ r. record p.progress { reclaimed = r }) (add-zero p.progress.reclaimed)

        -- Both invariants hold without it.
        pub stands-freed : BothInvariants p procs (desc.freed f rest) h.ledger
        stands-freed =
            let no = held_by_none closed f unheld in
            let x = there (map.get h.files.files f) live in
            let none = sym (ap (λ o. option_map_or contents o []) x.1) ∙ bare in
            let gone = kept_gone closed begun rest.marks p.progress f live no.0 no.1 bare kept-closed in
            both-same _ (without (nat_eq f) closed) _ (record tally { counts = map.remove tally.counts f }) _ (forgotten f rest.marks) world-freed refl refl
            (exact-gone closed f x.0 tally x.1 none (sym (ap (λ o. option_map_or queue_of o []) x.1) ∙ silent) unheld exact-closed)
            (subst (PassInvariant (without (nat_eq f) closed) begun (forgotten f rest.marks)) uncounted-freed gone)

        -- It leaves the same files to be freed as before.
        pub settles-freed : (end : World) → Settles (without (nat_eq f) closed) end → Settles closed end
        settles-freed = settles-without closed f live unheld
