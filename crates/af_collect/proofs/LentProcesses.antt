-- A process that is lent, and written back.
use Rattle.std.proofs.Common.{◌≡◌, ℕ, refl, sym, ap, ◌∙◌, subst}
use Rattle.std.specs.Prelude.{Err, Ok, OnErr, Result, Some}
use Rattle.std.specs.Option.{option_map_or}
use Rattle.std.specs.FinMap as map
use Rattle.af_base.specs.World.{Map, Process}
use Rattle.af_base.specs.Changes.{change_at}
use Rattle.af_base.proofs.Lookups.{insert-here}
use Rattle.af_base.proofs.Trees.{insert_same}
use Rattle.af_desc.specs.FilesView.{FilesView}
use Rattle.af_ledger.specs.Tally.{kept_of}
use Rattle.af_table.specs.Lending.{with_process}
use Rattle.af_table.specs.Procs.{Procs}
use Rattle.af_table.specs.Slots.{ProcessView}
use Rattle.af_collect.proofs.Exact.{world-is}
use Rattle.af_collect.proofs.ProcessTables.{insert_twice}
use Rattle.af_collect.proofs.StoreInvariant.{BothInvariants, both-same, shown}
use Rattle.af_collect.specs.HoldingsView.{world_of}
use Rattle.af_collect.specs.StoreView.{StoreView}
use Rattle.af_collect.specs.contracts.holdings.Holdings.{the_view}
use Rattle.af_collect.specs.declared.holdings.Holdings.TheInside.{Inside}
use Rattle.af_collect.specs.declared.store.Store.TheInside.{Inside as StoreInside}

-- Where it is written back as it was, nothing changes.
pub back-same : (m : Map Process) (p : ℕ) (q v : Process) → map.get m p ≡ Some q → v ≡ q → map.insert m p v ≡ m
back-same m p q v at is = ap (map.insert m p) is ∙ insert_same m p q at

-- Where it is written back with a change, it is changed.
pub back-changed : (g : Process → Process) (m : Map Process) (p : ℕ) (q v : Process) → map.get m p ≡ Some q → v ≡ g q → map.insert m p v ≡ change_at g m p
back-changed g m p q v at is = ap (map.insert m p) is ∙ sym (ap (λ o. option_map_or (λ x. map.insert m p (g x)) o m) at)

-- Where a process that was written back is changed again, the last change counts.
pub back-again : (g : Process → Process) (m : Map Process) (p : ℕ) (q v : Process) → v ≡ g q → map.insert m p v ≡ change_at g (map.insert m p q) p
back-again g m p q v is = sym (insert_twice m p q v) ∙ back-changed g (map.insert m p q) p q v (insert-here m p q) is

module _ (p : StoreInside) (h : Inside) (procs : Procs) (processes : procs.processes ≡ h.procs.processes) (next : procs.next_pid ≡ h.procs.next_pid) where
  -- Where the processes are as they were, the invariants hold as before.
  pub stands-same : BothInvariants p h.procs h.files h.ledger → BothInvariants p procs h.files h.ledger
  stands-same was = both-same _ (the_view h).world _ (kept_of h.files.counts h.ledger) _ h.files.marks (world-is _ _ processes refl refl next refl) refl refl was.0 was.1

  -- And a caller sees no change, but for the room in tables.
  pub seen-same : (o : StoreView) → the_view h ≡ p.holdings → shown p p.holdings ≡ o → shown p (record (the_view h) { world = world_of procs h.files h.ledger; rows = procs.rows }) ≡ record o { rows = procs.rows }
  seen-same o opened is =
      (λ i. shown p (record (the_view h) { world = record (the_view h).world { processes = processes i; next_pid = next i }; rows = procs.rows }))
      ∙ ap {B = StoreView} (λ t. shown p (record t { rows = procs.rows })) opened ∙ ap {A = StoreView} {B = StoreView} (λ t. record t { rows = procs.rows }) is

-- A fact that holds in any case holds at an error.
pub at-error : {T E : Type 0} {P : Type 0} (r : Result T E) → P → OnErr r P
at-error (Ok t) holds = tt
at-error (Err e) holds = holds

module _ (p : StoreInside) (h : Inside) (pid : ℕ) (q : ProcessView) (at : map.get h.procs.processes pid ≡ Some q.process) (fs : FilesView) (files : fs ≡ h.files) where
  -- The processes with q in place of pid's.
  abbrev lent : Procs
  lent = with_process h.procs pid q

  -- They are as before.
  back : lent.processes ≡ h.procs.processes
  back = back-same h.procs.processes pid q.process q.process at refl

  -- Where it is written back as it was, and no file changes, the invariants hold as before.
  pub stands-lent : BothInvariants p h.procs h.files h.ledger → BothInvariants p lent fs h.ledger
  stands-lent was = subst (λ f. BothInvariants p lent f h.ledger) (sym files) (stands-same p h lent back refl was)

  -- And an error tells a caller of no change, but for the room in tables.
  pub error-lent : {T E : Type 0} (r : Result T E) (o : StoreView) → the_view h ≡ p.holdings → shown p p.holdings ≡ o → OnErr r (shown p (the_view (record h { procs = lent; files = fs })) ≡ record o { rows = lent.rows })
  error-lent r o opened is = at-error r (ap (λ f. shown p (the_view (record h { procs = lent; files = f }))) files ∙ seen-same p h lent back refl o opened is)
