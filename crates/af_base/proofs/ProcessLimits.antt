-- A process with another limit on its descriptors, and all its numbers as they were.
use Rattle.std.proofs.Common.{◌≡◌, ◌≤◌, ℕ, Bool, true, false, inl, inr, refl, sym, ap, ◌∙◌, subst, cond, arith}
use Rattle.std.specs.Prelude.{Option, Some, None, option_map}
use Rattle.std.specs.Option.{option_map_or}
use Rattle.std.specs.Ordering.{nat_cmp, eq_by_cmp}
use Rattle.std.specs.FinMap as map
use Rattle.af_base.specs.declared.limits.TheConstants.{MAX_NOFILE}
use Rattle.af_base.specs.World.{Process, World}
use Rattle.af_base.specs.Places.{InTable, table_at}
use Rattle.af_base.specs.Counts.{one, refs, tabled, total_of}
use Rattle.af_base.specs.Changes.{limited, set_limit}
use Rattle.af_base.specs.Unheld.{IsSettled}
use Rattle.af_base.specs.Whole.{IsProcessWithin, IsWhole, IsWithin}
use Rattle.af_base.proofs.Lookups.{changed-live, changed-was}
use Rattle.af_base.proofs.SettledPlaces.{settled-counted, settled-held}
use Rattle.af_base.proofs.AllowedSteps.{get-change_at}
use Rattle.af_base.proofs.Sums.{total-change_at}
use Rattle.af_base.proofs.StaysWithin.{len-change_at}

module _ (w : World) (p n : ℕ) where
  -- The world with the other limit.
  abbrev new : World
  new = set_limit w p n

  -- Each descriptor refers to the same file as before.
  pub table_at-limited : (r k : ℕ) → table_at new r k ≡ table_at w r k
  table_at-limited r k = ap (λ o. option_map_or (λ q. map.get q.table k) o None) (get-change_at (limited n) w.processes p r) ∙ each (eq_by_cmp nat_cmp r p) (map.get w.processes r) where
    each : (b : Bool) (o : Option Process) → option_map_or (λ q. map.get q.table k) (option_map (λ q. cond b (limited n q) q) o) None ≡ option_map_or (λ q. map.get q.table k) o None
    each b None = refl
    each true (Some q) = refl
    each false (Some q) = refl

  -- A file in a table was in it.
  pub tabled-limited : (f : ℕ) → InTable new f → InTable w f
  tabled-limited f t = (t.0, t.1, sym (table_at-limited t.0 t.1) ∙ t.2)

  -- As many descriptors refer to a file as before.
  pub count-limited : (f : ℕ) → tabled new f ≡ tabled w f
  count-limited f = by (map.get w.processes p) refl where
    by : (o : Option Process) → map.get w.processes p ≡ o → total_of (λ q. total_of (λ g. one f g) q.table) new.processes ≡ tabled w f
    by None e = ap (λ o. total_of (λ q. total_of (λ g. one f g) q.table) (option_map_or (λ q. map.insert w.processes p (limited n q)) o w.processes)) e
    by (Some q) e = omega (arith, total-change_at (λ q. total_of (λ g. one f g) q.table) (limited n) w.processes p q e)

  -- So each file has as many places as it had.
  pub refs-limited : (f : ℕ) → refs new f ≡ refs w f
  refs-limited f = omega (arith, count-limited f)

  -- A settled world stays settled.
  pub settled-limited : IsSettled w → IsSettled new
  settled-limited s = settled-counted new (λ f l. let held = settled-held w f s l in omega (arith, held, refs-limited f))

  -- A whole world stays whole.
  pub whole-limited : IsWhole w → IsWhole new
  whole-limited k = record {
    tables_live = λ f t. k.tables_live f (tabled-limited f t);
    queues_live = k.queues_live;
    files_numbered = k.files_numbered;
    processes_numbered = λ r l. k.processes_numbered r (sym (changed-live (limited n) w.processes p r) ∙ l);
    files_begin = k.files_begin;
    next_ino = k.next_ino;
    next_pid = k.next_pid;
    peers = k.peers;
    targets = k.targets;
    types = k.types;
    names = k.names;
    embryos = k.embryos;
  }

  -- A world within the limits stays within them, where the limit is within its own.
  pub within-limited : IsWithin w → n ≤ MAX_NOFILE → IsWithin new
  within-limited k low = record {
    process_count = let same = len-change_at (limited n) w.processes p in let few = k.process_count in omega (arith, same, few);
    file_count = k.file_count;
    flying = k.flying;
    pids = k.pids;
    inos = k.inos;
    processes = λ r y is.
        let was = changed-was (limited n) w.processes p r y is in
        let before = k.processes r was.0 was.1 in
        elim was.2 [
          | inl z ↦ subst IsProcessWithin (sym z.1) (record { limit = low; numbers = before.numbers })
          | inr z ↦ subst IsProcessWithin (sym z) before
        ];
    sockets = k.sockets;
  }
