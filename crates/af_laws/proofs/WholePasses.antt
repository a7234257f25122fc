-- A whole pass keeps the rest of the world, and leaves no garbage: neither that of its begin nor
-- any other.
use Rattle.std.proofs.Common.{◌≡◌, ℕ, Bool, true, false, not, [], refl, sym, ap, ◌∙◌, subst, cond}
use Rattle.std.specs.Prelude.{◌↔◌, Option, Some, None, is_some, option_map, if◌then◌else◌}
use Rattle.std.specs.Option.{option_map_or}
use Rattle.std.specs.Cmp.{nat_cmp_total}
use Rattle.std.specs.FinMap as map
use Rattle.std.specs.Ordering.{nat_cmp}
use Rattle.std.proofs.lemmas.Bool.{false≢true}
use Rattle.af_base.specs.declared.errno.Errno.{Errno}
use Rattle.af_base.specs.declared.errno.Errno.TheVariants.{EBUSY}
use Rattle.af_base.specs.declared.events.Reply.{Reply}
use Rattle.af_base.specs.declared.events.Reply.TheVariants as reply
use Rattle.af_base.specs.World.{AsSocket, File, IsLive, Map, Plain, Process, World}
use Rattle.af_base.specs.Places.{backlog_of, number_in, queue_of}
use Rattle.af_base.specs.Unheld.{Goes, Unheld, file_without}
use Rattle.af_base.specs.Reached.{ByTable, BySocket, Garbage, Reached}
use Rattle.af_base.specs.Pass.{Idle, Machine, Pass, PassesWhole, Purges, Running, emptied, empty_file}
use Rattle.af_base.proofs.Lookups.{none_some}
use Rattle.af_base.proofs.PurgeOrder.{from_emptied, get-emptied, live-emptied}
use Rattle.af_base.proofs.SettledWorlds.{get-without, live-without, stays}
use Rattle.af_laws.proofs.Chains.{holder_live, not_emptied, not_gone, purging_keeps_reached, reached_emptied}
use Rattle.af_laws.specs.Purging.{PassLeavesNoGarbage, PassReleasesItsGarbage, PassSparesTheReached, PassWithoutProcessesLeavesNothing, SparesReached}

-- A world of which some is purged, and nothing that is reached.
module _ (old new : World) (test : ℕ → Bool) (apart : (f : ℕ) → test f ≡ true → ¬ (Reached old f)) (purged : Purges test old new) where
  -- A file that is reached is as it was, but for a peer that has hung up.
  same_file : (f : ℕ) → Reached old f → map.get new.files f ≡ option_map (file_without purged.0) (map.get old.files f)
  same_file f r =
      ap (λ w. map.get w.files f) purged.2 ∙ get-without purged.0 (emptied test old) f
      ∙ ap (λ b. cond (not b) (option_map (file_without purged.0) (map.get (emptied test old).files f)) None) (not_gone (emptied test old) new purged f (reached_emptied old test apart f r))
      ∙ ap (option_map (file_without purged.0)) (get-emptied test old f ∙ ap (λ b. option_map (λ x. if b then empty_file x else x) (map.get old.files f)) (not_emptied old test apart f r) ∙ whole (map.get old.files f)) where
        whole : (o : Option File) → option_map (λ x. if false then empty_file x else x) o ≡ o
        whole None = refl
        whole (Some x) = refl

  -- Each file that was reachable is as it was.
  pub spared : SparesReached old new
  spared = record {
    tables = ap (λ w. w.processes) purged.2;
    live = λ f r l. ap is_some (same_file f r) ∙ live (map.get old.files f) ∙ l;
    queues = λ f r. ap (λ o. option_map_or queue_of o []) (same_file f r) ∙ queue (map.get old.files f);
    backlogs = λ f r. ap (λ o. option_map_or backlog_of o []) (same_file f r) ∙ backlog (map.get old.files f);
  } where
    live : (o : Option File) → is_some (option_map (file_without purged.0) o) ≡ is_some o
    live None = refl
    live (Some x) = refl

    queue : (o : Option File) → option_map_or queue_of (option_map (file_without purged.0) o) [] ≡ option_map_or queue_of o []
    queue None = refl
    queue (Some Plain) = refl
    queue (Some (AsSocket s)) = refl

    backlog : (o : Option File) → option_map_or backlog_of (option_map (file_without purged.0) o) [] ≡ option_map_or backlog_of o []
    backlog None = refl
    backlog (Some Plain) = refl
    backlog (Some (AsSocket s)) = refl

-- A world whose garbage is purged.
module _ (old new : World) (test : ℕ → Bool) (garbage : (f : ℕ) → (test f ≡ true) ↔ Garbage old f) (purged : Purges test old new) where
  -- A file that passes the test is garbage.
  is_garbage : (f : ℕ) → test f ≡ true → Garbage old f
  is_garbage f e = (garbage f).0 e

  -- Only garbage holds garbage, and that was emptied.
  goes : (f : ℕ) → Garbage old f → Unheld (emptied test old) f
  goes f g = Goes f (live-emptied test old f ∙ g.0) (λ t. g.1 (ByTable f t)) (λ s h.
      let from = from_emptied test old s f h in
      absurd (false≢true (sym from.0 ∙ (garbage s).1 (holder_live old s f from.1, λ r. g.1 (BySocket s f r from.1)))))

  -- A file that is live was live, and was not freed.
  stayed : (f : ℕ) → IsLive new f → (purged.0 f ≡ false) × IsLive old f
  stayed f l =
      let left = stays _ _ (sym (ap (λ w. is_some (map.get w.files f)) purged.2 ∙ live-without purged.0 (emptied test old) f) ∙ l) in
      (left.0, sym (live-emptied test old f) ∙ left.1)

  -- None of the garbage is live afterwards.
  pub released : (f : ℕ) → Garbage old f → ¬ (IsLive new f)
  released f g l = false≢true (sym (stayed f l).0 ∙ (purged.1 f).1 (goes f g))

  -- No garbage is left.
  none_left : (f : ℕ) → ¬ (Garbage new f)
  none_left f g = released f ((stayed f g.0).1, λ r. g.1 ((purging_keeps_reached old new test is_garbage purged f).0 r)) g.0

-- Where nothing changes.
pub spares_all : (old new : Machine) → new ≡ old → SparesReached old.world new.world
spares_all old new e = subst (λ m. SparesReached old.world m.world) (sym e) (record { tables = refl; live = λ f r l. l; queues = λ f r. refl; backlogs = λ f r. refl })

-- A whole pass spares what is reachable.
spares_by : (p : Pass) (old new : Machine) (r : Reply) → PassesWhole p old r new → SparesReached old.world new.world
spares_by Idle old new r h = spared old.world new.world h.0.test (λ f e. ((h.0.is_garbage f).0 e).1) h.0.purged
spares_by (Running begun spent) old new r h = spares_all old new h.1

pub pass_spares_the_reached : PassSparesTheReached
pass_spares_the_reached old new r h = spares_by old.pass old new r h

-- A pass that is done is not refused.
pub done_refused : (pass count : ℕ) (e : Errno) → reply.Done pass count ≡ reply.Refused e → ⊥
done_refused pass count e d = cc

-- A whole pass that is done leaves no garbage.
leaves_by : (p : Pass) (old new : Machine) (pass count : ℕ) → PassesWhole p old (reply.Done pass count) new → (f : ℕ) → ¬ (Garbage new.world f)
leaves_by Idle old new pass count h = none_left old.world new.world h.0.test h.0.is_garbage h.0.purged
leaves_by (Running begun spent) old new pass count h = absurd (done_refused pass count EBUSY h.0)

pub pass_leaves_no_garbage : PassLeavesNoGarbage
pass_leaves_no_garbage old new pass count h = leaves_by old.pass old new pass count h

-- A whole pass that is done has released the garbage of its begin.
releases_by : (p : Pass) (old new : Machine) (pass count : ℕ) → PassesWhole p old (reply.Done pass count) new → (f : ℕ) → Garbage old.world f → ¬ (IsLive new.world f)
releases_by Idle old new pass count h = released old.world new.world h.0.test h.0.is_garbage h.0.purged
releases_by (Running begun spent) old new pass count h = absurd (done_refused pass count EBUSY h.0)

pub pass_releases_its_garbage : PassReleasesItsGarbage
pass_releases_its_garbage old new pass count h = releases_by old.pass old new pass count h

-- Where there are no processes, no table has a file.
no_number : (processes : Map Process) → map.len processes ≡ 0 → (p n : ℕ) → number_in processes p n ≡ None
no_number processes none p n = ap (λ (o : Option Process). option_map_or (λ q. map.get q.table n) o None) (ap (λ (m : Map Process). map.get m p) (map.empty_of_len processes none) ∙ map.get-empty nat_cmp p)

-- Without processes no chain begins.
none_reached : (w : World) → map.len w.processes ≡ 0 → (f : ℕ) → Reached w f → ⊥
none_reached w none _ (ByTable f t) = none_some f (sym (no_number w.processes none t.0 t.1) ∙ t.2)
none_reached w none _ (BySocket s f r h) = none_reached w none s r

-- A map that has no key is empty.
no_key : {X : Type 0} (m : Map X) → ((k : ℕ) → map.contains_key m k ≡ true → ⊥) → map.len m ≡ 0
no_key {X} m none =
    ap (λ (x : Map X). map.len x) (map.same_map nat_cmp_total map.nat_cmp-IsAntisymmetric m map.empty (λ k. get_none (map.get m k) (none k) ∙ sym (map.get-empty nat_cmp k))) ∙ map.len-empty nat_cmp X
  where
    get_none : (o : Option X) → (is_some o ≡ true → ⊥) → o ≡ None
    get_none None bad = refl
    get_none (Some x) bad = absurd (bad refl)

pub pass_without_processes_leaves_nothing : PassWithoutProcessesLeavesNothing
pass_without_processes_leaves_nothing old new pass count none done =
    let tables = (pass_spares_the_reached old new (reply.Done pass count) done).tables in
    no_key new.world.files (λ f live. pass_leaves_no_garbage old new pass count done f (live, none_reached new.world (ap (λ (m : Map Process). map.len m) tables ∙ none) f))
