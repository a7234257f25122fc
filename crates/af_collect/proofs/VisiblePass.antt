-- The pass that a caller sees, what it counts, and what a slice answers.
use Rattle.std.proofs.Common.{arith, ◌≡◌, ◌+◌, ◌&&◌, ℕ, Bool, true, false, not, refl, ap, ◌∙◌, nat_lt, inl, inr, subst, sym}
use Rattle.std.specs.Prelude.{Option, Some, None, is_some, if◌then◌else◌}
use Rattle.std.specs.FinMap as map
use Rattle.std.specs.Option.{option_and_then, option_map_or}
use Rattle.std.proofs.Math.Bool.{and_comm}
use Rattle.std.proofs.lemmas.Bool.{false≢true}
use Rattle.af_base.specs.World.{AsSocket, File, Plain, World, IsLive}
use Rattle.af_base.specs.Pass.{Idle, IsInTime, Pass, Running, Slices}
use Rattle.af_base.specs.Reached.{is_socket, Garbage, IsGarbageCount}
use Rattle.af_base.specs.Refusals.{socket_of}
use Rattle.af_base.specs.declared.events.Reply.TheVariants as reply
use Rattle.af_mark.specs.MarksView.{MarksView, is_marked, knows}
use Rattle.af_desc.specs.FilesView.{is_unmarked_socket}
use Rattle.af_collect.specs.declared.progress.Stage.{Stage}
use Rattle.af_collect.specs.declared.progress.Stage.TheVariants.{Marking, Resting, Sweeping}
use Rattle.af_collect.specs.declared.progress.PassProgress.{PassProgress}
use Rattle.af_collect.specs.Keeping.{IsStage, PassInvariant, counted, is_running, is_sweeping, pass_of, runs}
use Rattle.af_collect.specs.Purged.{ArePurged}

-- The world at the begin of a pass that runs.
begun_of : World → Pass → World
begun_of w Idle = w
begun_of w (Running begun spent) = begun

-- A caller who sees a pass sees its begin.
pub seen_begun : (s : Stage) (b begun : World) (n spent : ℕ) → pass_of s b n ≡ Running begun spent → b ≡ begun
unfolding begun_of
seen_begun Resting b begun n spent is = absurd (false≢true (ap runs is))
seen_begun Marking b begun n spent is = ap (begun_of b) is
seen_begun Sweeping b begun n spent is = ap (begun_of b) is

-- How much of its budget a pass has spent.
spent_of : Pass → ℕ
spent_of Idle = 0
spent_of (Running begun spent) = spent

-- A pass that runs is seen so.
pub seen_running : (s : Stage) (b : World) (n : ℕ) → is_running s ≡ true → pass_of s b n ≡ Running b n
seen_running Resting b n e = absurd (false≢true e)
seen_running Marking b n e = refl
seen_running Sweeping b n e = refl

-- A pass that is seen to run does run.
pub runs_seen : (s : Stage) (b begun : World) (n spent : ℕ) → pass_of s b n ≡ Running begun spent → is_running s ≡ true
runs_seen Resting b begun n spent is = ap runs is
runs_seen Marking b begun n spent is = refl
runs_seen Sweeping b begun n spent is = refl

-- Units that a running pass did are spent.
pub seen_spent : (s t : Stage) (b begun : World) (k l n spent : ℕ) → pass_of s b k ≡ Running begun spent → is_running t ≡ true → l ≡ k + n → pass_of t b l ≡ Running begun (spent + n)
unfolding spent_of
seen_spent s t b begun k l n spent is run more =
    let was = sym (seen_running s b k (runs_seen s b begun k spent is)) ∙ is in
    seen_running t b l run ∙ (λ i. Running (seen_begun s b begun k spent is i) (more i)) ∙ ap (λ m. Running begun (m + n)) (ap spent_of was)

-- A freed file is counted if it is a socket that the pass had still to mark, and the pass sweeps.
pub counted_gone : (w : World) (m : MarksView) (c : PassProgress) (f : ℕ) (unmarked : Bool) → knows m f ≡ true → unmarked ≡ is_unmarked_socket w.files m f → record c { reclaimed = c.reclaimed + (if unmarked && is_sweeping c.stage then 1 else 0) } ≡ counted w m f c
counted_gone w m c f unmarked known is = ap (λ b. record c { reclaimed = c.reclaimed + (if b then 1 else 0) }) (and_comm unmarked (is_sweeping c.stage) ∙ ap (λ b. is_sweeping c.stage && b) (is ∙ same)) where
  by : (o : Option File) → is_some (option_and_then socket_of o) ≡ option_map_or is_socket o false
  by None = refl
  by (Some Plain) = refl
  by (Some (AsSocket s)) = refl

  same : is_unmarked_socket w.files m f ≡ (option_map_or is_socket (map.get w.files f) false && (nat_lt f m.bound && not (is_marked m f)))
  same = λ i. by (map.get w.files f) i && (nat_lt f m.bound && (known i && not (is_marked m f)))

-- A slice that ends the pass, where none of the garbage of the begin is live.
pub slices_done : (begun w v : World) (k b pass n : ℕ) → ArePurged begun w v b → ((f : ℕ) → Garbage begun f → ¬ (IsLive v f)) → IsGarbageCount begun n
    → Slices begun w k b pass (reply.Done pass n) v Idle
slices_done begun w v k b pass n p none count = record {
  emptied_files = p.files;
  few = p.few;
  of_garbage = p.of_garbage;
  purged = p.purged;
  answered = inr (n, count, refl, refl, none);
}

-- A slice that leaves work, in time.
pub slices_working : (begun w v : World) (spent b pass : ℕ) (after : Pass) → ArePurged begun w v b → after ≡ Running begun (spent + b) → IsInTime after → Slices begun w spent b pass reply.Working v after
slices_working begun w v spent b pass after p is time = record {
  emptied_files = p.files;
  few = p.few;
  of_garbage = p.of_garbage;
  purged = p.purged;
  answered = inl (refl, is, subst IsInTime is time);
}

-- A pass that keeps its invariant is in time.
pub in_time : (w begun : World) (m : MarksView) (c : PassProgress) → PassInvariant w begun m c → IsInTime (pass_of c.stage begun c.looked)
in_time w begun m c kept = by c.stage kept.stage where
  by : (s : Stage) → IsStage s w begun m c → IsInTime (pass_of s begun c.looked)
  by Resting i = tt
  by Marking i = omega (arith, i.running.counted.at_most)
  by Sweeping i = omega (arith, i.running.counted.at_most)
