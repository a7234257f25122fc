-- Consequences of the invariant: which files a pass spares, and how many it looks at.
use Rattle.std.proofs.Common.{◌≡◌, ◌≤◌, ℕ, true, ◌&&◌, refl, ap, arith}
use Rattle.std.specs.FinMap as map
use Rattle.std.proofs.lemmas.Bool.{false≢true}
use Rattle.std.proofs.lemmas.List.Sums.{count_by-le-length}
use Rattle.af_base.specs.declared.limits.TheConstants.{MAX_FILES}
use Rattle.af_base.specs.World.{IsLive, World}
use Rattle.af_base.specs.Places.{Holds, InTable}
use Rattle.af_base.specs.Reached.{Garbage, is_socket}
use Rattle.af_mark.specs.MarksView.{MarksView, is_grey, is_marked}
use Rattle.af_collect.specs.declared.progress.Stage.{Stage}
use Rattle.af_collect.specs.declared.progress.Stage.TheVariants.{Marking, Resting, Sweeping}
use Rattle.af_collect.specs.declared.progress.PassProgress.{PassProgress}
use Rattle.af_collect.specs.Keeping.{PassInvariant, IsRunning, IsStage, NotBegunGarbage, below, is_marking, is_running, is_sweeping, pass_of}
use Rattle.af_collect.proofs.PassFrees.{never_garbage}
use Rattle.af_collect.proofs.PassChanges.{in_marking, in_sweeping, marking_only}

-- If marking continues, a pass runs.
pub marking_runs : (s : Stage) → is_marking s ≡ true → is_running s ≡ true
marking_runs s e = ap is_running (marking_only s e)

-- A file that a running pass spares is no garbage of the begin.
pub spared_running : (s : Stage) (begun : World) (n f : ℕ) → is_running s ≡ true → NotBegunGarbage (pass_of s begun n) f → ¬ (Garbage begun f)
spared_running Resting begun n f e spared = absurd (false≢true e)
spared_running Marking begun n f e spared = spared
spared_running Sweeping begun n f e spared = spared

-- Sweeping continues in one stage only.
pub sweeping_only : (s : Stage) → is_sweeping s ≡ true → s ≡ Sweeping
sweeping_only Resting e = absurd (false≢true e)
sweeping_only Marking e = absurd (false≢true e)
sweeping_only Sweeping e = refl

module _ {w begun : World} {m : MarksView} {c : PassProgress} where
  -- No more sockets are counted than there can be files.
  pub reclaimed_most : c.stage ≡ Sweeping → PassInvariant w begun m c → c.reclaimed ≤ MAX_FILES
  reclaimed_most e k =
      let p = in_sweeping e k in
      let most = count_by-le-length (λ e. is_socket e.1 && p.sweeping.counted.0 e.0) (map.entries begun.files) in
      let few = p.running.since.sound.within.file_count in
      omega (arith, p.sweeping.counted.2, most, map.len-entries begun.files, few)

  -- A file that is no garbage of the begin of a running pass is spared.
  spares_in : (n f : ℕ) → (IsRunning w begun m c → ¬ (Garbage begun f)) → PassInvariant w begun m c → NotBegunGarbage (pass_of c.stage begun n) f
  spares_in n f spared k = by c.stage k.stage where
    by : (s : Stage) → IsStage s w begun m c → NotBegunGarbage (pass_of s begun n) f
    by Resting p = tt
    by Marking p = spared p.running
    by Sweeping p = spared p.running

  -- A file in a table is spared.
  pub tabled_spared : (n f : ℕ) → PassInvariant w begun m c → InTable w f → NotBegunGarbage (pass_of c.stage begun n) f
  tabled_spared n f k t = spares_in n f (λ r g. r.since.stray.tables f g t) k

  -- A file held by a spared file is spared.
  pub held_spared : (n s f : ℕ) → PassInvariant w begun m c → Holds w s f → NotBegunGarbage (pass_of c.stage begun n) s → NotBegunGarbage (pass_of c.stage begun n) f
  held_spared n s f k h spared = by c.stage k.stage spared where
    by : (t : Stage) → IsStage t w begun m c → NotBegunGarbage (pass_of t begun n) s → NotBegunGarbage (pass_of t begun n) f
    by Resting p y = tt
    by Marking p y = λ g. y (p.running.since.stray.queues s f h g)
    by Sweeping p y = λ g. y (p.running.since.stray.queues s f h g)

  -- While marking, an unheld file is no garbage of the begin, and nor are the files that it holds.
  pub waiting_held : (x : ℕ) → is_marking c.stage ≡ true → IsLive w x → ¬ (InTable w x) → ((q : ℕ) → ¬ (Holds w q x)) → PassInvariant w begun m c → (¬ (Garbage begun x)) × ((f : ℕ) → Holds w x f → ¬ (Garbage begun f))
  waiting_held x t l untabled unheld k =
      let p = in_marking (marking_only c.stage t) k in
      let s = p.running.since in
      let spared = never_garbage m.bound s (is_marked m) (is_grey m) (below c.visited) p.marking x l untabled unheld in
      (spared, λ f h g. spared (s.stray.queues x f h g))
