-- From the opening of a layer to its closing: what was done in a race.
use Rattle.std.proofs.Common.{◌≡◌, ◌+◌, ◌-◌, ◌++◌, ℕ, List, [], ◌∷◌, ap, arith, sym, ◌∙◌, subst}
use Rattle.af_base.specs.declared.events.Event.{Event}
use Rattle.af_layer.specs.Audit.{IsWholeBook}
use Rattle.af_layer.specs.Drive.{Driven, Made}
use Rattle.af_layer.specs.Log.{BookView, IsLegal, Pair, of_seat}
use Rattle.af_layer.specs.Seats.{SeatView}
use Rattle.scmgc.specs.Race.Parts.{AreFresh, IsOfPart, LogHas, SeatsHave}
use Rattle.scmgc.specs.Race.Scripts.{script_of}
use Rattle.scmgc.specs.Race.{ChildrenExit, Finishes, Raced, all_exits_of, exits_in, scripts_of, spawned, works_of_race}
use Rattle.scmgc.proofs.race.Exits.{in-pass}
use Rattle.scmgc.proofs.race.Parts.{exits-logged, last-began, log-at, log-has, seats-exited, seats-played}
use Rattle.scmgc.proofs.race.Works.{script-at, scripts-count}

-- All seats as they were opened; those that were driven, before and after; the last one when it was
-- opened, after the start and at the end; and all as they were handed in.
module _ (workers steps seed budget : ℕ) (b : BookView) (all opened driven handed : List SeatView) (first started last : SeatView)
    (fresh : AreFresh (workers + 2) all)
    (split : all ≡ opened ++ first ∷ [])
    (started_number : started.number ≡ first.number)
    (started_list : started.list ≡ first.list ++ spawned workers)
    (drove : Driven Made opened (works_of_race workers steps seed budget) driven)
    (number : last.number ≡ started.number)
    (list : Finishes (all_exits_of driven) started.list last.list)
    (joined : handed ≡ driven ++ last ∷ [])
    (whole : IsWholeBook b handed) where
  -- The list of a worker has its script, and that of the collector its turns.
  abbrev HasDone : ℕ → List Pair → Type 0
  HasDone = IsOfPart (scripts_of workers workers steps seed) steps budget

  -- So do all seats have theirs.
  had : SeatsHave (workers + 2) HasDone handed
  had = seats-played workers all opened first fresh split (scripts_of workers workers steps seed) steps budget (scripts-count workers workers steps seed) driven handed last drove joined (number ∙ started_number)

  -- So it is by the log.
  logged : LogHas (workers + 2) HasDone b.log
  logged = log-has (workers + 2) HasDone b handed had whole

  -- Each child that was forked has exited.
  pub race-exits : ChildrenExit workers b.log
  race-exits =
      let began = started_list ∙ ap (λ l. l ++ spawned workers) (last-began workers all opened first fresh split) in
      let Ended : List Event → List Pair → Type 0 = λ exits l. Finishes exits (spawned workers) l in
      exits-logged workers Ended HasDone b handed had whole
      (seats-exited workers all opened first fresh split Ended driven handed last drove.count joined (subst (λ l. Finishes (all_exits_of driven) l last.list) began list))

  -- So the race is one that ended well.
  pub race-raced : IsLegal b.seats b.machine b.log → Raced workers steps seed budget b
  race-raced legal =
      let count = scripts-count workers workers steps seed in
      record {
        did = record {
          legal = legal;
          scripts = λ k low high.
              let next : k - 1 + 1 ≡ k = omega (arith, low) in
              (log-at (workers + 2) HasDone b.log logged k low (omega (arith, high))).0 (omega (arith, low, high, count))
              ∙ script-at workers workers steps seed (k - 1) (omega (arith, low, high))
              ∙ ap (λ m. script_of m workers steps seed) next;
        };
        turns = (logged workers (omega arith)).1 (sym count);
        main_thread = in-pass (exits_in (workers + 1) b.log) (spawned workers) (of_seat (workers + 2) b.log) race-exits;
      }
