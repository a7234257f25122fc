-- The effects of a run, line by line, and how it stops.
use Rattle.std.proofs.Common.{◌≡◌, ◌⊎◌, inl, inr, ℕ, ◌+◌, ◌-◌, ◌<◌, ◌==◌, List, [], ◌∷◌, ◌++◌, false, length, take, Option, Some, None, refl, sym, ap, ◌∙◌, subst, append_assoc, append-nil, arith, length-append, Result, Ok, Err, IfErr, IfOk}
use Rattle.std.specs.Prelude.{map, slice_get, ⊤}
use Rattle.std.specs.Str.Lines.{lines, strip_carriage_return}
use Rattle.std.specs.Io.KnownBytes.{Appends, Consumes, IsAtEnd, Keeps}
use Rattle.std.proofs.KnownBytes.{Appends-trans, Appends-nil, Consumes-trans}
use Rattle.std.proofs.lemmas.List.Elements.{All-nil}
use Rattle.std.proofs.lemmas.List.{take_at, take_all, map-append, length-map}
use Rattle.scm_run.specs.Watched.{AppendsFront}
use Rattle.scm_lines.specs.Versions.{read_in}
use Rattle.scm_run.specs.Script.{FaultAt, LineText, NoFeed, Point, RanFirst, RanToEnd, RunText, StopsBy, HasInput, Wrote, ended_by_feed, first_point, is_read_fault, RanAsRead}
use Rattle.scm_run.specs.Gather.{WritesBeforeFault, WritesFront}
use Rattle.scm_run.specs.Line.{LineDone, LineStops}
use Rattle.scm_run.specs.Progress.{FaultIn, Halts, Ran, RanAll, RunProgress, Runs, TooLong, Waits, may_fit, nothing_read}
use Rattle.scm_run.specs.declared.fault.RunFault.{RunFault}
use Rattle.scm_run.specs.declared.fault.RunFault.TheVariants as fault
use Rattle.scm_run.proofs.LinesLemmas.{all_lines, cut_end, cut_more, firsts, front_lines, last_line, line_at, long_first, slice_get_at}

-- A run is extended by one line.
pub RunText-more : (old mid new : Point) (script : List (List ℕ)) (events k : ℕ) (text out bytes : List ℕ)
    → RunText old script events text mid → LineText mid bytes k out new → RunText old (script ++ bytes ∷ []) (events + k) (text ++ out) new
RunText-more old mid new [] events k text out bytes (none, empty, same) does =
    (new, k, out, 0, [], subst (λ w. LineText w bytes k out new) same does, (refl, refl, refl), rw none (omega arith), rw empty (sym (append-nil out)))
RunText-more old mid new (x ∷ script) events k text out bytes (w, first, written, more, rest, does-x, runs, counts, joins) does = (
  w,
  first,
  written,
  more + k,
  rest ++ out,
  does-x,
  RunText-more w mid new script more k rest out bytes runs does,
  rw counts (omega arith),
  rw joins (append_assoc written rest out),
)

-- Text and then a beginning of a text are a beginning of both.
Appends-front : (a b c : Option (List ℕ)) (x y : List ℕ) → Appends a b x → AppendsFront b c y → AppendsFront a c (x ++ y)
Appends-front a b c x y first (front, rest, e, second) =
    (x ++ front, rest, ap (λ l. x ++ l) e ∙ sym (append_assoc x front rest), Appends-trans a b c x front first second)

-- ---- what is gathered

-- The written text and the gathered text together are the same after some was moved.
moved : (written gathered kept : List ℕ) (before after : Option (List ℕ)) → (m : WritesFront gathered kept before after) → (written ++ m.front) ++ kept ≡ written ++ gathered
moved written gathered kept before after m = append_assoc written m.front kept ∙ ap (λ l. written ++ l) (sym m.split)

-- A fault that is so once all text is written.
waits : (says : Option (List ℕ) → RunFault → Type 0) (before mid after : Option (List ℕ)) (written gathered kept : List ℕ) (f : RunFault)
    → Appends before mid written → WritesFront gathered kept mid after
    → ((last : Option (List ℕ)) → Appends before last (written ++ gathered) → says last f)
    → ((last : Option (List ℕ)) → AppendsFront before last (written ++ gathered) → says last fault.Write)
    → Waits says before after kept f
waits says before mid after written gathered kept f wrote m whole part =
    let same = moved written gathered kept mid after m in
    record {
      written = written ++ m.front;
      wrote = Appends-trans before mid after written m.front wrote m.wrote;
      whole = λ last a. whole last (subst (Appends before last) same a);
      part = λ last a. part last (subst (AppendsFront before last) same a);
    }

-- Nothing was moved.
still : (gathered : List ℕ) (now : Option (List ℕ)) → WritesFront gathered gathered now now
still gathered now = record { front = []; split = refl; wrote = Appends-nil now }

-- A fault is what it says once the gathered text is written, and the writer's where a part is.
waits_written : (says : Option (List ℕ) → RunFault → Type 0) (before mid after : Option (List ℕ)) (gathered : List ℕ) (f answer : RunFault)
    → Waits says before mid gathered f → ((answer ≡ f) × Appends mid after gathered) ⊎ ((answer ≡ fault.Write) × AppendsFront mid after gathered) → says after answer
waits_written says before mid after gathered f answer w (inl (e, a)) = subst (says after) (sym e) (w.whole after (Appends-trans before mid after w.written gathered w.wrote a))
waits_written says before mid after gathered f answer w (inr (e, a)) = subst (says after) (sym e) (w.part after (Appends-front before mid after w.written gathered w.wrote a))

-- The answer to a fault once the gathered text is written.
pub halts_written : (says : Option (List ℕ) → RunFault → Type 0) (before mid after : Option (List ℕ)) (gathered : List ℕ) (f answer : RunFault)
    → Halts says before mid gathered f → WritesBeforeFault f answer gathered mid after → says after answer
halts_written says before mid after gathered (fault.Unreadable n) answer h s = waits_written says before mid after gathered (fault.Unreadable n) answer h s
halts_written says before mid after gathered fault.Read answer h s = absurd h
halts_written says before mid after gathered fault.Write answer h (e, same) = subst (says after) (sym e) (subst (λ a. says a fault.Write) (sym same) h)
halts_written says before mid after gathered fault.Memory answer h s = waits_written says before mid after gathered fault.Memory answer h s

-- A fault that says one thing says what follows from it.
waits_as : (says tells : Option (List ℕ) → RunFault → Type 0) (before after : Option (List ℕ)) (gathered : List ℕ) (f : RunFault)
    → ((last : Option (List ℕ)) (g : RunFault) → says last g → tells last g) → Waits says before after gathered f → Waits tells before after gathered f
waits_as says tells before after gathered f so w = record {
  written = w.written;
  wrote = w.wrote;
  whole = λ last a. so last f (w.whole last a);
  part = λ last a. so last fault.Write (w.part last a);
}

-- A consequence of a fault.
pub halts_as : (says tells : Option (List ℕ) → RunFault → Type 0) (before after : Option (List ℕ)) (gathered : List ℕ) (f : RunFault)
    → ((last : Option (List ℕ)) (g : RunFault) → says last g → tells last g) → Halts says before after gathered f → Halts tells before after gathered f
halts_as says tells before after gathered (fault.Unreadable n) so h = waits_as says tells before after gathered (fault.Unreadable n) so h
halts_as says tells before after gathered fault.Read so h = h
halts_as says tells before after gathered fault.Write so h = so after fault.Write h
halts_as says tells before after gathered fault.Memory so h = waits_as says tells before after gathered fault.Memory so h

-- A fact of every continuation of the input is one of those that begin with more of it.
pub fault_later : (taken bs : List ℕ) (before last : Option (List ℕ)) (f : RunFault) → FaultIn taken before last f → FaultIn (taken ++ bs) before last f
fault_later taken bs before last f h = λ more. subst (λ l. FaultAt l before last f) (sym (append_assoc taken bs more)) (h (bs ++ more))

-- ---- what a run has done

-- The same, with other bytes on the unfinished line.
abbrev pub longer : RunProgress → List ℕ → RunProgress
longer old bs = record { point = old.point; pending = old.pending ++ bs; gathered = old.gathered; events = old.events; done = old.done }

-- A run reads bytes without a line feed by keeping them.
pub ran_more : (taken bs : List ℕ) (before after : Option (List ℕ)) (old : RunProgress) → Ran taken before after old → NoFeed bs → Ran (taken ++ bs) before after (longer old bs)
ran_more taken bs before after old ran none = record {
  written = ran.written;
  runs = record { whole = ran.runs.whole; cut = cut_more taken ran.runs.whole old.pending bs ran.runs.cut none; runs = ran.runs.runs; counted = ran.runs.counted };
  wrote = ran.wrote;
}

-- A run that does the line that a line feed ends has run so far.
pub end_ok : (taken : List ℕ) (before mid after : Option (List ℕ)) (old : RunProgress) (left : List ℕ) (k : ℕ) (point : Point) → Ran taken before mid old
    → LineDone old.point (strip_carriage_return old.pending) old.gathered left mid after k point
    → Ran (taken ++ 10 ∷ []) before after (record { point = point; pending = []; gathered = left; events = old.events + k; done = old.done + 1 })
end_ok taken before mid after old left k point ran done =
    let whole = ran.runs.whole in
    let front = done.moves.front in
    let text : (ran.written ++ front) ++ left ≡ (ran.written ++ old.gathered) ++ done.text =
    ap (λ l. (ran.written ++ front) ++ l) done.behind ∙ sym (append_assoc (ran.written ++ front) done.kept done.text)
    ∙ ap (λ l. l ++ done.text) (moved ran.written old.gathered done.kept mid after done.moves) in
    let more : RunText first_point (map strip_carriage_return whole ++ strip_carriage_return old.pending ∷ []) (old.events + k) ((ran.written ++ old.gathered) ++ done.text) point =
    RunText-more _ _ _ _ _ _ _ _ _ ran.runs.runs done.does in
    record {
      written = ran.written ++ front;
      runs = record {
        whole = whole ++ old.pending ∷ [];
        cut = cut_end taken whole old.pending ran.runs.cut;
        runs = rw (map-append strip_carriage_return whole (old.pending ∷ []), text) more;
        counted = rw ran.runs.counted (sym (length-append whole (old.pending ∷ [])));
      };
      wrote = Appends-trans before mid after ran.written front ran.wrote done.moves.wrote;
    }

-- All text of the lines that were run is written.
pub run_some : (taken text : List ℕ) (before last : Option (List ℕ)) (old : RunProgress) → Runs taken text old → Appends before last text → FaultIn taken before last fault.Memory
run_some taken text before last old run wrote = λ more. record {
  count = length run.whole;
  events = old.events;
  all = record {
    text = text;
    point = old.point;
    runs = subst (λ ls. RunText first_point ls old.events text old.point) (sym (firsts taken run.whole old.pending more (length run.whole) run.cut refl)) run.runs;
    wrote = wrote;
  };
}

-- A beginning of it is.
pub run_cut : (taken text : List ℕ) (before last : Option (List ℕ)) (old : RunProgress) → Runs taken text old → AppendsFront before last text → FaultIn taken before last fault.Write
run_cut taken text before last old run wrote = λ more. record {
  count = length run.whole;
  beginning = record {
    events = old.events;
    text = text;
    point = old.point;
    runs = subst (λ ls. RunText first_point ls old.events text old.point) (sym (firsts taken run.whole old.pending more (length run.whole) run.cut refl)) run.runs;
    wrote = wrote;
  };
}

-- A line that cannot be read is the fault of the run.
run_bad : (taken text : List ℕ) (before last : Option (List ℕ)) (old : RunProgress) → Runs taken text old → read_in old.point.version (strip_carriage_return old.pending) ≡ None → Appends before last text
    → FaultIn (taken ++ 10 ∷ []) before last (fault.Unreadable (old.done + 1))
run_bad taken text before last old run bad wrote = λ more.
    let one : old.done + 1 - 1 ≡ length run.whole = omega (arith, run.counted) in
    record {
      bad = strip_carriage_return old.pending;
      events = old.events;
      counted = omega arith;
      at = line_at taken run.whole old.pending more (old.done + 1 - 1) run.cut one;
      unreadable = bad;
      all = record {
        text = text;
        point = old.point;
        runs = subst (λ ls. RunText first_point ls old.events text old.point)
            (sym (ap (λ l. take (old.done + 1 - 1) (lines l)) (append_assoc taken (10 ∷ []) more) ∙ firsts taken run.whole old.pending (10 ∷ more) (old.done + 1 - 1) run.cut one)) run.runs;
        wrote = wrote;
      };
    }

-- Nothing was taken.
pub ran_nothing : (before : Option (List ℕ)) → Ran [] before before nothing_read
ran_nothing before = record {
  written = [];
  runs = record {
    whole = [];
    cut = record { joined = refl; each = tt; open_end = All-nil (λ b. (b == 10) ≡ false) };
    runs = (refl, refl, refl);
    counted = refl;
  };
  wrote = Appends-nil before;
}

-- Memory was refused before the next line.
pub ran_stops : (taken : List ℕ) (before mid after : Option (List ℕ)) (old : RunProgress) (left : List ℕ) → Ran taken before mid old → WritesFront old.gathered left mid after
    → Halts (FaultIn taken before) before after left fault.Memory
ran_stops taken before mid after old left ran m = waits (FaultIn taken before) before mid after ran.written old.gathered left fault.Memory ran.wrote m
    (λ last a. run_some taken _ before last old ran.runs a) (λ last a. run_cut taken _ before last old ran.runs a)

-- The same, for a run that these bytes extend.
pub ran_refused : (taken bs : List ℕ) (before mid : Option (List ℕ)) (old : RunProgress) → Ran taken before mid old → Halts (FaultIn (taken ++ bs) before) before mid old.gathered fault.Memory
ran_refused taken bs before mid old ran =
    halts_as (FaultIn taken before) (FaultIn (taken ++ bs) before) before mid old.gathered fault.Memory (fault_later taken bs before) (ran_stops taken before mid mid old old.gathered ran (still old.gathered mid))

-- The line that ends here was not done.
pub end_stops : (taken : List ℕ) (before mid after : Option (List ℕ)) (old : RunProgress) (left : List ℕ) (f : RunFault) → Ran taken before mid old
    → LineStops old.point.version (strip_carriage_return old.pending) (old.done + 1) old.gathered left mid after f
    → Halts (FaultIn (taken ++ 10 ∷ []) before) before after left f
end_stops taken before mid after old left (fault.Unreadable n) ran (number, bad, m) = waits (FaultIn (taken ++ 10 ∷ []) before) before mid after ran.written old.gathered left (fault.Unreadable n) ran.wrote m
    (λ last a. subst (λ k. FaultIn (taken ++ 10 ∷ []) before last (fault.Unreadable k)) (sym number) (run_bad taken _ before last old ran.runs bad a))
    (λ last a. fault_later taken (10 ∷ []) before last fault.Write (run_cut taken _ before last old ran.runs a))
end_stops taken before mid after old left fault.Read ran stops = absurd stops
end_stops taken before mid after old left fault.Write ran part =
    fault_later taken (10 ∷ []) before after fault.Write (run_cut taken _ before after old ran.runs (Appends-front before mid after ran.written old.gathered ran.wrote part))
end_stops taken before mid after old left fault.Memory ran m =
    halts_as (FaultIn taken before) (FaultIn (taken ++ 10 ∷ []) before) before after left fault.Memory (fault_later taken (10 ∷ []) before) (ran_stops taken before mid after old left ran m)

-- The unfinished line with these bytes.
pub whole_line : (old new back line : List ℕ) → (0 < length old → new ≡ old ++ back) → (old ≡ [] → new ≡ [])
    → (0 < length new → line ≡ new) → (new ≡ [] → line ≡ back) → line ≡ old ++ back
whole_line [] new back line begun empty some none = none (empty refl)
whole_line (b ∷ old) new back line begun empty some none =
    let joined = begun (omega arith) in
    some (rw joined (omega (arith, length-append (b ∷ old) back))) ∙ joined

-- A line that was begun ends after these bytes.
pub end_ok_after : (taken back : List ℕ) (before mid after : Option (List ℕ)) (old : RunProgress) (left : List ℕ) (k : ℕ) (point : Point) → NoFeed back → Ran taken before mid old
    → LineDone old.point (strip_carriage_return (old.pending ++ back)) old.gathered left mid after k point
    → Ran (taken ++ ended_by_feed back) before after (record { point = point; pending = []; gathered = left; events = old.events + k; done = old.done + 1 })
end_ok_after taken back before mid after old left k point free ran done =
    subst (λ t. Ran t before after (record { point = point; pending = []; gathered = left; events = old.events + k; done = old.done + 1 })) (append_assoc taken back (10 ∷ []))
    (end_ok (taken ++ back) before mid after (longer old back) left k point (ran_more taken back before mid old ran free) done)

-- A run that stops at the line that a line feed ends stops there.
pub end_stops_after : (taken back : List ℕ) (before mid after : Option (List ℕ)) (old : RunProgress) (left : List ℕ) (f : RunFault) → NoFeed back → Ran taken before mid old
    → LineStops old.point.version (strip_carriage_return (old.pending ++ back)) (old.done + 1) old.gathered left mid after f
    → Halts (FaultIn (taken ++ ended_by_feed back) before) before after left f
end_stops_after taken back before mid after old left f free ran stops =
    subst (λ t. Halts (FaultIn t before) before after left f) (append_assoc taken back (10 ∷ []))
    (end_stops (taken ++ back) before mid after (longer old back) left f (ran_more taken back before mid old ran free) stops)

-- A fault is so however these bytes go on.
pub halts_longer : (taken front line more bytes : List ℕ) (before after : Option (List ℕ)) (gathered : List ℕ) (f : RunFault) → bytes ≡ front ++ (line ++ more)
    → Halts (FaultIn ((taken ++ front) ++ line) before) before after gathered f → Halts (FaultIn (taken ++ bytes) before) before after gathered f
halts_longer taken front line more bytes before after gathered f joined h =
    let whole : ((taken ++ front) ++ line) ++ more ≡ taken ++ bytes =
    append_assoc (taken ++ front) line more ∙ append_assoc taken front (line ++ more) ∙ ap (λ l. taken ++ l) (sym joined) in
    subst (λ t. Halts (FaultIn t before) before after gathered f) whole
    (halts_as (FaultIn ((taken ++ front) ++ line) before) (FaultIn (((taken ++ front) ++ line) ++ more) before) before after gathered f (fault_later ((taken ++ front) ++ line) more before) h)

-- A run stops where it keeps the rest of the bytes.
pub keep_stops : (rest bytes front : List ℕ) (first now : Option (List ℕ)) (begun old new : RunProgress) (r : Result ⊤ RunFault) → bytes ≡ front ++ rest
    → ((taken : List ℕ) (before : Option (List ℕ)) → Ran taken before first begun → Ran (taken ++ front) before now old)
    → IfErr r (λ f. (taken : List ℕ) (before after : Option (List ℕ)) → Ran taken before after old → Halts (FaultIn (taken ++ rest) before) before after new.gathered f)
    → IfErr r (λ f. (taken : List ℕ) (before : Option (List ℕ)) → Ran taken before first begun → Halts (FaultIn (taken ++ bytes) before) before now new.gathered f)
keep_stops rest bytes front first now begun old new (Ok x) joined ran h = tt
keep_stops rest bytes front first now begun old new (Err f) joined ran h = λ taken before begins.
    subst (λ t. Halts (FaultIn t before) before now new.gathered f) (append_assoc taken front rest ∙ ap (λ l. taken ++ l) (sym joined))
    (h (taken ++ front) before now (ran taken before begins))

-- ---- a line that is too long

-- A line that is too long is the fault of the run.
run_long : (taken text : List ℕ) (before last : Option (List ℕ)) (old : RunProgress) → Runs taken text old → may_fit old.pending ≡ false → Appends before last text
    → FaultIn taken before last (fault.Unreadable (old.done + 1))
run_long taken text before last old run over wrote = λ more.
    let (line, (others, (e, unread))) = long_first old.point.version old.pending more run.cut.open_end over in
    let first = map strip_carriage_return run.whole in
    let n = old.done + 1 - 1 in
    let one : n ≡ length run.whole = omega (arith, run.counted) in
    let sum : n ≡ length first = one ∙ sym (length-map run.whole strip_carriage_return) in
    record {
      bad = line;
      events = old.events;
      counted = omega arith;
      at = ap (λ l. slice_get l n) (front_lines taken run.whole old.pending more run.cut ∙ ap (λ l. first ++ l) e) ∙ ap (slice_get (first ++ line ∷ others)) sum ∙ slice_get_at first line others;
      unreadable = unread;
      all = record {
        text = text;
        point = old.point;
        runs = subst (λ ls. RunText first_point ls old.events text old.point) (sym (firsts taken run.whole old.pending more n run.cut one)) run.runs;
        wrote = wrote;
      };
    }

-- A run stops at a line that is too long.
pub ran_too_long : (taken : List ℕ) (before mid : Option (List ℕ)) (old : RunProgress) (f : RunFault) → TooLong old.done f → Ran taken before mid old → may_fit old.pending ≡ false
    → Halts (FaultIn taken before) before mid old.gathered f
ran_too_long taken before mid old (fault.Unreadable number) h ran over =
    waits (FaultIn taken before) before mid mid ran.written old.gathered old.gathered (fault.Unreadable number) ran.wrote (still old.gathered mid)
    (λ last a. subst (λ k. FaultIn taken before last (fault.Unreadable k)) (sym h) (run_long taken _ before last old ran.runs over a)) (λ last a. run_cut taken _ before last old ran.runs a)
ran_too_long taken before mid old fault.Read h ran over = absurd h
ran_too_long taken before mid old fault.Write h ran over = absurd h
ran_too_long taken before mid old fault.Memory h ran over = ran_stops taken before mid mid old old.gathered ran (still old.gathered mid)

-- ---- what is gathered is written

-- Once the gathered text is written, the run has come as far, and none is gathered.
pub ran_out : (taken : List ℕ) (before mid after : Option (List ℕ)) (old : RunProgress) → Ran taken before mid old → Appends mid after old.gathered
    → Ran taken before after (record { point = old.point; pending = old.pending; gathered = []; events = old.events; done = old.done })
ran_out taken before mid after old ran wrote = record {
  written = ran.written ++ old.gathered;
  runs = record { whole = ran.runs.whole; cut = ran.runs.cut; runs = rw (append-nil (ran.written ++ old.gathered)) ran.runs.runs; counted = ran.runs.counted };
  wrote = Appends-trans before mid after ran.written old.gathered ran.wrote wrote;
}

-- A run whose write fails has written a beginning of its text.
pub ran_part : (taken : List ℕ) (before mid after : Option (List ℕ)) (old : RunProgress) → Ran taken before mid old → AppendsFront mid after old.gathered → FaultIn taken before after fault.Write
ran_part taken before mid after old ran part = run_cut taken _ before after old ran.runs (Appends-front before mid after ran.written old.gathered ran.wrote part)

-- ---- the end of the input

-- A run with no bytes pending has run all.
pub finish_empty : (taken : List ℕ) (before mid : Option (List ℕ)) (old : RunProgress) → Ran taken before mid old → old.pending ≡ [] → RanAll taken before mid old
finish_empty taken before mid old ran none =
    let all : lines taken ≡ map strip_carriage_return ran.runs.whole = all_lines taken ran.runs.whole old.pending ran.runs.cut ∙ ap (λ r. map strip_carriage_return ran.runs.whole ++ lines r) none ∙ append-nil _ in
    record { written = ran.written; runs = rw all ran.runs.runs; wrote = ran.wrote }

-- Pending bytes are the last line of the script.
finish_lines : (taken text : List ℕ) (old : RunProgress) → (run : Runs taken text old) → 0 < length old.pending
    → lines taken ≡ map strip_carriage_return run.whole ++ old.pending ∷ []
finish_lines taken text old run some =
    all_lines taken run.whole old.pending run.cut ∙ ap (λ l. map strip_carriage_return run.whole ++ l) (last_line old.pending run.cut.open_end some)

-- A run that does its pending bytes has run all.
pub finish_ok : (taken : List ℕ) (before mid after : Option (List ℕ)) (old : RunProgress) (left : List ℕ) (k n : ℕ) (point : Point) → Ran taken before mid old → 0 < length old.pending
    → LineDone old.point old.pending old.gathered left mid after k point
    → RanAll taken before after (record { point = point; pending = old.pending; gathered = left; events = old.events + k; done = n })
finish_ok taken before mid after old left k n point ran some done =
    let front = done.moves.front in
    let text : (ran.written ++ front) ++ left ≡ (ran.written ++ old.gathered) ++ done.text =
    ap (λ l. (ran.written ++ front) ++ l) done.behind ∙ sym (append_assoc (ran.written ++ front) done.kept done.text)
    ∙ ap (λ l. l ++ done.text) (moved ran.written old.gathered done.kept mid after done.moves) in
    record {
      written = ran.written ++ front;
      runs = rw (finish_lines taken _ old ran.runs some, text) (RunText-more _ _ _ _ _ _ _ _ _ ran.runs.runs done.does);
      wrote = Appends-trans before mid after ran.written front ran.wrote done.moves.wrote;
    }

-- The input ends here.
here : (taken : List ℕ) (before last : Option (List ℕ)) (f : RunFault) → FaultIn taken before last f → FaultAt taken before last f
here taken before last f h = subst (λ t. FaultAt t before last f) (append-nil taken) (h [])

-- A last line that cannot be read is the fault of the run.
finish_bad : (taken text : List ℕ) (before last : Option (List ℕ)) (old : RunProgress) → Runs taken text old → 0 < length old.pending
    → read_in old.point.version old.pending ≡ None → Appends before last text → FaultAt taken before last (fault.Unreadable (old.done + 1))
finish_bad taken text before last old run some unread wrote =
    let first = map strip_carriage_return run.whole in
    let n = old.done + 1 - 1 in
    let one : n ≡ length run.whole = omega (arith, run.counted) in
    let sum : n ≡ length first = one ∙ sym (length-map run.whole strip_carriage_return) in
    let all = finish_lines taken text old run some in
    record {
      bad = old.pending;
      events = old.events;
      counted = omega arith;
      at = ap (λ l. slice_get l n) all ∙ ap (slice_get (first ++ old.pending ∷ [])) sum ∙ slice_get_at first old.pending [];
      unreadable = unread;
      all = record {
        text = text;
        point = old.point;
        runs = subst (λ ls. RunText first_point ls old.events text old.point) (sym (ap (take n) all ∙ take_at first (old.pending ∷ []) n (sym sum))) run.runs;
        wrote = wrote;
      };
    }

-- Memory was refused before the last line.
pub finish_refused : (taken : List ℕ) (before mid after : Option (List ℕ)) (old : RunProgress) (left : List ℕ) → Ran taken before mid old → WritesFront old.gathered left mid after
    → Halts (FaultAt taken before) before after left fault.Memory
finish_refused taken before mid after old left ran m =
    halts_as (FaultIn taken before) (FaultAt taken before) before after left fault.Memory (here taken before) (ran_stops taken before mid after old left ran m)

-- A run that is out of memory at its end stops there.
pub finish_still : (taken : List ℕ) (before mid : Option (List ℕ)) (old : RunProgress) → Ran taken before mid old → Halts (FaultAt taken before) before mid old.gathered fault.Memory
finish_still taken before mid old ran = finish_refused taken before mid mid old old.gathered ran (still old.gathered mid)

-- The last line was not done.
pub finish_stops : (taken : List ℕ) (before mid after : Option (List ℕ)) (old : RunProgress) (left : List ℕ) (f : RunFault) → Ran taken before mid old → 0 < length old.pending
    → LineStops old.point.version old.pending (old.done + 1) old.gathered left mid after f → Halts (FaultAt taken before) before after left f
finish_stops taken before mid after old left (fault.Unreadable n) ran some (number, bad, m) = waits (FaultAt taken before) before mid after ran.written old.gathered left (fault.Unreadable n) ran.wrote m
    (λ last a. subst (λ k. FaultAt taken before last (fault.Unreadable k)) (sym number) (finish_bad taken _ before last old ran.runs some bad a))
    (λ last a. here taken before last fault.Write (run_cut taken _ before last old ran.runs a))
finish_stops taken before mid after old left fault.Read ran some stops = absurd stops
finish_stops taken before mid after old left fault.Write ran some part =
    here taken before after fault.Write (run_cut taken _ before after old ran.runs (Appends-front before mid after ran.written old.gathered ran.wrote part))
finish_stops taken before mid after old left fault.Memory ran some m = finish_refused taken before mid after old left ran m

-- All lines were run, and all their text is written.
pub all_out : (taken : List ℕ) (before mid after : Option (List ℕ)) (old : RunProgress) → RanAll taken before mid old → Appends mid after old.gathered → Wrote (lines taken) old.events before after
all_out taken before mid after old ran wrote = record {
  text = ran.written ++ old.gathered;
  point = old.point;
  runs = ran.runs;
  wrote = Appends-trans before mid after ran.written old.gathered ran.wrote wrote;
}

-- Or a beginning of it.
pub all_part : (taken : List ℕ) (before mid after : Option (List ℕ)) (old : RunProgress) → RanAll taken before mid old → AppendsFront mid after old.gathered → FaultAt taken before after fault.Write
all_part taken before mid after old ran part =
    let all : take (length (lines taken)) (lines taken) ≡ lines taken = take_all (length (lines taken)) (lines taken) (omega arith) in
    record {
      count = length (lines taken);
      beginning = record {
        events = old.events;
        text = ran.written ++ old.gathered;
        point = old.point;
        runs = subst (λ ls. RunText first_point ls old.events (ran.written ++ old.gathered) old.point) (sym all) ran.runs;
        wrote = Appends-front before mid after ran.written old.gathered ran.wrote part;
      };
    }

-- ---- what the reader tells

-- The bytes that were read begin the input.
pub told_input : (told left : Option (List ℕ)) (taken : List ℕ) → Consumes told left taken → (more : List ℕ) × HasInput told (taken ++ more)
told_input None left taken p = ([], tt)
told_input (Some xs) None taken p = absurd p
told_input (Some xs) (Some ys) taken p = (ys, p)

-- The bytes that were read to the end are the whole input.
pub told_all : (told left : Option (List ℕ)) (taken : List ℕ) → Consumes told left taken → IsAtEnd left → HasInput told taken
told_all None left taken p q = tt
told_all (Some xs) None taken p q = absurd p
told_all (Some xs) (Some ys) taken p q = p ∙ ap (λ l. taken ++ l) q ∙ append-nil taken

-- ---- why a run stops

-- Each reader tells some input.
pub told_any : (told : Option (List ℕ)) → (input : List ℕ) × HasInput told input
told_any None = ([], tt)
told_any (Some xs) = (xs, refl)

-- No line was run.
pub nothing_ran : (input : List ℕ) (before : Option (List ℕ)) → RanFirst input before before
nothing_ran input before = record {
  count = 0;
  events = 0;
  all = record { text = []; point = first_point; runs = (refl, refl, refl); wrote = Appends-nil before };
}

-- A fault in what was read is one of the script.
pub stops_in : (told left before after : Option (List ℕ)) (bytes : List ℕ) (f : RunFault) → is_read_fault {A = ℕ} (Err f) ≡ false → Consumes told left bytes
    → FaultIn bytes before after f → StopsBy told left before after f
stops_in told left before after bytes (fault.Unreadable number) unread p h = let (more, t) = told_input told left bytes p in (bytes ++ more, t, h more)
stops_in told left before after bytes fault.Read unread p h = absurd (h [])
stops_in told left before after bytes fault.Write unread p h = let (more, t) = told_input told left bytes p in (bytes ++ more, t, h more)
stops_in told left before after bytes fault.Memory unread p h = let (more, t) = told_input told left bytes p in (bytes ++ more, t, h more)

-- A fault at the end of the script is one of the script.
stops_at : (told left before after : Option (List ℕ)) (bytes : List ℕ) (f : RunFault) → HasInput told bytes → FaultAt bytes before after f → StopsBy told left before after f
stops_at told left before after bytes (fault.Unreadable number) t h = (bytes, t, h)
stops_at told left before after bytes fault.Read t h = absurd h
stops_at told left before after bytes fault.Write t h = (bytes, t, h)
stops_at told left before after bytes fault.Memory t h = (bytes, t, h)

-- A fault of a run whose reader is at its end is one of the script.
pub stops_at_end : (told left before mid after : Option (List ℕ)) (bytes : List ℕ) (old : RunProgress) (r : Result ℕ RunFault) → Consumes told left bytes → IsAtEnd left → Ran bytes before mid old
    → IfErr r (λ f. (taken : List ℕ) (first : Option (List ℕ)) → Ran taken first mid old → FaultAt taken first after f) → IfErr r (StopsBy told left before after)
stops_at_end told left before mid after bytes old (Ok n) p q ran h = tt
stops_at_end told left before mid after bytes old (Err f) p q ran h = stops_at told left before after bytes f (told_all told left bytes p q) (h bytes before ran)

-- All text is written where none is gathered.
written_all : (taken : List ℕ) (before mid : Option (List ℕ)) (old : RunProgress) → Ran taken before mid old → old.gathered ≡ [] → (text : List ℕ) × Runs taken text old × Appends before mid text
written_all taken before mid old ran none =
    let same : ran.written ++ old.gathered ≡ ran.written = ap (λ g. ran.written ++ g) none ∙ append-nil ran.written in
    (ran.written, subst (λ t. Runs taken t old) same ran.runs, ran.wrote)

-- The run was too long.
pub stops_late : (told left before mid : Option (List ℕ)) (bytes : List ℕ) (old : RunProgress) → Consumes told left bytes → Ran bytes before mid old → old.gathered ≡ []
    → (input : List ℕ) × (HasInput told input × RanFirst input before mid)
stops_late told left before mid bytes old p ran none =
    let (more, t) = told_input told left bytes p in
    let (text, run, wrote) = written_all bytes before mid old ran none in
    (bytes ++ more, (t, run_some bytes text before mid old run wrote more))

-- Reading failed: the lines whose end was read were run.
pub stops_as_read : (told left before after : Option (List ℕ)) (taken : List ℕ) (state : RunProgress) → Consumes told left taken → Ran taken before after state → state.gathered ≡ [] → RanAsRead told left before after
stops_as_read told left before after taken state consumed ran none =
    let (text, run, wrote) = written_all taken before after state ran none in
    record {
      taken = taken;
      whole = run.whole;
      rest = state.pending;
      events = state.events;
      consumed = consumed;
      cut = run.cut;
      all = record { text = text; point = state.point; runs = run.runs; wrote = wrote };
    }

-- A read of no bytes takes none, and is the end of the input.
pub ended : (told mid left : Option (List ℕ)) (bytes buffer : List ℕ) (n : ℕ) → Consumes told mid bytes → Consumes mid left (take n buffer) → (n ≡ 0 → 0 < length buffer → IsAtEnd left)
    → n ≡ 0 → 0 < length buffer → Consumes told left bytes × IsAtEnd left
ended told mid left bytes buffer n consumed more at_end none room =
    (subst (Consumes told left) (append-nil bytes) (Consumes-trans told mid left bytes [] consumed (subst (λ (k : ℕ). Consumes mid left (take k buffer)) none more)), at_end none room)

-- A reader that keeps its bytes has given none.
pub keeps_none_taken : (old new : Option (List ℕ)) → Keeps old new → Consumes old new []
keeps_none_taken None new k = k
keeps_none_taken (Some xs) None k = k
keeps_none_taken (Some xs) (Some ys) k = sym k

-- The input ended, and what was left of it was run: all of it was.
pub done_at_end : (told left before mid after : Option (List ℕ)) (bytes : List ℕ) (old : RunProgress) (r : Result ℕ RunFault) → Consumes told left bytes → IsAtEnd left → Ran bytes before mid old
    → IfOk r (λ n. (taken : List ℕ) (first : Option (List ℕ)) → Ran taken first mid old → Wrote (lines taken) n first after) → IfOk r (RanToEnd told left before after)
done_at_end told left before mid after bytes old (Ok n) p q ran h = record { input = bytes; tells = told_all told left bytes p q; ended = q; all = h bytes before ran }
done_at_end told left before mid after bytes old (Err f) p q ran h = tt
