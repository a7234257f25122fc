-- The parts of a long race, from its start to its end.
use Rattle.std.proofs.Common.{◌≡◌, ◌<◌, ◌≤◌, ◌+◌, ◌-◌, ◌*◌, ◌++◌, ℕ, zero, suc, List, [], ◌∷◌, ap, append-nil, arith, drop, inl, inr, length, length-append, map, min, refl, sym, ◌∙◌, subst, slice_index_or, take}
use Rattle.std.proofs.lemmas.Bool.{cases_eq}
use Rattle.std.proofs.lemmas.List.{get_or_append_left, get_or_push, length-drop, length-map, length-take, map-append, take_all}
use Rattle.std.proofs.Math.Seq.{drop-length, drop-nil, take-append_seam, take-nil}
use Rattle.std.specs.Prelude.{Option, Some, slice_get}
use Rattle.af_base.specs.declared.events.Event.{Event}
use Rattle.af_base.specs.Pass.{Machine}
use Rattle.af_base.specs.Run.{fresh}
use Rattle.af_layer.specs.Audit.{IsWholeBook, list_at, nobody, number_at}
use Rattle.af_layer.specs.Drive.{Collects, Driven, Made, Script, Turned, Work, events_of}
use Rattle.af_layer.specs.Log.{BookView, Entry, IsLegal, IsLegalFrom, Pair, of_seat}
use Rattle.af_layer.specs.Seats.{SeatView}
use Rattle.af_layer.proofs.JoinedLogs.{legal-append, part-append}
use Rattle.scmgc.specs.Race.Scripts.{script_of}
use Rattle.scmgc.specs.Race.Parts.{AreFresh, AreLeft, AreNext, AreParts, ChildrenExitInPart, Continues, IsOfEnd, IsOfPart, IsOfStart, IsPart, LogHas, NextPart, RacedInParts, SeatsHave, Start, share_of, taken, with_log}
use Rattle.scmgc.specs.Race.{EndsInPass, all_exits_of, exits_in, scripts_of, spawned, worker_steps}
use Rattle.scmgc.proofs.race.SeatEntries.{all-steps, counted}
use Rattle.scmgc.proofs.race.RaceCloses.{all_new, exits-by-log, part-at}
use Rattle.scmgc.proofs.race.ScriptLength.{script-count}
use Rattle.scmgc.proofs.race.Works.{collector-work, script-at, script-work, scripts-count}

-- A list that was lent and has its length comes back as it is.
pub lent-back : {A : Type 0} → (n : ℕ) (old new : List A) → n ≡ length old → length new ≡ length old → take n (new ++ drop (length new) old) ≡ new
lent-back n old new all same =
    ap (λ l. take n (new ++ l)) (ap (λ k. drop k old) same ∙ drop-length old) ∙ ap (take n) (append-nil new) ∙ take_all n new (omega (arith, all, same))

-- The seats of a layer that was just opened are fresh.
pub open-fresh : (n : ℕ) (seats : List SeatView) → length seats ≡ n → ((i : ℕ) (other : SeatView) → i < n → slice_index_or seats i other ≡ record { number = i + 1; list = [] }) → AreFresh n seats
open-fresh n seats count each = record {
  count = count;
  numbers = λ i lt. ap (λ s. s.number) (each i nobody lt);
  lists = λ i lt. ap (λ s. s.list) (each i nobody lt);
}

-- n + 1 seats and one more.
two-more : (n : ℕ) → n + 1 + 1 ≡ n + 2
two-more n = omega arith

-- An audit's facts on the seats hold of their parts of the log.
pub log-has : (n : ℕ) (P : ℕ → List Pair → Type 0) (b : BookView) (seats : List SeatView) → SeatsHave n P seats → IsWholeBook b seats → LogHas n P b.log
log-has n P b seats had whole i lt =
    subst (P i) (part-at b seats whole i (omega (arith, lt, had.count)) ∙ ap (λ k. of_seat k b.log) (had.numbers i lt)) (had.lists i lt)

-- So a log has them of the seat of a number.
pub log-at : (n : ℕ) (P : ℕ → List Pair → Type 0) (log : List Entry) → LogHas n P log → (k : ℕ) → 1 ≤ k → k ≤ n → P (k - 1) (of_seat k log)
log-at n P log has k low high = let next : k - 1 + 1 ≡ k = omega (arith, low) in subst (λ m. P (k - 1) (of_seat m log)) next (has (k - 1) (omega (arith, low, high)))

-- A fact on the children's exits and the main thread's list holds by the log.
pub exits-logged : (n : ℕ) (E : List Event → List Pair → Type 0) (P : ℕ → List Pair → Type 0) (b : BookView) (seats : List SeatView) → SeatsHave (n + 2) P seats → IsWholeBook b seats → E (all_exits_of (take (n + 1) seats)) (list_at seats (n + 1)) → E (exits_in (n + 1) b.log) (of_seat (n + 2) b.log)
exits-logged n E P b seats had whole ended =
    let here : LogHas (n + 2) (λ i list. list ≡ list_at seats i) b.log = log-has (n + 2) (λ i list. list ≡ list_at seats i) b seats (record { count = had.count; numbers = had.numbers; lists = λ i lt. refl }) whole in
    let main : list_at seats (n + 1) ≡ of_seat (n + 2) b.log = sym (subst (λ k. of_seat k b.log ≡ list_at seats (n + 1)) (two-more n) (here (n + 1) (omega arith))) in
    let exits = exits-by-log b.log seats (n + 1) (omega (arith, had.count)) (λ i lt. here i (omega (arith, lt))) in
    subst (E (exits_in (n + 1) b.log)) main (subst (λ e. E e (list_at seats (n + 1))) exits ended)

-- So a part that was audited is one of the race.
pub is-part : (begins : ℕ → Machine → Type 0) (n : ℕ) (P : ℕ → List Pair → Type 0) (b : BookView) (seats : List SeatView) → SeatsHave n P seats → begins b.seats b.start → IsLegalFrom b.start b.seats b.machine b.log → IsWholeBook b seats → IsPart begins n P b
is-part begins n P b seats had origin legal whole = record { origin = origin; legal = legal; lists = log-has n P b seats had whole }

-- The last of n + 1 seats, and those before it.
pub seats-pop : (n : ℕ) (P : ℕ → List Pair → Type 0) (all seats : List SeatView) (last : SeatView) → all ≡ seats ++ last ∷ [] → SeatsHave (n + 1) P all → SeatsHave n P seats × (last.number ≡ n + 1) × P n last.list
seats-pop n P all seats last split had = (
  record {
    count = few;
    numbers = λ i lt. sym (ap (λ s. s.number) (before i lt)) ∙ had.numbers i (omega (arith, lt));
    lists = λ i lt. subst (P i) (ap (λ s. s.list) (before i lt)) (had.lists i (omega (arith, lt)));
  },
  sym (ap (λ s. s.number) behind) ∙ had.numbers n (omega arith),
  subst (P n) (ap (λ s. s.list) behind) (had.lists n (omega arith)),
) where
  few : length seats ≡ n
  few = let parts = length-append seats (last ∷ []) in let all_count = sym (ap length split) ∙ had.count in omega (arith, parts, all_count)

  before : (i : ℕ) → i < n → slice_index_or all i nobody ≡ slice_index_or seats i nobody
  before i lt = ap (λ l. slice_index_or l i nobody) split ∙ get_or_append_left seats (last ∷ []) nobody i (omega (arith, lt, few))

  behind : slice_index_or all n nobody ≡ last
  behind = ap (λ l. slice_index_or l n nobody) split ∙ get_or_push seats last nobody n few

-- Behind n seats a last one.
pub seats-push : (n : ℕ) (P : ℕ → List Pair → Type 0) (all seats : List SeatView) (last : SeatView) → all ≡ seats ++ last ∷ [] → SeatsHave n P seats → last.number ≡ n + 1 → P n last.list → SeatsHave (n + 1) P all
seats-push n P all seats last joined had number list = record {
  count = let parts = ap length joined ∙ length-append seats (last ∷ []) in omega (arith, parts, had.count);
  numbers = λ i lt. elim (cases_eq i n) [
    | inl e ↦ ap (λ k. number_at all k) e ∙ ap (λ s. s.number) behind ∙ number ∙ ap (λ k. k + 1) (sym e)
    | inr e ↦ ap (λ s. s.number) (before i (omega (arith, lt, e))) ∙ had.numbers i (omega (arith, lt, e))
  ];
  lists = λ i lt. elim (cases_eq i n) [
    | inl e ↦ subst (λ k. P k (list_at all k)) (sym e) (subst (P n) (sym (ap (λ s. s.list) behind)) list)
    | inr e ↦ subst (P i) (sym (ap (λ s. s.list) (before i (omega (arith, lt, e))))) (had.lists i (omega (arith, lt, e)))
  ];
} where
  before : (i : ℕ) → i < n → slice_index_or all i nobody ≡ slice_index_or seats i nobody
  before i lt = ap (λ l. slice_index_or l i nobody) joined ∙ get_or_append_left seats (last ∷ []) nobody i (omega (arith, lt, had.count))

  behind : slice_index_or all n nobody ≡ last
  behind = ap (λ l. slice_index_or l n nobody) joined ∙ get_or_push seats last nobody n had.count

-- A fact on the seats' lists gives each fact that follows from it.
seats-weaker : (n : ℕ) (P Q : ℕ → List Pair → Type 0) (seats : List SeatView) → ((i : ℕ) → i < n → (list : List Pair) → P i list → Q i list) → SeatsHave n P seats → SeatsHave n Q seats
seats-weaker n P Q seats follows had = record { count = had.count; numbers = had.numbers; lists = λ i lt. follows i lt (list_at seats i) (had.lists i lt) }

-- The seats as they were, with the last one apart.
module _ (n : ℕ) (all opened : List SeatView) (first : SeatView) (fresh : AreFresh (n + 2) all) (split : all ≡ opened ++ first ∷ []) where
  -- The last one, and those before it.
  apart : AreFresh (n + 1) opened × (first.number ≡ n + 1 + 1) × (first.list ≡ [])
  apart = seats-pop (n + 1) (λ i list. list ≡ []) all opened first split (subst (λ k. AreFresh k all) (sym (two-more n)) fresh)

  -- The lists of the seats once the last one is back.
  together : (P : ℕ → List Pair → Type 0) (after others : List SeatView) (last : SeatView) → after ≡ others ++ last ∷ [] → SeatsHave (n + 1) P others → last.number ≡ first.number → P (n + 1) last.list → SeatsHave (n + 2) P after
  together P after others last joined had number list = subst (λ k. SeatsHave k P after) (two-more n) (seats-push (n + 1) P after others last joined had (number ∙ apart.1) list)

  -- The processes were started from the last one.
  pub seats-started : (after : List SeatView) (last : SeatView) → after ≡ opened ++ last ∷ [] → last.number ≡ first.number → last.list ≡ first.list ++ spawned n → SeatsHave (n + 2) (IsOfStart n) after
  seats-started after last joined number list =
      together (IsOfStart n) after opened last joined
      (seats-weaker (n + 1) (λ i l. l ≡ []) (IsOfStart n) opened (λ i lt l none. ((λ le. none), (λ e. absurd (omega (arith, lt, e))))) apart.0)
      number ((λ le. absurd (omega (arith, le))), (λ e. list ∙ ap (λ l. l ++ spawned n) apart.2))

  -- A last pass was made from the last one.
  pub seats-ended : (after : List SeatView) (last : SeatView) → after ≡ opened ++ last ∷ [] → last.number ≡ first.number → EndsInPass first.list last.list → SeatsHave (n + 2) (IsOfEnd n) after
  seats-ended after last joined number ends =
      together (IsOfEnd n) after opened last joined
      (seats-weaker (n + 1) (λ i l. l ≡ []) (IsOfEnd n) opened (λ i lt l none. ((λ le. none), (λ e. absurd (omega (arith, lt, e))))) apart.0)
      number ((λ le. absurd (omega (arith, le))), (λ e. subst (λ l. EndsInPass l last.list) apart.2 ends))

  -- The workers did their steps, and the collector its turns.
  pub seats-played : (steps : List (List Event)) (turns budget : ℕ) → length steps ≡ n → (driven after : List SeatView) (last : SeatView) → Driven Made opened (map Script steps ++ Collects turns budget ∷ []) driven → after ≡ driven ++ last ∷ [] → last.number ≡ first.number → SeatsHave (n + 2) (IsOfPart steps turns budget) after
  seats-played steps turns budget count driven after last drove joined number =
      together (IsOfPart steps turns budget) after driven last joined (record {
        count = drove.count ∙ apart.0.count;
        numbers = λ i lt. drove.numbers i (here i lt) ∙ apart.0.numbers i lt;
        lists = λ i lt. (
          (λ low. all_new (slice_index_or steps i []) (list_at driven i) (made i (Script (slice_index_or steps i [])) lt (script-work steps turns budget i low))),
          (λ e. made i (Collects turns budget) lt (ap (slice_get works) e ∙ collector-work steps turns budget)),
        );
      }) number ((λ low. absurd (omega (arith, low, count))), (λ e. absurd (omega (arith, e, count)))) where
        works : List Work
        works = map Script steps ++ Collects turns budget ∷ []

        here : (i : ℕ) → i < n + 1 → i < length opened
        here i lt = omega (arith, lt, apart.0.count)

        made : (i : ℕ) (work : Work) → i < n + 1 → slice_get works i ≡ Some work → Made (Some work) [] (list_at driven i)
        made i work lt is =
            subst (λ (w : Option Work). Made w [] (list_at driven i)) is
            (subst (λ (old : List Pair). Made (slice_get works i) old (list_at driven i)) (apart.0.lists i lt) (drove.lists i (here i lt)))

  -- The last one began with an empty list.
  pub last-began : first.list ≡ []
  last-began = apart.2

  -- A fact on the exits of the driven seats' children and the last one's list.
  pub seats-exited : (E : List Event → List Pair → Type 0) (driven after : List SeatView) (last : SeatView) → length driven ≡ length opened → after ≡ driven ++ last ∷ [] → E (all_exits_of driven) last.list → E (all_exits_of (take (n + 1) after)) (list_at after (n + 1))
  seats-exited E driven after last count joined ended =
      let few : n + 1 ≡ length driven = sym (count ∙ apart.0.count) in
      let front : take (n + 1) after ≡ driven = ap (take (n + 1)) joined ∙ ap (λ k. take k (driven ++ last ∷ [])) few ∙ take-append_seam driven (last ∷ []) in
      let behind : list_at after (n + 1) ≡ last.list = ap (λ l. list_at l (n + 1)) joined ∙ ap (λ s. s.list) (get_or_push driven last nobody (n + 1) (sym few)) in
      subst (λ seats. E (all_exits_of seats) (list_at after (n + 1))) (sym front) (subst (E (all_exits_of driven)) (sym behind) ended)

-- The first elements of a list, and then more of them.
take-add : {A : Type 0} → (n m : ℕ) (xs : List A) → take (n + m) xs ≡ take n xs ++ take m (drop n xs)
take-add zero m xs = let none : 0 + m ≡ m = omega arith in ap (λ k. take k xs) none
take-add (suc n) m [] = let more : suc n + m ≡ suc (n + m) = omega arith in ap (λ k. take k []) more ∙ sym (take-nil m)
take-add (suc n) m (x ∷ xs) = let more : suc n + m ≡ suc (n + m) = omega arith in ap (λ k. take k (x ∷ xs)) more ∙ ap (λ l. x ∷ l) (take-add n m xs)

-- The rest behind some first elements, and behind more of them.
drop-add : {A : Type 0} → (n m : ℕ) (xs : List A) → drop (n + m) xs ≡ drop m (drop n xs)
drop-add zero m xs = let none : 0 + m ≡ m = omega arith in ap (λ k. drop k xs) none
drop-add (suc n) m [] = let more : suc n + m ≡ suc (n + m) = omega arith in ap (λ k. drop k []) more ∙ sym (drop-nil m)
drop-add (suc n) m (x ∷ xs) = let more : suc n + m ≡ suc (n + m) = omega arith in ap (λ k. drop k (x ∷ xs)) more ∙ drop-add n m xs

-- Before any step the whole scripts are left.
pub left-all : (workers steps seed : ℕ) (sources : List (List Event)) → sources ≡ scripts_of workers workers steps seed → AreLeft workers steps seed 0 sources
left-all workers steps seed sources is = record {
  count = ap length is ∙ scripts-count workers workers steps seed;
  each = λ i lt. ap (λ l. slice_index_or l i []) is ∙ script-at workers workers steps seed i lt;
}

-- After more steps less is left.
pub left-less : (workers steps seed done n : ℕ) (old parts new : List (List Event)) → AreLeft workers steps seed done old → AreNext n old parts new → AreLeft workers steps seed (done + n) new
left-less workers steps seed done n old parts new left next = record {
  count = next.left_count ∙ left.count;
  each = λ i lt.
      next.left i (omega (arith, lt, left.count)) ∙ ap (drop n) (left.each i lt) ∙ sym (drop-add done n (script_of (i + 1) workers steps seed));
}

-- In a part each worker did its next steps.
part-script : (workers steps seed budget done n : ℕ) (log : List Entry) (sources parts new : List (List Event)) → AreLeft workers steps seed done sources → AreNext n sources parts new → LogHas (workers + 2) (IsOfPart parts n budget) log → (k : ℕ) → 1 ≤ k → k ≤ workers → events_of (of_seat k log) ≡ take n (drop done (script_of k workers steps seed))
part-script workers steps seed budget done n log sources parts new left next has k low high =
    let i = k - 1 in
    let place : i + 1 ≡ k = omega (arith, low) in
    let lt : i < workers = omega (arith, low, high) in
    (log-at (workers + 2) (IsOfPart parts n budget) log has k low (omega (arith, high))).0 (omega (arith, lt, next.made_count, left.count))
    ∙ next.made i (omega (arith, lt, left.count))
    ∙ ap (take n) (left.each i lt ∙ ap (λ m. drop done (script_of m workers steps seed)) place)

-- The book of a part: its log is legal from the machine where the last part ended, to that where
-- this one does.
module _ (workers steps seed budget checkpoint : ℕ) (b book : BookView) (is : book ≡ taken b) (legal : IsLegalFrom b.start b.seats b.machine b.log) where
  -- The first part: the processes were started.
  pub goes-first : b.start ≡ fresh → LogHas (workers + 2) (IsOfStart workers) b.log → Continues workers steps seed budget checkpoint 0 book
  goes-first begins has = subst (Continues workers steps seed budget checkpoint 0) (sym is) (record {
    here = refl;
    log = b.log;
    legal = subst (λ m. IsLegalFrom m b.seats b.machine b.log) begins legal;
    scripts = λ k low high. ap events_of ((log-at (workers + 2) (IsOfStart workers) b.log has k low (omega (arith, high))).0 (omega (arith, low, high)));
    parts = Start b.log has;
  })

  -- The parts that were done before.
  module _ (old : BookView) (done : ℕ) (went : Continues workers steps seed budget checkpoint done old) (seats : b.seats ≡ old.seats) (begins : b.start ≡ old.machine) where
    -- All logs so far.
    whole : List Entry
    whole = went.log ++ b.log

    -- They are one legal log.
    whole-legal : IsLegal b.seats b.machine whole
    unfolding whole
    whole-legal =
        legal-append fresh old.machine b.machine b.seats went.log b.log
        (subst (λ n. IsLegalFrom fresh n old.machine went.log) (sym seats) went.legal) (subst (λ m. IsLegalFrom m b.seats b.machine b.log) begins legal)

    -- They are the logs before and this one.
    whole-is : went.log ++ b.log ≡ whole
    unfolding whole
    whole-is = refl

    -- A seat's part of them.
    whole-part : (k : ℕ) → of_seat k whole ≡ of_seat k went.log ++ of_seat k b.log
    unfolding whole
    whole-part k = part-append k went.log b.log

    -- A part more, in which each worker did its next steps.
    pub goes-next : (n : ℕ) (sources parts new : List (List Event)) → AreLeft workers steps seed done sources → AreNext n sources parts new → LogHas (workers + 2) (IsOfPart parts n budget) b.log → n ≡ share_of workers checkpoint (steps - done) → ((k : ℕ) → 1 ≤ k → k ≤ workers → length (of_seat k b.log) ≡ n) → ChildrenExitInPart workers b.log → Continues workers steps seed budget checkpoint (done + n) book
    goes-next n sources parts new left next has share each exits = subst (Continues workers steps seed budget checkpoint (done + n)) (sym is) (record {
      here = refl;
      log = whole;
      legal = whole-legal;
      scripts = did;
      parts = subst (AreParts workers steps budget checkpoint (done + n)) whole-is (NextPart done n went.log b.log went.parts share each turned exits);
    }) where
      turned : Turned budget [] n (of_seat (workers + 1) b.log)
      turned = (has workers (omega arith)).1 (sym (next.made_count ∙ left.count))

      did : (k : ℕ) → 1 ≤ k → k ≤ workers → events_of (of_seat k whole) ≡ take (done + n) (script_of k workers steps seed)
      did k low high =
          ap events_of (whole-part k)
          ∙ map-append (λ p. p.0) (of_seat k went.log) (of_seat k b.log)
          ∙ ap (λ l. l ++ events_of (of_seat k b.log)) (went.scripts k low high)
          ∙ ap (λ l. take done (script_of k workers steps seed) ++ l) (part-script workers steps seed budget done n b.log sources parts new left next has k low high)
          ∙ sym (take-add done n (script_of k workers steps seed))

    -- The last part, when all steps were done: the race has ended well.
    pub goes-last : done ≡ steps → 5 ≤ steps → LogHas (workers + 2) (IsOfEnd workers) b.log → (log : List Entry) × RacedInParts workers steps seed budget checkpoint (with_log book log)
    goes-last all some has = (
      whole,
      subst (λ v. RacedInParts workers steps seed budget checkpoint (with_log v whole)) (sym is) (record {
        did = record { legal = whole-legal; scripts = did };
        parts = (went.log, b.log, sym whole-is, subst (λ n. AreParts workers steps budget checkpoint n went.log) all went.parts, has);
      }),
    ) where
      did : (k : ℕ) → 1 ≤ k → k ≤ workers → events_of (of_seat k whole) ≡ script_of k workers steps seed
      did k low high =
          let script = script_of k workers steps seed in
          let none = (log-at (workers + 2) (IsOfEnd workers) b.log has k low (omega (arith, high))).0 (omega (arith, low, high)) in
          let count = script-count k workers steps seed some in
          ap events_of (whole-part k ∙ ap (λ l. of_seat k went.log ++ l) none ∙ append-nil (of_seat k went.log)) ∙ went.scripts k low high
          ∙ ap (λ n. take n script) all ∙ take_all steps script (omega (arith, count))

-- So it did this many steps.
part-steps : (workers steps seed budget done n : ℕ) (log : List Entry) (sources parts new : List (List Event)) → 5 ≤ steps → done + n ≤ steps → AreLeft workers steps seed done sources → AreNext n sources parts new
    → LogHas (workers + 2) (IsOfPart parts n budget) log → (k : ℕ) → 1 ≤ k → k ≤ workers → length (of_seat k log) ≡ n
part-steps workers steps seed budget done n log sources parts new some fits left next has k low high =
    let script = script_of k workers steps seed in
    let did = part-script workers steps seed budget done n log sources parts new left next has k low high in
    let rest = length-drop done script in
    let all = script-count k workers steps seed some in
    let few : min n (length (drop done script)) ≡ n = omega (arith, rest, all, fits) in
    sym (length-map (of_seat k log) (λ p. p.0)) ∙ ap length did ∙ length-take n (drop done script) ∙ few

-- One more part of the race: less is left, and each worker did this many steps.
pub next-part : (workers steps seed budget checkpoint done n : ℕ) (old b book : BookView) (sources parts new : List (List Event)) (counted_steps : ℕ) → 5 ≤ steps → done + n ≤ steps → n ≡ share_of workers checkpoint (steps - done) → Continues workers steps seed budget checkpoint done old → AreLeft workers steps seed done sources → AreNext n sources parts new
    → IsPart (λ seats machine. (seats ≡ old.seats) × (machine ≡ old.start)) (length parts + 2) (IsOfPart parts n budget) b → ChildrenExitInPart (length parts) b.log → book ≡ taken b → counted_steps ≡ worker_steps (length parts) b.log
    → Continues workers steps seed budget checkpoint (done + n) book × AreLeft workers steps seed (done + n) new × (counted_steps ≡ workers * n)
next-part workers steps seed budget checkpoint done n old b book sources parts new counted_steps some fits share went left next part exits is counts =
    let few = next.made_count ∙ left.count in
    let lists : LogHas (workers + 2) (IsOfPart parts n budget) b.log = subst (λ m. LogHas (m + 2) (IsOfPart parts n budget) b.log) few part.lists in
    let each = part-steps workers steps seed budget done n b.log sources parts new some fits left next lists in (
      goes-next workers steps seed budget checkpoint b book is part.legal old done went part.origin.0 (part.origin.1 ∙ went.here) n sources parts new left next lists share each
          (subst (λ m. ChildrenExitInPart m b.log) few exits),
      left-less workers steps seed done n sources parts new left next,
      counts ∙ ap (λ m. worker_steps m b.log) few ∙ counted workers n b.log (λ i d lt. (part.legal.of_seats i d lt).0) each,
    )

-- The race has ended well after the last part, with all that was counted.
pub long-ended : (workers steps seed budget checkpoint done : ℕ) (old b book : BookView) (counted_steps : ℕ) → 5 ≤ steps → done ≡ steps → Continues workers steps seed budget checkpoint done old
    → IsPart (λ seats machine. (seats ≡ old.seats) × (machine ≡ old.start)) (workers + 2) (IsOfEnd workers) b → book ≡ taken b → counted_steps ≡ workers * done
    → (log : List Entry) × RacedInParts workers steps seed budget checkpoint (with_log book log) × (counted_steps ≡ worker_steps workers log)
long-ended workers steps seed budget checkpoint done old b book counted_steps some all went part is counts =
    let ended = goes-last workers steps seed budget checkpoint b book is part.legal old done went part.origin.0 (part.origin.1 ∙ went.here) all some part.lists in
    let each = all-steps workers steps seed (with_log book ended.0) some ended.1.did in
    (ended.0, ended.1, counts ∙ ap (λ n. workers * n) all ∙ sym each)
