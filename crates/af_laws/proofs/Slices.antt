-- Slices of a pass, with no steps between them, are a whole pass, and one slice can be; and a slice
-- spares what is reached.
use Rattle.std.proofs.Common.{◌≡◌, ◌⊎◌, inl, inr, ◌≤◌, ℕ, ◌+◌, Bool, true, false, ◌||◌, List, [], ◌∷◌, refl, sym, ap, ◌∙◌, subst, cond, length, map as each, arith}
use Rattle.std.specs.Prelude.{◌↔◌, Option, Some, None, filter, is_some, nat_eq, option_map, if◌then◌else◌}
use Rattle.std.specs.List.{All, list_any}
use Rattle.std.specs.Ordering.{eq_by_cmp, nat_cmp}
use Rattle.std.specs.Cmp.{both_ways, nat_cmp_total, unsigned_tied}
use Rattle.std.specs.FinMap as map
use Rattle.std.specs.FinMap.{nat_cmp-IsAntisymmetric}
use Rattle.std.proofs.lemmas.Bool.{eqb-true, false≢true, or_cases}
use Rattle.std.proofs.lemmas.List.Elements.{All-cons, All-contains, All-head, All-nil, All-tail}
use Rattle.std.proofs.lemmas.Map.Views.{Contains-from_any}
use Rattle.std.proofs.Math.Bool.{or-true}
use Rattle.af_base.specs.declared.errno.Errno.{Errno}
use Rattle.af_base.specs.declared.errno.Errno.TheVariants.{EBUSY, EIDLE, EINVAL}
use Rattle.af_base.specs.declared.events.Event.{Event}
use Rattle.af_base.specs.declared.events.Event.TheVariants as event
use Rattle.af_base.specs.declared.events.Reply.{Reply}
use Rattle.af_base.specs.declared.events.Reply.TheVariants as reply
use Rattle.af_base.specs.declared.limits.TheConstants.{MAX_BUDGET}
use Rattle.af_base.specs.World.{File, IsLive, World}
use Rattle.af_base.specs.Unheld.{IsSettled, Settles}
use Rattle.af_base.specs.Reached.{Garbage}
use Rattle.af_base.specs.Pass.{Begins, GoesOn, Idle, Machine, Pass, PassesWhole, Purges, Running, Slices, emptied, empty_file, next_pass}
use Rattle.af_base.specs.Run.{Run, RunEntry, Step}
use Rattle.af_base.specs.Whole.{IsSound}
use Rattle.af_base.proofs.PurgedWorlds.{slice-by}
use Rattle.af_base.proofs.PurgeOrder.{get-emptied, purges_both}
use Rattle.af_base.proofs.Runs.{run-last}
use Rattle.af_base.proofs.SettledWorlds.{settles_none}
use Rattle.af_base.proofs.Soundness.{settled-settles}
use Rattle.af_laws.proofs.Chains.{same_number}
use Rattle.af_laws.proofs.PlaceCounts.{garbage_counts_once}
use Rattle.af_laws.proofs.Logs.{replies_determine}
use Rattle.af_laws.proofs.WholePasses.{done_refused, released, spared, spares_all}
use Rattle.af_laws.specs.Purging.{IsSlice, PassHasOneOutcome, PassIsOneSlice, SlicesAreAPass, SlicesSpareTheReached}

-- A pass that has work left is not done.
done_working : (pass count : ℕ) → reply.Done pass count ≡ reply.Working → ⊥
done_working pass count d = cc

-- A pass that began is not refused.
started_refused : (n : ℕ) (e : Errno) → reply.Started n ≡ reply.Refused e → ⊥
started_refused n e d = cc

-- A fact of all files of a list is one of each.
among : (P : ℕ → Type 0) (f : ℕ) (xs : List ℕ) → All P xs → list_any (nat_eq f) xs ≡ true → P f
among P f xs all e = All-contains P xs f all (Contains-from_any eqb-true f xs e)

-- To empty what is not live changes nothing.
emptied_dead : (t : ℕ → Bool) (w : World) → ((f : ℕ) → t f ≡ true → ¬ (IsLive w f)) → emptied t w ≡ w
emptied_dead t w dead = ap (λ fs. record w { files = fs }) (map.same_map nat_cmp_total nat_cmp-IsAntisymmetric _ _ (λ q. get-emptied t w q ∙ each q (t q) refl (map.get w.files q) refl)) where
  each : (q : ℕ) (b : Bool) → t q ≡ b → (o : Option File) → map.get w.files q ≡ o → option_map (λ x. if b then empty_file x else x) o ≡ o
  each q b e None is = refl
  each q false e (Some x) is = refl
  each q true e (Some x) is = absurd (dead q e (ap is_some is))

-- So it purges nothing of a settled world.
purges_dead : (t : ℕ → Bool) (w : World) → IsSettled w → ((f : ℕ) → t f ≡ true → ¬ (IsLive w f)) → Purges t w w
purges_dead t w settled dead = subst (λ x. Settles x w) (sym (emptied_dead t w dead)) (settles_none w settled)

-- The pass that began at `old` runs, and since then nothing was changed but that some garbage of
-- the begin was purged.
record IsPartly (old m : Machine) : Type 0 where
  spent : ℕ
  runs : m.pass ≡ Running old.world spent
  numbered : m.last_pass ≡ next_pass old.last_pass
  since : m.since ≡ old.since
  test : ℕ → Bool
  of_garbage : (f : ℕ) → test f ≡ true → Garbage old.world f
  purged : Purges test old.world m.world

-- The machine after a begin.
abbrev begun : Machine → Machine
begun old = record old { pass = Running old.world 0; last_pass = next_pass old.last_pass }

-- Nothing was purged at the begin.
partly_begun : (old : Machine) → IsSettled old.world → IsPartly old (begun old)
partly_begun old settled = record {
  spent = 0;
  runs = refl;
  numbered = refl;
  since = refl;
  test = λ f. false;
  of_garbage = λ f e. absurd (false≢true e);
  purged = purges_dead (λ f. false) old.world settled (λ f e. absurd (false≢true e));
}

module _ (old m new : Machine) (b : ℕ) (partly : IsPartly old m) where
  module _ (r : Reply) (made : Slices old.world m.world partly.spent b m.last_pass r new.world new.pass) where
    -- The files that were purged before, and those that the slice purges.
    abbrev both : ℕ → Bool
    both f = partly.test f || list_any (nat_eq f) made.emptied_files

    -- All of it was garbage at the begin.
    both_garbage : (f : ℕ) → both f ≡ true → Garbage old.world f
    both_garbage f e = elim (or_cases (partly.test f) (list_any (nat_eq f) made.emptied_files) e) [
      | inl before ↦ partly.of_garbage f before
      | inr now ↦ among (Garbage old.world) f made.emptied_files made.of_garbage now
    ]

    -- To purge it all at once leads to the same world.
    both_purged : Purges both old.world new.world
    both_purged = purges_both partly.test (λ f. list_any (nat_eq f) made.emptied_files) old.world m.world new.world partly.purged made.purged

    -- Where no garbage of the begin is live, all of it was purged.
    all_purged : (test : ℕ → Bool) → ((f : ℕ) → (test f ≡ true) ↔ Garbage old.world f) → ((f : ℕ) → Garbage old.world f → ¬ (IsLive new.world f)) → Purges test old.world new.world
    all_purged test is_garbage none =
        let dead = purges_dead test new.world (settled-settles (emptied both old.world) new.world both_purged) (λ f e. none f ((is_garbage f).0 e)) in
        subst (λ t. Purges t old.world new.world) (λ i f. covers f i) (purges_both both test old.world new.world new.world both_purged dead) where
          covers : (f : ℕ) → (both f || test f) ≡ test f
          covers f = both_ways (both f || test f) (test f) (λ e. elim (or_cases (both f) (test f) e) [
            | inl some ↦ (is_garbage f).1 (both_garbage f some)
            | inr every ↦ every
          ]) (λ e. ap (λ c. both f || c) e ∙ or-true (both f))

  -- After a slice the pass runs on, or it is over.
  partly_on : (r : Reply) → Step m (event.Slice b) r new → IsPartly old new ⊎ (new.pass ≡ Idle)
  partly_on r h = elim (slice-by old.world partly.spent b m new r (subst (λ p. GoesOn p m b r new) partly.runs h)) [
    | inl refused ↦ inl (subst (IsPartly old) (sym refused.1) partly)
    | inr made ↦ elim made.0.answered [
      | inl works ↦ inl (record { spent = partly.spent + b; runs = works.1; numbered = made.1 ∙ partly.numbered; since = made.2 ∙ partly.since; test = both r made.0; of_garbage = both_garbage r made.0; purged = both_purged r made.0 })
      | inr done ↦ inr done.3
    ]
  ]

  -- A slice that is done ends where a whole pass does.
  partly_done : (pass count : ℕ) → Step m (event.Slice b) (reply.Done pass count) new → PassesWhole Idle old (reply.Done pass count) new
  partly_done pass count h = elim (slice-by old.world partly.spent b m new (reply.Done pass count) (subst (λ p. GoesOn p m b (reply.Done pass count) new) partly.runs h)) [
    | inl refused ↦ absurd (done_refused pass count EINVAL refused.0)
    | inr made ↦ elim made.0.answered [
      | inl works ↦ absurd (done_working pass count works.0)
      | inr done ↦ (
        record {
          test = done.1.0;
          is_garbage = done.1.1;
          purged = all_purged (reply.Done pass count) made.0 done.1.0 done.1.1 done.4;
          count = done.0;
          counted = done.1;
          answered = done.2 ∙ ap (λ n. reply.Done n done.0) partly.numbered;
        },
        done.3,
        made.1 ∙ partly.numbered,
        made.2 ∙ partly.since,
      )
    ]
  ]

-- Where no pass runs, slices change nothing.
idle_on : (m new : Machine) (b : ℕ) (r : Reply) → m.pass ≡ Idle → Step m (event.Slice b) r new → new.pass ≡ Idle
idle_on m new b r idle h = ap (λ n. n.pass) (subst (λ p. GoesOn p m b r new) idle h).1 ∙ idle

-- So none is done.
idle_done : (m new : Machine) (b pass count : ℕ) → m.pass ≡ Idle → Step m (event.Slice b) (reply.Done pass count) new → ⊥
idle_done m new b pass count idle h = done_refused pass count EIDLE (subst (λ q. GoesOn q m b (reply.Done pass count) new) idle h).0

-- Slices leave the pass so far as it is, or over.
slices_on : (old m new : Machine) (slices : List RunEntry) → All (λ (e : RunEntry). IsSlice e.0) slices → IsPartly old m ⊎ (m.pass ≡ Idle) → Run m slices new → IsPartly old new ⊎ (new.pass ≡ Idle)
slices_on old m new [] are at run = subst (λ n. IsPartly old n ⊎ (n.pass ≡ Idle)) (sym run) at
slices_on old m new (e ∷ es) are at run =
    slices_on old run.0 new es (All-tail (λ (x : RunEntry). IsSlice x.0) e es are) (by e.0 (All-head (λ (x : RunEntry). IsSlice x.0) e es are) run.1 at) run.2 where
      by : (x : Event) → IsSlice x → Step m x e.1 run.0 → IsPartly old m ⊎ (m.pass ≡ Idle) → IsPartly old run.0 ⊎ (run.0.pass ≡ Idle)
      by (event.Spawn uid nofile privileged) is h at = absurd is
      by (event.Proc p s) is h at = absurd is
      by event.Begin is h at = absurd is
      by (event.Slice b) is h (inl partly) = partly_on old m run.0 b partly e.1 h
      by (event.Slice b) is h (inr idle) = inr (idle_on m run.0 b e.1 idle h)
      by event.Pass is h at = absurd is

-- A pass that began did so while none ran.
begun_idle : (p : Pass) (old m : Machine) (number : ℕ) → Begins p old (reply.Started number) m → (p ≡ Idle) × (m ≡ begun old)
begun_idle Idle old m number h = (refl, h.1)
begun_idle (Running w spent) old m number h = absurd (started_refused number EBUSY h.0)

pub slices_are_a_pass : SlicesAreAPass
slices_are_a_pass old new slices started b pass count settled are run =
    let first = begun_idle old.pass old run.0 started run.1 in
    let last = run-last run.0 new slices (event.Slice b) (reply.Done pass count) run.2 in
    let at : IsPartly old run.0 = subst (IsPartly old) (sym first.1) (partly_begun old settled) in
    subst (λ p. PassesWhole p old (reply.Done pass count) new) (sym first.0) (elim (slices_on old run.0 last.0 slices are (inl at) last.1) [
      | inl partly ↦ partly_done old last.0 new b partly pass count last.2
      | inr idle ↦ absurd (idle_done last.0 new b pass count idle last.2)
    ])

-- A file in a list that passes the test is left.
left_in : (t : ℕ → Bool) (f : ℕ) → t f ≡ true → (xs : List ℕ) → list_any (eq_by_cmp nat_cmp f) xs ≡ true → list_any (nat_eq f) (filter t xs) ≡ true
left_in t f is [] e = absurd (false≢true e)
left_in t f is (x ∷ xs) e = by (left_in t f is xs) (t x) refl (or_cases (eq_by_cmp nat_cmp f x) (list_any (eq_by_cmp nat_cmp f) xs) e) where
  by : (list_any (eq_by_cmp nat_cmp f) xs ≡ true → list_any (nat_eq f) (filter t xs) ≡ true) → (b : Bool) → t x ≡ b
      → (eq_by_cmp nat_cmp f x ≡ true) ⊎ (list_any (eq_by_cmp nat_cmp f) xs ≡ true) → list_any (nat_eq f) (cond b (x ∷ filter t xs) (filter t xs)) ≡ true
  by rest true p (inl here) = ap (λ c. c || list_any (nat_eq f) (filter t xs)) (sym (unsigned_tied f x) ∙ here)
  by rest true p (inr later) = ap (λ c. nat_eq f x || c) (rest later) ∙ or-true (nat_eq f x)
  by rest false p (inl here) = absurd (false≢true (sym p ∙ ap t (sym (same_number f x here)) ∙ is))
  by rest false p (inr later) = rest later

-- Each file that is left passes the test.
all_left : (P : ℕ → Type 0) (t : ℕ → Bool) → ((f : ℕ) → t f ≡ true → P f) → (xs : List ℕ) → All P (filter t xs)
all_left P t passes [] = All-nil P
all_left P t passes (x ∷ xs) = by (all_left P t passes xs) (t x) refl where
  by : All P (filter t xs) → (b : Bool) → t x ≡ b → All P (cond b (x ∷ filter t xs) (filter t xs))
  by rest true e = All-cons P x (filter t xs) (passes x e) rest
  by rest false e = rest

-- At most as many keys are left as there are entries.
few_left : (t : ℕ → Bool) (es : List (ℕ × File)) → length (filter t (each (λ e. e.0) es)) ≤ length es
few_left t [] = omega arith
few_left t (e ∷ es) = by (t e.0) (few_left t es) where
  by : (b : Bool) → length (filter t (each (λ e. e.0) es)) ≤ length es → length (cond b (e.0 ∷ filter t (each (λ e. e.0) es)) (filter t (each (λ e. e.0) es))) ≤ length (e ∷ es)
  by true less = omega (arith, less)
  by false less = omega (arith, less)

-- Equal answers of passes have equal numbers.
same_number_done : (p q n k : ℕ) → reply.Done p n ≡ reply.Done q k → p ≡ q
same_number_done p q n k e = cc

-- A slice of the largest budget may empty all garbage.
slice_of_all : (old new : Machine) (pass count : ℕ) → IsSound old.world → PassesWhole Idle old (reply.Done pass count) new → Slices old.world old.world 0 MAX_BUDGET (next_pass old.last_pass) (reply.Done pass count) new.world new.pass
slice_of_all old new pass count sound h =
    let files = filter h.0.test (map.keys old.world.files) in
    let most = sound.within.file_count in
    record {
      emptied_files = files;
      few = omega (arith, few_left h.0.test (map.entries old.world.files), map.len-entries old.world.files, most);
      of_garbage = all_left (Garbage old.world) h.0.test (λ f e. (h.0.is_garbage f).0 e) (map.keys old.world.files);
      purged = subst (λ t. Purges t old.world new.world) (λ i f. told f i) h.0.purged;
      answered = inr (h.0.count, h.0.counted, h.0.answered, h.1, released old.world new.world h.0.test h.0.is_garbage h.0.purged);
    } where
      told : (f : ℕ) → h.0.test f ≡ list_any (nat_eq f) (filter h.0.test (map.keys old.world.files))
      told f = both_ways (h.0.test f) (list_any (nat_eq f) (filter h.0.test (map.keys old.world.files)))
          (λ e. left_in h.0.test f e (map.keys old.world.files) (sym (map.contains_key-keys old.world.files f) ∙ ((h.0.is_garbage f).0 e).0))
          (among (λ g. h.0.test g ≡ true) f (filter h.0.test (map.keys old.world.files)) (all_left (λ g. h.0.test g ≡ true) h.0.test (λ g e. e) (map.keys old.world.files)))

-- So one slice does what a whole pass does.
sliced_by : (p : Pass) (old new : Machine) (pass count : ℕ) → IsSound old.world → PassesWhole p old (reply.Done pass count) new
    → (mid : Machine) × Begins p old (reply.Started pass) mid × Run mid ((event.Slice MAX_BUDGET, reply.Done pass count) ∷ []) new
sliced_by Idle old new pass count sound h =
    let number = same_number_done pass (next_pass old.last_pass) count h.0.count h.0.answered in
    (begun old, (ap reply.Started number, refl), (new, (slice_of_all old new pass count sound h, h.2, h.3), refl))
sliced_by (Running w spent) old new pass count sound h = absurd (done_refused pass count EBUSY h.0)

pub pass_is_one_slice : PassIsOneSlice
pass_is_one_slice old new pass count sound h = sliced_by old.pass old new pass count sound h

-- Two whole passes give the same reply.
same_reply : (p : Pass) (old new other : Machine) (r s : Reply) → PassesWhole p old r new → PassesWhole p old s other → r ≡ s
same_reply Idle old new other r s x y = x.0.answered ∙ ap (reply.Done (next_pass old.last_pass)) (garbage_counts_once old.world x.0.count y.0.count x.0.counted y.0.counted) ∙ sym y.0.answered
same_reply (Running w spent) old new other r s x y = x.0 ∙ sym y.0

pub pass_has_one_outcome : PassHasOneOutcome
pass_has_one_outcome old new other r s x y =
    let same = same_reply old.pass old new other r s x y in
    (same, replies_determine old new other event.Pass s tt (subst (λ t. Step old event.Pass t new) same x) y)

pub slices_spare_the_reached : SlicesSpareTheReached
slices_spare_the_reached old new w spent b r runs apart h = elim (slice-by w spent b old new r (subst (λ p. GoesOn p old b r new) runs h)) [
  | inl refused ↦ spares_all old new refused.1
  | inr made ↦ spared old.world new.world _ (λ f e. apart f (among (Garbage w) f made.0.emptied_files made.0.of_garbage e)) made.0.purged
]
