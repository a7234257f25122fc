-- How an event, an open and a returned value change the values.
use Rattle.std.proofs.Common.{◌≡◌, ◌≤◌, ◌<◌, ℕ, ◌+◌, Bool, true, false, not, cond, inl, inr, List, nat_eq, nat_lt, refl, sym, ap, ◌∙◌, subst, arith}
use Rattle.std.specs.Prelude.{Err, IfErr, IfOk, IsTrue, None, Ok, Option, Result, Some, if◌then◌else◌, is_some, option_map}
use Rattle.std.specs.Ordering.{nat_cmp}
use Rattle.std.specs.FinMap as map
use Rattle.std.proofs.lemmas.Bool.{cases_Bool, false≢true, le-ltb, lt-ltb, ltb-true}
use Rattle.af_base.specs.declared.errno.Errno.{Errno}
use Rattle.af_base.specs.declared.events.Event.{Event}
use Rattle.af_base.specs.declared.events.Event.TheVariants as event
use Rattle.af_base.specs.declared.events.Reply.{Reply}
use Rattle.af_base.specs.declared.events.Reply.TheVariants as reply
use Rattle.af_base.specs.declared.events.Step.TheVariants as step
use Rattle.af_base.specs.Changes.{add_file}
use Rattle.af_base.specs.Counts.{count_in}
use Rattle.af_base.specs.Pass.{Begins, GoesOn, Idle, Machine, Pass, PassesWhole, Running}
use Rattle.af_base.specs.Reached.{is_socket}
use Rattle.af_base.specs.Run.{fresh}
use Rattle.af_base.specs.Told.{TellsReleased, was_given}
use Rattle.af_base.specs.World.{File, IsLive, Map, Plain, Since, World, is_live}
use Rattle.af_base.proofs.Lookups.{insert-here, insert-other, none_some, remove-here, remove-other, same_or_not, some_same, there}
use Rattle.af_base.proofs.PurgedWorlds.{slice-by}
use Rattle.af_base.proofs.Sums.{total-remove}
use Rattle.af_base.proofs.Totals.{total-count}
use Rattle.af_steps.specs.Called.{DoesEvent, RefusesEvent}
use Rattle.af_steps.specs.Outcome.{Does}
use Rattle.jaywardrobe.specs.OwnedView.{AreOwned, kind, opens}
use Rattle.jaywardrobe.proofs.PlainFiles.{Follows, follows-purge, follows-same, follows-spawn, follows-step, settled-kind}

-- A number that was given stays so, as more are given.
given-rises : (since : Since) (a b f : ℕ) → a ≤ b → was_given since a f ≡ true → was_given since b f ≡ true
given-rises since a b f more = by (nat_lt f since.next) where
  by : (c : Bool) → cond c (map.contains_key since.files f) (nat_lt f a) ≡ true → cond c (map.contains_key since.files f) (nat_lt f b) ≡ true
  by true e = e
  by false e = let low = ltb-true f a e in lt-ltb f b (omega (arith, low, more))

-- A live file has a kind.
live-kind : (w : World) (f : ℕ) (b : Bool) → kind w f ≡ Some b → IsLive w f
live-kind w f b = by (map.get w.files f) where
  by : (o : Option File) → option_map is_socket o ≡ Some b → is_some o ≡ true
  by None e = absurd (none_some b e)
  by (Some x) e = refl

module _ {T : Type 0} (m n : Machine) (values : Map T) (last : ℕ) (h : AreOwned m values last) where
  module _ (since : n.since ≡ m.since) (f : Follows m.world n.world) where
    -- A new file carries nothing.
    none-new : (g : ℕ) → m.world.next_ino ≤ g → map.contains_key values g ≡ false
    none-new g high = elim (cases_Bool (map.contains_key values g)) [
      | inl there ↦ let low = h.numbered g there in absurd (omega (arith, low, high))
      | inr none ↦ none
    ]

    -- An event but an open leaves the values where their files are.
    pub owned-follows : AreOwned n values last
    owned-follows = record {
      asked = ap (λ (s : Since). s.released) since ∙ h.asked;
      later = let low = h.later in let up = f.rises in omega (arith, low, up, ap (λ (s : Since). s.next) since);
      below = let low = h.below in let up = f.rises in omega (arith, low, up);
      numbered = λ g there. let low = h.numbered g there in let up = f.rises in omega (arith, low, up);
      given = λ g there. ap (λ s. was_given s n.world.next_ino g) since ∙ given-rises m.since m.world.next_ino n.world.next_ino g f.rises (h.given g there);
      carried = λ g b is. elim (f.kinds g) [
        | inl none ↦ absurd (none_some b (sym none ∙ is))
        | inr stays ↦ elim stays [
          | inl same ↦ h.carried g b (sym same ∙ is)
          | inr made ↦ none-new g made.1 ∙ ap not (some_same true b (sym made.0 ∙ is))
        ]
      ];
    }

-- Nothing changed.
owned-same : {T : Type 0} (m n : Machine) (values : Map T) (last : ℕ) → AreOwned m values last → n ≡ m → AreOwned n values last
owned-same m n values last h is = subst (λ x. AreOwned x values last) (sym is) h

module _ {T : Type 0} (m n : Machine) (values : Map T) (last : ℕ) (h : AreOwned m values last) where
  -- A begin keeps all values.
  begins : (pass : Pass) (r : Reply) → Begins pass m r n → AreOwned n values last
  begins Idle r b = owned-follows m n values last h (ap (λ (x : Machine). x.since) b.1) (follows-same m.world n.world (ap (λ (x : Machine). x.world) b.1))
  begins (Running begun spent) r b = owned-same m n values last h b.1

  -- A slice keeps them.
  goes-on : (pass : Pass) (b : ℕ) (r : Reply) → GoesOn pass m b r n → AreOwned n values last
  goes-on Idle b r s = owned-same m n values last h s.1
  goes-on (Running begun spent) b r s = elim (slice-by begun spent b m n r s) [
    | inl refused ↦ owned-same m n values last h refused.1
    | inr made ↦ owned-follows m n values last h made.2 (follows-purge _ m.world n.world made.0.purged)
  ]

  -- A whole pass keeps them.
  passes : (pass : Pass) (r : Reply) → PassesWhole pass m r n → AreOwned n values last
  passes Idle r p = owned-follows m n values last h p.3 (follows-purge p.0.test m.world n.world p.0.purged)
  passes (Running begun spent) r p = owned-same m n values last h p.1

  -- The outcome of a call that opens nothing.
  pub owned-event : (e : Event) → opens e ≡ false → {X : Type 0} (o : Result X Errno) (tells : X → Reply) → IfOk o (λ x. DoesEvent m e (tells x) n) → IfErr o (λ x. RefusesEvent m e x n) → AreOwned n values last
  owned-event (event.Proc p s) closed (Ok x) tells done refused = owned-follows m n values last h done.3.2 (follows-step m.world n.world p s closed done.2)
  owned-event (event.Proc p s) closed (Err e) tells done refused = owned-same m n values last h refused.1
  owned-event (event.Spawn uid nofile privileged) closed (Ok x) tells done refused = owned-follows m n values last h done.3.2 (follows-spawn m.world n.world uid nofile privileged done.2)
  owned-event (event.Spawn uid nofile privileged) closed (Err e) tells done refused = owned-same m n values last h refused.1
  owned-event event.Begin closed (Ok x) tells done refused = begins m.pass (tells x) done
  owned-event event.Begin closed (Err e) tells done refused = begins m.pass (reply.Refused e) refused
  owned-event (event.Slice b) closed (Ok x) tells done refused = goes-on m.pass b (tells x) done
  owned-event (event.Slice b) closed (Err e) tells done refused = goes-on m.pass b (reply.Refused e) refused
  owned-event event.Pass closed (Ok x) tells done refused = passes m.pass (tells x) done
  owned-event event.Pass closed (Err e) tells done refused = passes m.pass (reply.Refused e) refused

-- A file was opened, and carries a value.
module _ {T : Type 0} (m n : Machine) (values : Map T) (last p fd : ℕ) (h : AreOwned m values last) (v : T) (d : Does m p step.Open (reply.Fd fd) n) where
  -- The new file's number.
  k : ℕ
  k = m.world.next_ino

  -- The next number is one more.
  next : n.world.next_ino ≡ m.world.next_ino + 1
  next = ap (λ (w : World). w.next_ino) d.2.2

  -- The new file carries a value.
  here : map.contains_key (map.insert values m.world.next_ino v) m.world.next_ino ≡ true
  here = ap is_some (insert-here values m.world.next_ino v)

  -- Another file carries one exactly if it did.
  other : (g : ℕ) → nat_eq g m.world.next_ino ≡ false → map.contains_key (map.insert values m.world.next_ino v) g ≡ map.contains_key values g
  other g apart = ap is_some (insert-other values m.world.next_ino v g apart)

  -- A fact of the new number, and of those that carried a value, is one of all.
  each : (P : ℕ → Type 0) → P m.world.next_ino → ((g : ℕ) → IsTrue (map.contains_key values g) → P g) → (g : ℕ) → IsTrue (map.contains_key (map.insert values m.world.next_ino v) g) → P g
  each P first rest g there = elim (same_or_not g m.world.next_ino) [
    | inl same ↦ subst P (sym same) first
    | inr apart ↦ rest g (sym (other g apart) ∙ there)
  ]

  -- The lists run since the same moment.
  since : n.since ≡ m.since
  since = d.3.2

  -- The new number was given since.
  given-now : was_given m.since n.world.next_ino m.world.next_ino ≡ true
  given-now =
      let low = h.later in
      ap (λ b. cond b (map.contains_key m.since.files m.world.next_ino) (nat_lt m.world.next_ino n.world.next_ino)) (le-ltb m.world.next_ino m.since.next low)
      ∙ lt-ltb m.world.next_ino n.world.next_ino (omega (arith, next))

  -- A file after it.
  kind-mid : (g : ℕ) → nat_eq g m.world.next_ino ≡ false → kind (add_file m.world Plain) g ≡ kind m.world g
  kind-mid g apart = ap (option_map is_socket) (insert-other m.world.files m.world.next_ino Plain g apart)

  -- The new file is plain.
  kind-new : kind (add_file m.world Plain) m.world.next_ino ≡ Some false
  kind-new = ap (option_map is_socket) (insert-here m.world.files m.world.next_ino Plain)

  -- Each live plain file carries a value, and no live socket does.
  carries : (g : ℕ) (b : Bool) → kind (add_file m.world Plain) g ≡ Some b → map.contains_key (map.insert values m.world.next_ino v) g ≡ not b
  carries g b is = elim (same_or_not g m.world.next_ino) [
    | inl same ↦ ap (map.contains_key (map.insert values m.world.next_ino v)) same ∙ here ∙ ap not (some_same false b (sym kind-new ∙ ap (kind (add_file m.world Plain)) (sym same) ∙ is))
    | inr apart ↦ other g apart ∙ h.carried g b (sym (kind-mid g apart) ∙ is)
  ]

  -- The invariant holds with the new value.
  pub owned-open : AreOwned n (map.insert values m.world.next_ino v) m.world.next_ino
  owned-open = record {
    asked = ap (λ (s : Since). s.released) since ∙ h.asked;
    later = let low = h.later in omega (arith, low, next, ap (λ (s : Since). s.next) since);
    below = omega (arith, next);
    numbered = each (λ g. g < n.world.next_ino) (omega (arith, next)) (λ g there. let low = h.numbered g there in omega (arith, low, next));
    given = each (λ g. was_given n.since n.world.next_ino g ≡ true) (ap (λ s. was_given s n.world.next_ino m.world.next_ino) since ∙ given-now)
        (λ g there. ap (λ s. was_given s n.world.next_ino g) since ∙ given-rises m.since m.world.next_ino n.world.next_ino g (omega (arith, next)) (h.given g there));
    carried = λ g b is. elim (settled-kind _ n.world d.2 g) [
      | inl none ↦ absurd (none_some b (sym none ∙ is))
      | inr same ↦ carries g b (sym same ∙ is)
    ];
  }

-- Another value is written behind a file that carries one.
pub owned-written : {T : Type 0} (m : Machine) (values : Map T) (last k : ℕ) (w : T) → AreOwned m values last → map.contains_key values k ≡ true → AreOwned m (map.insert values k w) last
owned-written m values last k w h is = record {
  asked = h.asked;
  later = h.later;
  below = h.below;
  numbered = λ g there. h.numbered g (sym (same g) ∙ there);
  given = λ g there. h.given g (sym (same g) ∙ there);
  carried = λ g b kind. same g ∙ h.carried g b kind;
} where
  same : (g : ℕ) → map.contains_key (map.insert values k w) g ≡ map.contains_key values g
  same g = elim (same_or_not g k) [
    | inl here ↦ ap (map.contains_key (map.insert values k w)) here ∙ ap is_some (insert-here values k w) ∙ sym (ap (map.contains_key values) here ∙ is)
    | inr apart ↦ ap is_some (insert-other values k w g apart)
  ]

-- A value is handed back, of a file that is gone.
pub owned-taken : {T : Type 0} (m : Machine) (values : Map T) (last k : ℕ) → AreOwned m values last → is_live m.world k ≡ false → AreOwned m (map.remove values k) last
owned-taken m values last k h gone = record {
  asked = h.asked;
  later = h.later;
  below = h.below;
  numbered = λ g there. h.numbered g (was g there);
  given = λ g there. h.given g (was g there);
  carried = λ g b is. elim (same_or_not g k) [
    | inl same ↦ absurd (false≢true (sym gone ∙ ap (is_live m.world) (sym same) ∙ live-kind m.world g b is))
    | inr apart ↦ ap is_some (remove-other values k g apart) ∙ h.carried g b is
  ];
} where
  was : (g : ℕ) → IsTrue (map.contains_key (map.remove values k) g) → IsTrue (map.contains_key values g)
  was g there = elim (same_or_not g k) [
    | inl same ↦ absurd (false≢true (sym (ap (map.contains_key (map.remove values k)) same ∙ ap is_some (remove-here values k)) ∙ there))
    | inr apart ↦ sym (ap is_some (remove-other values k g apart)) ∙ there
  ]

-- There is one value less then.
pub taken-fewer : {T : Type 0} (values : Map T) (k : ℕ) → IsTrue (map.contains_key values k) → map.len (map.remove values k) < map.len values
taken-fewer values k is =
    let at = there (map.get values k) is in
    let less = total-remove (λ x. 1) values k at.0 at.1 in
    omega (arith, less, total-count values, total-count (map.remove values k))

-- A listed file is freed.
pub listed-gone : (m : Machine) (told : List ℕ) → m.since.released ≡ true → TellsReleased m.world m.since told → (f : ℕ) → 0 < count_in f told → is_live m.world f ≡ false
listed-gone m told asked tells f some = by (is_live m.world f) (was_given m.since m.world.next_ino f) (tells asked f) where
  by : (a b : Bool) → count_in f told + (if a then 1 else 0) ≡ (if b then 1 else 0) → a ≡ false
  by true true e = absurd (omega (arith, e, some))
  by true false e = absurd (omega (arith, e, some))
  by false b e = refl

-- An engine to which nothing has happened, and that tells which files are freed, and maybe whose
-- readiness changed.
abbrev pub asking : Bool → Machine
asking readiness = record fresh { since = record { changed = readiness; released = true; files = map.empty; next = 1 } }

-- It has no value.
pub owned-new : {T : Type 0} (readiness : Bool) → AreOwned {T = T} (asking readiness) map.empty 0
owned-new readiness = record {
  asked = refl;
  later = omega arith;
  below = omega arith;
  numbered = λ f there. absurd (false≢true (sym (ap is_some (map.get-empty nat_cmp f)) ∙ there));
  given = λ f there. absurd (false≢true (sym (ap is_some (map.get-empty nat_cmp f)) ∙ there));
  carried = λ f b is. absurd (none_some b (sym (ap (option_map is_socket) (map.get-empty nat_cmp f)) ∙ is));
}
