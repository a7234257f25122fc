-- A world with some queues emptied stays whole and within the limits, and one purged stays sound.
use Rattle.std.proofs.Common.{◌≡◌, ◌≤◌, ℕ, Bool, true, false, ◌||◌, ◌⊎◌, inl, inr, [], length, refl, sym, ap, ◌∙◌, subst, arith}
use Rattle.std.specs.Prelude.{Option, Some, None, MatchBool, nat_eq, nat_lt, option_map, if◌then◌else◌}
use Rattle.std.specs.Option.{option_map_or}
use Rattle.std.specs.List.{sum_by}
use Rattle.std.specs.FinMap as map
use Rattle.af_base.specs.declared.errno.Errno.TheVariants.{EINVAL}
use Rattle.af_base.specs.declared.events.Reply.{Reply}
use Rattle.af_base.specs.declared.events.Reply.TheVariants as reply
use Rattle.af_base.specs.declared.events.State.TheVariants as state
use Rattle.af_base.specs.declared.limits.TheConstants.{MAX_BUDGET}
use Rattle.af_base.specs.World.{AsSocket, File, Plain, Socket, World}
use Rattle.af_base.specs.Places.{backlog_of, queue_of}
use Rattle.af_base.specs.Counts.{count_in, total_of}
use Rattle.af_base.specs.Refusals.{socket_of}
use Rattle.af_base.specs.Pass.{Begins, GoesOn, Idle, Machine, Pass, PassesWhole, Purges, Running, Slices, emptied, empty_file}
use Rattle.af_base.specs.Whole.{IsSocketWithin, IsSound, IsWhole, IsWithin, state_at, state_of}
use Rattle.af_base.proofs.Elements.{Contains-none}
use Rattle.af_base.proofs.Lookups.{none_some, some_same}
use Rattle.af_base.proofs.SocketNames.{bound_of, name-there, named-there, names-kept}
use Rattle.af_base.proofs.PurgeOrder.{from_emptied, get-emptied, live-emptied}
use Rattle.af_base.proofs.Soundness.{sound-settles}
use Rattle.af_base.proofs.Totals.{total-below, total-count}
use Rattle.af_base.proofs.TypedFiles.{AreTyped, IsTyped, targets-typed, typed-like, typed-whole, types-typed}
use Rattle.af_base.proofs.StaysWithin.{socket_same}

module _ (t : ℕ → Bool) (w : World) where
  -- A file that is there afterwards was there before, and may have been emptied.
  emptied-was : (f : ℕ) (y : File) → map.get (emptied t w).files f ≡ Some y → (x : File) × (map.get w.files f ≡ Some x) × ((if t f then empty_file x else x) ≡ y)
  emptied-was f y is = by (map.get w.files f) refl (sym (get-emptied t w f) ∙ is) where
    by : (o : Option File) → map.get w.files f ≡ o → option_map (λ x. if t f then empty_file x else x) o ≡ Some y → (x : File) × (map.get w.files f ≡ Some x) × ((if t f then empty_file x else x) ≡ y)
    by None e d = absurd (none_some y d)
    by (Some x) e d = (x, e, some_same _ y d)

  -- Each file keeps its peer.
  state_at-emptied : (f : ℕ) → state_at (emptied t w) f ≡ state_at w f
  state_at-emptied f = ap (λ o. option_map_or state_of o state.Idle) (get-emptied t w f) ∙ each (t f) (map.get w.files f) where
    each : (b : Bool) (o : Option File) → option_map_or state_of (option_map (λ x. if b then empty_file x else x) o) state.Idle ≡ option_map_or state_of o state.Idle
    each b None = refl
    each true (Some Plain) = refl
    each true (Some (AsSocket s)) = refl
    each false (Some x) = refl

  -- A sum that emptying cannot raise does not grow.
  fewer : (F : File → ℕ) → ((x : File) → F (empty_file x) ≤ F x) → total_of F (emptied t w).files ≤ total_of F w.files
  fewer F low = total-below F F (emptied t w).files w.files (λ f y is.
      let was = emptied-was f y is in
      (was.0, was.1, subst (λ z. F z ≤ F was.0) was.2 (at (t f) was.0))) where
        at : (b : Bool) (x : File) → F (if b then empty_file x else x) ≤ F x
        at true x = low x
        at false x = omega arith

  -- A whole world stays whole.
  pub whole-emptied : IsWhole w → IsWhole (emptied t w)
  whole-emptied k = record {
    tables_live = λ f h. live-emptied t w f ∙ k.tables_live f h;
    queues_live = λ s f h. live-emptied t w f ∙ k.queues_live s f (from_emptied t w s f h).1;
    files_numbered = λ f l. k.files_numbered f (sym (live-emptied t w f) ∙ l);
    processes_numbered = k.processes_numbered;
    files_begin = λ f l. k.files_begin f (sym (live-emptied t w f) ∙ l);
    next_ino = k.next_ino;
    next_pid = k.next_pid;
    peers = λ f p e. state_at-emptied p ∙ k.peers f p (sym (state_at-emptied f) ∙ e);
    targets = targets-typed (emptied t w) typed;
    types = types-typed (emptied t w) typed;
    names = names-kept w (emptied t w) (λ f name e.
        let new = named-there (emptied t w) f name e in
        let was = emptied-was f new.0 new.1 in
        name-there w f (Some was.0) was.1 ∙ sym (same_name (t f) was.0) ∙ ap bound_of was.2 ∙ new.2) k.names;
    embryos = λ f.
        let once = k.embryos f in
        let less = fewer (λ x. count_in f (backlog_of x)) (λ x. no_more f x) in
        omega (arith, once, less);
  } where
    typed : AreTyped (emptied t w)
    typed f y is =
        let was = emptied-was f y is in
        subst (IsTyped w.next_ino) was.2 (by (t f) was.0 (typed-whole k f was.0 was.1)) where
          by : (b : Bool) (x : File) → IsTyped w.next_ino x
              → IsTyped w.next_ino (if b then empty_file x else x)
          by true Plain h = h
          by true (AsSocket s) h = typed-like (AsSocket s) (empty_file (AsSocket s)) refl refl h
          by false x h = h

    same_name : (b : Bool) (x : File) → bound_of (if b then empty_file x else x) ≡ bound_of x
    same_name true Plain = refl
    same_name true (AsSocket s) = refl
    same_name false x = refl

    no_more : (f : ℕ) (x : File) → count_in f (backlog_of (empty_file x)) ≤ count_in f (backlog_of x)
    no_more f Plain = omega arith
    no_more f (AsSocket s) = let none : count_in f [] ≡ 0 = refl in omega (arith, none)

  -- A world within the limits stays within them.
  pub within-emptied : IsWithin w → IsWithin (emptied t w)
  within-emptied k = record {
    process_count = k.process_count;
    file_count =
        let less = fewer (λ y. 1) (λ x. omega arith) in
        let most = k.file_count in
        omega (arith, less, most, total-count w.files, total-count (emptied t w).files);
    flying =
        let less = fewer (λ y. sum_by (λ m. length m.attached) (queue_of y)) lighter in
        let most = k.flying in
        omega (arith, less, most);
    pids = k.pids;
    inos = k.inos;
    processes = k.processes;
    sockets = λ f s is. let was = emptied-was f (AsSocket s) is in by (t f) was.0 s (λ x e. k.sockets f x (was.1 ∙ ap Some e)) was.2;
  } where
    lighter : (x : File) → sum_by (λ m. length m.attached) (queue_of (empty_file x)) ≤ sum_by (λ m. length m.attached) (queue_of x)
    lighter Plain = omega arith
    lighter (AsSocket s) = omega arith

    by : (b : Bool) (x : File) (s : Socket) → ((y : Socket) → x ≡ AsSocket y → IsSocketWithin y) → (if b then empty_file x else x) ≡ AsSocket s → IsSocketWithin s
    by true Plain s fits d = absurd (none_some s (ap socket_of d))
    by true (AsSocket y) s fits d = subst IsSocketWithin (socket_same _ s d) (let before = fits y refl in record { queue = omega arith; least = before.least; room = before.room; backlog = omega arith; name = before.name; messages = λ m h. absurd (Contains-none m h) })
    by false x s fits d = fits s d

-- A sound world, purged, is sound.
pub sound-purges : (t : ℕ → Bool) (old new : World) → Purges t old new → IsSound old → IsSound new
sound-purges t old new purged k = sound-settles (emptied t old) new purged (whole-emptied t old k.whole) (within-emptied t old k.within)

-- A sound world is sound after a begin, whatever the answer.
pub sound-begins : (p : Pass) (old new : Machine) (r : Reply) → IsSound old.world → Begins p old r new → IsSound new.world
sound-begins Idle old new r k h = subst (λ m. IsSound m.world) (sym h.1) k
sound-begins (Running begun spent) old new r k h = subst (λ m. IsSound m.world) (sym h.1) k

-- A slice of a pass that runs is refused, and nothing changed; or it is made.
pub slice-by : (begun : World) (spent b : ℕ) (old new : Machine) (r : Reply) → GoesOn (Running begun spent) old b r new
    → ((r ≡ reply.Refused EINVAL) × (new ≡ old)) ⊎ (Slices begun old.world spent b old.last_pass r new.world new.pass × (new.last_pass ≡ old.last_pass) × (new.since ≡ old.since))
slice-by begun spent b old new r h = by (nat_eq b 0 || nat_lt MAX_BUDGET b) h where
  by : (c : Bool) → MatchBool c ((r ≡ reply.Refused EINVAL) × (new ≡ old)) (Slices begun old.world spent b old.last_pass r new.world new.pass × (new.last_pass ≡ old.last_pass) × (new.since ≡ old.since))
      → ((r ≡ reply.Refused EINVAL) × (new ≡ old)) ⊎ (Slices begun old.world spent b old.last_pass r new.world new.pass × (new.last_pass ≡ old.last_pass) × (new.since ≡ old.since))
  by true x = inl x
  by false x = inr x

-- A sound world is sound after a slice, whatever the answer.
pub sound-slice : (p : Pass) (old new : Machine) (b : ℕ) (r : Reply) → IsSound old.world → GoesOn p old b r new → IsSound new.world
sound-slice Idle old new b r k h = subst (λ m. IsSound m.world) (sym h.1) k
sound-slice (Running begun spent) old new b r k h = elim (slice-by begun spent b old new r h) [
  | inl refused ↦ subst (λ m. IsSound m.world) (sym refused.1) k
  | inr made ↦ sound-purges _ old.world new.world made.0.purged k
]

-- A sound world is sound after a whole pass, whatever the answer.
pub sound-pass : (p : Pass) (old new : Machine) (r : Reply) → IsSound old.world → PassesWhole p old r new → IsSound new.world
sound-pass Idle old new r k h = sound-purges h.0.test old.world new.world h.0.purged k
sound-pass (Running begun spent) old new r k h = subst (λ m. IsSound m.world) (sym h.1) k
