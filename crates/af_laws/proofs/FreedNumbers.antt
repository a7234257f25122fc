-- A number that was given and is not live is never live again.
use Rattle.std.proofs.Common.{◌≡◌, ◌<◌, ◌≤◌, ℕ, ◌+◌, Bool, true, false, not, ◌||◌, inl, inr, List, [], ◌∷◌, ◌++◌, length, refl, sym, ap, ◌∙◌, subst, nat_eq, arith}
use Rattle.std.specs.Prelude.{Option, Some, None, is_some, if◌then◌else◌}
use Rattle.std.specs.Option.{option_and_then}
use Rattle.std.specs.List.{list_any, zip}
use Rattle.std.specs.FinMap as map
use Rattle.std.proofs.lemmas.Bool.{false≢true}
use Rattle.af_base.specs.declared.errno.Errno.TheVariants.{ECONNREFUSED, ENOTCONN, EPIPE}
use Rattle.af_base.specs.declared.events.Event.{Event}
use Rattle.af_base.specs.declared.events.Event.TheVariants as event
use Rattle.af_base.specs.declared.events.Reply.{Reply}
use Rattle.af_base.specs.declared.events.Reply.TheVariants as reply
use Rattle.af_base.specs.declared.events.State.TheVariants as state
use Rattle.af_base.specs.declared.events.Step.{Step}
use Rattle.af_base.specs.declared.events.Step.TheVariants as step
use Rattle.af_base.specs.World.{AsSocket, File, Map, Plain, Socket, World, is_live}
use Rattle.af_base.specs.Changes.{add_file, add_process, aimed, connected, dequeued, install, install_all, listening, pushed, queued, shut, with_name, with_queue, with_socket}
use Rattle.af_base.specs.Counts.{charged, total}
use Rattle.af_base.specs.Pass.{Begins, GoesOn, Idle, Machine, Pass, PassesWhole, Purges, Running, emptied}
use Rattle.af_base.specs.Places.{queue_at, table_at}
use Rattle.af_base.specs.Refusals.{RefusalRow, connected_to, first_fit, ino_named, ino_on, is_connected, is_datagram, is_deaf, is_hung_up, on_charge, on_input, on_parts, on_peer, on_room, on_target, peer_of, process_at, refusal, socket_at, socket_named, socket_of, socket_on, spawn_refusal}
use Rattle.af_base.specs.Run.{Run, RunEntry, Step as MachineStep}
use Rattle.af_base.specs.Steps.{answer, closes_input, closes_output, connected_socket, effect, got_at, idle_socket, needs_no_memory, paired_socket, spawned, taken_on, with_embryo}
use Rattle.af_base.specs.Unheld.{Settles}
use Rattle.af_base.specs.Whole.{IsSound, IsWhole, fits_type}
use Rattle.af_base.proofs.Lookups.{insert-other, told_apart}
use Rattle.af_base.proofs.PlaceMoves.{live-changed, state-there}
use Rattle.af_base.proofs.PurgedWorlds.{slice-by}
use Rattle.af_base.proofs.PurgeOrder.{live-emptied}
use Rattle.af_base.proofs.SettledWorlds.{live-without, stays}
use Rattle.af_base.proofs.SoundSteps.{passes-on}
use Rattle.af_laws.proofs.Logs.{events_keep_sound}
use Rattle.af_laws.proofs.Outcomes.{outcome_keeps}
use Rattle.af_laws.proofs.Peeks.{same-files}
use Rattle.af_laws.proofs.Polls.{left}
use Rattle.af_laws.proofs.SocketChanges.{file_of_socket}
use Rattle.af_laws.specs.Datagrams.{AFreedTargetStays}

-- Numbers that were given stay given, and of these one that is not live stays so.
record Stay (old : Map File) (n : ℕ) (new : Map File) (m : ℕ) : Type 0 where
  given : n ≤ m
  gone : (q : ℕ) → q < n → map.contains_key new q ≡ true → map.contains_key old q ≡ true

-- The same of worlds.
abbrev GivesNoneAgain : World → World → Type 0
GivesNoneAgain old new = Stay old.files old.next_ino new.files new.next_ino

-- Where nothing changed.
none-again : (w : World) → GivesNoneAgain w w
none-again w = record { given = omega arith; gone = λ q low l. l }

-- One change after the other.
then-again : (u v w : World) → GivesNoneAgain u v → GivesNoneAgain v w → GivesNoneAgain u w
then-again u v w a b = record {
  given = let one = a.given in let two = b.given in omega (arith, one, two);
  gone = λ q low l. a.gone q low (b.gone q (let one = a.given in omega (arith, low, one)) l);
}

-- Where the files are what they were.
files-again : (w v : World) → v.files ≡ w.files → v.next_ino ≡ w.next_ino → GivesNoneAgain w v
files-again w v files next = record {
  given = omega (arith, next);
  gone = λ q low l. ap (λ fs. map.contains_key fs q) (sym files) ∙ l;
}

-- A changed socket.
changed-again : (w : World) (s : ℕ) (g : Socket → Socket) → GivesNoneAgain w (with_socket w s g)
changed-again w s g =
    record { given = omega arith; gone = λ q low l. sym (live-changed w s g q) ∙ l }

-- A file more.
added-again : (w : World) (x : File) → GivesNoneAgain w (add_file w x)
added-again w x = record {
  given = omega arith;
  gone = λ q low l. ap is_some
      (sym (insert-other w.files w.next_ino x q
      (told_apart q w.next_ino (λ e. absurd (omega (arith, e, low)))))) ∙ l;
}

-- Descriptors set change no file, and give no inode number.
next-installed : (w : World) (p : ℕ) (es : List (ℕ × ℕ)) → (install_all w p es).next_ino
    ≡ w.next_ino
next-installed w p [] = refl
next-installed w p (e ∷ es) = next-installed (install w p e.0 e.1) p es

installed-again : (w : World) (p : ℕ) (es : List (ℕ × ℕ)) → GivesNoneAgain w (install_all w p es)
installed-again w p es =
    files-again w (install_all w p es) (same-files w p es) (next-installed w p es)

-- The effect of a step.
effect-again : (w : World) (p : ℕ) (s : Step) → GivesNoneAgain w (effect w p s)
effect-again w p step.Open = added-again w Plain
effect-again w p (step.Dup n) = none-again w
effect-again w p (step.Dup2 n m) = by (nat_eq m n) where
  by : (b : Bool) → GivesNoneAgain w (if b then w else install w p m (ino_on w p n))
  by true = none-again w
  by false = none-again w
effect-again w p (step.Close n) = none-again w
effect-again w p step.Fork = none-again w
effect-again w p step.Exit = none-again w
effect-again w p (step.Pair kind) =
    let one = add_file w (AsSocket (paired_socket kind (w.next_ino + 1))) in
    let two = add_file one (AsSocket (paired_socket kind w.next_ino)) in
    then-again w one two (added-again w _) (added-again one _)
effect-again w p (step.Socket kind) = added-again w (AsSocket (idle_socket kind))
effect-again w p (step.Bind n name) = changed-again w (ino_on w p n) (with_name name)
effect-again w p (step.Listen n b) = changed-again w (ino_on w p n) (listening b)
effect-again w p (step.Connect n name) = by (is_datagram (socket_on w p n).kind) where
  c : ℕ
  c = ino_on w p n

  l : ℕ
  l = ino_named w (socket_on w p n).kind name

  by : (b : Bool) → GivesNoneAgain w
      (if b then with_socket w c (aimed l) else with_embryo w c l
      (socket_named w (socket_on w p n).kind name).kind)
  by true = changed-again w c (aimed l)
  by false =
      let base = add_file w (AsSocket (connected_socket _ c)) in
      let made = with_socket base c (connected w.next_ino) in
      then-again w made (with_socket made l (queued w.next_ino))
      (then-again w base made (added-again w _) (changed-again base c (connected w.next_ino)))
      (changed-again made l (queued w.next_ino))
effect-again w p (step.Accept n) = changed-again w (ino_on w p n) dequeued
effect-again w p (step.Send n bytes attach) =
    changed-again w (peer_of (socket_on w p n).state) (pushed _)
effect-again w p (step.Recv n max_bytes max_fds) =
    let taken = taken_on w p n max_bytes in
    let left = with_queue w (ino_on w p n) taken.rest in
    let es = zip (got_at w p n max_bytes max_fds) taken.attached in
    then-again w left (install_all left p es)
    (changed-again w (ino_on w p n) (λ x. record x {
      queue =
          taken.rest;
    })) (installed-again left p es)
effect-again w p (step.Peek n max_bytes max_fds) =
    installed-again w p (zip (got_at w p n max_bytes max_fds) (taken_on w p n max_bytes).attached)
effect-again w p (step.Limit n) = none-again w
effect-again w p (step.Shutdown n how) =
    let f = ino_on w p n in
    let q = connected_to (socket_on w p n).state in
    let own = with_socket w f (shut (closes_input how) (closes_output how)) in
    then-again w own (with_socket own q (shut (closes_output how) (closes_input how)))
    (changed-again w f _) (changed-again own q _)
effect-again w p (step.Unconnect n) = changed-again w (ino_on w p n) (aimed 0)

-- Freed files.
settled-again : (mid new : World) → Settles mid new → GivesNoneAgain mid new
settled-again mid new s = record {
  given = let same = ap (λ w. w.next_ino) s.2 in omega (arith, same);
  gone = λ q low l. (stays _ _ (sym (live-without s.0 mid q) ∙ ap (λ w. is_live w q) (sym s.2)
      ∙ l)).1;
}

-- Emptied files, and then others freed.
purged-again : (test : ℕ → Bool) (old new : World) → Purges test old new → GivesNoneAgain old new
purged-again test old new purged =
    then-again old (emptied test old) new (record {
      given = omega arith;
      gone =
          λ q low l. sym (live-emptied test old q) ∙ l;
    }) (settled-again (emptied test old) new purged)

-- A process that starts.
spawned-again : (w : World) (uid nofile : ℕ) (privileged : Bool)
    → GivesNoneAgain w (spawned w uid nofile privileged)
spawned-again w uid nofile privileged = by (list_any (nat_eq uid) w.users) where
  made : World
  made = add_process w (record {
    user = uid;
    limit = nofile;
    privileged = privileged;
    table =
        map.empty;
  })

  by : (b : Bool)
      → GivesNoneAgain w (if b then made else record made { users = made.users ++ uid ∷ [] })
  by true = record { given = omega arith; gone = λ q low l. l }
  by false = record { given = omega arith; gone = λ q low l. l }

module _ (old new : Machine) (r : Reply) where
  -- Where the machine stays.
  same-again : new ≡ old → GivesNoneAgain old.world new.world
  same-again e = subst (λ (m : Machine). GivesNoneAgain old.world m.world) (sym e)
      (none-again old.world)

  begun-again : (p : Pass) → Begins p old r new → GivesNoneAgain old.world new.world
  begun-again Idle h = subst (λ (m : Machine). GivesNoneAgain old.world m.world) (sym h.1)
      (none-again old.world)
  begun-again (Running begun spent) h = same-again h.1

  sliced-again : (p : Pass) (b : ℕ) → GoesOn p old b r new → GivesNoneAgain old.world new.world
  sliced-again Idle b h = same-again h.1
  sliced-again (Running begun spent) b h = elim (slice-by begun spent b old new r h) [
    | inl refused ↦ same-again refused.1
    | inr made ↦ purged-again _ old.world new.world made.0.purged
  ]

  passed-again : (p : Pass) → PassesWhole p old r new → GivesNoneAgain old.world new.world
  passed-again Idle h = purged-again h.0.test old.world new.world h.0.purged
  passed-again (Running begun spent) h = same-again h.1

  -- Each event.
  event-again : (e : Event) → MachineStep old e r new → GivesNoneAgain old.world new.world
  event-again (event.Spawn uid nofile privileged) h =
      let now = spawned old.world uid nofile privileged in
      outcome_keeps (GivesNoneAgain old.world) (spawn_refusal old.world nofile) false
      (reply.Pid old.world.next_pid) now old.world r new.world (none-again old.world)
      (λ none t. then-again old.world now new.world
      (spawned-again old.world uid nofile privileged) (settled-again now new.world t)) h.0
  event-again (event.Proc p s) h =
      let now = effect old.world p s in
      outcome_keeps (GivesNoneAgain old.world) (refusal old.world p s) (needs_no_memory s)
      (answer old.world p s) now old.world r new.world (none-again old.world)
      (λ none t. then-again old.world now new.world (effect-again old.world p s)
      (settled-again now new.world t)) h.0
  event-again event.Begin h = begun-again old.pass h
  event-again (event.Slice b) h = sliced-again old.pass b h
  event-again event.Pass h = passed-again old.pass h

-- A run, which leads from a sound world to one.
run-again : (old new : Machine) (log : List RunEntry) → IsSound old.world → Run old log new
    → IsSound new.world × GivesNoneAgain old.world new.world
run-again old new [] sound run =
    (subst (λ (m : Machine). IsSound m.world) (sym run) sound, same-again old new reply.Ok run)
run-again old new (e ∷ log) sound run =
    let rest = run-again run.0 new log (events_keep_sound old run.0 e.0 e.1 sound run.1) run.2 in (
      rest.0,
      then-again old.world run.0.world new.world (event-again old run.0 e.1 e.0 run.1)
          rest.1,
    )

-- A send to a target that is not live is refused.
refused-there : (w : World) (q : ℕ) → IsWhole w → is_live w q ≡ false
    → (p n f : ℕ) (bytes attach : List ℕ) (s : Socket) → table_at w p n ≡ Some f
    → socket_at w f ≡ Some s → s.state ≡ state.Sends q → s.ends.no_output ≡ false
    → first_fit (on_parts (table_at w p) bytes attach) ≡ None
    → refusal w p (step.Send n bytes attach) ≡ Some ECONNREFUSED
refused-there w q whole gone p n f bytes attach s stands is sends up valid =
    left w p n f s stands is (λ x. on_parts (table_at w p) bytes attach ++ on_peer x
    ++ on_target (ino_on w p n) (socket_at w (peer_of x.state)) ++ last x)
    ∙ passes-on (on_parts (table_at w p) bytes attach) (on_peer s
    ++ on_target (ino_on w p n) (socket_at w (peer_of s.state)) ++ last s) valid
    ∙ (λ i. first_fit ((
      not (is_connected (sends i) || is_datagram s.kind),
      ENOTCONN,
    ) ∷ (is_hung_up (sends i) || up i, EPIPE) ∷ (
      nat_eq (peer_of (sends i)) 0,
      ENOTCONN,
    ) ∷ on_target (ino_on w p n) (socket_at w (peer_of (sends i))) ++ last s))
    ∙ (λ i. first_fit ((not (datagram i), ENOTCONN) ∷ (
      some i,
      ENOTCONN,
    ) ∷ on_target (ino_on w p n) (nobody i) ++ last s)) where
      -- The later tests.
      last : Socket → RefusalRow
      last x =
          let user = process_at w p in
          let to = peer_of x.state in
          on_charge (charged w user.user) (total w) user.limit user.privileged (length attach)
          ++ on_input (is_deaf w to) ++ on_room (queue_at w to)

      datagram : is_datagram s.kind ≡ true
      datagram = ap (fits_type s.kind) (sym sends) ∙ whole.types f s is

      some : nat_eq q 0 ≡ false
      some =
          let at = whole.targets f q (state-there w f (AsSocket s) (file_of_socket w f s is)
          ∙ sends) in
          let high = at.0 in
          told_apart q 0 (λ none. omega (arith, none, high))

      nobody : socket_at w q ≡ None
      nobody = by (map.get w.files q) gone where
        by : (o : Option File) → is_some o ≡ false → option_and_then socket_of o ≡ None
        by None e = refl
        by (Some x) e = absurd (false≢true (sym e))

pub a_freed_target_stays : AFreedTargetStays
a_freed_target_stays old new log q sound low gone run =
    let led = run-again old new log sound run in
    let none : ¬ (is_live new.world q ≡ true) = λ l. gone (led.1.gone q low l) in
    record { gone = none; refused = refused-there new.world q led.0.whole (never none) } where
      never : {b : Bool} → ¬ (b ≡ true) → b ≡ false
      never {b = true} n = absurd (n refl)
      never {b = false} n = refl
