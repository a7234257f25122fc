-- Changes keep a world within the limits.
use Rattle.std.proofs.Common.{◌≡◌, ◌<◌, ◌≤◌, ℕ, ◌+◌, Bool, true, false, ◌||◌, inl, inr, List, [], ◌∷◌, ◌++◌, length, refl, sym, ap, ◌∙◌, subst, cond, nat_eq, arith, length-append}
use Rattle.std.specs.Prelude.{Option, Some, None, is_some, if◌then◌else◌}
use Rattle.std.specs.Option.{option_map_or}
use Rattle.std.specs.List.{Contains, list_any, sum_by}
use Rattle.std.specs.Ordering.{nat_cmp}
use Rattle.std.specs.FinMap as map
use Rattle.std.proofs.lemmas.Bool.{false≢true, leb-false, ltb-false}
use Rattle.std.proofs.lemmas.List.Elements.{Contains-push_cases}
use Rattle.std.proofs.lemmas.List.Sums.{sum_by-cons, sum_by_push}
use Rattle.af_base.specs.declared.events.SockType.{SockType}
use Rattle.af_base.specs.declared.events.SockType.TheVariants.{Dgram, Seqpacket, Stream}
use Rattle.af_base.specs.declared.events.State.{State}
use Rattle.af_base.specs.declared.events.State.TheVariants as state
use Rattle.af_base.specs.declared.limits.TheConstants.{MAX_PROCESSES, MAX_NOFILE, MAX_FILES, MAX_MESSAGES, MAX_BACKLOG, MAX_INFLIGHT, MAX_PID, MAX_INO}
use Rattle.af_base.specs.World.{AsSocket, File, Map, Message, Plain, Process, Socket, World}
use Rattle.af_base.specs.Places.{attached_in, queue_of}
use Rattle.af_base.specs.Counts.{total, total_of}
use Rattle.af_base.specs.Unheld.{Settles, file_without, state_without, without}
use Rattle.af_base.specs.Changes.{add_file, add_process, add_user, change_at, file_with, install, push_message, uninstall, with_queue, with_socket}
use Rattle.af_base.specs.Refusals.{is_at_process_limit, is_full, is_listening, room_of, socket_of}
use Rattle.af_base.specs.Steps.{paired_socket, paired_state, spawned, with_pair}
use Rattle.af_base.specs.Whole.{IsMessageWithin, IsProcessWithin, IsSocketWithin, IsWithin}
use Rattle.af_base.proofs.FreedCounts.{same_queue, without-was}
use Rattle.af_base.proofs.Elements.{Contains-none}
use Rattle.af_base.proofs.Lookups.{changed-was, insert-here, insert-other, none_some, remove-here, remove-other, same_or_not, some_same}
use Rattle.af_base.proofs.Sums.{total-change_at, total-insert}
use Rattle.af_base.proofs.ReceivedFiles.{Leaves}
use Rattle.af_base.proofs.Totals.{total-below, total-count}

-- A value changed leaves as many as there were.
pub len-change_at : {X : Type 0} (g : X → X) (m : Map X) (k : ℕ) → map.len (change_at g m k) ≡ map.len m
len-change_at {X = X} g m k = by (map.get m k) refl where
  by : (o : Option X) → map.get m k ≡ o → map.len (change_at g m k) ≡ map.len m
  by None e = ap (λ o. map.len (option_map_or (λ x. map.insert m k (g x)) o m)) e
  by (Some x) e = omega (arith, total-change_at (λ y. 1) g m k x e, total-count m, total-count (change_at g m k))

-- A value put in makes one more at most.
pub len-insert_most : {X : Type 0} (m : Map X) (k : ℕ) (v : X) → map.len (map.insert m k v) ≤ map.len m + 1
len-insert_most m k v = omega (arith, total-insert (λ y. 1) m k v, total-count m, total-count (map.insert m k v))

-- A socket is a file in one way.
pub socket_same : (x y : Socket) → AsSocket x ≡ AsSocket y → x ≡ y
socket_same x y e = some_same x y (ap socket_of e)

-- A number below the limit of a process is below the largest limit.
pub below-most : (w : World) (p n : ℕ) (q : Process) → IsWithin w → map.get w.processes p ≡ Some q → n < q.limit → n < MAX_NOFILE
below-most w p n q k at low = let fits = k.processes p q at in let most = fits.limit in omega (arith, low, most)

-- A number taken into use, below the largest limit.
pub within-install : (w : World) (p n f : ℕ) → IsWithin w → n < MAX_NOFILE → IsWithin (install w p n f)
within-install w p n f k low = record {
  process_count = let same = len-change_at install_here w.processes p in let few = k.process_count in omega (arith, same, few);
  file_count = k.file_count;
  flying = k.flying;
  pids = k.pids;
  inos = k.inos;
  processes = λ r y is.
      let was = changed-was install_here w.processes p r y is in
      let before = k.processes r was.0 was.1 in
      elim was.2 [
        | inl z ↦ subst IsProcessWithin (sym z.1) (record {
          limit = before.limit;
          numbers = λ m l. elim (same_or_not m n) [
            | inl same ↦ omega (arith, same, low)
            | inr apart ↦ before.numbers m (ap is_some (sym (insert-other was.0.table n f m apart)) ∙ l)
          ];
        })
        | inr z ↦ subst IsProcessWithin (sym z) before
      ];
  sockets = k.sockets;
} where
  install_here : Process → Process
  install_here q = record q { table = map.insert q.table n f }

-- A number given up.
pub within-uninstall : (w : World) (p n : ℕ) → IsWithin w → IsWithin (uninstall w p n)
within-uninstall w p n k = record {
  process_count = let same = len-change_at remove_here w.processes p in let few = k.process_count in omega (arith, same, few);
  file_count = k.file_count;
  flying = k.flying;
  pids = k.pids;
  inos = k.inos;
  processes = λ r y is.
      let was = changed-was remove_here w.processes p r y is in
      let before = k.processes r was.0 was.1 in
      elim was.2 [
        | inl z ↦ subst IsProcessWithin (sym z.1) (record {
          limit = before.limit;
          numbers = λ m l. elim (same_or_not m n) [
            | inl same ↦ absurd (false≢true (sym (ap is_some (ap (map.get (map.remove was.0.table n)) same ∙ remove-here was.0.table n)) ∙ l))
            | inr apart ↦ before.numbers m (ap is_some (sym (remove-other was.0.table n m apart)) ∙ l)
          ];
        })
        | inr z ↦ subst IsProcessWithin (sym z) before
      ];
  sockets = k.sockets;
} where
  remove_here : Process → Process
  remove_here q = record q { table = map.remove q.table n }

-- A socket changed within its limits, and the queue places of all within theirs.
pub within-changed : (w : World) (s : ℕ) (g : Socket → Socket) → IsWithin w → ((x : Socket) → map.get w.files s ≡ Some (AsSocket x) → IsSocketWithin (g x)) → total (with_socket w s g) ≤ MAX_INFLIGHT → IsWithin (with_socket w s g)
within-changed w s g k fits few = record {
  process_count = k.process_count;
  file_count = let same = len-change_at (file_with g) w.files s in let most = k.file_count in omega (arith, same, most);
  flying = few;
  pids = k.pids;
  inos = k.inos;
  processes = k.processes;
  sockets = λ f y is.
      let was = changed-was (file_with g) w.files s f (AsSocket y) is in
      elim was.2 [
        | inl z ↦ by y was.0 (ap (map.get w.files) (sym z.0) ∙ was.1) z.1
        | inr z ↦ k.sockets f y (was.1 ∙ ap Some (sym z))
      ];
} where
  by : (y : Socket) (x : File) → map.get w.files s ≡ Some x → AsSocket y ≡ file_with g x → IsSocketWithin y
  by y Plain e d = absurd (none_some y (sym (ap socket_of d)))
  by y (AsSocket x) e d = subst IsSocketWithin (sym (socket_same y (g x) d)) (fits x e)

-- The queue places of a message come with it.
pub total-push : (w : World) (s : ℕ) (m : Message) (x : Socket) → map.get w.files s ≡ Some (AsSocket x) → total (push_message w s m) ≡ total w + length m.attached
total-push w s m x at =
    let places : File → ℕ = λ y. sum_by (λ n. length n.attached) (queue_of y) in
    let longer : sum_by (λ n. length n.attached) (x.queue ++ m ∷ []) ≡ sum_by (λ n. length n.attached) x.queue + length m.attached = sum_by_push (λ n. length n.attached) x.queue m in
    omega (arith, longer, total-change_at places (file_with (λ x. record x { queue = x.queue ++ m ∷ [] })) w.files s (AsSocket x) at)

-- A queue has as many places as files are attached there.
sum-carried : (q : List Message) → sum_by (λ n. length n.attached) q ≡ length (attached_in q)
sum-carried [] = refl
sum-carried (m ∷ q) = omega (arith, sum-carried q, sum_by-cons (λ n. length n.attached) m q, length-append m.attached (attached_in q))

-- The queue places of files that are taken go with them.
pub total-left : (w : World) (s : ℕ) (x : Socket) (fs : List ℕ) (rest : List Message) → map.get w.files s ≡ Some (AsSocket x) → Leaves x.queue fs rest → total (with_queue w s rest) + length fs ≡ total w
total-left w s x fs rest at left =
    let places : File → ℕ = λ y. sum_by (λ n. length n.attached) (queue_of y) in
    let all : length fs + length (attached_in rest) ≡ length (attached_in x.queue) = sym (length-append fs (attached_in rest)) ∙ ap length left.carried in
    omega (arith, all, sum-carried x.queue, sum-carried rest, total-change_at places (file_with (λ x. record x { queue = rest })) w.files s (AsSocket x) at)

-- A message put into a queue that has room, and that leaves room for its files.
pub within-push : (w : World) (s : ℕ) (m : Message) (x : Socket) → IsWithin w → map.get w.files s ≡ Some (AsSocket x) → IsMessageWithin m → length x.queue < MAX_MESSAGES → total w + length m.attached ≤ MAX_INFLIGHT → IsWithin (push_message w s m)
within-push w s m x k at fits room few = within-changed w s (λ y. record y { queue = y.queue ++ m ∷ [] }) k (λ y is.
    let same : x ≡ y = socket_same x y (some_same _ _ (sym at ∙ is)) in
    let before = k.sockets s y is in
    let long = length-append y.queue (m ∷ []) in
    record {
      queue = let low : length y.queue < MAX_MESSAGES = subst (λ z. length z.queue < MAX_MESSAGES) same room in omega (arith, long, low);
      least = before.least;
      room = before.room;
      backlog = before.backlog;
      name = before.name;
      messages = λ n h. elim (Contains-push_cases y.queue m n h) [ inl z ↦ before.messages n z | inr z ↦ subst IsMessageWithin z fits ];
    }) (omega (arith, few, total-push w s m x at))

-- These files taken out of a queue.
pub within-left : (w : World) (s : ℕ) (x : Socket) (fs : List ℕ) (rest : List Message) → IsWithin w → map.get w.files s ≡ Some (AsSocket x) → Leaves x.queue fs rest → IsWithin (with_queue w s rest)
within-left w s x fs rest k at left = within-changed w s (λ y. record y { queue = rest }) k (λ y e.
    let same : y.queue ≡ x.queue = ap (λ z. z.queue) (socket_same y x (some_same _ _ (sym e ∙ at))) in
    let before = k.sockets s y e in
    let fewer = left.fewer in
    record {
      queue = let low = before.queue in omega (arith, low, fewer, ap length same);
      least = before.least;
      room = before.room;
      backlog = before.backlog;
      name = before.name;
      messages = left.within;
    }) (let most = k.flying in omega (arith, most, total-left w s x fs rest at left))

-- One user more in the list.
pub within-add_user : (w : World) (u : ℕ) → IsWithin w → IsWithin (add_user w u)
within-add_user w u k = by (list_any (nat_eq u) w.users) where
  by : (b : Bool) → IsWithin (if b then w else record w { users = w.users ++ u ∷ [] })
  by true = k
  by false = record { process_count = k.process_count; file_count = k.file_count; flying = k.flying; pids = k.pids; inos = k.inos; processes = k.processes; sockets = k.sockets }

-- Where none of two tests fits, neither does.
pub neither : (a b : Bool) → (a || b) ≡ false → (a ≡ false) × (b ≡ false)
neither true b e = absurd (false≢true (sym e))
neither false b e = (refl, e)

-- Where a process fits, it fits.
pub within-add_process : (w : World) (q : Process) → IsWithin w → is_at_process_limit w ≡ false → IsProcessWithin q → IsWithin (add_process w q)
within-add_process w q k room fits =
    let parts = neither _ _ room in
    let few = leb-false MAX_PROCESSES (map.len w.processes) parts.0 in
    let low = ltb-false MAX_PID w.next_pid parts.1 in
    let more = len-insert_most w.processes w.next_pid q in
    record {
      process_count = omega (arith, few, more);
      file_count = k.file_count;
      flying = k.flying;
      pids = omega (arith, low);
      inos = k.inos;
      processes = λ p r is. elim (same_or_not p w.next_pid) [
        | inl same ↦ subst IsProcessWithin (some_same q r (sym (insert-here w.processes w.next_pid q) ∙ ap (map.get (map.insert w.processes w.next_pid q)) (sym same) ∙ is)) fits
        | inr apart ↦ k.processes p r (sym (insert-other w.processes w.next_pid q p apart) ∙ is)
      ];
      sockets = k.sockets;
    }

-- A process started, where there is room for one and its limit is not too high.
pub within-spawned : (w : World) (uid nofile : ℕ) (privileged : Bool) → IsWithin w → is_at_process_limit w ≡ false → nofile ≤ MAX_NOFILE → IsWithin (spawned w uid nofile privileged)
within-spawned w uid nofile privileged k room low = within-add_user _ uid (within-add_process w _ k room (record { limit = low; numbers = λ n l. absurd (false≢true (sym (ap is_some (map.get-empty nat_cmp n)) ∙ l)) }))

-- A socket that does not listen has room for no embryo.
pub no_room : (t : State) → is_listening t ≡ false → room_of t ≡ 0
no_room state.Idle e = refl
no_room (state.Listening b) e = absurd (false≢true (sym e))
no_room (state.Connected p) e = refl
no_room state.HungUp e = refl
no_room (state.Sends q) e = refl

-- A socket more with nothing in it, which does not listen and has no name, where there is room for
-- one.
pub within-add_file : (w : World) (s : Socket) → IsWithin w → map.len w.files + 1 ≤ MAX_FILES → w.next_ino ≤ MAX_INO → s.queue ≡ [] → s.backlog ≡ [] → s.name ≡ None → is_listening s.state ≡ false → IsWithin (add_file w (AsSocket s))
within-add_file w s k room low bare none_waits unnamed silent = record {
  process_count = k.process_count;
  file_count = let more = len-insert_most w.files w.next_ino (AsSocket s) in omega (arith, room, more);
  flying =
      let places : File → ℕ = λ y. sum_by (λ n. length n.attached) (queue_of y) in
      let nothing : sum_by (λ n. length n.attached) s.queue ≡ 0 = ap (sum_by (λ n. length n.attached)) bare in
      let most = k.flying in
      omega (arith, nothing, most, total-insert places w.files w.next_ino (AsSocket s));
  pids = k.pids;
  inos = omega (arith, low);
  processes = k.processes;
  sockets = λ f t is. elim (same_or_not f w.next_ino) [
    | inl same ↦ subst IsSocketWithin (socket_same s t (some_same _ _ (sym (insert-here w.files w.next_ino (AsSocket s)) ∙ ap (map.get (map.insert w.files w.next_ino (AsSocket s))) (sym same) ∙ is))) (record {
      queue = let short : length s.queue ≡ 0 = ap length bare in omega (arith, short);
      least = λ l. absurd (false≢true (sym silent ∙ l));
      room = let none = no_room s.state silent in omega (arith, none);
      backlog = let short : length s.backlog ≡ 0 = ap length none_waits in omega (arith, short);
      name = λ name is. absurd (none_some name (sym unnamed ∙ is));
      messages = λ m h. absurd (Contains-none m (subst (λ q. Contains q m) bare h));
    })
    | inr apart ↦ k.sockets f t (sym (insert-other w.files w.next_ino (AsSocket s) f apart) ∙ is)
  ];
}

-- A socket of a pair does not listen.
silent-paired : (kind : SockType) (other : ℕ) → is_listening (paired_state kind other) ≡ false
silent-paired Stream other = refl
silent-paired Seqpacket other = refl
silent-paired Dgram other = refl

-- Two sockets more, where there is room for them.
pub within-pair : (w : World) (kind : SockType) → IsWithin w → is_full w 2 ≡ false → IsWithin (with_pair w kind)
within-pair w kind k room =
    let parts = neither _ _ room in
    let few = ltb-false MAX_FILES (map.len w.files + 2) parts.0 in
    let low = ltb-false (MAX_INO + 1) (w.next_ino + 2) parts.1 in
    let one_more = len-insert_most w.files w.next_ino
    (AsSocket (paired_socket kind (w.next_ino + 1))) in
    within-add_file (add_file w (AsSocket (paired_socket kind (w.next_ino + 1))))
    (paired_socket kind w.next_ino)
    (within-add_file w (paired_socket kind (w.next_ino + 1)) k (omega (arith, few)) (omega (
      arith,
      low,
    )) refl refl refl (silent-paired kind (w.next_ino + 1))) (omega (
      arith,
      few,
      one_more,
    )) (omega (arith, low)) refl refl refl (silent-paired kind w.next_ino)

-- A socket that hung up has no backlog.
same_room : (gone : ℕ → Bool) (t : State) → room_of (state_without gone t) ≡ room_of t
same_room gone state.Idle = refl
same_room gone (state.Listening b) = refl
same_room gone (state.Connected p) = elim (gone p) as (λ b. room_of (cond b state.HungUp (state.Connected p)) ≡ 0) [ true ↦ refl | false ↦ refl ]
same_room gone state.HungUp = refl
same_room gone (state.Sends q) = refl

-- A socket that hangs up did not listen, and does not.
same_listening : (gone : ℕ → Bool) (t : State) → is_listening (state_without gone t) ≡ is_listening t
same_listening gone state.Idle = refl
same_listening gone (state.Listening b) = refl
same_listening gone (state.Connected p) = elim (gone p) as (λ b. is_listening (cond b state.HungUp (state.Connected p)) ≡ false) [ true ↦ refl | false ↦ refl ]
same_listening gone state.HungUp = refl
same_listening gone (state.Sends q) = refl

-- Without some files.
pub within-gone : (gone : ℕ → Bool) (w : World) → IsWithin w → IsWithin (without gone w)
within-gone gone w k = record {
  process_count = k.process_count;
  file_count =
      let fewer = less (λ y. 1) (λ x. refl) in
      let most = k.file_count in
      omega (arith, fewer, most, total-count w.files, total-count (without gone w).files);
  flying =
      let fewer = less (λ y. sum_by (λ m. length m.attached) (queue_of y)) (λ x. ap (sum_by (λ m. length m.attached)) (same_queue gone x)) in
      let most = k.flying in
      omega (arith, fewer, most);
  pids = k.pids;
  inos = k.inos;
  processes = k.processes;
  sockets = λ f s is. let was = without-was gone w f (AsSocket s) is in by f s was.0 was.1 was.3;
} where
  less : (F : File → ℕ) → ((x : File) → F (file_without gone x) ≡ F x) → total_of F (without gone w).files ≤ total_of F w.files
  less F same = total-below F F (without gone w).files w.files (λ f y is.
      let was = without-was gone w f y is in
      let weight : F y ≡ F was.0 = ap F (sym was.3) ∙ same was.0 in
      (was.0, was.1, omega (arith, weight)))

  by : (f : ℕ) (s : Socket) (x : File) → map.get w.files f ≡ Some x → file_without gone x ≡ AsSocket s → IsSocketWithin s
  by f s Plain e d = absurd (none_some s (ap socket_of d))
  by f s (AsSocket t) e d =
      let before = k.sockets f t e in
      subst IsSocketWithin (socket_same _ s d) (record {
        queue = before.queue;
        least = λ l. subst (λ r. 1 ≤ r) (sym (same_room gone t.state)) (before.least (sym (same_listening gone t.state) ∙ l));
        room = subst (λ r. r ≤ MAX_BACKLOG) (sym (same_room gone t.state)) before.room;
        backlog = subst (λ r. length t.backlog ≤ r) (sym (same_room gone t.state)) before.backlog;
        name = before.name;
        messages = before.messages;
      })

-- Without one file.
pub within-without : (w : World) (f : ℕ) → IsWithin w → IsWithin (without (nat_eq f) w)
within-without w f = within-gone (nat_eq f) w

-- A world within the limits, settled, is within them.
pub within-settles : (old new : World) → Settles old new → IsWithin old → IsWithin new
within-settles old new s k = subst IsWithin (sym s.2) (within-gone s.0 old k)
