-- A socket that is made, named, listens, is connected, accepted or sent to: the store stays exact.
use Rattle.std.proofs.Common.{◌≡◌, ◌<◌, ◌≤◌, ◌+◌, ℕ, Bool, false, [], length, refl, sym, ap, ◌∙◌, subst, true, List, arith, cond, nat_eq, ◌∷◌, drop}
use Rattle.std.specs.Prelude.{Option, Some, None, IsTrue, is_none, unwrap_or, IfSome}
use Rattle.std.specs.FinMap as map
use Rattle.std.specs.List.{Contains, sum_by}
use Rattle.std.specs.Option.{option_and_then, option_map_or}
use Rattle.std.proofs.lemmas.Bool.{false≢true}
use Rattle.std.proofs.lemmas.List.{nil_from_length}
use Rattle.af_base.specs.declared.limits.TheConstants.{MAX_INFLIGHT, MAX_MESSAGES, MAX_BACKLOG}
use Rattle.af_base.specs.World.{AsSocket, File, IsLive, Message, Plain, World, Socket}
use Rattle.af_base.specs.Changes.{push_message, add_file, file_with, listening, shut, with_name, with_socket, connected, queued, dequeued, install}
use Rattle.af_base.specs.Counts.{total, charge, count_in, total_of, waiting}
use Rattle.af_base.specs.Places.{queue_at, queue_of, attached_in, backlog_at}
use Rattle.af_base.specs.Refusals.{no_socket, socket_at, socket_of, is_datagram, is_full, room_of}
use Rattle.af_base.specs.Whole.{IsMessageWithin, IsWhole, IsWithin}
use Rattle.af_base.specs.declared.events.SockType.{SockType}
use Rattle.af_base.specs.declared.events.State.TheVariants as state
use Rattle.af_base.specs.Names.{is_name, named, set_of}
use Rattle.af_base.specs.Steps.{idle_socket, connected_socket}
use Rattle.af_base.proofs.Connections.{whole-bound, whole-listening, whole-shut, within-bound, within-listening, within-shut, whole-made, whole-queued, within-made, within-queued, live-embryo}
use Rattle.af_base.proofs.Embryos.{waiting-changed, waiting-queued}
use Rattle.af_base.proofs.PlaceMoves.{live-changed, total-changed}
use Rattle.af_base.proofs.SocketNames.{named-none}
use Rattle.af_base.proofs.BlankFiles.{blank-idle, whole-blank, within-blank}
use Rattle.af_base.proofs.Trees.{insert_same}
use Rattle.af_base.proofs.NewFiles.{fresh_file}
use Rattle.af_base.proofs.Elements.{Contains-first}
use Rattle.af_ledger.specs.Tally.{CanHoldAll, Tally, is_user, with_refs, with_ref, without_ref}
use Rattle.af_ledger.specs.declared.place.Place.TheVariants.{Queue, Backlog, Table}
use Rattle.af_ledger.specs.Counted.{uncounted}
use Rattle.af_ledger.proofs.Laws.{has-entered, has-held, inflight-backlogged, tabled-backlogged, waiting-backlogged}
use Rattle.af_collect.specs.Agreement.{Agrees, IsExact}
use Rattle.af_collect.specs.Limits.{IsOfProcess}
use Rattle.af_collect.proofs.Bounds.{can-hold-all}
use Rattle.af_collect.proofs.Exact.{CanInstall, exact-opened, exact-push, exact-made, live-added, next-new, exact-dequeued, agrees-entered, agrees-new_file}
use Rattle.af_collect.proofs.LossOutcomes.{first-embryo}

-- A file that is known and not plain is a socket.
pub is-socket : (w : World) (s : ℕ) → is_none (socket_at w s) ≡ false → map.get w.files s ≡ Some (AsSocket (unwrap_or (socket_at w s) no_socket))
is-socket w s = by (map.get w.files s) refl where
  by : (o : Option File) → map.get w.files s ≡ o → is_none (option_and_then socket_of o) ≡ false → map.get w.files s ≡ Some (AsSocket (unwrap_or (socket_at w s) no_socket))
  by None e d = absurd (false≢true (sym d))
  by (Some Plain) e d = absurd (false≢true (sym d))
  by (Some (AsSocket x)) e d = e ∙ sym (ap (λ o. Some (AsSocket (unwrap_or (option_and_then socket_of o) no_socket))) e)

-- The user of a process is kept.
known-sender : (w : World) (u : ℕ) (k : Tally) → IsOfProcess w u → Agrees w k → IsTrue (is_user u k.users)
known-sender w u k sender agrees = subst (λ v. IsTrue (is_user v k.users)) (sym sender.2) (agrees.known sender.0 _ sender.1)

-- A message that may be put: what contracts say of the shown world (v) holds of its equal (w).
module _ (w v : World) (same : w ≡ v) (k : Tally) (m : Message) (h : IsExact w k) (user : IsOfProcess v m.user) (flying : total v + length m.attached ≤ MAX_INFLIGHT) (live : (f : ℕ) → Contains m.attached f → IsLive v f) where
  -- With it at most the limit is in flight.
  flies : total w + length m.attached ≤ MAX_INFLIGHT
  flies = subst (λ x. total x + length m.attached ≤ MAX_INFLIGHT) (sym same) flying

  -- Its user is kept.
  sends : IsTrue (is_user m.user k.users)
  sends = known-sender w m.user k (subst (λ x. IsOfProcess x m.user) (sym same) user) h.agrees

  -- Its files are live.
  lives : (f : ℕ) → Contains m.attached f → IsLive w f
  lives f c = subst (λ x. IsLive x f) (sym same) (live f c)

  -- Its places can be counted and charged.
  pub can-put : CanHoldAll m.user m.attached k
  can-put = can-hold-all w m k h.within flies sends (λ f c. h.counted f ∙ lives f c) h.agrees

  -- And all is exact with it.
  pub exact-put : (s : ℕ) → is_none (socket_at v s) ≡ false → length (queue_at v s) < MAX_MESSAGES → IsMessageWithin m → IsExact (push_message w s m) (with_refs (Queue m.user) m.attached k)
  exact-put s socket few fits =
      let at = is-socket w s (subst (λ x. is_none (socket_at x s) ≡ false) (sym same) socket) in
      let room = subst (λ o. length (option_map_or queue_of o []) < MAX_MESSAGES) at (subst (λ x. length (queue_at x s) < MAX_MESSAGES) (sym same) few) in
      exact-push w s m (unwrap_or (socket_at w s) no_socket) k at sends lives fits room flies h

-- ---- sockets that are made, named and connected

-- A socket more that was never connected, which waits.
pub exact-idle : (w : World) (kind : SockType) (k : Tally) → is_full w 1 ≡ false → IsExact w k
    → IsExact (add_file w (AsSocket (idle_socket kind))) (record k { counts = map.insert k.counts w.next_ino uncounted })
exact-idle w kind k fits h = exact-made w (AsSocket (idle_socket kind)) k refl refl (whole-blank w (AsSocket (idle_socket kind)) (blank-idle kind) refl h.whole) (within-blank w (idle_socket kind) h.within fits refl refl refl refl) h

-- A change of a socket.
module _ (w : World) (s : ℕ) (g : Socket → Socket) where
  -- The world where this is found.
  abbrev found : Option File → World
  found o = record w { files = option_map_or (λ y. map.insert w.files s (file_with g y)) o w.files }

  -- It leaves the queue and the backlog as they are.
  module _ (queue : (x : Socket) → (g x).queue ≡ x.queue) (backlog : (x : Socket) → (g x).backlog ≡ x.backlog) (k : Tally) where
    -- Sums over queues stay.
    same_queues : (F : List Message → ℕ) → total_of (λ y. F (queue_of y)) (with_socket w s g).files ≡ total_of (λ y. F (queue_of y)) w.files
    same_queues F = total-changed (λ y. F (queue_of y)) w s g (λ x. ap F (queue x))

    -- So each number that is kept stays right.
    pub agrees-altered : Agrees w k → Agrees (with_socket w s g) k
    agrees-altered a = record {
      tabled = a.tabled;
      inflight = λ f. a.inflight f ∙ sym (same_queues (λ q. count_in f (attached_in q)));
      waiting = λ f. a.waiting f ∙ sym (waiting-changed w s g backlog f);
      charged = λ u. a.charged u ∙ sym (same_queues (sum_by (charge u)));
      total = a.total ∙ sym (same_queues (sum_by (λ m. length m.attached)));
      known = a.known;
    }

    -- And all is exact, where the world stays whole and within the limits.
    pub exact-altered : ((x : Socket) → map.get w.files s ≡ Some (AsSocket x) → IsWhole (with_socket w s g) × IsWithin (with_socket w s g)) → IsExact w k → IsExact (with_socket w s g) k
    exact-altered kept h = by (map.get w.files s) refl where
      by : (o : Option File) → map.get w.files s ≡ o → IsExact (with_socket w s g) k
      by None e = subst (λ v. IsExact v k) (sym (ap found e)) h
      by (Some Plain) e = subst (λ v. IsExact v k) (sym (ap found e ∙ ap (λ fs. record w { files = fs }) (insert_same w.files s Plain e))) h
      by (Some (AsSocket x)) e =
          let fits = kept x e in
          record {
            whole = fits.0;
            within = fits.1;
            agrees = agrees-altered h.agrees;
            counted = λ f. h.counted f ∙ sym (live-changed w s g f);
          }

-- The socket of a number is the one of its row.
pub if-there : (P : Socket → Type 0) (w : World) (s : ℕ) (x : Socket) → map.get w.files s
    ≡ Some (AsSocket x) → IfSome (socket_at w s) P → P x
if-there P w s x at h = subst (λ o. IfSome (option_and_then socket_of o) P) at h

-- A socket that got a name that nobody had in its set.
pub exact-bound : (w : World) (s : ℕ) (name : List ℕ) (k : Tally) → is_name name ≡ true
    → IfSome (socket_at w s) (λ x. named w.files (set_of x.kind) name ≡ None) → IsExact w k
    → IsExact (with_socket w s (with_name name)) k
exact-bound w s name k fits free h = exact-altered w s (with_name name) (λ x. refl) (λ x. refl) k (λ x at.
    let none = if-there (λ x. named w.files (set_of x.kind) name ≡ None) w s x at free in
    (whole-bound w s name x at (named-none w (set_of x.kind) name none) h.whole, within-bound w s name x h.within at fits)) h

-- A socket for connections that was never connected, and listens now.
pub exact-listening : (w : World) (s b : ℕ) (k : Tally)
    → IfSome (socket_at w s) (λ x. is_datagram x.kind ≡ false)
    → IfSome (socket_at w s) (λ x. x.state ≡ state.Idle) → 1 ≤ b → b ≤ MAX_BACKLOG → IsExact w k
    → IsExact (with_socket w s (listening b)) k
exact-listening w s b k stream idle some few h =
    exact-altered w s (listening b) (λ x. refl) (λ x. refl) k (λ x at.
    let alone = if-there (λ y. y.state ≡ state.Idle) w s x at idle in (
      whole-listening w s b x at (if-there (λ y. is_datagram y.kind
          ≡ false) w s x at stream) alone h.whole,
      within-listening w s b x h.within at alone some few,
    )) h

-- A socket whose ends are closed.
pub exact-shut : (w : World) (s : ℕ) (input output : Bool) (k : Tally) → IsExact w k → IsExact (with_socket w s (shut input output)) k
exact-shut w s input output k h = exact-altered w s (shut input output) (λ x. refl) (λ x. refl) k (λ x at. (whole-shut w s input output h.whole, within-shut w s input output h.within)) h

-- Nobody waits at a socket that was never connected.
pub idle-alone : (w : World) (s : ℕ) → IsWithin w → IfSome (socket_at w s) (λ x. x.state ≡ state.Idle) → IfSome (socket_at w s) (λ x. x.backlog ≡ [])
idle-alone w s k = by (map.get w.files s) refl where
  by : (o : Option File) → map.get w.files s ≡ o → IfSome (option_and_then socket_of o) (λ x. x.state ≡ state.Idle) → IfSome (option_and_then socket_of o) (λ x. x.backlog ≡ [])
  by None e h = tt
  by (Some Plain) e h = tt
  by (Some (AsSocket x)) e h =
      let none : room_of x.state ≡ 0 = ap room_of h in
      nil_from_length x.backlog (omega (arith, none, (k.sockets s x e).backlog))

-- An embryo more, which waits for its place in a backlog, and the client that is connected to it.
pub exact-embryo : (w : World) (c : ℕ) (kind : SockType) (x : Socket) (k : Tally)
    → map.get w.files c ≡ Some (AsSocket x) → is_datagram x.kind ≡ false → x.state ≡ state.Idle
    → is_datagram kind ≡ false → is_full w 1 ≡ false → IsExact w k
    → IsExact (with_socket (add_file w (AsSocket (connected_socket kind c))) c (connected w.next_ino)) (record k { counts = map.insert k.counts w.next_ino uncounted })
exact-embryo w c kind x k at client idle stream fits h =
    let n = w.next_ino in
    let embryo = AsSocket (connected_socket kind c) in
    let base = add_file w embryo in
    let grown : Tally = record k { counts = map.insert k.counts n uncounted } in
    let stranger = next-new w k n h (omega arith) in
    let more = agrees-new_file w embryo k (fresh_file w n h.whole (omega arith)) refl refl h.agrees in
    record {
      whole = whole-made w c kind x h.whole at idle client stream;
      within = within-made w c kind x h.whole at idle h.within fits;
      agrees = agrees-altered base c (connected n) (λ y. refl) (λ y. refl) grown (agrees-entered base n k stranger more);
      counted = λ g. has-entered k n g ∙ ap (cond (nat_eq g n) true) (h.counted g) ∙ sym (live-added w embryo g) ∙ sym (live-changed base c (connected n) g);
    }

-- An embryo more in a backlog is a place more there.
agrees-queued : (w : World) (s n : ℕ) (x : Socket) (k : Tally) → map.get w.files s ≡ Some (AsSocket x) → Agrees w k → Agrees (with_socket w s (queued n)) (with_ref Backlog n k)
agrees-queued w s n x k at a = record {
  tabled = λ g. tabled-backlogged n g k ∙ a.tabled g;
  inflight = λ g. inflight-backlogged n g k ∙ a.inflight g ∙ sym (total-changed (λ y. count_in g (attached_in (queue_of y))) w s (queued n) (λ y. refl));
  waiting = λ g. omega (arith, waiting-backlogged n g k, waiting-queued w s n x at g, a.waiting g);
  charged = λ u. a.charged u ∙ sym (total-changed (λ y. sum_by (charge u) (queue_of y)) w s (queued n) (λ y. refl));
  total = a.total ∙ sym (total-changed (λ y. sum_by (λ m. length m.attached) (queue_of y)) w s (queued n) (λ y. refl));
  known = a.known;
}

-- A live file that waits nowhere comes into a backlog that has room for it.
pub exact-queued : (w : World) (s n : ℕ) (x : Socket) (k : Tally) → map.get w.files s ≡ Some (AsSocket x) → IsLive w n → waiting w n ≡ 0 → length x.backlog < room_of x.state → IsExact w k → IsExact (with_socket w s (queued n)) (with_ref Backlog n k)
exact-queued w s n x k at live none room h = record {
  whole = whole-queued w s n x at live none h.whole;
  within = within-queued w s n x h.within at room;
  agrees = agrees-queued w s n x k at h.agrees;
  counted = λ g. has-held Backlog n g k (h.counted n ∙ live) ∙ h.counted g ∙ sym (live-changed w s (queued n) g);
}

-- The listener whose first embryo was taken out of its backlog.
pub embryo-taken : (w : World) (s f : ℕ) (o : Option ℕ) → o ≡ Some f → IfSome o (λ g. backlog_at w s ≡ g ∷ drop 1 (backlog_at w s)) → (x : Socket) × (map.get w.files s ≡ Some (AsSocket x)) × (x.backlog ≡ f ∷ drop 1 x.backlog)
embryo-taken w s f o is some = first-embryo w s f (subst (λ o. IfSome o (λ g. backlog_at w s ≡ g ∷ drop 1 (backlog_at w s))) is some)

module _ (w : World) (s f : ℕ) (x : Socket) (k : Tally) (at : map.get w.files s ≡ Some (AsSocket x)) (first : x.backlog ≡ f ∷ drop 1 x.backlog) (h : IsExact w k) where
  -- The first embryo is live.
  live-first : IsLive w f
  live-first = live-embryo w s f x h.whole at (subst (λ xs. Contains xs f) (sym first) (Contains-first f (drop 1 x.backlog)))

  -- It comes into the table, at a free number, and leaves the backlog.
  pub exact-accepted : (p n : ℕ) → CanInstall w p n → IsExact (install (with_socket w s dequeued) p n f) (without_ref Backlog f (with_ref Table f k))
  exact-accepted p n can = exact-dequeued (install w p n f) s f x (with_ref Table f k) at first (exact-opened w p n f k can live-first h)
