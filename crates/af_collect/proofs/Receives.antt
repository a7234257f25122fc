-- A receive: its needs, its files that come into the table, and its places in the queue that go.
use Rattle.std.proofs.Common.{◌≡◌, ◌<◌, ℕ, false, not, List, map, sym, ap, subst, ◌≤◌, ◌+◌, ◌^◌, length, ◌∙◌, arith, [], refl}
use Rattle.std.specs.Prelude.{IsTrue, is_none, unwrap_or, Option, Some, None, drop}
use Rattle.std.specs.List.{Contains, zip}
use Rattle.std.specs.FinMap as finmap
use Rattle.std.specs.Option.{option_and_then, option_map_or}
use Rattle.af_base.specs.World.{IsLive, Message, Socket, World, Map, AsSocket, File, Plain}
use Rattle.af_base.specs.Changes.{with_queue, file_with, with_socket}
use Rattle.af_base.specs.Refusals.{no_socket, process_at, socket_at, socket_of}
use Rattle.af_base.specs.Table.{lowest_free}
use Rattle.af_base.proofs.Free.{AreFree, free-lowest_free}
use Rattle.af_base.proofs.SoundSteps.{process-there}
use Rattle.af_base.proofs.StaysWhole.{live-taken}
use Rattle.af_base.specs.declared.limits.TheConstants.{SCM_MAX_FD}
use Rattle.af_base.specs.Places.{queue_at, queue_of}
use Rattle.af_base.specs.Take.{take_from}
use Rattle.af_ledger.specs.Counted.{CountView}
use Rattle.af_ledger.specs.Tally.{CanDropAll, Tally, with_refs, without_refs, count_in_map, kept_of}
use Rattle.af_ledger.specs.declared.place.Place.TheVariants.{Queue, Table}
use Rattle.af_desc.specs.FilesView.{received_of, received_from}
use Rattle.af_collect.specs.Agreement.{IsExact}
use Rattle.af_collect.specs.Receiving.{taken_at, CanReceive}
use Rattle.af_collect.specs.HoldingsView.{filled, AreExact}
use Rattle.af_collect.proofs.Bounds.{can-drop-all, tabled-most}
use Rattle.af_collect.proofs.Exact.{exact-filled, exact-shed}
use Rattle.af_collect.proofs.SocketStates.{is-socket}
use Rattle.af_collect.proofs.Recounts.{Sheds, sheds-taken}
use Rattle.af_collect.specs.Keeping.{NotBegunGarbage, pass_of}
use Rattle.af_collect.specs.StoreView.{StoreView}
use Rattle.af_collect.specs.contracts.holdings.Holdings.{the_view}
use Rattle.af_collect.specs.declared.holdings.Holdings.TheInside.{Inside}
use Rattle.af_collect.specs.declared.store.Store.TheInside.{Inside as StoreInside}
use Rattle.af_collect.proofs.StoreInvariant.{seen-world, shown}

-- The message that a receive hands on.
abbrev pub received_at : World → ℕ → ℕ → Message
received_at w s n = (received_of (socket_at w s) n).message

-- The world and the numbers when its files are in the table.
abbrev pub tabled : World → ℕ → List ℕ → List ℕ → World
tabled w p ns fs = record w { processes = filled w.processes p (zip ns fs) }

-- The counts when its files are counted in the table.
abbrev pub counted : Tally → List ℕ → List ℕ → Tally
counted k ns fs = with_refs Table (map (λ e. e.1) (zip ns fs)) k

module _ (w : World) (s n : ℕ) (k : Tally) (h : IsExact w k) (some : 0 < n) (socket : is_none (socket_at w s) ≡ false) where
  -- The socket that the receive takes from.
  abbrev from : Socket
  from = unwrap_or (socket_at w s) no_socket

  -- The message that it hands on.
  abbrev m : Message
  m = received_at w s n

  -- The messages that it leaves in the queue.
  abbrev rest : List Message
  rest = (taken_at w s n).rest

  -- The queue sheds the message, and the rest is left.
  shed : Sheds from.queue m rest
  shed = sheds-taken from.kind from.queue n some (h.within.sockets s from (is-socket w s socket)).messages

  -- The files that come are live.
  pub received-live : (f : ℕ) → Contains m.attached f → IsLive w f
  received-live = live-taken w s from m.attached rest h.whole (is-socket w s socket) shed.leaves

  -- Its places in the queue can go.
  pub can-drop-received : CanDropAll m.user m.attached k
  can-drop-received = can-drop-all w s m rest from k (is-socket w s socket) shed h.agrees

  module _ (p : ℕ) (ns : List ℕ) (there : IsTrue (finmap.contains_key w.processes p)) (lowest : (j : ℕ) × (ns ≡ lowest_free j (process_at w p))) where
    -- With its files in the table all is exact.
    pub exact-tabled : IsExact (tabled w p ns m.attached) (counted k ns m.attached)
    exact-tabled = exact-filled w p (process_at w p) ns m.attached k (process-there w p (ap not there)) (subst (AreFree (process_at w p)) (sym lowest.1) (free-lowest_free lowest.0 (process_at w p))) received-live h

    -- Without them all is exact.
    pub exact-received : IsExact (with_queue (tabled w p ns m.attached) s rest) (without_refs (Queue m.user) m.attached (counted k ns m.attached))
    exact-received = exact-shed (tabled w p ns m.attached) s m rest from _ (is-socket w s socket) shed exact-tabled

-- ---- the needs of a receive

-- A socket, a process, and its lowest free descriptors (recvmsg(2)).
abbrev pub Receives : World → ℕ → ℕ → List ℕ → Type 0
Receives w s pid fds = (is_none (socket_at w s) ≡ false) × IsTrue (finmap.contains_key w.processes pid) × ((k : ℕ) × (fds ≡ lowest_free k (process_at w pid)))

module _ (p : StoreInside) (h : Inside) (o : StoreView) (opened : the_view h ≡ p.holdings) (seen : shown p p.holdings ≡ o) (s max pid : ℕ) (fds : List ℕ) (asked : CanReceive o s max pid fds) where
  -- The world of the store.
  abbrev w : World
  w = (the_view h).world

  -- All three are there.
  pub receives-within : Receives w s pid fds
  receives-within = subst (λ v. Receives v s pid fds) (seen-world p h o opened seen) (asked.socket, asked.there, asked.free)

  -- The socket is no garbage of a running pass.
  pub spared-within : NotBegunGarbage (pass_of p.progress.stage p.begun.value.world p.progress.looked) s
  spared-within = subst (λ (t : StoreView). NotBegunGarbage t.pass s) (sym seen) asked.spared

  module _ (exact : AreExact h.procs h.files h.ledger) (counts : Map CountView) (same : counts ≡ h.files.counts) (attached : List ℕ) (is : attached ≡ (received_at w s max).attached) where
    -- The received files have counts,
    pub files-known : (f : ℕ) → Contains attached f → IsTrue (finmap.contains_key counts f)
    files-known f among =
        ap (λ m. finmap.contains_key m f) same ∙ exact.counted f
        ∙ received-live w s max (kept_of h.files.counts h.ledger) exact asked.some receives-within.0 f (subst (λ l. Contains l f) is among)

    -- which are low enough for all of them.
    pub files-fit : length attached ≤ SCM_MAX_FD → (f : ℕ) → (count_in_map counts f).tabled + length attached < 2 ^ 21
    files-fit few f = omega (arith, few, ap (λ m. (count_in_map m f).tabled) same, tabled-most w f (kept_of h.files.counts h.ledger) exact.within exact.agrees)

-- To change a queue is to put in place what comes of it.
rest-placed : (w : World) (s : ℕ) (g : Socket → List Message) (q : List Message) → ((x : Socket) → finmap.get w.files s ≡ Some (AsSocket x) → g x ≡ q) → with_socket w s (λ x. record x { queue = g x }) ≡ with_queue w s q
rest-placed w s g q same = by (finmap.get w.files s) refl where
  with_file : (File → File) → Option File → World
  with_file h o = record w { files = option_map_or (λ x. finmap.insert w.files s (h x)) o w.files }

  by : (o : Option File) → finmap.get w.files s ≡ o → with_file (file_with (λ x. record x { queue = g x })) (finmap.get w.files s) ≡ with_file (file_with (λ x. record x { queue = q })) (finmap.get w.files s)
  by None e = ap (with_file _) e ∙ sym (ap (with_file _) e)
  by (Some Plain) e = ap (with_file _) e ∙ sym (ap (with_file _) e)
  by (Some (AsSocket x)) e =
      ap (with_file (file_with (λ y. record y { queue = g y }))) e
      ∙ ap (λ r. with_file (file_with (λ y. record y { queue = r })) (Some (AsSocket x))) (same x e)
      ∙ sym (ap (with_file (file_with (λ y. record y { queue = q }))) e)

-- Without the first message.
pub popped_queue : (w : World) (s : ℕ) → with_socket w s (λ x. record x { queue = drop 1 x.queue }) ≡ with_queue w s (drop 1 (queue_at w s))
popped_queue w s = rest-placed w s (λ x. drop 1 x.queue) _ (λ x at. sym (ap (λ o. drop 1 (option_map_or queue_of o [])) at))

-- Without what a receive takes.
pub taken_queue : (w : World) (s n : ℕ) → with_socket w s (received_from n) ≡ with_queue w s (taken_at w s n).rest
taken_queue w s n = rest-placed w s (λ x. (take_from x.kind x.queue n).rest) _ (λ x at. sym (ap (λ o. let y = unwrap_or (option_and_then socket_of o) no_socket in (take_from y.kind y.queue n).rest) at))
