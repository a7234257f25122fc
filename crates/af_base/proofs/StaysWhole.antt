-- Changes keep a world well-formed.
use Rattle.std.proofs.Common.{◌≡◌, ◌<◌, ℕ, Bool, true, false, not, ◌⊎◌, inl, inr, List, [], ◌∷◌, ◌++◌, refl, sym, ap, ◌∙◌, subst, cond, nat_eq, arith}
use Rattle.std.specs.Prelude.{Option, Some, None, IsTrue, option_map}
use Rattle.std.specs.Option.{option_map_or}
use Rattle.std.specs.List.{Contains}
use Rattle.std.specs.FinMap as map
use Rattle.std.proofs.lemmas.Bool.{eqb-true, false≢true}
use Rattle.std.proofs.lemmas.List.Elements.{Contains-append_cases, Contains-append_left, Contains-append_right}
use Rattle.af_base.specs.declared.events.State.{State}
use Rattle.af_base.specs.declared.events.State.TheVariants as state
use Rattle.af_base.specs.World.{AsSocket, File, IsLive, Message, Plain, Process, Socket, World, is_live}
use Rattle.af_base.specs.Places.{Holds, InTable, attached_in, contents, queue_of}
use Rattle.af_base.specs.Counts.{refs}
use Rattle.af_base.specs.Unheld.{Settles, Unheld, Goes, file_without, state_without, without}
use Rattle.af_base.specs.Changes.{change_at, install, push_message, uninstall, with_queue, with_socket}
use Rattle.af_base.specs.Names.{bound_to}
use Rattle.af_base.specs.Whole.{AreMutual, IsWhole, state_at, state_of}
use Rattle.af_base.proofs.SettledWorlds.{from_without, get-without, live-without, stays}
use Rattle.af_base.proofs.Places.{carried-push}
use Rattle.af_base.proofs.PlacesAndCounts.{held_by_none}
use Rattle.af_base.proofs.Lookups.{changed-live, same_or_not, some_same, told_apart}
use Rattle.af_base.proofs.ReceivedFiles.{Leaves}
use Rattle.af_base.proofs.Embryos.{WaitOnce, waiting-changed, waiting-gone}
use Rattle.af_base.proofs.SocketNames.{AreNamedApart, names-changed, names-gone}
use Rattle.af_base.proofs.TypedFiles.{AreTyped, targets-typed, typed-same, typed-whole, typed-without, types-typed}
use Rattle.af_base.proofs.PlaceMoves.{held-changed, live-changed, state-changed, state-others, state-there, there-changed, there-holds, tabled-install, tabled-uninstall}

-- The peer of a file after some files were freed.
state_at-without : (gone : ℕ → Bool) (w : World) (q : ℕ) → state_at (without gone w) q ≡ cond (not (gone q)) (state_without gone (state_at w q)) state.Idle
state_at-without gone w q = ap (λ o. option_map_or state_of o state.Idle) (get-without gone w q) ∙ each (gone q) (map.get w.files q) where
  each : (b : Bool) (o : Option File) → option_map_or state_of (cond (not b) (option_map (file_without gone) o) None) state.Idle ≡ cond (not b) (state_without gone (option_map_or state_of o state.Idle)) state.Idle
  each true o = refl
  each false None = refl
  each false (Some Plain) = refl
  each false (Some (AsSocket s)) = refl

-- Whether there is a live peer.
abbrev pub has_peer : State → Bool
has_peer (state.Connected p) = true
has_peer state.Idle = false
has_peer (state.Listening b) = false
has_peer state.HungUp = false
has_peer (state.Sends q) = false

-- The live peer, or another number.
abbrev pub peer_or : ℕ → State → ℕ
peer_or d (state.Connected p) = p
peer_or d state.Idle = d
peer_or d (state.Listening b) = d
peer_or d state.HungUp = d
peer_or d (state.Sends q) = d

-- A state without a live peer is not connected.
pub not_connected : {A : Type 0} (t : State) (p : ℕ) → has_peer t ≡ false → t ≡ state.Connected p → A
not_connected t p e is = absurd (false≢true (sym e ∙ ap has_peer is))

-- Nobody is connected to a socket that is connected to nobody.
pub not_peer : (w : World) (s f : ℕ) → AreMutual w → has_peer (state_at w s) ≡ false
    → ¬ (state_at w f ≡ state.Connected s)
not_peer w s f pairs e is = not_connected (state_at w s) f e (pairs f s is)

-- A file that is connected afterwards was connected before, to a peer that is still live.
still_connected : (gone : ℕ → Bool) (t : State) (p : ℕ) → state_without gone t ≡ state.Connected p → (t ≡ state.Connected p) × (gone p ≡ false)
still_connected gone state.Idle p e = not_connected state.Idle p refl e
still_connected gone (state.Listening b) p e = not_connected (state.Listening b) p refl e
still_connected gone state.HungUp p e = not_connected state.HungUp p refl e
still_connected gone (state.Sends q) p e = not_connected (state.Sends q) p refl e
still_connected gone (state.Connected q) p e = by (gone q) refl e where
  by : (b : Bool) → gone q ≡ b → cond b state.HungUp (state.Connected q) ≡ state.Connected p → (state.Connected q ≡ state.Connected p) × (gone p ≡ false)
  by true d k = not_connected state.HungUp p refl k
  by false d k = (k, ap gone (sym (ap (peer_or q) k)) ∙ d)

-- Peers are mutual where some files are gone.
mutual-without : (gone : ℕ → Bool) (w : World) → AreMutual w → AreMutual (without gone w)
mutual-without gone w pairs f p e = by (gone f) refl (sym (state_at-without gone w f) ∙ e) where
  by : (b : Bool) → gone f ≡ b → cond (not (gone f)) (state_without gone (state_at w f)) state.Idle ≡ state.Connected p → state_at (without gone w) p ≡ state.Connected f
  by true d k = not_connected state.Idle p refl (sym (ap (λ b. cond (not b) (state_without gone (state_at w f)) state.Idle) d) ∙ k)
  by false d k =
      let was = still_connected gone (state_at w f) p (sym (ap (λ b. cond (not b) (state_without gone (state_at w f)) state.Idle) d) ∙ k) in
      state_at-without gone w p
      ∙ ap (λ b. cond (not b) (state_without gone (state_at w p)) state.Idle) was.1
      ∙ ap (state_without gone) (pairs f p was.0)
      ∙ ap (λ b. cond b state.HungUp (state.Connected f)) d

-- Without files that no table and no file that stays holds.
pub whole-gone : (gone : ℕ → Bool) (w : World) → ((f : ℕ) → gone f ≡ true → (¬ (InTable w f)) × ((s : ℕ) → gone s ≡ false → ¬ (Holds w s f))) → IsWhole w → IsWhole (without gone w)
whole-gone gone w none k = record {
  tables_live = λ f t. kept f (λ e. (none f e).0 t) (k.tables_live f t);
  queues_live = λ s f h. let from = from_without gone w s f h in kept f (λ e. (none f e).1 s from.0 from.1) (k.queues_live s f from.1);
  files_numbered = λ f l. k.files_numbered f (stays _ _ (sym (live-without gone w f) ∙ l)).1;
  processes_numbered = k.processes_numbered;
  files_begin = λ f l. k.files_begin f (stays _ _ (sym (live-without gone w f) ∙ l)).1;
  next_ino = k.next_ino;
  next_pid = k.next_pid;
  peers = mutual-without gone w k.peers;
  targets = targets-typed (without gone w) (typed-without gone w (typed-whole k));
  types = types-typed (without gone w) (typed-without gone w (typed-whole k));
  names = names-gone gone w k.names;
  embryos = λ f. let once = k.embryos f in omega (arith, once, waiting-gone gone w f);
} where
  kept : (f : ℕ) → ¬ (gone f ≡ true) → IsLive w f → IsLive (without gone w) f
  kept f n l = live-without gone w f ∙ by (gone f) refl where
    by : (b : Bool) → gone f ≡ b → cond (not b) (is_live w f) false ≡ true
    by true e = absurd (n e)
    by false e = l

-- Without a file that nothing holds.
pub whole-without : (w : World) (f : ℕ) → ¬ (InTable w f) → ((s : ℕ) → ¬ (Holds w s f)) → IsWhole w → IsWhole (without (nat_eq f) w)
whole-without w f no_table no_holder = whole-gone (nat_eq f) w (λ g e.
    let same = eqb-true f g e in
    (λ t. no_table (subst (InTable w) (sym same) t), λ s _ h. no_holder s (subst (Holds w s) (sym same) h)))

-- Without a file that has no place.
pub whole-unheld : (w : World) (f : ℕ) → refs w f ≡ 0 → IsWhole w → IsWhole (without (nat_eq f) w)
whole-unheld w f z = let none = held_by_none w f z in whole-without w f none.0 none.1

-- A whole world, settled, is whole.
pub whole-settles : (old new : World) → Settles old new → IsWhole old → IsWhole new
whole-settles old new s k = subst IsWhole (sym s.2) (whole-gone s.0 old (λ f e. by f ((s.1 f).0 e)) k) where
  by : (f : ℕ) → Unheld old f → (¬ (InTable old f)) × ((q : ℕ) → s.0 q ≡ false → ¬ (Holds old q f))
  by _ (Goes f l no_table hs) = (no_table, λ q e h. false≢true (sym e ∙ (s.1 q).1 (hs q h)))

-- A socket changed, with live files only, where peers stay mutual, states fit types, no two have
-- one name and no file waits twice.
pub whole-socket : (w : World) (s : ℕ) (g : Socket → Socket)
    → ((x : Socket) (f : ℕ) → map.get w.files s ≡ Some (AsSocket x) → Contains (contents (AsSocket (g x))) f → Contains (contents (AsSocket x)) f ⊎ IsLive w f)
    → AreMutual (with_socket w s g) → AreTyped (with_socket w s g)
    → AreNamedApart (with_socket w s g) → WaitOnce (with_socket w s g) → IsWhole w
    → IsWhole (with_socket w s g)
whole-socket w s g gain pairs typed apart once k = record {
  tables_live = λ f t. live-changed w s g f ∙ k.tables_live f t;
  queues_live = λ q f h. live-changed w s g f ∙ elim (held-changed w s g q f (λ x is c. gain x f is c) h) [ inl y ↦ k.queues_live q f y | inr y ↦ y ];
  files_numbered = λ f l. k.files_numbered f (sym (live-changed w s g f) ∙ l);
  processes_numbered = k.processes_numbered;
  files_begin = λ f l. k.files_begin f (sym (live-changed w s g f) ∙ l);
  next_ino = k.next_ino;
  next_pid = k.next_pid;
  peers = pairs;
  targets = targets-typed (with_socket w s g) typed;
  types = types-typed (with_socket w s g) typed;
  names = apart;
  embryos = once;
}

-- Peers are mutual where a socket's change leaves alone whom it talks to.
pub mutual-changed : (w : World) (s : ℕ) (g : Socket → Socket) → ((x : Socket) → (g x).state ≡ x.state) → AreMutual w → AreMutual (with_socket w s g)
mutual-changed w s g same pairs f p e = state-changed w s g same p ∙ pairs f p (sym (state-changed w s g same f) ∙ e)

-- Peers are mutual where a socket that is connected to nobody changes to another such one.
pub mutual-alone : (w : World) (s : ℕ) (g : Socket → Socket) (x : Socket) → map.get w.files s
    ≡ Some (AsSocket x) → has_peer x.state ≡ false → has_peer (g x).state ≡ false → AreMutual w
    → AreMutual (with_socket w s g)
mutual-alone w s g x at alone still pairs f p e = elim (same_or_not f s) [
  | inl same ↦ not_connected (g x).state p still (sym here ∙ ap (state_at (with_socket w s g)) (sym same) ∙ e)
  | inr apart ↦
      let before : state_at w f ≡ state.Connected p = sym (state-others w s g f apart) ∙ e in
      state-others w s g p (told_apart p s
      (λ same. not_peer w s f pairs (ap has_peer (state-there w s (AsSocket x) at)
      ∙ alone) (before ∙ ap state.Connected same))) ∙ pairs f p before
] where
  here : state_at (with_socket w s g) s ≡ (g x).state
  here = state-there (with_socket w s g) s (AsSocket (g x)) (there-changed w s g x at)

-- No file waits twice where a socket's change leaves its backlog alone.
pub once-changed : (w : World) (s : ℕ) (g : Socket → Socket) → ((x : Socket) → (g x).backlog ≡ x.backlog) → WaitOnce w → WaitOnce (with_socket w s g)
once-changed w s g same once f = let before = once f in omega (arith, before, waiting-changed w s g same f)

-- A socket changed in nothing but its queue, with live files only.
pub whole-changed : (w : World) (s : ℕ) (g : Socket → Socket)
    → ((x : Socket) → (g x).state ≡ x.state) → ((x : Socket) → (g x).kind ≡ x.kind)
    → ((x : Socket) → bound_to (g x) ≡ bound_to x)
    → ((x : Socket) → (g x).backlog ≡ x.backlog)
    → ((x : Socket) (f : ℕ) → map.get w.files s ≡ Some (AsSocket x) → Contains (contents (AsSocket (g x))) f → Contains (contents (AsSocket x)) f ⊎ IsLive w f)
    → IsWhole w → IsWhole (with_socket w s g)
whole-changed w s g state kind name backlog gain k =
    whole-socket w s g gain (mutual-changed w s g state k.peers)
    (typed-same w s g state kind (typed-whole k)) (names-changed w s g name k.names)
    (once-changed w s g backlog k.embryos) k

-- A process is as before among those that are there.
processes-numbered : (w : World) (p : ℕ) (g : Process → Process) → IsWhole w → (q : ℕ) → IsTrue (map.contains_key (change_at g w.processes p) q) → q < w.next_pid
processes-numbered w p g k q l = k.processes_numbered q (sym (changed-live g w.processes p q) ∙ l)

-- A number taken into use for a live file.
pub whole-install : (w : World) (p n f : ℕ) → IsWhole w → IsLive w f → IsWhole (install w p n f)
whole-install w p n f k l = record {
  tables_live = λ h t. elim (tabled-install w p n f h t) [ inl y ↦ k.tables_live h y | inr y ↦ subst (IsLive w) y l ];
  queues_live = k.queues_live;
  files_numbered = k.files_numbered;
  processes_numbered = processes-numbered w p (λ q. record q { table = map.insert q.table n f }) k;
  files_begin = k.files_begin;
  next_ino = k.next_ino;
  next_pid = k.next_pid;
  peers = k.peers;
  targets = k.targets;
  types = k.types;
  names = k.names;
  embryos = k.embryos;
}

-- A number given up.
pub whole-uninstall : (w : World) (p n : ℕ) → IsWhole w → IsWhole (uninstall w p n)
whole-uninstall w p n k = record {
  tables_live = λ h t. k.tables_live h (tabled-uninstall w p n h t);
  queues_live = k.queues_live;
  files_numbered = k.files_numbered;
  processes_numbered = processes-numbered w p (λ q. record q { table = map.remove q.table n }) k;
  files_begin = k.files_begin;
  next_ino = k.next_ino;
  next_pid = k.next_pid;
  peers = k.peers;
  targets = k.targets;
  types = k.types;
  names = k.names;
  embryos = k.embryos;
}

-- A message put into a queue, whose files are live.
pub whole-push : (w : World) (s : ℕ) (m : Message) → IsWhole w → ((f : ℕ) → Contains m.attached f → IsLive w f) → IsWhole (push_message w s m)
whole-push w s m k live =
    whole-changed w s (λ x. record x {
      queue = x.queue
          ++ m ∷ [];
    }) (λ x. refl) (λ x. refl) (λ x. refl) (λ x. refl)
    (λ x f is h. elim (Contains-append_cases (attached_in (x.queue ++ m ∷ [])) x.backlog f h) [
      | inl y ↦ elim (Contains-append_cases (attached_in x.queue) m.attached f (subst (λ xs. Contains xs f) (carried-push x.queue m) y)) [
        | inl z ↦ inl (Contains-append_left (attached_in x.queue) x.backlog f z)
        | inr z ↦ inr (live f z)
      ]
      | inr y ↦ inl (Contains-append_right (attached_in x.queue) x.backlog f y)
    ]) k

-- Another queue in place of one, with no file that was not in it.
pub whole-with_queue : (w : World) (s : ℕ) (q : List Message) (x : Socket) → IsWhole w → map.get w.files s ≡ Some (AsSocket x) → ((f : ℕ) → Contains (attached_in q) f → Contains (attached_in x.queue) f) → IsWhole (with_queue w s q)
whole-with_queue w s q x k at fewer =
    whole-changed w s (λ y. record y {
      queue =
          q;
    }) (λ y. refl) (λ y. refl) (λ y. refl) (λ y. refl) (λ y f is h.
    let same : x.queue ≡ y.queue = ap queue_of (some_same (AsSocket x) (AsSocket y) (sym at ∙ is)) in
    elim (Contains-append_cases (attached_in q) y.backlog f h) [
      | inl z ↦ inl (Contains-append_left (attached_in y.queue) y.backlog f (subst (λ r. Contains (attached_in r) f) same (fewer f z)))
      | inr z ↦ inl (Contains-append_right (attached_in y.queue) y.backlog f z)
    ]) k

-- These files taken out of a queue.
pub whole-left : (w : World) (s : ℕ) (x : Socket) (fs : List ℕ) (rest : List Message) → IsWhole w → map.get w.files s ≡ Some (AsSocket x) → Leaves x.queue fs rest → IsWhole (with_queue w s rest)
whole-left w s x fs rest k at left = whole-with_queue w s rest x k at (λ f h. subst (λ l. Contains l f) left.carried (Contains-append_right fs (attached_in rest) f h))

-- They are live.
pub live-taken : (w : World) (s : ℕ) (x : Socket) (fs : List ℕ) (rest : List Message) → IsWhole w → map.get w.files s ≡ Some (AsSocket x) → Leaves x.queue fs rest → (f : ℕ) → Contains fs f → IsLive w f
live-taken w s x fs rest k at left f h = k.queues_live s f (there-holds w s f (AsSocket x) at
    (Contains-append_left (attached_in x.queue) x.backlog f (subst (λ l. Contains l f) left.carried (Contains-append_left fs (attached_in rest) f h))))
