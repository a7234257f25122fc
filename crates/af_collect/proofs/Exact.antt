-- A store stays exact, whatever changes at once in its world and in its ledger.
use Rattle.std.proofs.Common.{◌≡◌, ◌<◌, ℕ, ◌+◌, Bool, true, false, inl, inr, List, [], ◌∷◌, ◌++◌, drop, length, refl, sym, ap, ◌∙◌, subst, cond, nat_eq, arith, ◌≤◌, zero, suc, not, map}
use Rattle.std.specs.Prelude.{Some, None, IsTrue, unwrap_or, Option, IfNone, IfSome, is_some, if◌then◌else◌}
use Rattle.std.specs.List.{list_any, sum_by, Contains, zip}
use Rattle.std.specs.FinMap as finmap
use Rattle.std.specs.Map.{lookup, keys_of}
use Rattle.std.specs.Ordering.{nat_cmp}
use Rattle.std.specs.Option.{option_map_or}
use Rattle.std.proofs.lemmas.Bool.{eqb-true, false≢true}
use Rattle.af_base.specs.World.{AsSocket, File, Map, Message, Plain, Process, Socket, World, empty_world, IsLive, is_live}
use Rattle.af_base.specs.Places.{attached_in, backlog_of, contents, queue_of, table_at}
use Rattle.af_base.specs.Counts.{charge, count_in, one, refs, total_of, waiting, total}
use Rattle.af_base.specs.Changes.{add_file, add_process, add_user, dequeued, install, installed, limited, push_message, pushed, remove_process, set_limit, taken_out, uninstall, with_process, with_queue, with_socket, install_all}
use Rattle.af_base.specs.Steps.{spawned, paired_socket, with_pair}
use Rattle.af_base.specs.Unheld.{without}
use Rattle.af_base.specs.Whole.{IsWhole, IsMessageWithin, IsSound, IsWithin}
use Rattle.af_base.proofs.NewFiles.{fresh_process, total-empty, fresh_file, whole-spawned}
use Rattle.af_base.proofs.CountSums.{refs-add_up}
use Rattle.af_base.proofs.FreedCounts.{same_queue, total-without}
use Rattle.af_base.proofs.Embryos.{waiting-changed}
use Rattle.af_base.proofs.PlacesAndCounts.{tabled-InTable}
use Rattle.af_base.proofs.ProcessLimits.{count-limited, whole-limited, within-limited}
use Rattle.af_base.proofs.Lookups.{changed-was, insert-here, insert-other, none_some, remove-here, remove-other, same_or_not, some_same, itself, not_same, told_apart}
use Rattle.af_base.proofs.PlaceMoves.{table-there, there-table, total-changed, live-changed, there-install}
use Rattle.af_base.proofs.Places.{inflight-left, inflight-push}
use Rattle.af_base.proofs.Totals.{total-most}
use Rattle.af_base.proofs.StaysWithin.{total-left, total-push, below-most, within-install, within-left, within-pair, within-push, within-spawned, within-uninstall, within-without}
use Rattle.af_base.specs.declared.events.SockType.{SockType}
use Rattle.af_base.specs.declared.limits.TheConstants.{MAX_INFLIGHT, MAX_MESSAGES, MAX_NOFILE}
use Rattle.af_base.specs.Refusals.{is_at_process_limit, is_full, process_at}
use Rattle.af_base.proofs.SoundSteps.{process-there}
use Rattle.af_base.proofs.Connections.{live-embryo, whole-accepted, within-accepted}
use Rattle.af_base.proofs.Elements.{Contains-first, Contains-later}
use Rattle.af_base.proofs.ProcessExits.{whole-remove_process, within-remove_process}
use Rattle.af_base.proofs.Free.{AreFree, first-free, first-low, rest-free}
use Rattle.af_base.proofs.BlankFiles.{whole-plain, within-plain}
use Rattle.af_base.proofs.Pairs.{whole-pair}
use Rattle.af_base.proofs.SettledPlaces.{settled-counted}
use Rattle.af_base.proofs.SettledWorlds.{live-without}
use Rattle.af_base.proofs.Soundness.{fresh_sound}
use Rattle.af_base.proofs.StaysWhole.{whole-install, whole-left, whole-push, whole-uninstall, whole-unheld}
use Rattle.af_ledger.specs.Counted.{CountView, uncounted, places_in}
use Rattle.af_ledger.specs.Tally.{CanDropAll, Tally, count_in_map, count_of, has_count, is_user, refs_of, with_ref, with_refs, with_user, without_ref, without_refs, is_unreferenced}
use Rattle.af_ledger.specs.declared.place.Place.TheVariants.{Backlog, Queue, Table}
use Rattle.af_ledger.proofs.ManyPlaces.{charge-dropped_all, charge-held_all, inflight-dropped_all, inflight-held_all, one-itself, same-user, tabled-dropped_all, tabled-held_all, total-dropped_all, total-held_all, users-dropped_all, users-held_all, waiting-dropped_all, waiting-held_all, has-dropped_all, has-held_all}
use Rattle.af_ledger.proofs.Laws.{charge-added, count-entered, count-struck, inflight-tabled, inflight-unbacklogged, inflight-untabled, tabled-tabled, tabled-unbacklogged, tabled-untabled, waiting-tabled, waiting-unbacklogged, waiting-untabled, has-dropped, has-entered, has-held, has-struck, users-held}
use Rattle.af_ledger.proofs.Users.{user-added, user-stays}
use Rattle.af_collect.specs.Agreement.{Agrees, IsExact}
use Rattle.af_collect.proofs.FreedFiles.{same_backlog}
use Rattle.af_collect.proofs.MarkTests.{has_put}
use Rattle.af_collect.proofs.Recounts.{charged-push, charged-shed, tabled-install, tabled-uninstall, total-new, total-weightless, waiting-dequeued, Sheds}
use Rattle.af_collect.specs.HoldingsView.{filled}
use Rattle.af_collect.specs.Limits.{IsBelowLimit}
use Rattle.af_collect.proofs.Bounds.{can-drop-all}

-- Each process has a user that is kept.
abbrev AreKnown : World → List (ℕ × ℕ) → Type 0
AreKnown w us = (p : ℕ) (q : Process) → finmap.get w.processes p ≡ Some q → IsTrue (is_user q.user us)

-- A change of a process that leaves its user changes no user.
known-changed : (w : World) (p : ℕ) (g : Process → Process) (us : List (ℕ × ℕ)) → ((q : Process) → (g q).user ≡ q.user) → AreKnown w us → AreKnown (with_process w p g) us
known-changed w p g us same known r x is =
    let was = changed-was g w.processes p r x is in
    let before = known r was.0 was.1 in
    elim was.2 [
      | inl s ↦ subst (λ u. IsTrue (is_user u us)) (sym (ap (λ q. q.user) s.1 ∙ same was.0)) before
      | inr s ↦ subst (λ q. IsTrue (is_user q.user us)) (sym s) before
    ]

-- The users that are kept stay, under another charge.
known-kept : (w : World) (us vs : List (ℕ × ℕ)) → ((u : ℕ) → IsTrue (is_user u us) → IsTrue (is_user u vs)) → AreKnown w us → AreKnown w vs
known-kept w us vs stay known p q is = stay q.user (known p q is)

-- A free number that is taken into use is a place more in a table.
pub agrees-install : (w : World) (p n f : ℕ) (q : Process) (k : Tally) → finmap.get w.processes p ≡ Some q → finmap.get q.table n ≡ None → Agrees w k → Agrees (install w p n f) (with_ref Table f k)
agrees-install w p n f q k at free a = record {
  tabled = λ g. omega (arith, tabled-tabled f g k, tabled-install w p n f g q at free, a.tabled g);
  inflight = λ g. inflight-tabled f g k ∙ a.inflight g;
  waiting = λ g. waiting-tabled f g k ∙ a.waiting g;
  charged = a.charged;
  total = a.total;
  known = known-changed w p (installed n f) k.users (λ q. refl) a.known;
}

-- A number that is given up is a place less in a table.
pub agrees-uninstall : (w : World) (p n f : ℕ) (k : Tally) → table_at w p n ≡ Some f → Agrees w k → Agrees (uninstall w p n) (without_ref Table f k)
agrees-uninstall w p n f k is a =
    let at = table-there w p n f is in
    let some : 0 < (count_of k f).tabled = omega (arith, tabled-InTable w f (p, n, is), a.tabled f) in
    record {
      tabled = λ g. omega (arith, tabled-untabled f g k some, tabled-uninstall w p n f g at.0 at.1 at.2, a.tabled g);
      inflight = λ g. inflight-untabled f g k ∙ a.inflight g;
      waiting = λ g. waiting-untabled f g k ∙ a.waiting g;
      charged = a.charged;
      total = a.total;
      known = known-changed w p (taken_out n) k.users (λ q. refl) a.known;
    }

-- A message put into a queue is a place more there for each file that it carries.
pub agrees-push : (w : World) (s : ℕ) (m : Message) (x : Socket) (k : Tally) → finmap.get w.files s ≡ Some (AsSocket x) → IsTrue (is_user m.user k.users) → Agrees w k → Agrees (push_message w s m) (with_refs (Queue m.user) m.attached k)
agrees-push w s m x k at there a = record {
  tabled = λ g. tabled-held_all m.user g m.attached k ∙ a.tabled g;
  inflight = λ g. omega (arith, inflight-held_all m.user g m.attached k, inflight-push w s m g x at, a.inflight g);
  waiting = λ g. waiting-held_all m.user g m.attached k ∙ a.waiting g ∙ sym (waiting-changed w s (pushed m) (λ y. refl) g);
  charged = λ u. omega (arith, charge-held_all m.user u m.attached k there, charged-push w s m u x at, a.charged u);
  total = omega (arith, total-held_all m.user m.attached k, total-push w s m x at, a.total);
  known = known-kept w k.users (with_refs (Queue m.user) m.attached k).users (λ u. same-user u k.users (with_refs (Queue m.user) m.attached k).users (users-held_all m.user m.attached k)) a.known;
}

-- A message taken out of a queue is a place less there for each file that it carries.
pub agrees-shed : (w : World) (s : ℕ) (m : Message) (rest : List Message) (x : Socket) (k : Tally) → finmap.get w.files s ≡ Some (AsSocket x) → Sheds x.queue m rest → CanDropAll m.user m.attached k → Agrees w k → Agrees (with_queue w s rest) (without_refs (Queue m.user) m.attached k)
agrees-shed w s m rest x k at shed can a = record {
  tabled = λ g. tabled-dropped_all m.user g m.attached k ∙ a.tabled g;
  inflight = λ g. omega (arith, inflight-dropped_all m.user g m.attached k can, inflight-left w s m.attached rest g x at shed.leaves.carried, a.inflight g);
  waiting = λ g. waiting-dropped_all m.user g m.attached k ∙ a.waiting g ∙ sym (waiting-changed w s (λ y. record y { queue = rest }) (λ y. refl) g);
  charged = λ u. omega (arith, charge-dropped_all m.user u m.attached k can, charged-shed w s m rest u x at shed, a.charged u);
  total = omega (arith, total-dropped_all m.user m.attached k can, total-left w s x m.attached rest at shed.leaves, a.total);
  known = known-kept w k.users (without_refs (Queue m.user) m.attached k).users (λ u. same-user u k.users (without_refs (Queue m.user) m.attached k).users (users-dropped_all m.user m.attached k)) a.known;
}

-- The first embryo that leaves a backlog is a place less there.
pub agrees-dequeued : (w : World) (s f : ℕ) (x : Socket) (k : Tally) → finmap.get w.files s ≡ Some (AsSocket x) → x.backlog ≡ f ∷ drop 1 x.backlog → Agrees w k → Agrees (with_socket w s dequeued) (without_ref Backlog f k)
agrees-dequeued w s f x k at first a =
    let fewer : (g : ℕ) → waiting (with_socket w s dequeued) g + one g f ≡ waiting w g = λ g. waiting-dequeued w s f g x at first in
    let some : 0 < (count_of k f).waiting = let mine = one-itself f in omega (arith, mine, fewer f, a.waiting f) in
    record {
      tabled = λ g. tabled-unbacklogged f g k ∙ a.tabled g;
      inflight = λ g. inflight-unbacklogged f g k ∙ a.inflight g ∙ sym (total-changed (λ y. count_in g (attached_in (queue_of y))) w s dequeued (λ y. refl));
      waiting = λ g. omega (arith, waiting-unbacklogged f g k some, fewer g, a.waiting g);
      charged = λ u. a.charged u ∙ sym (total-changed (λ y. sum_by (charge u) (queue_of y)) w s dequeued (λ y. refl));
      total = a.total ∙ sym (total-changed (λ y. sum_by (λ n. length n.attached) (queue_of y)) w s dequeued (λ y. refl));
      known = a.known;
    }

-- A file that holds nothing, and has no messages, has no embryos.
backlog-bare : (x : File) → contents x ≡ [] → queue_of x ≡ [] → backlog_of x ≡ []
backlog-bare Plain bare silent = refl
backlog-bare (AsSocket x) bare silent = sym (ap (λ q. attached_in q ++ x.backlog) silent) ∙ bare

-- An empty file is freed.
pub agrees-gone : (w : World) (f : ℕ) (x : File) (k : Tally) → finmap.get w.files f ≡ Some x → contents x ≡ [] → queue_of x ≡ [] → Agrees w k → Agrees (without (nat_eq f) w) k
agrees-gone w f x k is bare silent a = record {
  tabled = a.tabled;
  inflight = λ g. omega (arith, gone (λ q. count_in g (attached_in q)) refl, a.inflight g);
  waiting = λ g. let none : count_in g (backlog_of x) ≡ 0 = ap (count_in g) (backlog-bare x bare silent) in omega (arith, none, total-without (λ y. count_in g (backlog_of y)) (λ h y. ap (count_in g) (same_backlog h y)) w f x is, a.waiting g);
  charged = λ u. omega (arith, gone (sum_by (charge u)) refl, a.charged u);
  total = omega (arith, gone (sum_by (λ n. length n.attached)) refl, a.total);
  known = a.known;
} where
  gone : (G : List Message → ℕ) → G [] ≡ 0 → total_of (λ y. G (queue_of y)) (without (nat_eq f) w).files ≡ total_of (λ y. G (queue_of y)) w.files
  gone G none =
      let nothing : G (queue_of x) ≡ 0 = ap G silent ∙ none in
      omega (arith, nothing, total-without (λ y. G (queue_of y)) (λ h y. ap G (same_queue h y)) w f x is)

-- The kept references are the recounts too: they are the sum of the three.
pub agrees-refs : (w : World) (k : Tally) → Agrees w k → (f : ℕ) → refs_of k f ≡ refs w f
agrees-refs w k a f = omega (arith, a.tabled f, a.inflight f, a.waiting f, refs-add_up w f)

-- Other entries with the same numbers for each file.
agrees-counts : (w : World) (m : Map CountView) (k : Tally) → ((f : ℕ) → count_in_map m f ≡ count_of k f) → Agrees w k → Agrees w (record k { counts = m })
agrees-counts w m k same a = record {
  tabled = λ f. ap (λ c. c.tabled) (same f) ∙ a.tabled f;
  inflight = λ f. ap (λ c. c.inflight) (same f) ∙ a.inflight f;
  waiting = λ f. ap (λ c. c.waiting) (same f) ∙ a.waiting f;
  charged = a.charged;
  total = a.total;
  known = a.known;
}

-- The numbers of a file without a place are removed.
pub agrees-struck : (w : World) (f : ℕ) (k : Tally) → refs_of k f ≡ 0 → Agrees w k → Agrees w (record k { counts = finmap.remove k.counts f })
agrees-struck w f k none = agrees-counts w (finmap.remove k.counts f) k (λ g. count-struck k f g none)

-- A file is entered, and no place of it is counted yet.
pub agrees-entered : (w : World) (f : ℕ) (k : Tally) → has_count k f ≡ false → Agrees w k → Agrees w (record k { counts = finmap.insert k.counts f uncounted })
agrees-entered w f k new = agrees-counts w (finmap.insert k.counts f uncounted) k (λ g. count-entered k f g new)

-- A file whose number is new, and that holds nothing, has no place and adds none.
pub agrees-new_file : (w : World) (x : File) (k : Tally) → finmap.get w.files w.next_ino ≡ None → contents x ≡ [] → queue_of x ≡ [] → Agrees w k → Agrees (add_file w x) k
agrees-new_file w x k new empty silent a = record {
  tabled = a.tabled;
  inflight = λ g. omega (arith, added (λ q. count_in g (attached_in q)) refl, a.inflight g);
  waiting = λ g. let none : count_in g (backlog_of x) ≡ 0 = ap (count_in g) (backlog-bare x empty silent) in omega (arith, none, total-new (λ y. count_in g (backlog_of y)) w.files w.next_ino x new, a.waiting g);
  charged = λ u. omega (arith, added (sum_by (charge u)) refl, a.charged u);
  total = omega (arith, added (sum_by (λ n. length n.attached)) refl, a.total);
  known = a.known;
} where
  added : (G : List Message → ℕ) → G [] ≡ 0 → total_of (λ y. G (queue_of y)) (add_file w x).files ≡ total_of (λ y. G (queue_of y)) w.files
  added G none = let nothing : G (queue_of x) ≡ 0 = ap G silent ∙ none in omega (arith, nothing, total-new (λ y. G (queue_of y)) w.files w.next_ino x new)

-- A new process with an empty table and a user that is kept adds no place.
pub agrees-add_process : (w : World) (q : Process) (k : Tally) → IsWhole w → q.table ≡ finmap.empty → IsTrue (is_user q.user k.users) → Agrees w k → Agrees (add_process w q) k
agrees-add_process w q k whole empty there a = record {
  tabled = λ g. omega (arith, nothing g, total-new (λ r. total_of (one g) r.table) w.processes w.next_pid q new, a.tabled g);
  inflight = a.inflight;
  waiting = a.waiting;
  charged = a.charged;
  total = a.total;
  known = λ p r is. elim (same_or_not p w.next_pid) [
    | inl s ↦ subst (λ z. IsTrue (is_user z.user k.users)) (some_same q r (sym (ap (finmap.get (finmap.insert w.processes w.next_pid q)) s ∙ insert-here w.processes w.next_pid q) ∙ is)) there
    | inr d ↦ a.known p r (sym (insert-other w.processes w.next_pid q p d) ∙ is)
  ];
} where
  new : finmap.get w.processes w.next_pid ≡ None
  new = fresh_process w whole

  nothing : (g : ℕ) → total_of (one g) q.table ≡ 0
  nothing g = ap (total_of (one g)) empty ∙ total-empty (one g)

-- A user more that is kept is charged nothing.
agrees-with_user : (w : World) (u : ℕ) (k : Tally) → Agrees w k → Agrees w (record k { users = with_user u k.users })
agrees-with_user w u k a = record {
  tabled = a.tabled;
  inflight = a.inflight;
  waiting = a.waiting;
  charged = λ v. charge-added u v k ∙ a.charged v;
  total = a.total;
  known = λ p q is. user-stays q.user u k.users (a.known p q is);
}

-- The list of users of the world says nothing of the numbers.
agrees-add_user : (w : World) (u : ℕ) (k : Tally) → Agrees w k → Agrees (add_user w u) k
agrees-add_user w u k a = by (list_any (nat_eq u) w.users) where
  by : (b : Bool) → Agrees (cond b w (record w { users = w.users ++ u ∷ [] })) k
  by true = a
  by false = record { tabled = a.tabled; inflight = a.inflight; waiting = a.waiting; charged = a.charged; total = a.total; known = a.known }

-- A process that starts has a user that is kept, and no place.
pub agrees-spawned : (w : World) (uid nofile : ℕ) (privileged : Bool) (k : Tally) → IsWhole w → Agrees w k → Agrees (spawned w uid nofile privileged) (record k { users = with_user uid k.users })
agrees-spawned w uid nofile privileged k whole a =
    agrees-add_user _ uid _ (agrees-add_process w _ (record k { users = with_user uid k.users }) whole refl (user-added uid k.users) (agrees-with_user w uid k a))

-- Another limit of a process changes no place.
pub agrees-limited : (w : World) (p n : ℕ) (k : Tally) → Agrees w k → Agrees (set_limit w p n) k
agrees-limited w p n k a = record {
  tabled = λ f. a.tabled f ∙ sym (count-limited w p n f);
  inflight = a.inflight;
  waiting = a.waiting;
  charged = a.charged;
  total = a.total;
  known = known-changed w p (limited n) k.users (λ q. refl) a.known;
}

-- A process that ends with an empty table loses no place.
pub agrees-remove_process : (w : World) (p : ℕ) (k : Tally) → ((n : ℕ) → table_at w p n ≡ None) → Agrees w k → Agrees (remove_process w p) k
agrees-remove_process w p k empty a = record {
  tabled = λ g. omega (arith, same g, a.tabled g);
  inflight = a.inflight;
  waiting = a.waiting;
  charged = a.charged;
  total = a.total;
  known = λ r q is. elim (same_or_not r p) [
    | inl s ↦ absurd (none_some q (sym (ap (finmap.get (finmap.remove w.processes p)) s ∙ remove-here w.processes p) ∙ is))
    | inr d ↦ a.known r q (sym (remove-other w.processes p r d) ∙ is)
  ];
} where
  light : (g : ℕ) (q : Process) → finmap.get w.processes p ≡ Some q → total_of (one g) q.table ≡ 0
  light g q at =
      let most = total-most (one g) 0 q.table (λ n x is. absurd (none_some x (sym (empty n) ∙ there-table w p n q at ∙ is))) in
      omega (arith, most)

  same : (g : ℕ) → total_of (λ q. total_of (one g) q.table) (finmap.remove w.processes p) ≡ total_of (λ q. total_of (one g) q.table) w.processes
  same g = total-weightless (λ q. total_of (one g) q.table) w.processes p (light g)

-- A ledger of nothing agrees with the world of nothing.
pub agrees-empty : (k : Tally) → k.counts ≡ finmap.empty → k.users ≡ [] → k.total ≡ 0 → Agrees empty_world k
agrees-empty k counts users total = record {
  tabled = λ f. let none = ap (λ c. c.tabled) (uncounted_here f) in omega (arith, none, tables f);
  inflight = λ f. let none = ap (λ c. c.inflight) (uncounted_here f) in omega (arith, none, total-empty (λ (x : File). count_in f (attached_in (queue_of x))));
  waiting = λ f. let none = ap (λ c. c.waiting) (uncounted_here f) in omega (arith, none, total-empty (λ (x : File). count_in f (backlog_of x)));
  charged = λ u. let none = ap (λ us. unwrap_or (lookup (nat_eq u) us) 0) users in omega (arith, none, total-empty (λ (x : File). sum_by (charge u) (queue_of x)));
  total = omega (arith, total, total-empty (λ (x : File). sum_by (λ m. length m.attached) (queue_of x)));
  known = λ p q is. absurd (none_some q (sym (finmap.get-empty nat_cmp p) ∙ is));
} where
  uncounted_here : (f : ℕ) → count_of k f ≡ uncounted
  uncounted_here f = ap (λ m. unwrap_or (finmap.get m f) uncounted) counts ∙ ap (λ o. unwrap_or o uncounted) (finmap.get-empty nat_cmp f)

  tables : (f : ℕ) → total_of (λ (p : Process). total_of (λ g. one f g) p.table) finmap.empty ≡ 0
  tables f = total-empty (λ (p : Process). total_of (λ g. one f g) p.table)

-- ---- the store

-- Two worlds with the same parts are one.
pub world-is : (v w : World) → v.processes ≡ w.processes → v.files ≡ w.files → v.next_ino ≡ w.next_ino → v.next_pid ≡ w.next_pid → v.users ≡ w.users → v ≡ w
world-is v w processes files next_ino next_pid users = λ i. record { processes = processes i; files = files i; next_ino = next_ino i; next_pid = next_pid i; users = users i }

-- A fact of a world and of counts is one of their equals.
pub exact-same : (v w : World) (k l : Tally) → v ≡ w → k ≡ l → IsExact w l → IsExact v k
exact-same v w k l world numbers h = subst (λ x. IsExact x k) (sym world) (subst (IsExact w) (sym numbers) h)

-- The world with a process more, whose table is empty.
abbrev started : World → ℕ → ℕ → Bool → World
started w uid nofile privileged = add_process w (record { user = uid; limit = nofile; privileged = privileged; table = finmap.empty })

-- A process that starts.
pub exact-spawned : (w : World) (uid nofile : ℕ) (privileged : Bool) (k : Tally) → is_at_process_limit w ≡ false → nofile ≤ MAX_NOFILE → IsExact w k → IsExact (spawned w uid nofile privileged) (record k { users = with_user uid k.users })
exact-spawned w uid nofile privileged k room low h = record {
  whole = whole-spawned w uid nofile privileged h.whole;
  within = within-spawned w uid nofile privileged h.within room low;
  agrees = agrees-spawned w uid nofile privileged k h.whole h.agrees;
  counted = λ f. h.counted f ∙ by f (list_any (nat_eq uid) w.users);
} where
  by : (f : ℕ) (b : Bool) → is_live w f ≡ is_live (if b then started w uid nofile privileged else record (started w uid nofile privileged) { users = w.users ++ uid ∷ [] }) f
  by f true = refl
  by f false = refl

-- A process with another limit.
pub exact-limited : (w : World) (p n : ℕ) (k : Tally) → n ≤ MAX_NOFILE → IsExact w k → IsExact (set_limit w p n) k
exact-limited w p n k low h = record {
  whole = whole-limited w p n h.whole;
  within = within-limited w p n h.within low;
  agrees = agrees-limited w p n k h.agrees;
  counted = h.counted;
}

-- A process that ends with an empty table.
pub exact-removed : (w : World) (p : ℕ) (k : Tally) → ((n : ℕ) → table_at w p n ≡ None) → IsExact w k → IsExact (remove_process w p) k
exact-removed w p k empty h = record {
  whole = whole-remove_process w p h.whole;
  within = within-remove_process w p h.within;
  agrees = agrees-remove_process w p k empty h.agrees;
  counted = h.counted;
}

-- A free number taken into use for a live file.
pub exact-install : (w : World) (p n f : ℕ) (q : Process) (k : Tally) → finmap.get w.processes p ≡ Some q → finmap.get q.table n ≡ None → n < MAX_NOFILE → IsLive w f → IsExact w k → IsExact (install w p n f) (with_ref Table f k)
exact-install w p n f q k at free low live h = record {
  whole = whole-install w p n f h.whole live;
  within = within-install w p n f h.within low;
  agrees = agrees-install w p n f q k at free h.agrees;
  counted = λ g. has-held Table f g k (h.counted f ∙ live) ∙ h.counted g;
}

-- A process, and a free descriptor below its limit (open(2)).
abbrev pub CanInstall : World → ℕ → ℕ → Type 0
CanInstall w p n = IsTrue (finmap.contains_key w.processes p) × IsBelowLimit w p n × (table_at w p n ≡ None)

-- There a live file can be installed.
pub exact-opened : (w : World) (p n f : ℕ) (k : Tally) → CanInstall w p n → IsLive w f → IsExact w k → IsExact (install w p n f) (with_ref Table f k)
exact-opened w p n f k can live h =
    let q = process_at w p in
    let at = process-there w p (ap not can.0) in
    exact-install w p n f q k at (sym (there-table w p n q at) ∙ can.2) (below-most w p n q h.within at (can.1 q at)) live h

-- A number given up.
pub exact-uninstall : (w : World) (p n f : ℕ) (k : Tally) → table_at w p n ≡ Some f → IsExact w k → IsExact (uninstall w p n) (without_ref Table f k)
exact-uninstall w p n f k is h = record {
  whole = whole-uninstall w p n h.whole;
  within = within-uninstall w p n h.within;
  agrees = agrees-uninstall w p n f k is h.agrees;
  counted = λ g. has-dropped Table f g k (h.counted f ∙ h.whole.tables_live f (p, n, is)) ∙ h.counted g;
}

-- A message put into a queue.
pub exact-push : (w : World) (s : ℕ) (m : Message) (x : Socket) (k : Tally) → finmap.get w.files s ≡ Some (AsSocket x) → IsTrue (is_user m.user k.users) → ((f : ℕ) → Contains m.attached f → IsLive w f) → IsMessageWithin m → length x.queue < MAX_MESSAGES
    → total w + length m.attached ≤ MAX_INFLIGHT → IsExact w k → IsExact (push_message w s m) (with_refs (Queue m.user) m.attached k)
exact-push w s m x k at user live fits room flying h = record {
  whole = whole-push w s m h.whole live;
  within = within-push w s m x h.within at fits room flying;
  agrees = agrees-push w s m x k at user h.agrees;
  counted = λ g. has-held_all m.user g m.attached k (λ f c. h.counted f ∙ live f c) ∙ h.counted g ∙ sym (live-changed w s (pushed m) g);
}

-- A message is taken out of a queue.
pub exact-shed : (w : World) (s : ℕ) (m : Message) (rest : List Message) (x : Socket) (k : Tally) → finmap.get w.files s ≡ Some (AsSocket x) → Sheds x.queue m rest → IsExact w k → IsExact (with_queue w s rest) (without_refs (Queue m.user) m.attached k)
exact-shed w s m rest x k at shed h =
    let can = can-drop-all w s m rest x k at shed h.agrees in
    record {
      whole = whole-left w s x m.attached rest h.whole at shed.leaves;
      within = within-left w s x m.attached rest h.within at shed.leaves;
      agrees = agrees-shed w s m rest x k at shed can h.agrees;
      counted = λ g. has-dropped_all m.user g m.attached k can ∙ h.counted g ∙ sym (live-changed w s (λ y. record y { queue = rest }) g);
    }

-- The first embryo leaves a backlog.
pub exact-dequeued : (w : World) (s f : ℕ) (x : Socket) (k : Tally) → finmap.get w.files s ≡ Some (AsSocket x) → x.backlog ≡ f ∷ drop 1 x.backlog → IsExact w k → IsExact (with_socket w s dequeued) (without_ref Backlog f k)
exact-dequeued w s f x k at first h =
    let live = live-embryo w s f x h.whole at (subst (λ xs. Contains xs f) (sym first) (Contains-first f (drop 1 x.backlog))) in
    record {
      whole = whole-accepted w s x at h.whole;
      within = within-accepted w s x h.within at;
      agrees = agrees-dequeued w s f x k at first h.agrees;
      counted = λ g. has-dropped Backlog f g k (h.counted f ∙ live) ∙ h.counted g ∙ sym (live-changed w s dequeued g);
    }

-- An unheld and empty file is freed.
pub exact-gone : (w : World) (f : ℕ) (x : File) (k : Tally) → finmap.get w.files f ≡ Some x → contents x ≡ [] → queue_of x ≡ [] → refs w f ≡ 0 → IsExact w k → IsExact (without (nat_eq f) w) (record k { counts = finmap.remove k.counts f })
exact-gone w f x k is bare silent none h = record {
  whole = whole-unheld w f none h.whole;
  within = within-without w f h.within;
  agrees = agrees-struck (without (nat_eq f) w) f k (agrees-refs w k h.agrees f ∙ none) (agrees-gone w f x k is bare silent h.agrees);
  counted = λ g. has-struck k f g ∙ by g (nat_eq g f) refl ∙ sym (live-without (nat_eq f) w g);
} where
  by : (g : ℕ) (b : Bool) → nat_eq g f ≡ b → cond b false (has_count k g) ≡ cond (not (nat_eq f g)) (is_live w g) false
  by g true e = sym (ap (λ c. cond (not c) (is_live w g) false) (ap (nat_eq f) (eqb-true g f e) ∙ itself f))
  by g false e = h.counted g ∙ sym (ap (λ c. cond (not c) (is_live w g) false) (told_apart f g (λ same. not_same g f e (sym same))))

-- The live files with one more.
pub live-added : (w : World) (x : File) (g : ℕ) → is_live (add_file w x) g ≡ cond (nat_eq g w.next_ino) true (is_live w g)
live-added w x g = has_put w.files w.next_ino x g

-- A file with the next number is new to the ledger.
pub next-new : (w : World) (k : Tally) (f : ℕ) → IsExact w k → w.next_ino ≤ f → has_count k f ≡ false
next-new w k f h low = h.counted f ∙ ap is_some (fresh_file w f h.whole low)

-- One more file, which holds nothing and is unreferenced.
pub exact-made : (w : World) (x : File) (k : Tally) → contents x ≡ [] → queue_of x ≡ [] → IsWhole (add_file w x) → IsWithin (add_file w x) → IsExact w k
    → IsExact (add_file w x) (record k { counts = finmap.insert k.counts w.next_ino uncounted })
exact-made w x k empty silent whole within h = record {
  whole = whole;
  within = within;
  agrees = agrees-entered (add_file w x) w.next_ino k (next-new w k w.next_ino h (omega arith)) (agrees-new_file w x k (fresh_file w w.next_ino h.whole (omega arith)) empty silent h.agrees);
  counted = λ g. has-entered k w.next_ino g ∙ ap (cond (nat_eq g w.next_ino) true) (h.counted g) ∙ sym (live-added w x g);
}

-- One more plain file, which is unreferenced.
pub exact-plain : (w : World) (k : Tally) → is_full w 1 ≡ false → IsExact w k → IsExact (add_file w Plain) (record k { counts = finmap.insert k.counts w.next_ino uncounted })
exact-plain w k fits h = exact-made w Plain k refl refl (whole-plain w h.whole) (within-plain w h.within fits) h

-- The second of two files with the next numbers is new to the ledger when the first was entered.
second-stranger : (w : World) (k : Tally) → IsExact w k → has_count (record k { counts = finmap.insert k.counts w.next_ino uncounted }) (w.next_ino + 1) ≡ false
second-stranger w k h =
    has-entered k w.next_ino (w.next_ino + 1) ∙ ap (λ c. cond c true (has_count k (w.next_ino + 1))) (told_apart (w.next_ino + 1) w.next_ino (λ e. omega (arith, e))) ∙ next-new w k (w.next_ino + 1) h (omega arith)

-- Two more sockets, connected to each other, which are unreferenced.
pub exact-pair : (w : World) (kind : SockType) (k : Tally) → is_full w 2 ≡ false → IsExact w k
    → IsExact (with_pair w kind) (record k { counts = finmap.insert (finmap.insert k.counts w.next_ino uncounted) (w.next_ino + 1) uncounted })
exact-pair w kind k fits h =
    let a = w.next_ino in
    let b = w.next_ino + 1 in
    let first = AsSocket (paired_socket kind b) in
    let second = AsSocket (paired_socket kind a) in
    let new : finmap.get w.files a ≡ None = fresh_file w a h.whole (omega arith) in
    let other : finmap.get (add_file w first).files b ≡ None = insert-other w.files a first b (told_apart b a (λ e. omega (arith, e))) ∙ fresh_file w b h.whole (omega arith) in
    let one : Tally = record k { counts = finmap.insert k.counts a uncounted } in
    let both = agrees-new_file (add_file w first) second k other refl refl (agrees-new_file w first k new refl refl h.agrees) in
    record {
      whole = whole-pair w kind h.whole;
      within = within-pair w kind h.within fits;
      agrees = agrees-entered (with_pair w kind) b one (second-stranger w k h) (agrees-entered (with_pair w kind) a k (next-new w k a h (omega arith)) both);
      counted = λ g. has-entered one b g ∙ ap (cond (nat_eq g b) true) (has-entered k a g ∙ ap (cond (nat_eq g a) true) (h.counted g))
          ∙ sym (live-added (add_file w first) second g ∙ ap (cond (nat_eq g b) true) (live-added w first g));
    }

-- Free numbers taken into use for live files, one after the other.
pub exact-install_all : (w : World) (p : ℕ) (q : Process) (ns fs : List ℕ) (k : Tally) → finmap.get w.processes p ≡ Some q → AreFree q ns → ((f : ℕ) → Contains fs f → IsLive w f) → IsExact w k
    → IsExact (install_all w p (zip ns fs)) (with_refs Table (map (λ e. e.1) (zip ns fs)) k)
exact-install_all w p q [] fs k at free live h = h
exact-install_all w p q (n ∷ ns) [] k at free live h = h
exact-install_all w p q (n ∷ ns) (f ∷ fs) k at free live h =
    exact-install_all (install w p n f) p (record q { table = finmap.insert q.table n f }) ns fs (with_ref Table f k) (there-install w p n f q at) (rest-free q n ns f free) (λ g c. live g (Contains-later f fs g c))
    (exact-install w p n f q k at (first-free q n ns free) (below-most w p n q h.within at (first-low q n ns free)) (live f (Contains-first f fs)) h)

-- Files that are put into a table change the processes alone.
pub install-filled : (w : World) (p : ℕ) (es : List (ℕ × ℕ)) → install_all w p es ≡ record w { processes = filled w.processes p es }
install-filled w p [] = refl
install-filled w p (e ∷ es) = install-filled (install w p e.0 e.1) p es

-- The same, said of the processes.
pub exact-filled : (w : World) (p : ℕ) (q : Process) (ns fs : List ℕ) (k : Tally) → finmap.get w.processes p ≡ Some q → AreFree q ns → ((f : ℕ) → Contains fs f → IsLive w f) → IsExact w k
    → IsExact (record w { processes = filled w.processes p (zip ns fs) }) (with_refs Table (map (λ e. e.1) (zip ns fs)) k)
exact-filled w p q ns fs k at free live h = subst (λ v. IsExact v (with_refs Table (map (λ e. e.1) (zip ns fs)) k)) (install-filled w p (zip ns fs)) (exact-install_all w p q ns fs k at free live h)

-- Files that are put into a table leave the users.
pub users-filled : (fs : List ℕ) (k : Tally) → keys_of (with_refs Table fs k).users ≡ keys_of k.users
users-filled [] k = refl
users-filled (f ∷ fs) k = users-filled fs (with_ref Table f k) ∙ users-held Table f k

-- A store whose live files all have a place is sound.
pub exact-sound : (w : World) (k : Tally) → IsExact w k → ((f : ℕ) → IsLive w f → 0 < refs w f) → IsSound w
exact-sound w k h some = record { whole = h.whole; within = h.within; settled = settled-counted w some }

-- A store that has nothing.
pub exact-empty : (k : Tally) → k.counts ≡ finmap.empty → k.users ≡ [] → k.total ≡ 0 → IsExact empty_world k
exact-empty k counts users total = record {
  whole = fresh_sound.whole;
  within = fresh_sound.within;
  agrees = agrees-empty k counts users total;
  counted = λ f. ap (λ (m : Map CountView). is_some (finmap.get m f)) counts ∙ ap is_some (finmap.get-empty nat_cmp f) ∙ sym (ap is_some (finmap.get-empty nat_cmp f));
}

-- A user more, as the list of users has it.
pub add-user-is : (w : World) (u : ℕ) (us : List ℕ) → us ≡ (if list_any (nat_eq u) w.users then w.users else w.users ++ u ∷ []) → record w { users = us } ≡ add_user w u
add-user-is w u us e = by (list_any (nat_eq u) w.users) e where
  by : (b : Bool) → us ≡ (if b then w.users else w.users ++ u ∷ []) → record w { users = us } ≡ (if b then w else record w { users = w.users ++ u ∷ [] })
  by true same = ap (λ l. record w { users = l }) same
  by false more = ap (λ l. record w { users = l }) more

-- A file that waits is live, and no place holds it.
pub waits-unheld : (w : World) (k : Tally) (f : ℕ) → IsExact w k → is_unreferenced k.counts f ≡ true → IsLive w f × (refs w f ≡ 0)
waits-unheld w k f h waits =
    let told = by (finmap.get k.counts f) waits in
    (sym (h.counted f) ∙ told.0, sym (agrees-refs w k h.agrees f) ∙ told.1) where
      by : (o : Option CountView) → option_map_or (λ c. nat_eq (places_in c) 0) o false ≡ true → (is_some o ≡ true) × (places_in (unwrap_or o uncounted) ≡ 0)
      by None e = absurd (false≢true e)
      by (Some c) e = (refl, eqb-true (places_in c) 0 e)

-- Where none waits, all is sound.
pub none-waits : (w : World) (k : Tally) → IsExact w k → ((f : ℕ) → is_unreferenced k.counts f ≡ false) → IsSound w
none-waits w k h none = exact-sound w k h (λ f live.
    let same = agrees-refs w k h.agrees f in
    omega (arith, by f (finmap.get k.counts f) (h.counted f ∙ live) (none f), same)) where
      positive : (n : ℕ) → nat_eq n 0 ≡ false → 0 < n
      positive zero e = absurd (false≢true (sym e))
      positive (suc n) e = omega arith

      by : (f : ℕ) (o : Option CountView) → is_some o ≡ true → option_map_or (λ c. nat_eq (places_in c) 0) o false ≡ false → 0 < places_in (unwrap_or o uncounted)
      by f None e d = absurd (false≢true e)
      by f (Some c) e d = positive (places_in c) d

-- A fact of a file that was found follows.
pub on-some : {X : Type 0} (o : Option X) {P Q : X → Type 0} → ((x : X) → P x → Q x) → IfSome o P → IfSome o Q
on-some (Some x) f p = f x p
on-some None f p = tt

-- And where none was found.
pub on-none : {X : Type 0} (o : Option X) {P Q : Type 0} → (P → Q) → IfNone o P → IfNone o Q
on-none (Some x) f p = tt
on-none None f p = f p
