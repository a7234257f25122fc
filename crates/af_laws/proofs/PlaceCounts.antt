-- Where places are, and what a place more or less adds to the counts.
use Rattle.std.proofs.Common.{◌≡◌, ◌≢◌, ◌⊎◌, inl, inr, ◌<◌, ℕ, ◌+◌, List, [], ◌∷◌, ◌++◌, length, refl, sym, ap, ◌∙◌, subst, cond, arith, ◌&&◌}
use Rattle.std.specs.Prelude.{Option, Some, None, ◌↔◌, is_some}
use Rattle.std.specs.Option.{option_map_or}
use Rattle.std.specs.List.{Contains, count_by, sum_by}
use Rattle.std.specs.Cmp.{both_ways}
use Rattle.std.specs.FinMap as map
use Rattle.std.proofs.lemmas.Bool.{cases_lt, eq-eqb, false≢true}
use Rattle.std.proofs.lemmas.List.Elements.{Contains-append_cases, Contains-append_left, Contains-append_right}
use Rattle.af_base.proofs.Lookups.{none_some, told_apart}
use Rattle.af_base.specs.World.{AsSocket, File, Message, Process, Socket, World}
use Rattle.af_base.specs.Places.{InBacklog, InQueue, attached_in, backlog_of, contents, queue_of}
use Rattle.af_base.specs.Counts.{charge, charged, count_in, inflight, one, refs, tabled, total_of, waiting}
use Rattle.af_base.specs.Reached.{is_socket}
use Rattle.af_base.specs.Changes.{file_with, install, push_message, uninstall, with_queue}
use Rattle.std.proofs.lemmas.List.Sums.{sum_by-append, sum_by-cons}
use Rattle.af_base.proofs.NewFiles.{fresh_process, refs-add_process}
use Rattle.af_base.proofs.CountSums.{refs-add_up}
use Rattle.af_base.proofs.ProcessExits.{refs-remove_process}
use Rattle.af_base.proofs.PlaceMoves.{table-there}
use Rattle.af_base.proofs.ReplacedDescriptors.{refs-replace}
use Rattle.af_base.proofs.Sums.{total-change_at}
use Rattle.af_base.proofs.PlacesAndCounts.{Contains-count, InTable-tabled, count-Contains, held_by_none, held_by_some, tabled-InTable, total-has, total-some}
use Rattle.af_base.proofs.Places.{inflight-left, inflight-push, refs-install, refs-left, refs-push, refs-uninstall}
use Rattle.af_base.proofs.SettledWorlds.{none_in}
use Rattle.af_laws.specs.Places.{ExitCounts, ExitKeepsCharges, ForkCounts, GarbageCountsOnce, HoldsInQueueOrBacklog, InstallCounts, NoneWhereNotInFlight, NoneWhereNotWaiting, NoneWhereUnplaced, NoneWhereUntabled, ReceiveCounts, ReceiveDischarges, ReferencesAddUp, ReplaceCounts, SendCharges, SendCounts, UninstallCounts}

pub holds_in_queue_or_backlog : HoldsInQueueOrBacklog
holds_in_queue_or_backlog w s f = either (map.get w.files s) where
  either : (o : Option File) → Contains (option_map_or contents o []) f ↔ (Contains (attached_in (option_map_or queue_of o [])) f ⊎ Contains (option_map_or backlog_of o []) f)
  either None = (λ h. absurd (none_in f h), λ h. elim h [ inl x ↦ x | inr x ↦ x ])
  either (Some x) = (
    Contains-append_cases (attached_in (queue_of x)) (backlog_of x) f,
    λ h. elim h [
      | inl a ↦ Contains-append_left (attached_in (queue_of x)) (backlog_of x) f a
      | inr b ↦ Contains-append_right (attached_in (queue_of x)) (backlog_of x) f b
    ],
  )

-- A number is 0, or above it.
pub none_or_some : (n : ℕ) → (n ≡ 0) ⊎ (0 < n)
none_or_some n = elim (cases_lt 0 n) [ inl p ↦ inr p | inr p ↦ inl (omega (arith, p)) ]

pub none_where_unplaced : NoneWhereUnplaced
none_where_unplaced w f = (
  λ z h. elim h [
    | inl t ↦ (held_by_none w f z).0 t
    | inr x ↦ (held_by_none w f z).1 x.0 x.1
  ],
  λ none. elim (none_or_some (refs w f)) [
    | inl z ↦ z
    | inr p ↦ absurd (none (held_by_some w f p))
  ],
)

pub none_where_untabled : NoneWhereUntabled
none_where_untabled w f = (
  λ z t. omega (arith, z, tabled-InTable w f t),
  λ none. elim (none_or_some (tabled w f)) [
    | inl z ↦ z
    | inr p ↦ absurd (none (InTable-tabled w f p))
  ],
)

-- A file in a queue is counted in flight.
in_flight_counted : (w : World) (s f : ℕ) → InQueue w s f → 0 < inflight w f
in_flight_counted w s f h = by (map.get w.files s) refl h where
  by : (o : Option File) → map.get w.files s ≡ o → Contains (attached_in (option_map_or queue_of o [])) f → 0 < inflight w f
  by None e h = absurd (none_in f h)
  by (Some x) e h = omega (arith, total-has (λ x. count_in f (attached_in (queue_of x))) w.files s x e, count-Contains f (attached_in (queue_of x)) h)

-- A file that is counted in flight is in a queue.
counted_in_flight : (w : World) (f : ℕ) → 0 < inflight w f → (s : ℕ) × InQueue w s f
counted_in_flight w f p =
    let at = total-some (λ x. count_in f (attached_in (queue_of x))) w.files p in
    (at.0, subst (λ o. Contains (attached_in (option_map_or queue_of o [])) f) (sym at.2) (Contains-count f (attached_in (queue_of at.1)) at.3))

pub none_where_not_in_flight : NoneWhereNotInFlight
none_where_not_in_flight w f = (
  λ z s h. omega (arith, z, in_flight_counted w s f h),
  λ none. elim (none_or_some (inflight w f)) [
    | inl z ↦ z
    | inr p ↦ let at = counted_in_flight w f p in absurd (none at.0 at.1)
  ],
)

-- A file in a backlog is counted there.
waiting_counted : (w : World) (s f : ℕ) → InBacklog w s f → 0 < waiting w f
waiting_counted w s f h = by (map.get w.files s) refl h where
  by : (o : Option File) → map.get w.files s ≡ o → Contains (option_map_or backlog_of o []) f → 0 < waiting w f
  by None e h = absurd (none_in f h)
  by (Some x) e h = omega (arith, total-has (λ x. count_in f (backlog_of x)) w.files s x e, count-Contains f (backlog_of x) h)

-- A file that is counted in backlogs is in one.
counted_waiting : (w : World) (f : ℕ) → 0 < waiting w f → (s : ℕ) × InBacklog w s f
counted_waiting w f p =
    let at = total-some (λ x. count_in f (backlog_of x)) w.files p in
    (at.0, subst (λ o. Contains (option_map_or backlog_of o []) f) (sym at.2) (Contains-count f (backlog_of at.1) at.3))

pub none_where_not_waiting : NoneWhereNotWaiting
none_where_not_waiting w f = (
  λ z s h. omega (arith, z, waiting_counted w s f h),
  λ none. elim (none_or_some (waiting w f)) [
    | inl z ↦ z
    | inr p ↦ let at = counted_waiting w f p in absurd (none at.0 at.1)
  ],
)

pub references_add_up : ReferencesAddUp
references_add_up = refs-add_up

pub install_counts : InstallCounts
install_counts w p n g f there free = by (map.get w.processes p) refl where
  by : (o : Option Process) → map.get w.processes p ≡ o → refs (install w p n g) f ≡ refs w f + one f g
  by None e = absurd (false≢true (sym (ap is_some e) ∙ there))
  by (Some q) e = refs-install w p n g f q e (sym (ap (λ o. option_map_or (λ q. map.get q.table n) o None) e) ∙ free)

pub uninstall_counts : UninstallCounts
uninstall_counts w p n g f taken = by (map.get w.processes p) refl where
  by : (o : Option Process) → map.get w.processes p ≡ o → refs (uninstall w p n) f + one f g ≡ refs w f
  by None e = absurd (none_some g (sym (ap (λ o. option_map_or (λ q. map.get q.table n) o None) e) ∙ taken))
  by (Some q) e = refs-uninstall w p n g f q e (sym (ap (λ o. option_map_or (λ q. map.get q.table n) o None) e) ∙ taken)

pub replace_counts : ReplaceCounts
replace_counts w p n g h f taken = let at = table-there w p n h taken in refs-replace w p n g h f at.0 at.1 at.2

pub fork_counts : ForkCounts
fork_counts w f q whole = refs-add_process w q f (fresh_process w whole)

pub exit_counts : ExitCounts
exit_counts w p f q at = refs-remove_process w p f q at

pub exit_keeps_charges : ExitKeepsCharges
exit_keeps_charges w p u = refl

pub send_counts : SendCounts
send_counts w s f m x there = (refs-push w s m f x there, inflight-push w s m f x there)

pub receive_counts : ReceiveCounts
receive_counts w s f m rest x there is = let left = sym (ap attached_in is) in (refs-left w s m.attached rest f x there left, inflight-left w s m.attached rest f x there left)

-- The sum over a queue with a message more, and with one less.
module _ (F : Message → ℕ) (w : World) (s : ℕ) (m : Message) (x : Socket) (there : map.get w.files s ≡ Some (AsSocket x)) where
  -- The sum is greater by the message.
  queues-push : total_of (λ y. sum_by F (queue_of y)) (push_message w s m).files ≡ total_of (λ y. sum_by F (queue_of y)) w.files + F m
  queues-push =
      omega (
        arith,
        total-change_at (λ y. sum_by F (queue_of y)) (file_with (λ x. record x { queue = x.queue ++ m ∷ [] })) w.files s (AsSocket x) there,
        sum_by-append F x.queue (m ∷ []),
        sum_by-cons F m [],
      )

  -- The sum is less by the message.
  queues-pop : (rest : List Message) → x.queue ≡ m ∷ rest → total_of (λ y. sum_by F (queue_of y)) (with_queue w s rest).files + F m ≡ total_of (λ y. sum_by F (queue_of y)) w.files
  queues-pop rest is =
      omega (
        arith,
        total-change_at (λ y. sum_by F (queue_of y)) (file_with (λ x. record x { queue = rest })) w.files s (AsSocket x) there,
        ap (sum_by F) is,
        sum_by-cons F m rest,
      )

-- A message's charge to the user that it names, and to another.
charge-named : (m : Message) → charge m.user m ≡ length m.attached
charge-named m = ap (λ b. cond b (length m.attached) 0) (eq-eqb m.user m.user refl)

-- A message charges no other user.
charge-other : (u : ℕ) (m : Message) → u ≢ m.user → charge u m ≡ 0
charge-other u m apart = ap (λ b. cond b (length m.attached) 0) (told_apart u m.user apart)

-- The charges with one message more.
pub charged-push : (w : World) (s u : ℕ) (m : Message) (x : Socket) → map.get w.files s ≡ Some (AsSocket x) → charged (push_message w s m) u ≡ charged w u + charge u m
charged-push w s u m x there = queues-push (charge u) w s m x there

pub send_charges : SendCharges
send_charges w s u m x there = (
  omega (arith, queues-push (charge m.user) w s m x there, charge-named m),
  λ apart. omega (arith, queues-push (charge u) w s m x there, charge-other u m apart),
  queues-push (λ n. length n.attached) w s m x there,
)

pub receive_discharges : ReceiveDischarges
receive_discharges w s u m rest x there is = (
  omega (arith, queues-pop (charge m.user) w s m x there rest is, charge-named m),
  λ apart. omega (arith, queues-pop (charge u) w s m x there rest is, charge-other u m apart),
  queues-pop (λ n. length n.attached) w s m x there rest is,
)

pub garbage_counts_once : GarbageCountsOnce
garbage_counts_once w n m a b =
    let same : (f : ℕ) → a.0 f ≡ b.0 f = λ f. both_ways (a.0 f) (b.0 f) (λ e. (b.1 f).1 ((a.1 f).0 e)) (λ e. (a.1 f).1 ((b.1 f).0 e)) in
    a.2 ∙ (λ i. count_by (λ e. is_socket e.1 && same e.0 i) (map.entries w.files)) ∙ sym b.2
