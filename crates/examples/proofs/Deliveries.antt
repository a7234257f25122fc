-- A descriptor that was sent to an idle socket, and received there, refers to the same file.
use Rattle.std.proofs.Common.{◌≡◌, ◌⊎◌, inl, inr, ℕ, zero, suc, ◌+◌, ◌<◌, Bool, true, false, not, ◌||◌, List, [], ◌∷◌, ◌++◌, length, nat_eq, refl, sym, ap, subst, ◌∙◌, cond, arith}
use Rattle.std.specs.Prelude.{Option, Some, None, filter_map, is_none, is_some, min, nat_lt, option_map, unwrap_or, if◌then◌else◌}
use Rattle.std.specs.List.{list_any, zip}
use Rattle.std.specs.FinMap as map
use Rattle.std.specs.Option.{option_and_then}
use Rattle.std.proofs.lemmas.Bool.{false≢true}
use Rattle.jaywardrobe.specs.Types.{Reply, SockType, Step}
use Rattle.jaywardrobe.specs.Types.errno
use Rattle.jaywardrobe.specs.Types.kind
use Rattle.jaywardrobe.specs.Types.reply
use Rattle.jaywardrobe.specs.Types.step
use Rattle.jaywardrobe.specs.Outcome.{Does}
use Rattle.jaywardrobe.specs.OwnedView.{OwnedView}
use Rattle.jaywardrobe.specs.Pass.{Machine}
use Rattle.jaywardrobe.specs.Places.{queue_of, table_at}
use Rattle.jaywardrobe.specs.World.{AsSocket, File, Message, Plain, Process, Socket, World}
use Rattle.jaywardrobe.specs.Changes.{install, install_all, push_message, pushed, with_queue, with_socket}
use Rattle.jaywardrobe.specs.Refusals.{ino_on, peer_of, process_at, refusal, socket_at, socket_on, step_row}
use Rattle.jaywardrobe.specs.Steps.{answer, effect, got_at, taken_on}
use Rattle.jaywardrobe.specs.Take.{take_from}
use Rattle.jaywardrobe.specs.Unheld.{Settles, file_without, without}
use Rattle.jaywardrobe.proofs.Lookups.{insert-here, none_some, same_or_not, some_same}
use Rattle.jaywardrobe.proofs.PlaceMoves.{others-changed, there-changed, there-install, there-table}
use Rattle.jaywardrobe.proofs.SettledWorlds.{get-without}
use Rattle.jaywardrobe.proofs.SoundSteps.{NoneFits, Passed, none-fits, process-there, socket-there}
use Rattle.examples.specs.Delivery.{Delivers, IsIdle, Takes, descriptor_value}

-- Settling leaves all tables as they are.
same_tables : (w v : World) (p n : ℕ) → Settles w v → table_at v p n ≡ table_at w p n
same_tables w v p n s = ap (λ u. table_at u p n) s.2

-- A file that stays when others go was there, with the same queue.
stayed : (gone : ℕ → Bool) (w : World) (s : ℕ) (y : Socket) → map.get (without gone w).files s ≡ Some (AsSocket y) → (x : Socket) × (map.get w.files s ≡ Some (AsSocket x)) × (y.queue ≡ x.queue)
stayed gone w s y is = by (gone s) (map.get w.files s) refl (sym (get-without gone w s) ∙ is) where
  by : (b : Bool) (o : Option File) → map.get w.files s ≡ o → cond (not b) (option_map (file_without gone) o) None ≡ Some (AsSocket y) → (x : Socket) × (map.get w.files s ≡ Some (AsSocket x)) × (y.queue ≡ x.queue)
  by true o at e = absurd (none_some _ e)
  by false None at e = absurd (none_some _ e)
  by false (Some Plain) at e = absurd (cc)
  by false (Some (AsSocket x)) at e = (x, at, sym (ap (λ (f : File). queue_of f) (some_same _ _ e)))

-- After a message was put somewhere, a socket that was idle has it, or nothing.
has_it : (w : World) (s peer : ℕ) (m : Message) (x z : Socket) → map.get w.files s ≡ Some (AsSocket x) → x.queue ≡ [] → map.get (push_message w peer m).files s ≡ Some (AsSocket z) → (z.queue ≡ []) ⊎ (z.queue ≡ m ∷ [])
has_it w s peer m x z at empty is = elim (same_or_not s peer) [
  | inl e ↦ inr (subst (λ q. z.queue ≡ q ++ m ∷ []) empty (ap (λ (f : File). queue_of f) (some_same _ _ (sym is ∙ subst (λ k. map.get (with_socket w k (pushed m)).files s ≡ Some (AsSocket (pushed m x))) e (there-changed w s (pushed m) x at)))))
  | inr a ↦ inl (ap (λ (f : File). queue_of f) (some_same _ _ (sym is ∙ others-changed w peer (pushed m) s a ∙ at)) ∙ empty)
]

-- No test of its row fits a step that nothing refuses, and the process is there.
passed : (w : World) (p : ℕ) (s : Step) → refusal w p s ≡ None → Passed (not (map.contains_key w.processes p)) (NoneFits (step_row w p s))
passed w p s is = none-fits ((not (map.contains_key w.processes p), errno.ESRCH) ∷ step_row w p s) is

-- A descriptor that no test finds free refers to a file.
stands : (w : World) (p n : ℕ) → list_any (λ m. is_none (table_at w p m)) (n ∷ []) ≡ false → (f : ℕ) × (table_at w p n ≡ Some f)
stands w p n = by (table_at w p n) refl where
  by : (o : Option ℕ) → table_at w p n ≡ o → list_any (λ _. is_none o) (n ∷ []) ≡ false → (f : ℕ) × (table_at w p n ≡ Some f)
  by None at e = absurd (false≢true (sym e))
  by (Some f) at e = (f, at)

-- It alone is attached.
attached : (w : World) (p n f : ℕ) → table_at w p n ≡ Some f → filter_map (table_at w p) (n ∷ []) ≡ f ∷ []
attached w p n f at = subst (λ o. filter_map (λ _. o) (n ∷ []) ≡ f ∷ []) (sym at) refl

-- Of two tests of which none fits the first does not.
neither : (a b : Bool) → (a || b) ≡ false → a ≡ false
neither true b e = absurd (false≢true (sym e))
neither false b e = refl

-- A receive of one byte takes the file of the only message.
taken : (k : SockType) (bytes : List ℕ) (f user : ℕ) → nat_eq (length bytes) 0 ≡ false → (take_from k (record { bytes = bytes; attached = f ∷ []; user = user } ∷ []) 1).attached ≡ f ∷ []
taken kind.Seqpacket bytes f user some = refl
taken kind.Dgram bytes f user some = refl
taken kind.Stream [] f user some = absurd (false≢true (sym some))
taken kind.Stream (b ∷ bytes) f user some = let one : min 1 (0 + length (b ∷ bytes)) ≡ 1 = omega arith in ap (λ c. if nat_lt 0 c then f ∷ [] else []) one

-- A call that was answered is no end, and the rest of the choice is left.
not_end : (b : Bool) (bytes fds : List ℕ) (trunc ctrunc : Bool) (r : Reply) → reply.Got bytes fds trunc ctrunc ≡ (if b then reply.End else r) → (b ≡ false) × (reply.Got bytes fds trunc ctrunc ≡ r)
not_end true bytes fds trunc ctrunc r e = absurd (cc)
not_end false bytes fds trunc ctrunc r e = (refl, e)

-- A new descriptor refers to the file.
installed_here : (w : World) (p n f : ℕ) (q : Process) → map.get w.processes p ≡ Some q → table_at (install w p n f) p n ≡ Some f
installed_here w p n f q at = there-table (install w p n f) p n _ (there-install w p n f q at) ∙ insert-here q.table n f

module _ (w : World) (p n f : ℕ) (q : Process) (there : map.get w.processes p ≡ Some q) (s : ℕ) where
  -- So does the one number of a receive of one file.
  received_here : (rest : List Message) (fds files : List ℕ) → n ∷ [] ≡ fds → files ≡ f ∷ [] → table_at (install_all (with_queue w s rest) p (zip fds files)) p n ≡ Some f
  received_here rest fds files is was =
      subst (λ (k : List ℕ × List ℕ). table_at (install_all (with_queue w s rest) p (zip k.0 k.1)) p n ≡ Some f) (λ i. (is i, sym was i)) (installed_here (with_queue w s rest) p n f q there)

module _ (old mid new : Machine) (p on n q at got : ℕ) (bytes : List ℕ) (r : Reply) (is_idle : IsIdle old.world q at) (sent : Does old p (step.Send on bytes (n ∷ [])) r mid) (took : Takes mid q at got new) where
  -- The world before the send.
  abbrev w : World
  w = old.world

  -- The world between send and receive.
  abbrev v : World
  v = mid.world

  -- The file that is sent.
  abbrev file : (f : ℕ) × (table_at w p n ≡ Some f)
  file = stands w p n (passed w p (step.Send on bytes (n ∷ [])) sent.0).rest.rest.rest.rest.rest.here

  -- The message that is sent.
  abbrev message : Message
  message = record { bytes = bytes; attached = filter_map (table_at w p) (n ∷ []); user = (process_at w p).user }

  -- The position of the new value.
  abbrev put : World
  put = push_message w (peer_of (socket_on w p on).state) message

  -- The receiver's socket after the send.
  abbrev y : Socket
  y = socket_on v q at

  -- The receiver's number refers to the same socket after the send.
  same_ino : ino_on v q at ≡ ino_on w q at
  same_ino = ap (λ o. unwrap_or o 0) (same_tables put v q at sent.2)

  -- That socket is live after the send.
  kept : map.get (without sent.2.0 put).files (ino_on w q at) ≡ Some (AsSocket y)
  kept =
      let row = (passed v q (step.Recv at 1 1) took.3.0).rest in
      let here = socket-there v q at row.here row.rest.here in
      subst (λ (u : World). map.get u.files (ino_on w q at) ≡ Some (AsSocket y)) sent.2.2 (subst (λ s. map.get v.files s ≡ Some (AsSocket y)) same_ino here)

  -- It has the message, or nothing.
  queued : (y.queue ≡ []) ⊎ (y.queue ≡ message ∷ [])
  queued =
      let was = stayed sent.2.0 put (ino_on w q at) y kept in
      let before = socket-there w q at is_idle.open_number is_idle.is_socket in
      elim (has_it w (ino_on w q at) (peer_of (socket_on w p on).state) message (socket_on w q at) was.0 before is_idle.empty was.1) [ inl e ↦ inl (was.2 ∙ e) | inr e ↦ inr (was.2 ∙ e) ]

  -- It answered one number.
  answered : (nat_eq (length y.queue) 0 ≡ false) × (reply.Got took.0 (got ∷ []) took.1 took.2 ≡ reply.Got (taken_on v q at 1).bytes (got_at v q at 1 1) (taken_on v q at 1).trunc (nat_lt (length (got_at v q at 1 1)) (length (taken_on v q at 1).attached)))
  answered = not_end (nat_eq (length y.queue) 0) took.0 (got ∷ []) took.1 took.2 _ took.3.1

  -- The receiver's new number refers to the file that was sent.
  pub delivered : Delivers w p n new.world q got
  delivered = elim queued [
    | inl e ↦ absurd (false≢true (sym answered.0 ∙ ap (λ l. nat_eq (length l) 0) e))
    | inr e ↦
        let some = neither _ _ (passed w p (step.Send on bytes (n ∷ [])) sent.0).rest.rest.rest.here in
        let only : y.queue ≡ record message { attached = file.0 ∷ [] } ∷ [] = e ∙ ap (λ fs. record message { attached = fs } ∷ []) (attached w p n file.0 file.1) in
        let files : (taken_on v q at 1).attached ≡ file.0 ∷ [] = ap (λ l. (take_from y.kind l 1).attached) only ∙ taken y.kind bytes file.0 (process_at w p).user some in
        let numbers : got ∷ [] ≡ got_at v q at 1 1 = let both = answered.1 in cc in
        let process = process-there v q (passed v q (step.Recv at 1 1) took.3.0).here in
        let here = received_here v q got file.0 (process_at v q) process (ino_on v q at) (taken_on v q at 1).rest (got_at v q at 1 1) (taken_on v q at 1).attached numbers files in
        (file.0, file.1, same_tables (effect v q (step.Recv at 1 1)) new.world q got took.3.2 ∙ here)
  ]

-- The value of a file travels with it.
pub carried : {T : Type 0} (old new : OwnedView T) (p n q m : ℕ) → Delivers old.machine.world p n new.machine.world q m → new.values ≡ old.values → descriptor_value new q m ≡ descriptor_value old p n
carried old new p n q m d same =
    let file : table_at new.machine.world q m ≡ table_at old.machine.world p n = d.2 ∙ sym d.1 in
    λ i. option_and_then (map.get (same i)) (file i)
