-- The readiness of a file is what steps find.
use Rattle.std.proofs.Common.{◌≡◌, ℕ, ◌+◌, Bool, true, false, not, ◌&&◌, ◌||◌, [], ◌∷◌, ◌++◌, refl, sym, ap, ◌∙◌, arith}
use Rattle.std.specs.Prelude.{Option, Some, None, is_none, is_some, length, nat_eq, nat_le, nat_lt, option_map, unwrap_or, if◌then◌else◌}
use Rattle.std.specs.Option.{option_and_then, option_map_or}
use Rattle.std.specs.FinMap as map
use Rattle.af_base.specs.declared.errno.Errno.TheVariants.{EAGAIN, EBADF, ECONNREFUSED, ENOBUFS, ENOTCONN, ENOTSOCK, EPERM, EPIPE, ESRCH}
use Rattle.af_base.specs.declared.events.Step.TheVariants as step
use Rattle.af_base.specs.declared.limits.TheConstants.{MAX_INFLIGHT, MAX_MESSAGES}
use Rattle.af_base.specs.World.{AsSocket, File, Plain, Process, Socket, World}
use Rattle.af_base.specs.Counts.{total}
use Rattle.af_base.specs.Places.{queue_at, queue_of, table_at}
use Rattle.af_base.specs.Ready.{found, is_cut_off, reads, ready_of, waits, writes}
use Rattle.af_base.specs.Refusals.{RefusalRow, first_fit, ino_on, is_datagram, is_deaf, is_hung_up, is_linked, no_socket, on_accept, on_input, on_peer, on_receive, on_room, on_target, peer_of, refusal, socket_at, socket_of, socket_on}
use Rattle.af_base.specs.Changes.{sends_elsewhere}
use Rattle.af_base.specs.Whole.{IsSound}
use Rattle.af_base.proofs.Lookups.{none_some}
use Rattle.af_laws.proofs.SocketChanges.{file_of_socket}
use Rattle.af_laws.specs.Polling.{ReadyIsWhatStepsFind}

-- The tests of a send of a byte but for room.
abbrev tests : Bool → Bool → Bool → Bool → Bool → Bool → RefusalRow
tests a b c d e g = (a, ENOTCONN) ∷ (b, EPIPE) ∷ (c, ENOTCONN) ∷ (d, ECONNREFUSED) ∷ (
  e,
  EPERM,
) ∷ (g, EPIPE) ∷ []

module _ (w : World) (p n f : ℕ) (s : Socket) (stands : table_at w p n ≡ Some f) (is : socket_at w f ≡ Some s) where
  -- The process is there.
  there : map.contains_key w.processes p ≡ true
  there = by (map.get w.processes p) refl where
    by : (o : Option Process) → map.get w.processes p ≡ o → is_some o ≡ true
    by None e = absurd (none_some f (sym (ap (λ o. option_map_or (λ (q : Process). map.get q.table n) o None) e) ∙ stands))
    by (Some q) e = refl

  -- The number gives the socket.
  socket-there : socket_at w (ino_on w p n) ≡ Some s
  socket-there = ap (λ o. socket_at w (unwrap_or o 0)) stands ∙ is

  -- The socket at the descriptor is s.
  pub socket-is : socket_on w p n ≡ s
  socket-is =
      ap (λ o. unwrap_or (option_and_then (socket_at w) o) no_socket) stands
      ∙ ap (λ o. unwrap_or o no_socket) is

  -- The rest of a row that looks up the socket.
  pub left : (rest : Socket → RefusalRow)
      → first_fit ((not (map.contains_key w.processes p), ESRCH) ∷ (is_none (table_at w p n), EBADF) ∷ (is_none (socket_at w (ino_on w p n)), ENOTSOCK) ∷ rest (socket_on w p n)) ≡ first_fit (rest s)
  left rest = λ i. first_fit ((not (there i), ESRCH) ∷ (is_none (stands i), EBADF) ∷ (is_none (socket-there i), ENOTSOCK) ∷ rest (socket-is i))

  -- The socket is readable exactly if steps find it so.
  read : reads s ≡ (found w p n).readable
  read = λ i. is_none (sym (left (λ x. on_receive x 1)) i) || is_none (sym (left on_accept) i)

  -- A send of a byte adds nothing to what is in flight.
  no-more : IsSound w → nat_lt MAX_INFLIGHT (total w + 0) ≡ false
  no-more sound = let few = sound.within.flying in grind (arith, few)

  -- The peer or the target.
  abbrev q : ℕ
  q = peer_of s.state

  -- The socket there, if there is one.
  abbrev target : Option Socket
  target = socket_at w q

  -- The queue of the file there is that of the socket.
  queue-there : queue_at w q ≡ option_map_or (λ t. t.queue) target []
  queue-there = by (map.get w.files q) where
    by : (o : Option File) → option_map_or queue_of o []
        ≡ option_map_or (λ t. t.queue) (option_and_then socket_of o) []
    by None = refl
    by (Some Plain) = refl
    by (Some (AsSocket t)) = refl

  -- The tests of a send of a byte are those of the peer or the target, and of its room.
  send : IsSound w → refusal w p (step.Send n (0 ∷ []) [])
      ≡ first_fit (on_peer s ++ on_target f target ++ on_input (is_deaf w q)
      ++ on_room (option_map_or (λ t. t.queue) target []))
  send sound = left (λ x. on_peer x ++ on_target (ino_on w p n) (socket_at w (peer_of x.state))
      ++ (nat_lt MAX_INFLIGHT (total w + 0), ENOBUFS) ∷ on_input (is_deaf w (peer_of x.state))
      ++ on_room (queue_at w (peer_of x.state)))
      ∙ (λ i. first_fit (on_peer s ++ on_target (unwrap_or (stands i) 0) target
      ++ (no-more sound i, ENOBUFS) ∷ on_input (is_deaf w q) ++ on_room (queue-there i)))

  -- The socket is writable exactly if steps find it so.
  write : IsSound w → writes f s target ≡ (found w p n).writable
  write sound =
      by (not (is_linked s)) (is_hung_up s.state
      || s.ends.no_output) (nat_eq q 0) (is_none target)
      (option_map_or (λ t. sends_elsewhere f t.state) target false) (is_deaf w q)
      (nat_le MAX_MESSAGES (length (option_map_or (λ t. t.queue) target [])))
      (is_datagram s.kind)
      ∙ (λ i. if is_datagram (sym socket-is i).kind then not (waits (sym (send sound) i)) else
      is_none (sym (send sound) i)) where
        by : (a b c d e g full datagram : Bool)
            → (if datagram
            then not (is_none (first_fit (tests a b c d e g)))
            || is_none (first_fit ((full, EAGAIN) ∷ []))
            else is_none (first_fit (tests a b c d e g))
            && is_none (first_fit ((full, EAGAIN) ∷ [])))
            ≡ (if datagram
            then not (waits (first_fit (tests a b c d e g ++ (full, EAGAIN) ∷ [])))
            else is_none (first_fit (tests a b c d e g ++ (full, EAGAIN) ∷ [])))
        by true b c d e g full true = refl
        by true b c d e g full false = refl
        by false true c d e g full true = refl
        by false true c d e g full false = refl
        by false false true d e g full true = refl
        by false false true d e g full false = refl
        by false false false true e g full true = refl
        by false false false true e g full false = refl
        by false false false false true g full true = refl
        by false false false false true g full false = refl
        by false false false false false true full true = refl
        by false false false false false true full false = refl
        by false false false false false false true true = refl
        by false false false false false false true false = refl
        by false false false false false false false true = refl
        by false false false false false false false false = refl

pub ready_is_what_steps_find : ReadyIsWhatStepsFind
ready_is_what_steps_find w p n f s sound stands is =
    ap (option_map (ready_of w.files f)) (file_of_socket w f s is) ∙ (λ i. Some (record {
      readable = read w p n f s stands is i;
      writable = write w p n f s stands is sound i;
      hung_up = is_cut_off (sym (socket-is w p n f s stands is) i);
    }))
