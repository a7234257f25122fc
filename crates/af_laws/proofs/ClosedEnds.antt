-- Which ends a shutdown closes, that a closed end stays closed, and that nothing is sent through it.
use Rattle.std.proofs.Common.{◌≡◌, ℕ, Bool, true, false, not, ◌||◌, [], ◌∷◌, ◌++◌, length, refl, sym, ap, ◌∙◌, subst, cond, arith}
use Rattle.std.specs.Prelude.{Option, Some, None, is_some, nat_eq, option_map, unwrap_or}
use Rattle.std.specs.Option.{option_and_then}
use Rattle.std.specs.Ordering.{nat_cmp, eq_by_cmp}
use Rattle.std.specs.Cmp.{unsigned_tied}
use Rattle.std.specs.FinMap as map
use Rattle.af_base.specs.declared.errno.Errno.TheVariants.{ENOTCONN, EPIPE}
use Rattle.af_base.specs.declared.events.Ends.{Ends}
use Rattle.af_base.specs.declared.events.Event.{Event}
use Rattle.af_base.specs.declared.events.Event.TheVariants as event
use Rattle.af_base.specs.declared.events.Reply.TheVariants as reply
use Rattle.af_base.specs.declared.events.Shutdown.{Shutdown}
use Rattle.af_base.specs.declared.events.SockType.{SockType}
use Rattle.af_base.specs.declared.events.Step.{Step}
use Rattle.af_base.specs.declared.events.Step.TheVariants as step
use Rattle.af_base.specs.World.{AsSocket, File, Plain, Socket, World}
use Rattle.af_base.specs.Changes.{closed, file_with, shut, with_socket}
use Rattle.af_base.specs.Counts.{charged, total}
use Rattle.af_base.specs.Places.{queue_at, table_at}
use Rattle.af_base.specs.Refusals.{RefusalRow, connected_to, first_fit, ino_on, is_datagram, is_deaf, is_hung_up, on_charge, on_input, on_parts, on_peer, on_room, on_target, peer_of, process_at, refusal, socket_at, socket_of}
use Rattle.af_base.specs.Steps.{Outcome, closes_input, closes_output, effect, with_shut}
use Rattle.af_base.proofs.AllowedSteps.{get-change_at}
use Rattle.af_base.proofs.Lookups.{itself, some_same, told_apart}
use Rattle.af_base.proofs.SoundSteps.{passes-on}
use Rattle.af_laws.proofs.Outcomes.{settled_stays}
use Rattle.af_laws.proofs.Peers.{peer-takes}
use Rattle.af_laws.proofs.Polls.{left, socket-is}
use Rattle.af_laws.proofs.Shutdowns.{shut_settled}
use Rattle.af_laws.proofs.SocketChanges.{file_of_socket}
use Rattle.af_laws.proofs.SocketWalks.{AllowsEvent, AllowsKind, AllowsStep, Have, IsLasting, have_event}
use Rattle.af_laws.specs.Shutting.{ClosesEnds, NothingIsSentThroughAClosedEnd, ShutEndsStayShut, ShutdownClosesEnds, StayShut, ends_at}

-- The ends of a socket that are closed, if a file is one.
abbrev ends_of : Option File → Option Ends
ends_of o = option_map (λ s. s.ends) (option_and_then socket_of o)

-- Ends of the socket k are closed.
module _ (w : World) (k : ℕ) (a b : Bool) where
  -- The ends of a file after it, by whether it is that socket.
  ends_after : (q : ℕ) (same : Bool) → eq_by_cmp nat_cmp q k ≡ same → ends_at (with_socket w k (shut a b)) q ≡ ends_of (option_map (λ x. cond same (file_with (shut a b) x) x) (map.get w.files q))
  ends_after q same is = ap ends_of (get-change_at (file_with (shut a b)) w.files k q) ∙ ap (λ c. ends_of (option_map (λ x. cond c (file_with (shut a b) x) x) (map.get w.files q))) is

  -- They are closed.
  closed_here : ends_at (with_socket w k (shut a b)) k ≡ option_map (closed a b) (ends_at w k)
  closed_here = ends_after k true (unsigned_tied k k ∙ itself k) ∙ by (map.get w.files k) where
    by : (o : Option File) → ends_of (option_map (λ x. cond true (file_with (shut a b) x) x) o) ≡ option_map (closed a b) (ends_of o)
    by None = refl
    by (Some Plain) = refl
    by (Some (AsSocket s)) = refl

  -- No others are.
  closed_nowhere_else : (q : ℕ) → ¬ (q ≡ k)
      → ends_at (with_socket w k (shut a b)) q ≡ ends_at w q
  closed_nowhere_else q other = ends_after q false (unsigned_tied q k ∙ told_apart q k other) ∙ by (map.get w.files q) where
    by : (o : Option File) → ends_of (option_map (λ x. cond false (file_with (shut a b) x) x) o) ≡ ends_of o
    by None = refl
    by (Some x) = refl

-- The effect of a shutdown closes the ends.
closes_ends : (w : World) (f q : ℕ) (how : Shutdown) → ¬ (q ≡ f)
    → ClosesEnds w (with_shut w f q how) f q how
closes_ends w f q how two = record {
  own = closed_nowhere_else mid q output input f (λ same. two (sym same)) ∙ closed_here w f input output;
  met =
      closed_here mid q output input
      ∙ ap (option_map (closed output input)) (closed_nowhere_else w f input output q two);
  others = λ g not_own not_met. closed_nowhere_else mid q output input g not_met ∙ closed_nowhere_else w f input output g not_own;
} where
  input : Bool
  input = closes_input how

  output : Bool
  output = closes_output how

  mid : World
  mid = with_socket w f (shut input output)

pub shutdown_closes_ends : ShutdownClosesEnds
shutdown_closes_ends old new p n f how s settled stands is two h =
    subst (λ w. ClosesEnds old w f q how) (sym led) (closes_ends old f q how two) where
      q : ℕ
      q = connected_to s.state

      -- The effect, of what was looked up.
      same : effect old p (step.Shutdown n how) ≡ with_shut old f q how
      same = λ i. with_shut old (unwrap_or (stands i) 0)
          (connected_to (socket-is old p n f s stands is i).state) how

      done : Outcome None true reply.Ok (with_shut old f q how) old reply.Ok new
      done = subst (λ w. Outcome None true reply.Ok w old reply.Ok new) same (subst (λ o. Outcome o true reply.Ok (effect old p (step.Shutdown n how)) old reply.Ok new) (left old p n f s stands is (λ x. [])) h)

      led : new ≡ with_shut old f q how
      led = (settled_stays (with_shut old f q how) new (shut_settled old f q how settled)).0 done.1

-- An end that is closed besides is closed.
or_closed : (a : Bool) → (a || true) ≡ true
or_closed true = refl
or_closed false = refl

pub nothing_is_sent_through_a_closed_end : NothingIsSentThroughAClosedEnd
nothing_is_sent_through_a_closed_end w p n f bytes attach s whole stands is talks valid = record {
  output = λ shut_output. looked_up ∙ ap (λ b. first_fit (rest b)) (ap (λ b. is_hung_up s.state || b) shut_output ∙ or_closed (is_hung_up s.state));
  input = λ deaf free. looked_up
      ∙ refused_by_input deaf free (is_hung_up s.state) refl s.ends.no_output;
} where
  q : ℕ
  q = peer_of s.state

  -- The tests of the charge.
  charge : RefusalRow
  charge = let user = process_at w p in on_charge (charged w user.user) (total w) user.limit user.privileged (length attach)

  -- The tests of the input and the room.
  last : RefusalRow
  last = on_input (is_deaf w q) ++ on_room (queue_at w q)

  -- The tests of the peer.
  there : RefusalRow
  there = (nat_eq q 0, ENOTCONN) ∷ on_target f (socket_at w q)

  -- The tests of a connected socket, where this is whether nothing can leave it.
  rest : Bool → RefusalRow
  rest b = (b, EPIPE) ∷ (there ++ charge ++ last)

  looked_up : refusal w p (step.Send n bytes attach) ≡ first_fit (rest (is_hung_up s.state || s.ends.no_output))
  looked_up = left w p n f s stands is (λ x. on_parts (table_at w p) bytes attach ++ on_peer x
      ++ on_target (ino_on w p n) (socket_at w (peer_of x.state)) ++ charge
      ++ on_input (is_deaf w (peer_of x.state)) ++ on_room (queue_at w (peer_of x.state)))
      ∙ passes-on (on_parts (table_at w p) bytes attach) (on_peer s
      ++ on_target (ino_on w p n) (socket_at w q) ++ charge ++ last) valid
      ∙ (λ i. first_fit ((not (talks i || is_datagram s.kind), ENOTCONN) ∷ (
        is_hung_up s.state
            || s.ends.no_output,
        EPIPE,
      ) ∷ (
        nat_eq q 0,
        ENOTCONN,
      ) ∷ on_target (unwrap_or (stands i) 0) (socket_at w q) ++ charge ++ last))

  refused_by_input : is_deaf w q ≡ true → first_fit charge ≡ None → (b : Bool)
      → is_hung_up s.state ≡ b → (c : Bool) → first_fit (rest (b || c)) ≡ Some EPIPE
  refused_by_input deaf free true up c = refl
  refused_by_input deaf free false up true = refl
  refused_by_input deaf free false up false =
      passes-on there (charge ++ last) (peer-takes w f s whole (file_of_socket w f s is) talks up)
      ∙ passes-on charge last free
      ∙ (λ i. first_fit ((deaf i, EPIPE) ∷ on_room (queue_at w q)))

pub shut_ends_stay_shut : ShutEndsStayShut
shut_ends_stay_shut old new e r whole h f x y was is = have_event old.world.next_ino Shut lasts old new e r (allows e) (omega arith) before h f y (file_of_socket new.world f y is) refl where
  -- The ends closed of x are closed of the socket, if it is at the same number.
  Shut : ℕ → Socket → Type 0
  Shut k s = k ≡ f → StayShut x.ends s.ends

  there : map.get old.world.files f ≡ Some (AsSocket x)
  there = file_of_socket old.world f x was

  lasts : IsLasting old.world.next_ino Shut
  lasts = record {
    made = λ k s low made kind same. let known = whole.files_numbered f (ap is_some there) in
        absurd (omega (arith, known, low, same));
    stays = λ k s t same h e. subst (StayShut x.ends) (sym same.ends) (h e);
  }

  fresh : (kind : SockType) → AllowsKind old.world.next_ino Shut kind
  fresh kind k s low made is same = let known = whole.files_numbered f (ap is_some there) in
      absurd (omega (arith, known, low, same))

  before : Have Shut old.world.files
  before k s e same = subst (λ (z : Socket). StayShut x.ends z.ends) (some_same x s (ap (λ o. option_and_then socket_of o) (sym there ∙ ap (map.get old.world.files) (sym same) ∙ e))) (record { input = λ c. c; output = λ c. c })

  more : (a b : Bool) → a ≡ true → (a || b) ≡ true
  more a b c = ap (λ d. d || b) c

  closes : (k : ℕ) (s : Socket) (input output : Bool) → Shut k s → Shut k (shut input output s)
  closes k s input output h e = record {
    input = λ c. more s.ends.no_input input ((h e).input c);
    output = λ c. more s.ends.no_output output ((h e).output c);
  }

  step_allows : (s : Step) → AllowsStep old.world.next_ino Shut s
  step_allows (step.Shutdown n how) = closes
  step_allows (step.Pair kind) = fresh kind
  step_allows (step.Socket kind) = fresh kind
  step_allows s = tt

  allows : (e : Event) → AllowsEvent old.world.next_ino Shut e
  allows (event.Proc p s) = step_allows s
  allows (event.Spawn uid nofile privileged) = tt
  allows event.Begin = tt
  allows (event.Slice b) = tt
  allows event.Pass = tt
