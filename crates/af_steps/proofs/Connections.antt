-- A connect and an accept, by what was looked up.
use Rattle.std.proofs.Common.{◌≡◌, ◌<◌, ℕ, Bool, true, false, List, [], ◌∷◌, ◌++◌, length, nat_eq, refl, sym, ap, ◌∙◌, subst}
use Rattle.std.specs.Prelude.{◌||◌, IfSome, Option, Some, None, if◌then◌else◌, is_none, not, unwrap_or, slice_get}
use Rattle.std.specs.Option.{IsSome, option_and_then, option_map_or}
use Rattle.std.proofs.lemmas.Bool.{false≢true, leb-false}
use Rattle.af_base.specs.declared.errno.Errno.TheVariants.{EINVAL, EISCONN, EMFILE}
use Rattle.af_base.specs.declared.events.SockType.{SockType}
use Rattle.af_base.specs.declared.events.SockType.TheVariants.{Dgram, Seqpacket, Stream}
use Rattle.af_base.specs.declared.events.State.{State}
use Rattle.af_base.specs.declared.events.State.TheVariants as state
use Rattle.af_base.specs.declared.events.Step.TheVariants as step
use Rattle.af_base.specs.declared.limits.TheConstants.{MAX_BACKLOG}
use Rattle.af_base.specs.Changes.{aimed, with_socket}
use Rattle.af_base.specs.Names.{bound_to, is_between, named, set_of}
use Rattle.af_base.specs.Places.{backlog_at, backlog_of}
use Rattle.af_base.specs.Refusals.{first_fit, ino_named, is_connected, is_datagram, is_listening, is_same_type, is_short, no_socket, on_accept, on_client, on_files, on_free, on_listen, on_listener, refusal, room_of, socket_at, socket_named}
use Rattle.af_base.specs.Steps.{first_embryo, with_embryo}
use Rattle.af_base.specs.Whole.{IsWhole, fits_type}
use Rattle.af_base.specs.World.{Process, Socket, World}
use Rattle.af_base.proofs.Lookups.{none_some}
use Rattle.af_base.proofs.SocketNames.{named-some}
use Rattle.af_base.proofs.SoundSteps.{none-fits, passes-on}
use Rattle.af_steps.specs.Found.{HasListener, HasSocket}
use Rattle.af_steps.proofs.LookupRows.{after-socket, file-is, ino-is, socket-is}

-- A listener of a name is a socket.
pub listener-is : (w : World) (set : ℕ) (name : List ℕ) (f : ℕ) → named w.files set name ≡ Some f
    → is_none (socket_at w f) ≡ false
listener-is w set name f has = by (socket_at w f) (named-some w set name f has) where
  by : (o : Option Socket) → option_and_then bound_to o ≡ Some (set, name) → is_none o ≡ false
  by None e = absurd (none_some (set, name) e)
  by (Some s) e = refl

-- A row that is not missing is there.
pub some-by : {B : Type 0} (o : Option B) → ¬ (o ≡ None) → IsSome o
some-by None e = absurd (e refl)
some-by (Some b) e = refl

-- None of four alternatives holds: so the middle ones do not.
neither : (a b c d : Bool) → a || b || c || d ≡ false → (b ≡ false) × (c ≡ false)
neither true b c d e = absurd (false≢true (sym e))
neither false true c d e = absurd (false≢true (sym e))
neither false false true d e = absurd (false≢true (sym e))
neither false false false d e = (refl, refl)

-- A socket for connections that may connect was never connected.
pub idle-client : (kind : SockType) (t : State) → fits_type kind t ≡ true → is_datagram kind
    ≡ false → first_fit (on_client t) ≡ None → t ≡ state.Idle
idle-client kind state.Idle fits apart given = refl
idle-client kind (state.Listening b) fits apart given = absurd (none_some EINVAL (sym given))
idle-client kind (state.Connected q) fits apart given = absurd (none_some EISCONN (sym given))
idle-client kind state.HungUp fits apart given = absurd (none_some EISCONN (sym given))
idle-client kind (state.Sends q) fits apart given = absurd (false≢true (sym apart ∙ fits))

-- A socket that may listen was never connected.
pub idle-listener : (x : Socket) (backlog : ℕ) → fits_type x.kind x.state ≡ true
    → first_fit (on_listen x backlog) ≡ None → x.state ≡ state.Idle
idle-listener x backlog fits given =
    let tests = none-fits (on_listen x backlog) given in
    let new = neither (is_none x.name) (is_connected x.state) (is_listening x.state)
    (not (is_between 1 MAX_BACKLOG backlog)) tests.rest.here in
    by x.state fits tests.here new.0 new.1 where
      by : (t : State) → fits_type x.kind t ≡ true → is_datagram x.kind ≡ false → is_connected t
          ≡ false → is_listening t ≡ false → t ≡ state.Idle
      by state.Idle fits apart c l = refl
      by (state.Listening b) fits apart c l = absurd (false≢true (sym l))
      by (state.Connected q) fits apart c l = absurd (false≢true (sym c))
      by state.HungUp fits apart c l = absurd (false≢true (sym c))
      by (state.Sends q) fits apart c l = absurd (false≢true (sym apart ∙ fits))

-- Types of which one is the other are the same.
same-type : (a b : SockType) → not (is_same_type a b) ≡ false → a ≡ b
same-type Stream Stream e = refl
same-type Stream Seqpacket e = absurd (false≢true (sym e))
same-type Stream Dgram e = absurd (false≢true (sym e))
same-type Seqpacket Stream e = absurd (false≢true (sym e))
same-type Seqpacket Seqpacket e = refl
same-type Seqpacket Dgram e = absurd (false≢true (sym e))
same-type Dgram Stream e = absurd (false≢true (sym e))
same-type Dgram Seqpacket e = absurd (false≢true (sym e))
same-type Dgram Dgram e = refl

-- A connect of a socket for connections, which found a listener.
module _ {w : World} {p n f : ℕ} {q : Process} {x : Socket} (has : HasSocket w p q n f x)
    (name : List ℕ) (whole : IsWhole w) (no : is_datagram x.kind
    ≡ false) (given : first_fit (on_client x.state) ≡ None) where
  pub listener-found : (g : ℕ) → named w.files (set_of x.kind) name ≡ Some g
      → first_fit (on_listener (socket_named w x.kind name) x.kind ++ on_files w 1) ≡ None
      → HasListener w p n name f g x.kind
  listener-found g there fits =
      let listens = listener-is w (set_of x.kind) name g there in
      let is : socket_named w x.kind name ≡ unwrap_or (socket_at w g) no_socket =
      ap (λ o. unwrap_or (option_and_then (socket_at w) o) no_socket) there in
      let tests = none-fits (on_listener (socket_named w x.kind name) x.kind
      ++ on_files w 1) fits in
      let kind = same-type (socket_named w x.kind name).kind x.kind tests.rest.here in
      let room = leb-false (room_of (socket_named w x.kind name).state)
      (length (socket_named w x.kind name).backlog) tests.rest.rest.here in
      record {
        full = tests.rest.rest.rest.here;
        client = ap is_none has.found;
        connections = subst (λ o. IfSome o (λ (s : Socket). is_datagram s.kind
            ≡ false)) (sym has.found) no;
        type = no;
        idle = subst (λ o. IfSome o (λ (s : Socket). s.state
            ≡ state.Idle)) (sym has.found)
            (idle-client x.kind x.state (whole.types f x has.found) no given);
        listener = listens;
        room = some (socket_at w g) listens
            (subst (λ (s : Socket). length s.backlog < room_of s.state) is room);
        leads =
            (λ i. if is_datagram (socket-is has i).kind then with_socket w (ino-is has.number i)
            (aimed (ino_named w (socket-is has i).kind name)) else with_embryo w
            (ino-is has.number i) (ino_named w (socket-is has i).kind name)
            (socket_named w (socket-is has i).kind name).kind)
            ∙ (λ i. if no i then with_socket w f (aimed (ino_named w x.kind name)) else with_embryo
            w f (unwrap_or (there i) 0) (kind i));
      } where
        some : (o : Option Socket) → is_none o ≡ false
            → length (unwrap_or o no_socket).backlog < room_of (unwrap_or o no_socket).state
            → IfSome o (λ (s : Socket). length s.backlog < room_of s.state)
        some None e low = absurd (false≢true (sym e))
        some (Some s) e low = low

-- An accept, where somebody waits.
module _ {w : World} {p n f : ℕ} {q : Process} {x : Socket} (has : HasSocket w p q n f x) (given : first_fit (on_accept x) ≡ None) where
  -- The embryo that waits longest is in the backlog.
  pub first-waits : slice_get (backlog_at w f) 0 ≡ Some (first_embryo w p n)
  first-waits =
      ap (λ o. slice_get (option_map_or backlog_of o []) 0) (file-is w f x has.found)
      ∙ some x.backlog (none-fits (on_accept x) given).rest.rest.here
      ∙ ap (λ (s : Socket). Some (unwrap_or (slice_get s.backlog 0) 0)) (sym (socket-is has))
    where
      some : (fs : List ℕ) → nat_eq (length fs) 0 ≡ false → slice_get fs 0 ≡ Some (unwrap_or (slice_get fs 0) 0)
      some [] e = absurd (false≢true (sym e))
      some (f ∷ fs) e = refl

  -- Nothing refuses the step, where a number is free.
  pub accept-fits : is_short q 1 ≡ false → refusal w p (step.Accept n) ≡ None
  accept-fits free = after-socket has (λ r look s. on_accept s ++ on_free r 1) ∙ passes-on (on_accept x) (on_free q 1) given ∙ ap (λ b. first_fit ((b, EMFILE) ∷ [])) free
