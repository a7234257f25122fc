-- A datagram socket that gets another target, or none: the world stays whole and within the limits,
-- and no file is held that was not.
use Rattle.std.proofs.Common.{◌≡◌, ◌<◌, ◌≤◌, ℕ, zero, suc, Bool, true, false, not, ◌⊎◌, inl, inr, [], length, refl, sym, ap, ◌∙◌, subst, nat_eq, arith}
use Rattle.std.specs.Prelude.{Some, if◌then◌else◌}
use Rattle.std.specs.List.{Contains, sum_by}
use Rattle.std.specs.FinMap as map
use Rattle.std.proofs.lemmas.Bool.{false≢true}
use Rattle.std.proofs.lemmas.List.Elements.{Contains-append_cases, Contains-append_left, Contains-append_right}
use Rattle.af_base.specs.declared.events.SockType.{SockType}
use Rattle.af_base.specs.declared.events.State.{State}
use Rattle.af_base.specs.declared.events.State.TheVariants as state
use Rattle.af_base.specs.World.{AsSocket, File, Plain, Socket, World}
use Rattle.af_base.specs.Places.{Holds, attached_in, contents, queue_of}
use Rattle.af_base.specs.Changes.{aimed, file_with, sending_to, sends_elsewhere, with_socket}
use Rattle.af_base.specs.Refusals.{is_datagram, is_listening, room_of}
use Rattle.af_base.specs.Whole.{IsWhole, IsWithin, fits_type}
use Rattle.af_base.proofs.Elements.{Contains-none}
use Rattle.af_base.proofs.Lookups.{changed-was, some_same}
use Rattle.af_base.proofs.PlaceMoves.{held-changed}
use Rattle.af_base.proofs.SocketNames.{names-changed}
use Rattle.af_base.proofs.StaysWhole.{has_peer, mutual-alone, once-changed, whole-socket}
use Rattle.af_base.proofs.StaysWithin.{no_room, socket_same, within-changed}
use Rattle.af_base.proofs.Totals.{total-below}
use Rattle.af_base.proofs.TypedFiles.{IsTyped, not_sending, target_or, typed-changed, typed-whole}

-- A datagram socket does not listen, and has no peer.
pub datagram-alone : (kind : SockType) (t : State) → fits_type kind t ≡ true → is_datagram kind
    ≡ true → (is_listening t ≡ false) × (has_peer t ≡ false)
datagram-alone kind state.Idle fits d = (refl, refl)
datagram-alone kind (state.Listening b) fits d = absurd (false≢true (sym (ap not d) ∙ fits))
datagram-alone kind (state.Connected p) fits d = absurd (false≢true (sym (ap not d) ∙ fits))
datagram-alone kind state.HungUp fits d = (refl, refl)
datagram-alone kind (state.Sends q) fits d = (refl, refl)

-- A socket that listens is for connections.
pub listens-stream : (kind : SockType) (t : State) → fits_type kind t ≡ true → is_listening t
    ≡ true → is_datagram kind ≡ false
listens-stream kind (state.Listening b) fits l = by (is_datagram kind) fits where
  by : (b : Bool) → not b ≡ true → b ≡ false
  by true e = absurd (false≢true e)
  by false e = refl
listens-stream kind state.Idle fits l = absurd (false≢true l)
listens-stream kind (state.Connected p) fits l = absurd (false≢true l)
listens-stream kind state.HungUp fits l = absurd (false≢true l)
listens-stream kind (state.Sends q) fits l = absurd (false≢true l)

-- A socket with a target or none has no peer, does not listen and has room for no embryo.
pub sending-alone : (to : ℕ) → (has_peer (sending_to to) ≡ false)
    × (is_listening (sending_to to) ≡ false) × (room_of (sending_to to) ≡ 0)
sending-alone to = by (nat_eq to 0) where
  by : (b : Bool) → (has_peer (if b then state.Idle else state.Sends to) ≡ false)
      × (is_listening (if b then state.Idle else state.Sends to) ≡ false)
      × (room_of (if b then state.Idle else state.Sends to) ≡ 0)
  by true = (refl, refl, refl)
  by false = (refl, refl, refl)

-- Its queue is as it was, or is lost.
pub queue-aimed : (to : ℕ) (x : Socket) → ((aimed to x).queue ≡ []) ⊎ ((aimed to x).queue ≡ x.queue)
queue-aimed to x = by (sends_elsewhere to x.state) where
  by : (b : Bool) → ((if b then [] else x.queue) ≡ []) ⊎ ((if b then [] else x.queue) ≡ x.queue)
  by true = inl refl
  by false = inr refl

-- A file that it holds it held.
pub contents-aimed : (to : ℕ) (x : Socket) (f : ℕ) → Contains (contents (AsSocket (aimed to x))) f
    → Contains (contents (AsSocket x)) f
contents-aimed to x f h =
    elim (Contains-append_cases (attached_in (aimed to x).queue) x.backlog f h) [
      | inl y ↦ Contains-append_left (attached_in x.queue) x.backlog f (elim (queue-aimed to x) [
        | inl e ↦ absurd (Contains-none f (subst (λ q. Contains (attached_in q) f) e y))
        | inr e ↦ subst (λ q. Contains (attached_in q) f) e y
      ])
      | inr y ↦ Contains-append_right (attached_in x.queue) x.backlog f y
    ]

module _ (w : World) (s to : ℕ) where
  -- The world with the other target.
  abbrev new : World
  new = with_socket w s (aimed to)

  -- A held file was held.
  pub held-aimed : (q f : ℕ) → Holds new q f → Holds w q f
  held-aimed q f h = elim (held-changed {A =
      ⊥} w s (aimed to) q f (λ x is d. inl (contents-aimed to x f d)) h) [
        | inl y ↦ y
        | inr y ↦
            absurd y
      ]

  -- The state fits the type of a datagram socket, and the target is a number that was given.
  typed-aimed : (x : Socket) → is_datagram x.kind ≡ true → to < w.next_ino
      → IsTyped w.next_ino (AsSocket (aimed to x))
  typed-aimed x datagram low = by (nat_eq to 0) refl where
    positive : (k : ℕ) → nat_eq k 0 ≡ false → 0 < k
    positive zero e = absurd (false≢true (sym e))
    positive (suc k) e = omega arith

    by : (b : Bool) → nat_eq to 0 ≡ b
        → IsTyped w.next_ino (AsSocket (record (aimed to x) {
          state =
              if b then state.Idle else state.Sends to;
        }))
    by true e = record { fits = refl; target = λ q d. not_sending state.Idle q refl d }
    by false e = record {
      fits = datagram;
      target = λ q d.
          let same : to ≡ q = ap (target_or 0) d in
          let some = positive to e in
          (omega (arith, same, some), omega (arith, same, low));
    }

  -- A whole world stays whole.
  pub whole-aimed : (x : Socket) → map.get w.files s ≡ Some (AsSocket x) → is_datagram x.kind
      ≡ true → to < w.next_ino → IsWhole w → IsWhole new
  whole-aimed x at datagram low k =
      let alone = datagram-alone x.kind x.state (typed-whole k s (AsSocket x) at).fits datagram in
      whole-socket w s (aimed to) (λ y f is h. inl (contents-aimed to y f h))
      (mutual-alone w s (aimed to) x at alone.1 (sending-alone to).0 k.peers)
      (typed-changed w s (aimed to)
      (λ y is h. typed-aimed y
      (ap (λ z. is_datagram z.kind) (socket_same y x (some_same _ _ (sym is ∙ at)))
      ∙ datagram) low) (typed-whole k))
      (names-changed w s (aimed to) (λ y. refl) k.names)
      (once-changed w s (aimed to) (λ y. refl) k.embryos) k

  -- A world within the limits stays within them.
  pub within-aimed : (x : Socket) → IsWithin w → map.get w.files s ≡ Some (AsSocket x)
      → is_listening x.state ≡ false → IsWithin new
  within-aimed x k at silent =
      within-changed w s (aimed to) k (λ y is.
      let before = k.sockets s y is in
      let alone = sending-alone to in
      let none = no_room y.state
      (ap (λ z. is_listening z.state) (socket_same y x (some_same _ _ (sym is ∙ at)))
      ∙ silent) in
      record {
        queue = elim (queue-aimed to y) [
          | inl e ↦ let short : length (aimed to y).queue ≡ 0 = ap length e in omega (arith, short)
          | inr e ↦ let same : length (aimed to y).queue ≡ length y.queue = ap length e in let most = before.queue in omega (arith, same, most)
        ];
        least = λ l. absurd (false≢true (sym alone.1 ∙ l));
        room = omega (arith, alone.2);
        backlog = let few = before.backlog in omega (arith, none, few);
        name = before.name;
        messages = λ m h. elim (queue-aimed to y) [
          | inl e ↦ absurd (Contains-none m (subst (λ q. Contains q m) e h))
          | inr e ↦ before.messages m (subst (λ q. Contains q m) e h)
        ];
      })
      (let most = k.flying in omega (
        arith,
        most,
        total-below places places new.files w.files (λ f y is.
            let was = changed-was (file_with (aimed to)) w.files s f y is in (
              was.0,
              was.1,
              elim was.2 [
                | inl z ↦ subst (λ y. places y ≤ places was.0) (sym z.1) (lighter was.0)
                | inr z ↦ subst (λ y. places y ≤ places was.0) (sym z) (omega arith)
              ],
            )),
      )) where
        places : File → ℕ
        places y = sum_by (λ m. length m.attached) (queue_of y)

        lighter : (y : File) → places (file_with (aimed to) y) ≤ places y
        lighter Plain = omega arith
        lighter (AsSocket y) = elim (queue-aimed to y) [
          | inl e ↦ let none : places (AsSocket (aimed to y)) ≡ 0 = ap (sum_by (λ m. length m.attached)) e in omega (arith, none)
          | inr e ↦ let same : places (AsSocket (aimed to y)) ≡ places (AsSocket y) = ap (sum_by (λ m. length m.attached)) e in omega (arith, same)
        ]
