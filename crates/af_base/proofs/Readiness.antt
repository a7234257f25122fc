-- Readiness follows from a file's face and its peer's, and a step changes few faces.
use Rattle.std.proofs.Common.{◌≡◌, ◌<◌, ℕ, ◌+◌, Bool, true, false, not, ◌&&◌, ◌||◌, inl, inr, List, [], ◌∷◌, ◌++◌, refl, sym, ap, ◌∙◌, subst, cond, nat_eq, arith}
use Rattle.std.specs.Prelude.{Option, Some, None, option_map, is_none, is_some, length, nat_le, if◌then◌else◌}
use Rattle.std.specs.Option.{option_and_then, option_map_or}
use Rattle.std.specs.List.{Contains, zip}
use Rattle.std.specs.Ordering.{nat_cmp, eq_by_cmp}
use Rattle.std.specs.FinMap as map
use Rattle.std.proofs.lemmas.Bool.{cases_Bool, false≢true}
use Rattle.af_base.specs.declared.errno.Errno.{Errno}
use Rattle.af_base.specs.declared.errno.Errno.TheVariants.{EAGAIN, ECONNREFUSED, ENOTCONN, EPERM, EPIPE}
use Rattle.af_base.specs.declared.events.Reply.{Reply}
use Rattle.af_base.specs.declared.events.State.{State}
use Rattle.af_base.specs.declared.events.State.TheVariants as state
use Rattle.af_base.specs.declared.events.Step.{Step}
use Rattle.af_base.specs.declared.events.Step.TheVariants as step
use Rattle.af_base.specs.declared.limits.TheConstants.{MAX_MESSAGES}
use Rattle.af_base.specs.declared.ready.Ready.{Ready}
use Rattle.af_base.specs.Told.{AreChanged, HasTargetAsThen, TellsChanged, is_socket_in}
use Rattle.af_base.specs.World.{AsSocket, File, IsLive, Plain, Since, Socket, World, is_live}
use Rattle.af_base.specs.Changes.{add_file, aimed, connected, dequeued, file_with, install, install_all, listening, pushed, queued, sends_elsewhere, shut, with_name, with_queue, with_socket}
use Rattle.af_base.specs.Pass.{Purges, emptied, empty_file}
use Rattle.af_base.specs.Refusals.{RefusalRow, connected_to, first_fit, ino_named, ino_on, is_datagram, is_hung_up, is_linked, no_socket, on_peer, peer_of, socket_named, socket_of, socket_on}
use Rattle.af_base.specs.Steps.{Outcome, ProcessStep, closes_input, closes_output, connected_socket, effect, got_at, idle_socket, paired_socket, taken_on, with_embryo}
use Rattle.af_base.specs.Unheld.{Settles, file_without, state_without}
use Rattle.af_base.specs.Whole.{IsWhole, state_at, state_of}
use Rattle.af_base.specs.Ready.{Blank, Face, IsLeftAlone, Shows, face_at, face_in, face_of, is_cut_off, reads, ready, ready_of, touched, writes}
use Rattle.af_base.proofs.Elements.{Contains-first, Contains-later}
use Rattle.af_base.proofs.Lookups.{insert-other, told_apart}
use Rattle.af_base.proofs.PlaceMoves.{others-changed, state-there}
use Rattle.af_base.proofs.PurgeOrder.{get-emptied, live-emptied}
use Rattle.af_base.proofs.SettledWorlds.{get-without, live-without, stays}
use Rattle.af_base.proofs.AllowedSteps.{get-change_at}
use Rattle.af_base.proofs.StaysWhole.{not_connected, peer_or}

-- The peer of a face, or its target.
abbrev talks : Face → State
talks Blank = state.Idle
talks (Shows kind r full t e) = t

-- What a socket sees of the one where it sends: whether that sends to another, whether its input is
-- closed, and whether its queue is full.
record Sight : Type 0 where
  elsewhere : Bool
  deaf : Bool
  full : Bool

-- What the file f sees there.
abbrev sight : ℕ → Option Face → Option Sight
sight f None = None
sight f (Some Blank) = None
sight f (Some (Shows kind r full t e)) =
    Some (record { elsewhere = sends_elsewhere f t; deaf = e.no_input; full = full })

-- The tests of what is seen there, but for room.
abbrev on_sight : Option Sight → RefusalRow
on_sight o = (is_none o, ECONNREFUSED) ∷ (
  option_map_or (λ t. t.elsewhere) o false,
  EPERM,
) ∷ (option_map_or (λ t. t.deaf) o false, EPIPE) ∷ []

-- Whether there is room.
abbrev room_by : Option Sight → Bool
room_by o = is_none (first_fit ((option_map_or (λ t. t.full) o false, EAGAIN) ∷ []))

-- Whether a send from a socket is not refused, by what it sees there; or does not wait, of a
-- datagram socket.
abbrev writes_by : Socket → Option Sight → Bool
writes_by s o =
    let through = is_none (first_fit (on_peer s ++ on_sight o)) in
    if is_datagram s.kind then not through || room_by o else through && room_by o

-- The readiness of a face, by what it sees where it sends.
abbrev ready_by : Face → Option Sight → Ready
ready_by Blank there = record { readable = true; writable = true; hung_up = false }
ready_by (Shows kind r own t e) there = let s =
    record no_socket { kind = kind; state = t; ends = e } in record {
      readable = r;
      writable = writes_by s there;
      hung_up = is_cut_off s;
    }

-- The readiness of the file f, by faces alone.
abbrev by_faces : ℕ → (ℕ → Option Face) → Option Face → Option Ready
by_faces f face o = option_map (λ x. ready_by x (sight f (face (peer_of (talks x))))) o

-- What a socket sees determines whether it can send.
writes-sight : (f : ℕ) (s : Socket) (o : Option File) → writes f s (option_and_then socket_of o)
    ≡ writes_by s (sight f (option_map face_of o))
writes-sight f s None = refl
writes-sight f s (Some Plain) = refl
writes-sight f s (Some (AsSocket t)) = refl

-- A socket that has neither a peer nor a target sends nowhere, whatever there is.
writes-nowhere : (s : Socket) (o p : Option Sight) → peer_of s.state ≡ 0 → writes_by s o
    ≡ writes_by s p
writes-nowhere s o p none = mute o ∙ sym (mute p) where
  stopped : (a b c : Bool) (more : RefusalRow) → c ≡ true
      → is_none (first_fit ((a, ENOTCONN) ∷ (b, EPIPE) ∷ (c, ENOTCONN) ∷ more)) ≡ false
  stopped true b c more e = refl
  stopped false true c more e = refl
  stopped false false true more e = refl
  stopped false false false more e = absurd (false≢true e)

  choice : (datagram through room : Bool) → through ≡ false
      → (if datagram then not through || room else through && room) ≡ datagram
  choice true through room e = ap (λ b. not b || room) e
  choice false through room e = ap (λ b. b && room) e

  mute : (o : Option Sight) → writes_by s o ≡ is_datagram s.kind
  mute o = choice (is_datagram s.kind) (is_none (first_fit (on_peer s
      ++ on_sight o))) (room_by o) (stopped (not (is_linked s)) (is_hung_up s.state
      || s.ends.no_output) (nat_eq (peer_of s.state) 0) (on_sight o) (ap (λ q. nat_eq q 0) none))

-- A file's face has its peer.
state-face : (w : World) (f : ℕ) → state_at w f ≡ option_map_or talks (face_at w f) state.Idle
state-face w f = by (map.get w.files f) where
  by : (o : Option File) → option_map_or state_of o state.Idle ≡ option_map_or talks (option_map face_of o) state.Idle
  by None = refl
  by (Some Plain) = refl
  by (Some (AsSocket s)) = refl

-- A file with a face is live.
live-face : (w : World) (f : ℕ) → is_live w f ≡ is_some (face_at w f)
live-face w f = by (map.get w.files f) where
  by : (o : Option File) → is_some o ≡ is_some (option_map face_of o)
  by None = refl
  by (Some x) = refl

-- Faces determine the readiness of a file.
ready-faces : (w : World) (f : ℕ) → ready w f ≡ by_faces f (face_at w) (face_at w f)
ready-faces w f = by (map.get w.files f) where
  by : (o : Option File) → option_map (ready_of w.files f) o
      ≡ by_faces f (face_at w) (option_map face_of o)
  by None = refl
  by (Some Plain) = refl
  by (Some (AsSocket s)) = λ i. Some (record {
    readable = reads s;
    writable = writes-sight f s (map.get w.files (peer_of s.state)) i;
    hung_up = is_cut_off s;
  })

-- Where a file and its peer have the faces that they had, and it sees of its target what it saw, it
-- is ready for what it was.
same-ready : (v w : World) (f : ℕ) → face_at v f ≡ face_at w f
    → ((q : ℕ) → state_at w f ≡ state.Connected q → face_at v q ≡ face_at w q)
    → ((q : ℕ) → state_at w f ≡ state.Sends q → sight f (face_at v q) ≡ sight f (face_at w q))
    → ready v f ≡ ready w f
same-ready v w f same peer target = ready-faces v f ∙ ap (by_faces f (face_at v)) same
    ∙ each (map.get w.files f) refl ∙ sym (ready-faces w f) where
      each : (o : Option File) → map.get w.files f ≡ o → by_faces f (face_at v) (option_map face_of o)
          ≡ by_faces f (face_at w) (option_map face_of o)
      each None e = refl
      each (Some Plain) e = refl
      each (Some (AsSocket s)) e =
          λ i. Some (record {
            readable = reads s;
            writable = by s.state refl i;
            hung_up =
                is_cut_off s;
          }) where
            by : (t : State) → s.state ≡ t → writes_by s (sight f (face_at v (peer_of t)))
                ≡ writes_by s (sight f (face_at w (peer_of t)))
            by state.Idle d = writes-nowhere s _ _ (ap peer_of d)
            by (state.Listening b) d = writes-nowhere s _ _ (ap peer_of d)
            by (state.Connected q) d =
                ap (λ o. writes_by s (sight f o)) (peer q (state-there w f (AsSocket s) e ∙ d))
            by state.HungUp d = writes-nowhere s _ _ (ap peer_of d)
            by (state.Sends q) d = ap (writes_by s) (target q (state-there w f (AsSocket s) e ∙ d))

-- A file that was not touched is not the first that was.
not-first : (k : ℕ) (ks : List ℕ) (f : ℕ) → ¬ (Contains (k ∷ ks) f) → nat_eq f k ≡ false
not-first k ks f n = told_apart f k (λ e. n (subst (Contains (k ∷ ks)) (sym e) (Contains-first k ks)))

-- Another socket's change leaves a file's face.
face-other : (w : World) (s : ℕ) (g : Socket → Socket) (f : ℕ) → nat_eq f s ≡ false → face_at (with_socket w s g) f ≡ face_at w f
face-other w s g f apart = ap (option_map face_of) (others-changed w s g f apart)

-- And so does a change that shows in no face.
face-kept : (w : World) (s : ℕ) (g : Socket → Socket) → ((x : Socket) → face_of (AsSocket (g x)) ≡ face_of (AsSocket x)) → (f : ℕ) → face_at (with_socket w s g) f ≡ face_at w f
face-kept w s g same f = ap (option_map face_of) (get-change_at (file_with g) w.files s f) ∙ each (eq_by_cmp nat_cmp f s) (map.get w.files f) where
  each : (b : Bool) (o : Option File) → option_map face_of (option_map (λ x. cond b (file_with g x) x) o) ≡ option_map face_of o
  each b None = refl
  each true (Some Plain) = refl
  each true (Some (AsSocket x)) = ap Some (same x)
  each false (Some x) = refl

-- And so does a file more.
face-added : (w : World) (x : File) (f : ℕ) → f < w.next_ino → face_at (add_file w x) f ≡ face_at w f
face-added w x f low = ap (option_map face_of) (insert-other w.files w.next_ino x f (told_apart f w.next_ino (λ e. absurd (omega (arith, low, e)))))

-- Numbers taken into use change no file.
files-installed : (w : World) (p : ℕ) (es : List (ℕ × ℕ)) → (install_all w p es).files ≡ w.files
files-installed w p [] = refl
files-installed w p (e ∷ es) = files-installed (install w p e.0 e.1) p es

-- The effect of a step changes no face but those that it touches.
pub effect-faces : (w : World) (p : ℕ) (s : Step) (f : ℕ) → f < w.next_ino → ¬ (Contains (touched w p s) f) → face_at (effect w p s) f ≡ face_at w f
effect-faces w p step.Open f low n = face-added w Plain f low
effect-faces w p (step.Dup k) f low n = refl
effect-faces w p (step.Dup2 k m) f low n = by (nat_eq m k) where
  by : (b : Bool) → face_at (if b then w else install w p m (ino_on w p k)) f ≡ face_at w f
  by true = refl
  by false = refl
effect-faces w p (step.Close k) f low n = refl
effect-faces w p step.Fork f low n = refl
effect-faces w p step.Exit f low n = refl
effect-faces w p (step.Pair kind) f low n =
    let one = add_file w (AsSocket (paired_socket kind (w.next_ino + 1))) in
    face-added one (AsSocket (paired_socket kind w.next_ino)) f (omega (arith, low))
    ∙ face-added w (AsSocket (paired_socket kind (w.next_ino + 1))) f low
effect-faces w p (step.Socket kind) f low n = face-added w (AsSocket (idle_socket kind)) f low
effect-faces w p (step.Bind k name) f low n = face-kept w (ino_on w p k) (with_name name) (λ x. refl) f
effect-faces w p (step.Listen k b) f low n = face-other w (ino_on w p k) (listening b) f (not-first (ino_on w p k) [] f n)
effect-faces w p (step.Connect k name) f low n = by (is_datagram (socket_on w p k).kind) where
  c : ℕ
  c = ino_on w p k

  l : ℕ
  l = ino_named w (socket_on w p k).kind name

  by : (b : Bool) → face_at
      (if b then with_socket w c (aimed l) else with_embryo w c l
      (socket_named w (socket_on w p k).kind name).kind) f ≡ face_at w f
  by true = face-other w c (aimed l) f (not-first c (l ∷ []) f n)
  by false =
      let made = add_file w (AsSocket (connected_socket _ c)) in
      face-other (with_socket made c (connected w.next_ino)) l (queued w.next_ino) f
      (not-first l [] f (λ h. n (Contains-later c (l ∷ []) f h)))
      ∙ face-other made c (connected w.next_ino) f (not-first c (l ∷ []) f n)
      ∙ face-added w (AsSocket (connected_socket _ c)) f low
effect-faces w p (step.Accept k) f low n = face-other w (ino_on w p k) dequeued f (not-first (ino_on w p k) [] f n)
effect-faces w p (step.Send k bytes attach) f low n = face-other w (peer_of (socket_on w p k).state) (pushed _) f (not-first (peer_of (socket_on w p k).state) [] f n)
effect-faces w p (step.Recv k max_bytes max_fds) f low n =
    let taken = taken_on w p k max_bytes in
    ap (λ fs. face_in fs f) (files-installed (with_queue w (ino_on w p k) taken.rest) p (zip (got_at w p k max_bytes max_fds) taken.attached))
    ∙ face-other w (ino_on w p k) (λ x. record x { queue = taken.rest }) f (not-first (ino_on w p k) [] f n)
effect-faces w p (step.Peek k max_bytes max_fds) f low n = ap (λ fs. face_in fs f) (files-installed w p (zip (got_at w p k max_bytes max_fds) (taken_on w p k max_bytes).attached))
effect-faces w p (step.Limit k) f low n = refl
effect-faces w p (step.Shutdown k how) f low n =
    let s = ino_on w p k in
    let peer = connected_to (socket_on w p k).state in
    let own = shut (closes_input how) (closes_output how) in
    face-other (with_socket w s own) peer (shut (closes_output how) (closes_input how)) f (not-first peer [] f (λ h. n (Contains-later s (peer ∷ []) f h)))
    ∙ face-other w s own f (not-first s (peer ∷ []) f n)
effect-faces w p (step.Unconnect k) f low n =
    face-other w (ino_on w p k) (aimed 0) f (not-first (ino_on w p k) [] f n)

-- Settling keeps the face of each file that stays live, and no such file has a peer that is freed.
pub settles-faces : (mid new : World) → Settles mid new → (f : ℕ) → IsLive new f → ((q : ℕ) → state_at mid f ≡ state.Connected q → IsLive new q) → face_at new f ≡ face_at mid f
settles-faces mid new s f live peer =
    ap (λ v. face_at v f) s.2
    ∙ ap (option_map face_of) (get-without s.0 mid f ∙ ap (λ b. cond (not b) (option_map (file_without s.0) (map.get mid.files f)) None) (here f live))
    ∙ each (map.get mid.files f) refl where
      here : (q : ℕ) → IsLive new q → s.0 q ≡ false
      here q l = (stays _ _ (sym (live-without s.0 mid q) ∙ subst (λ v. IsLive v q) s.2 l)).0

      each : (o : Option File) → map.get mid.files f ≡ o → option_map face_of (option_map (file_without s.0) o) ≡ option_map face_of o
      each None e = refl
      each (Some Plain) e = refl
      each (Some (AsSocket x)) e = by x.state refl where
        by : (t : State) → x.state ≡ t → Some (face_of (AsSocket (record x { state = state_without s.0 t }))) ≡ Some (face_of (AsSocket (record x { state = t })))
        by state.Idle d = refl
        by (state.Listening b) d = refl
        by (state.Connected q) d = ap (λ b. Some (face_of (AsSocket (record x { state = cond b state.HungUp (state.Connected q) })))) (here q (peer q (state-there mid f (AsSocket x) e ∙ d)))
        by state.HungUp d = refl
        by (state.Sends q) d = refl

-- Settling keeps what is seen of each file that stays live if it was.
settles-sights : (mid new : World) → Settles mid new → (f q : ℕ) → (IsLive mid q → IsLive new q)
    → sight f (face_at new q) ≡ sight f (face_at mid q)
settles-sights mid new s f q kept =
    ap (λ v. sight f (face_at v q)) s.2
    ∙ ap (λ o. sight f (option_map face_of o)) (get-without s.0 mid q)
    ∙ each (s.0 q) refl (map.get mid.files q) refl where
      elsewhere : (t : State) → sends_elsewhere f (state_without s.0 t) ≡ sends_elsewhere f t
      elsewhere state.Idle = refl
      elsewhere (state.Listening b) = refl
      elsewhere (state.Connected p) =
          elim (s.0 p) as (λ b. sends_elsewhere f (cond b state.HungUp (state.Connected p))
          ≡ false) [ true ↦ refl | false ↦ refl ]
      elsewhere state.HungUp = refl
      elsewhere (state.Sends p) = refl

      each : (b : Bool) → s.0 q ≡ b → (o : Option File) → map.get mid.files q ≡ o
          → sight f (option_map face_of (cond (not b) (option_map (file_without s.0) o) None))
          ≡ sight f (option_map face_of o)
      each true e None is = refl
      each true e (Some x) is =
          absurd (false≢true (sym (stays _ _ (sym (live-without s.0 mid q)
          ∙ subst (λ v. IsLive v q) s.2 (kept (ap is_some is)))).0 ∙ e))
      each false e None is = refl
      each false e (Some Plain) is = refl
      each false e (Some (AsSocket x)) is =
          ap (λ b. Some (record {
            elsewhere = b;
            deaf = x.ends.no_input;
            full =
                nat_le MAX_MESSAGES (length x.queue);
          })) (elsewhere x.state)

-- A connected file is live.
connected-live : (w : World) (q f : ℕ) → state_at w q ≡ state.Connected f → IsLive w q
connected-live w q f = by (map.get w.files q) where
  by : (o : Option File) → option_map_or state_of o state.Idle ≡ state.Connected f → is_some o ≡ true
  by None e = not_connected state.Idle f refl e
  by (Some x) e = refl

-- And a socket.
connected-socket : (w : World) (q f : ℕ) → state_at w q ≡ state.Connected f → is_socket_in w.files q ≡ true
connected-socket w q f = by (map.get w.files q) where
  by : (o : Option File) → option_map_or state_of o state.Idle ≡ state.Connected f → is_some (option_and_then socket_of o) ≡ true
  by None e = absurd (not_connected state.Idle f refl e)
  by (Some Plain) e = absurd (not_connected state.Idle f refl e)
  by (Some (AsSocket s)) e = refl

-- A list of files whose face changed covers those whose readiness changed.
pub tells-changed : (w : World) (since : Since) (told : List ℕ) → IsWhole w → (since.changed ≡ true → AreChanged w.files since told) → TellsChanged w since told
tells-changed w since told whole h asked f socket none peers targets =
    sym (same-ready (record w {
      files =
          since.files;
    }) w f (sym (same f socket none))
    (λ q e. sym (same q (connected-socket w q f (whole.peers f q e)) (peers q e)))
    (λ q e. target q (targets q e))) where
      same : AreChanged w.files since told
      same = h asked

      nothing : (o : Option File) → is_some (option_and_then socket_of o) ≡ false
          → sight f (option_map face_of o) ≡ None
      nothing None e = refl
      nothing (Some Plain) e = refl
      nothing (Some (AsSocket s)) e = absurd (false≢true (sym e))

      target : (q : ℕ) → HasTargetAsThen w since told q → sight f (face_in since.files q)
          ≡ sight f (face_at w q)
      target q k = elim (cases_Bool (is_socket_in w.files q)) [
        | inl e ↦ ap (sight f) (sym (same q e k.untold))
        | inr e ↦ nothing (map.get since.files q) (elim (cases_Bool (is_socket_in since.files q)) [
          | inl d ↦ absurd (false≢true (sym e ∙ k.there d))
          | inr d ↦ d
        ]) ∙ sym (nothing (map.get w.files q) e)
      ]

-- Where the faces of all that were left alone stay, they are ready for what they were.
module _ (old new : World) (whole : IsWhole old) (these : List ℕ)
    (same : (f : ℕ) → f < old.next_ino → IsLive new f → ¬ (Contains these f)
    → ((q : ℕ) → state_at old f ≡ state.Connected q → IsLive new q) → face_at new f
    ≡ face_at old f)
    (seen : (f q : ℕ) → q < old.next_ino → (IsLive old q → IsLive new q) → ¬ (Contains these q)
    → sight f (face_at new q) ≡ sight f (face_at old q)) where
  -- A file that was left alone is ready for what it was.
  left-ready : (f : ℕ) → IsLive old f → IsLive new f → IsLeftAlone old new these f → ready new f ≡ ready old f
  left-ready f was is alone =
      same-ready new old f (same f (whole.files_numbered f was) is alone.untouched
      alone.peer_there) peers
      (λ q e. seen f q (whole.targets f q e).1 (alone.target_there q e)
      (alone.target_untouched q e)) where
        peers : (q : ℕ) → state_at old f ≡ state.Connected q → face_at new q ≡ face_at old q
        peers q e =
            let back = whole.peers f q e in
            same q (whole.files_numbered q (connected-live old q f back)) (alone.peer_there q e)
            (alone.peer_untouched q e)
            (λ h d. subst (IsLive new) (ap (peer_or 0) (sym back ∙ d)) is)

-- A property of the old world and of the settled effect holds after any outcome.
after : (P : World → Type 0) (o : Option Errno) (frugal : Bool) (answer : Reply) (effect old : World) (r : Reply) (new : World) → P old → (Settles effect new → P new) → Outcome o frugal answer effect old r new → P new
after P (Some e) frugal answer effect old r new was next out = subst P (sym out.1) was
after P None true answer effect old r new was next out = next out.1
after P None false answer effect old r new was next (inl y) = next y.1
after P None false answer effect old r new was next (inr y) = subst P (sym y.1) was

-- A step leaves the faces of all that it does not touch, and whose peer does not go.
pub step-faces : (old new : World) (p : ℕ) (s : Step) (r : Reply) → ProcessStep old p s r new → (f : ℕ) → f < old.next_ino → IsLive new f → ¬ (Contains (touched old p s) f) → ((q : ℕ) → state_at old f ≡ state.Connected q → IsLive new q) → face_at new f ≡ face_at old f
step-faces old new p s r out f low live n peer =
    let first = effect-faces old p s f low n in
    let talk = state-face (effect old p s) f ∙ ap (λ o. option_map_or talks o state.Idle) first ∙ sym (state-face old f) in
    after (λ v. face_at v f ≡ face_at old f) _ _ _ (effect old p s) old r new refl (λ t. settles-faces (effect old p s) new t f live (λ q e. peer q (sym talk ∙ e)) ∙ first) out

-- And what is seen of these, if they stay live.
step-sights : (old new : World) (p : ℕ) (s : Step) (r : Reply) → ProcessStep old p s r new
    → (f q : ℕ) → q < old.next_ino → (IsLive old q → IsLive new q)
    → ¬ (Contains (touched old p s) q) → sight f (face_at new q) ≡ sight f (face_at old q)
step-sights old new p s r out f q low kept n =
    let first = effect-faces old p s q low n in
    let was : (IsLive (effect old p s) q → IsLive old q) = λ l. live-face old q
    ∙ sym (ap is_some first) ∙ sym (live-face (effect old p s) q) ∙ l in
    after (λ v. sight f (face_at v q)
    ≡ sight f (face_at old q)) _ _ _ (effect old p s) old r new refl
    (λ t. settles-sights (effect old p s) new t f q (λ l. kept (was l))
    ∙ ap (sight f) first) out

-- And so what these are ready for.
pub step-ready : (old new : World) (p : ℕ) (s : Step) (r : Reply) → IsWhole old → ProcessStep old p s r new → (f : ℕ) → IsLive old f → IsLive new f → IsLeftAlone old new (touched old p s) f → ready new f ≡ ready old f
step-ready old new p s r whole out =
    left-ready old new whole (touched old p s) (step-faces old new p s r out)
    (step-sights old new p s r out)

-- Emptied files change no face but their own.
pub emptied-faces : (test : ℕ → Bool) (w : World) (f : ℕ) → test f ≡ false → face_at (emptied test w) f ≡ face_at w f
emptied-faces test w f e = ap (option_map face_of) (get-emptied test w f ∙ ap (λ b. option_map (λ x. if b then empty_file x else x) (map.get w.files f)) e) ∙ each (map.get w.files f) where
  each : (o : Option File) → option_map face_of (option_map (λ x. x) o) ≡ option_map face_of o
  each None = refl
  each (Some x) = refl

-- A purge of these files keeps the readiness of each other file whose peer is not among them and
-- stays live, and whose target is not among them and stays live if it was.
pub purge-ready : (old new : World) (test : ℕ → Bool) → IsWhole old → Purges test old new → (f : ℕ) → IsLive old f → IsLive new f → test f ≡ false
    → ((q : ℕ) → state_at old f ≡ state.Connected q → IsLive new q × (test q ≡ false))
    → ((q : ℕ) → state_at old f ≡ state.Sends q → (IsLive old q → IsLive new q)
    × (test q ≡ false)) → ready new f ≡ ready old f
purge-ready old new test whole purged f was is e peer target =
    same-ready new old f (face f is e (λ q d. (peer q d).0)) (λ q d.
    let back = whole.peers f q d in
    face q (peer q d).0 (peer q d).1 (λ h k. subst (IsLive new) (ap (peer_or 0) (sym back
    ∙ k)) is)) (λ q d. seen q (target q d).0 (target q d).1) where
      seen : (q : ℕ) → (IsLive old q → IsLive new q) → test q ≡ false → sight f (face_at new q)
          ≡ sight f (face_at old q)
      seen q kept d = settles-sights (emptied test old) new purged f q
          (λ l. kept (sym (live-emptied test old q) ∙ l))
          ∙ ap (sight f) (emptied-faces test old q d)

      face : (g : ℕ) → IsLive new g → test g ≡ false → ((q : ℕ) → state_at old g ≡ state.Connected q → IsLive new q) → face_at new g ≡ face_at old g
      face g live d there =
          let first = emptied-faces test old g d in
          let talk = state-face (emptied test old) g ∙ ap (λ o. option_map_or talks o state.Idle) first ∙ sym (state-face old g) in
          settles-faces (emptied test old) new purged g live (λ q k. there q (sym talk ∙ k)) ∙ first
