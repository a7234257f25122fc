-- An event makes no plain file but by an open, and leaves what each file is.
use Rattle.std.proofs.Common.{◌≡◌, ◌≤◌, ℕ, ◌+◌, Bool, true, false, not, cond, nat_eq, inl, inr, List, [], ◌∷◌, ◌++◌, refl, ap, ◌∙◌, arith}
use Rattle.std.specs.Prelude.{◌⊎◌, Option, Some, None, if◌then◌else◌, option_map}
use Rattle.std.specs.List.{list_any, zip}
use Rattle.std.specs.Ordering.{nat_cmp, eq_by_cmp}
use Rattle.std.specs.FinMap as map
use Rattle.af_base.specs.declared.events.Event.TheVariants as event
use Rattle.af_base.specs.declared.events.SockType.{SockType}
use Rattle.af_base.specs.declared.events.Step.{Step}
use Rattle.af_base.specs.declared.events.Step.TheVariants as step
use Rattle.af_base.specs.Changes.{add_file, add_process, aimed, connected, dequeued, file_with, install, install_all, listening, pushed, queued, shut, with_name, with_queue, with_socket}
use Rattle.af_base.specs.Pass.{Purges, emptied, empty_file}
use Rattle.af_base.specs.Reached.{is_socket}
use Rattle.af_base.specs.Refusals.{connected_to, ino_named, ino_on, is_datagram, peer_of, socket_named, socket_on}
use Rattle.af_base.specs.Steps.{closes_input, closes_output, connected_socket, effect, got_at, idle_socket, paired_socket, spawned, taken_on, with_embryo, with_pair}
use Rattle.af_base.specs.Unheld.{Settles, file_without}
use Rattle.af_base.specs.World.{AsSocket, File, Plain, Socket, World}
use Rattle.af_base.proofs.Lookups.{insert-here, insert-other, same_or_not}
use Rattle.af_base.proofs.PurgeOrder.{get-emptied}
use Rattle.af_base.proofs.SettledWorlds.{get-without}
use Rattle.af_base.proofs.AllowedSteps.{get-change_at}
use Rattle.jaywardrobe.specs.OwnedView.{kind, opens}

-- Each file is what it was, or is a new socket.
abbrev Stays : World → World → ℕ → Type 0
Stays u v f = (kind v f ≡ kind u f) ⊎ ((kind v f ≡ Some true) × (u.next_ino ≤ f))

-- A world that places were changed in: each file is what it was, or is a new socket.
pub record Grows (u v : World) : Type 0 where
  pub kinds : (f : ℕ) → Stays u v f
  pub rises : u.next_ino ≤ v.next_ino

-- A world after an event: each file is gone, is what it was, or is a new socket.
pub record Follows (u v : World) : Type 0 where
  pub kinds : (f : ℕ) → (kind v f ≡ None) ⊎ Stays u v f
  pub rises : u.next_ino ≤ v.next_ino

-- The same files.
grows-same : (u v : World) → v.files ≡ u.files → v.next_ino ≡ u.next_ino → Grows u v
grows-same u v files next = record {
  kinds = λ f. inl (ap (λ fs. option_map is_socket (map.get fs f)) files);
  rises = omega (arith, next);
}

-- Two growths in turn are one.
grows-join : (u v w : World) → Grows u v → Grows v w → Grows u w
grows-join u v w a b = record {
  kinds = λ f. elim (b.kinds f) [
    | inl same ↦ elim (a.kinds f) [
      | inl was ↦ inl (same ∙ was)
      | inr new ↦ inr (same ∙ new.0, new.1)
    ]
    | inr new ↦ let low = a.rises in let high = new.1 in inr (new.0, omega (arith, low, high))
  ];
  rises = let low = a.rises in let high = b.rises in omega (arith, low, high);
}

-- A socket that changes stays one.
grows-socket : (w : World) (s : ℕ) (g : Socket → Socket) → Grows w (with_socket w s g)
grows-socket w s g = record {
  kinds = λ f. inl (ap (option_map is_socket) (get-change_at (file_with g) w.files s f) ∙ each (eq_by_cmp nat_cmp f s) (map.get w.files f));
  rises = omega arith;
} where
  each : (b : Bool) (o : Option File) → option_map is_socket (option_map (λ x. cond b (file_with g x) x) o) ≡ option_map is_socket o
  each b None = refl
  each true (Some Plain) = refl
  each true (Some (AsSocket x)) = refl
  each false (Some x) = refl

-- A socket more.
grows-added : (w : World) (x : Socket) → Grows w (add_file w (AsSocket x))
grows-added w x = record {
  kinds = λ f. elim (same_or_not f w.next_ino) [
    | inl same ↦ inr (ap (option_map is_socket) (ap (map.get (map.insert w.files w.next_ino (AsSocket x))) same ∙ insert-here w.files w.next_ino (AsSocket x)), omega (arith, same))
    | inr apart ↦ inl (ap (option_map is_socket) (insert-other w.files w.next_ino (AsSocket x) f apart))
  ];
  rises = omega arith;
}

-- Numbers taken into use change no file.
grows-all : (w : World) (p : ℕ) (es : List (ℕ × ℕ)) → Grows w (install_all w p es)
grows-all w p [] = grows-same w w refl refl
grows-all w p (e ∷ es) = grows-join w (install w p e.0 e.1) (install_all (install w p e.0 e.1) p es) (grows-same w (install w p e.0 e.1) refl refl) (grows-all (install w p e.0 e.1) p es)

-- The change of a step other than an open.
grows-effect : (w : World) (p : ℕ) (s : Step) → opens (event.Proc p s) ≡ false → Grows w (effect w p s)
grows-effect w p step.Open e = absurd cc
grows-effect w p (step.Dup n) e = grows-same w (effect w p (step.Dup n)) refl refl
grows-effect w p (step.Dup2 n m) e = by (nat_eq m n) where
  by : (b : Bool) → Grows w (if b then w else install w p m (ino_on w p n))
  by true = grows-same w w refl refl
  by false = grows-same w (install w p m (ino_on w p n)) refl refl
grows-effect w p (step.Close n) e = grows-same w (effect w p (step.Close n)) refl refl
grows-effect w p step.Fork e = grows-same w (effect w p step.Fork) refl refl
grows-effect w p step.Exit e = grows-same w (effect w p step.Exit) refl refl
grows-effect w p (step.Pair kind) e =
    let one = add_file w (AsSocket (paired_socket kind (w.next_ino + 1))) in
    let two = with_pair w kind in
    grows-join w two (effect w p (step.Pair kind))
    (grows-join w one two (grows-added w (paired_socket kind (w.next_ino + 1)))
    (grows-added one (paired_socket kind w.next_ino)))
    (grows-same two (effect w p (step.Pair kind)) refl refl)
grows-effect w p (step.Socket kind) e =
    let one = add_file w (AsSocket (idle_socket kind)) in
    grows-join w one (effect w p (step.Socket kind)) (grows-added w (idle_socket kind)) (grows-same one (effect w p (step.Socket kind)) refl refl)
grows-effect w p (step.Bind n name) e = grows-socket w (ino_on w p n) (with_name name)
grows-effect w p (step.Listen n b) e = grows-socket w (ino_on w p n) (listening b)
grows-effect w p (step.Connect n name) e = by (is_datagram kind) where
  c : ℕ
  c = ino_on w p n

  kind : SockType
  kind = (socket_on w p n).kind

  there : ℕ
  there = ino_named w kind name

  by : (b : Bool) → Grows w
      (if b then with_socket w c (aimed there) else with_embryo w c there
      (socket_named w kind name).kind)
  by true = grows-socket w c (aimed there)
  by false =
      let x = connected_socket (socket_named w kind name).kind c in
      let made = add_file w (AsSocket x) in
      let joined = with_socket made c (connected w.next_ino) in
      grows-join w joined (with_socket joined there (queued w.next_ino))
      (grows-join w made joined (grows-added w x)
      (grows-socket made c (connected w.next_ino)))
      (grows-socket joined there (queued w.next_ino))
grows-effect w p (step.Accept n) e =
    let one = with_socket w (ino_on w p n) dequeued in
    grows-join w one (effect w p (step.Accept n)) (grows-socket w (ino_on w p n) dequeued) (grows-same one (effect w p (step.Accept n)) refl refl)
grows-effect w p (step.Send n bytes attach) e = grows-socket w (peer_of (socket_on w p n).state) (pushed _)
grows-effect w p (step.Recv n max_bytes max_fds) e =
    let taken = taken_on w p n max_bytes in
    let one = with_queue w (ino_on w p n) taken.rest in
    grows-join w one (effect w p (step.Recv n max_bytes max_fds)) (grows-socket w (ino_on w p n) (λ x. record x { queue = taken.rest })) (grows-all one p (zip (got_at w p n max_bytes max_fds) taken.attached))
grows-effect w p (step.Peek n max_bytes max_fds) e = grows-all w p (zip (got_at w p n max_bytes max_fds) (taken_on w p n max_bytes).attached)
grows-effect w p (step.Limit n) e = grows-same w (effect w p (step.Limit n)) refl refl
grows-effect w p (step.Shutdown n how) e =
    let own = shut (closes_input how) (closes_output how) in
    let one = with_socket w (ino_on w p n) own in
    grows-join w one (effect w p (step.Shutdown n how)) (grows-socket w (ino_on w p n) own)
    (grows-socket one (connected_to (socket_on w p n).state)
    (shut (closes_output how) (closes_input how)))
grows-effect w p (step.Unconnect n) e = grows-socket w (ino_on w p n) (aimed 0)

-- A process more is no file, and its user is none.
grows-spawned : (w : World) (uid nofile : ℕ) (privileged : Bool) → Grows w (spawned w uid nofile privileged)
grows-spawned w uid nofile privileged = by (list_any (nat_eq uid) w.users) where
  v : World
  v = add_process w (record { user = uid; limit = nofile; privileged = privileged; table = map.empty })

  by : (b : Bool) → Grows w (if b then v else record v { users = v.users ++ uid ∷ [] })
  by true = grows-same w v refl refl
  by false = grows-same w (record v { users = v.users ++ uid ∷ [] }) refl refl

-- A file of the settled world is unchanged, or is freed.
pub settled-kind : (mid new : World) → Settles mid new → (f : ℕ) → (kind new f ≡ None) ⊎ (kind new f ≡ kind mid f)
settled-kind mid new s f = elim (each (s.0 f) (map.get mid.files f)) [
  | inl none ↦ inl (is ∙ none)
  | inr same ↦ inr (is ∙ same)
] where
  is : kind new f ≡ option_map is_socket (cond (not (s.0 f)) (option_map (file_without s.0) (map.get mid.files f)) None)
  is = ap (λ v. kind v f) s.2 ∙ ap (option_map is_socket) (get-without s.0 mid f)

  each : (b : Bool) (o : Option File) → (option_map is_socket (cond (not b) (option_map (file_without s.0) o) None) ≡ None) ⊎ (option_map is_socket (cond (not b) (option_map (file_without s.0) o) None) ≡ option_map is_socket o)
  each true o = inl refl
  each false None = inl refl
  each false (Some Plain) = inr refl
  each false (Some (AsSocket x)) = inr refl

-- A world that grew and then settled follows the old one.
follows-settles : (old mid new : World) → Grows old mid → Settles mid new → Follows old new
follows-settles old mid new g s = record {
  kinds = λ f. elim (settled-kind mid new s f) [
    | inl none ↦ inl none
    | inr same ↦ elim (g.kinds f) [
      | inl was ↦ inr (inl (same ∙ was))
      | inr made ↦ inr (inr (same ∙ made.0, made.1))
    ]
  ];
  rises = let low = g.rises in omega (arith, low, ap (λ (w : World). w.next_ino) s.2);
}

-- Nothing changed.
pub follows-same : (old new : World) → new ≡ old → Follows old new
follows-same old new is = record {
  kinds = λ f. inr (inl (ap (λ w. kind w f) is));
  rises = omega (arith, ap (λ (w : World). w.next_ino) is);
}

-- A step but an open was done.
pub follows-step : (old new : World) (p : ℕ) (s : Step) → opens (event.Proc p s) ≡ false → Settles (effect old p s) new → Follows old new
follows-step old new p s e = follows-settles old (effect old p s) new (grows-effect old p s e)

-- A process was started.
pub follows-spawn : (old new : World) (uid nofile : ℕ) (privileged : Bool) → Settles (spawned old uid nofile privileged) new → Follows old new
follows-spawn old new uid nofile privileged = follows-settles old (spawned old uid nofile privileged) new (grows-spawned old uid nofile privileged)

-- Files were purged.
pub follows-purge : (test : ℕ → Bool) (old new : World) → Purges test old new → Follows old new
follows-purge test old new = follows-settles old (emptied test old) new (record {
  kinds = λ f. inl (ap (option_map is_socket) (get-emptied test old f) ∙ each (test f) (map.get old.files f));
  rises = omega arith;
}) where
  each : (b : Bool) (o : Option File) → option_map is_socket (option_map (λ x. if b then empty_file x else x) o) ≡ option_map is_socket o
  each b None = refl
  each true (Some Plain) = refl
  each true (Some (AsSocket x)) = refl
  each false (Some x) = refl
