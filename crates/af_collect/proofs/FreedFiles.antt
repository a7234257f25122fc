-- Files are emptied one after the other, and a file is freed.
use Rattle.std.proofs.Common.{◌≡◌, ℕ, Bool, true, false, cond, List, [], ◌++◌, refl, sym, ap, ◌∙◌, subst, nat_eq, ◌≤◌, length, arith}
use Rattle.std.specs.Prelude.{Option, Some, None, option_map, if◌then◌else◌}
use Rattle.std.specs.Ordering.{nat_cmp, eq_by_cmp}
use Rattle.std.specs.Cmp.{nat_cmp_total, unsigned_tied}
use Rattle.std.specs.FinMap as map
use Rattle.std.specs.FinMap.{nat_cmp-IsAntisymmetric}
use Rattle.std.proofs.lemmas.Bool.{eqb-true}
use Rattle.std.specs.Option.{option_map_or, option_and_then}
use Rattle.std.proofs.lemmas.Option.{option_and_then_some}
use Rattle.af_base.specs.World.{AsSocket, File, Message, Plain, Socket, World, Map}
use Rattle.af_base.specs.Places.{attached_in, contents, held_by, queue_at, queue_of, backlog_of}
use Rattle.af_base.specs.Changes.{file_with, with_queue, with_socket}
use Rattle.af_base.specs.Pass.{emptied, empty_file}
use Rattle.af_base.proofs.PurgeOrder.{get-emptied}
use Rattle.af_base.proofs.AllowedSteps.{get-change_at}
use Rattle.af_base.specs.declared.events.State.{State}
use Rattle.af_base.specs.declared.events.State.TheVariants as state
use Rattle.af_base.specs.Refusals.{socket_of}
use Rattle.af_base.specs.Unheld.{file_without, without}
use Rattle.af_base.specs.Whole.{AreMutual, state_of, IsWithin}
use Rattle.af_base.proofs.Lookups.{some_same}
use Rattle.af_base.proofs.FreedPeers.{without_one, drop_with}
use Rattle.af_base.specs.declared.limits.TheConstants.{MAX_BACKLOG}
use Rattle.af_desc.specs.FilesView.{after_end, after_hangup, socket_in}
use Rattle.af_collect.proofs.MarkTests.{turned}

-- An emptied file may keep the files that are freed later.
pub emptied-changed : (w : World) (s : ℕ) (cut : Socket → Socket) → ((x : Socket) → empty_file (AsSocket (cut x)) ≡ empty_file (AsSocket x)) → emptied (nat_eq s) (with_socket w s cut) ≡ emptied (nat_eq s) w
emptied-changed w s cut goes = ap (λ fs. record w { files = fs }) (map.same_map nat_cmp_total nat_cmp-IsAntisymmetric _ _ (λ f.
    get-emptied (nat_eq s) (with_socket w s cut) f ∙ ap (option_map (λ x. if nat_eq s f then empty_file x else x)) (get-change_at (file_with cut) w.files s f) ∙ each f (nat_eq s f) (turned s f ∙ sym (unsigned_tied f s)) (map.get w.files f) ∙ sym (get-emptied (nat_eq s) w f))) where
      empty : (x : File) → empty_file (file_with cut x) ≡ empty_file x
      empty Plain = refl
      empty (AsSocket x) = goes x

      one : (b : Bool) (x : File) → (if b then empty_file (cond b (file_with cut x) x) else cond b (file_with cut x) x) ≡ (if b then empty_file x else x)
      one true x = empty x
      one false x = refl

      each : (f : ℕ) (b : Bool) → b ≡ eq_by_cmp nat_cmp f s → (o : Option File) → option_map (λ x. if b then empty_file x else x) (option_map (λ x. cond (eq_by_cmp nat_cmp f s) (file_with cut x) x) o) ≡ option_map (λ x. if b then empty_file x else x) o
      each f b e None = refl
      each f b e (Some x) = ap (λ c. Some (if b then empty_file (cond c (file_with cut x) x) else cond c (file_with cut x) x)) (sym e) ∙ ap Some (one b x)

-- Nor its messages.
pub emptied-popped : (w : World) (s : ℕ) (q : List Message) → emptied (nat_eq s) (with_queue w s q) ≡ emptied (nat_eq s) w
emptied-popped w s q = emptied-changed w s (λ x. record x { queue = q }) (λ x. refl)

-- A file with nothing in it is empty.
pub emptied-bare : (w : World) (s : ℕ) → queue_at w s ≡ [] → held_by w s ≡ [] → emptied (nat_eq s) w ≡ w
emptied-bare w s silent bare = ap (λ fs. record w { files = fs }) (map.same_map nat_cmp_total nat_cmp-IsAntisymmetric _ _ (λ f. get-emptied (nat_eq s) w f ∙ by f (nat_eq s f) refl)) where
  same : (o : Option File) → option_map (λ x. x) o ≡ o
  same None = refl
  same (Some x) = refl

  here : (o : Option File) → option_map_or queue_of o [] ≡ [] → option_map_or contents o [] ≡ [] → option_map empty_file o ≡ o
  here None e d = refl
  here (Some Plain) e d = refl
  here (Some (AsSocket x)) e d =
      let none : x.backlog ≡ [] = sym (ap (λ q. attached_in q ++ x.backlog) e) ∙ d in
      λ i. Some (AsSocket (record x { queue = sym e i; backlog = sym none i }))

  by : (f : ℕ) (b : Bool) → nat_eq s f ≡ b → option_map (λ x. if b then empty_file x else x) (map.get w.files f) ≡ map.get w.files f
  by f false e = same (map.get w.files f)
  by f true e = subst (λ g. option_map empty_file (map.get w.files g) ≡ map.get w.files g) (eqb-true s f e) (here (map.get w.files s) silent bare)

-- ---- a freed file

-- The files without one of them, whose peer has hung up, are those of the world without it.
module _ (m : Map File) (f : ℕ) where
  -- It is so by the state of the one.
  by-state : (t : State) → after_hangup t (map.remove m f) ≡ drop_with t f m
  by-state state.Idle = refl
  by-state (state.Listening b) = refl
  by-state (state.Connected p) = refl
  by-state state.HungUp = refl
  by-state (state.Sends to) = refl

  -- It is so whether the one is a socket, a plain file or unknown.
  by-file : (o : Option File) → after_end (option_and_then socket_of o) (map.remove m f) ≡ drop_with (option_map_or state_of o state.Idle) f m
  by-file None = refl
  by-file (Some Plain) = refl
  by-file (Some (AsSocket s)) = by-state s.state

-- In a world with mutual peers, to remove a file and hang up its peer is to free it.
pub gone_end : (w : World) (f : ℕ) → AreMutual w → record w { files = after_end (socket_in w.files f) (map.remove w.files f) } ≡ without (nat_eq f) w
gone_end w f peers = ap (λ fs. record w { files = fs }) (by-file w.files f (map.get w.files f)) ∙ sym (without_one w f peers)

-- A file that has this socket is this socket.
pub socket_is : (x : File) (s : Socket) → socket_of x ≡ Some s → x ≡ AsSocket s
socket_is Plain s e = cc
socket_is (AsSocket r) s e = ap AsSocket (some_same r s e)

-- A socket that has hung up has the backlog that it had.
pub same_backlog : (gone : ℕ → Bool) (x : File) → backlog_of (file_without gone x) ≡ backlog_of x
same_backlog gone Plain = refl
same_backlog gone (AsSocket s) = refl

-- A file that is a socket has a row with it.
pub socket-stands : (files : Map File) (s : ℕ) (x : Socket) → option_and_then socket_of (map.get files s) ≡ Some x → map.get files s ≡ Some (AsSocket x)
socket-stands files s x is = option_and_then_some socket_of (map.get files s) x is (λ y at same. at ∙ ap Some (socket_is y x same))

-- No more wait at a socket than may.
pub backlog-few : (w : World) (s : ℕ) (x : Socket) → IsWithin w → map.get w.files s ≡ Some (AsSocket x) → length x.backlog ≤ MAX_BACKLOG
backlog-few w s x k at =
    let fits = k.sockets s x at in
    omega (arith, fits.room, fits.backlog)
