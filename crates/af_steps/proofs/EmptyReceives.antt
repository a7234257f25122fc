-- A receive where nothing is left and the peer is gone.
use Rattle.std.proofs.Common.{◌≡◌, false, arith, ℕ, List, [], ◌∷◌, length, take, refl, sym, ap, ◌∙◌, nat_eq, subst}
use Rattle.std.specs.Prelude.{None, min, nat_lt, if◌then◌else◌}
use Rattle.std.specs.List.{zip}
use Rattle.std.proofs.lemmas.List.{nil_from_length}
use Rattle.af_base.specs.declared.events.SockType.{SockType}
use Rattle.af_base.specs.declared.events.SockType.TheVariants.{Dgram, Seqpacket, Stream}
use Rattle.af_base.specs.declared.events.Reply.TheVariants as reply
use Rattle.af_base.specs.declared.events.Step.TheVariants as step
use Rattle.af_base.specs.Changes.{install_all, with_queue}
use Rattle.af_base.specs.Pass.{Machine}
use Rattle.af_base.specs.Refusals.{first_fit, on_receive, process_at, refusal}
use Rattle.af_base.specs.Steps.{answer, effect, taken_on}
use Rattle.af_base.specs.Table.{lowest_free}
use Rattle.af_base.specs.Take.{cut, nothing_taken, take_from}
use Rattle.af_base.specs.Whole.{IsSound}
use Rattle.af_base.specs.World.{Process, Socket, World}
use Rattle.af_base.specs.Unheld.{Settles}
use Rattle.af_base.proofs.SettledWorlds.{settles_none}
use Rattle.af_base.proofs.SoundSteps.{same-with_queue}
use Rattle.af_collect.specs.StoreView.{StoreView}
use Rattle.af_steps.specs.Outcome.{Does}
use Rattle.af_steps.specs.Found.{HasEnd, HasSocket}
use Rattle.af_steps.proofs.LookupRows.{after-socket, file-is, ino-is, socket-is}
use Rattle.af_steps.proofs.Outcomes.{does}

-- A list beside an empty one makes no pair.
pub no-pairs : {A B : Type 0} (xs : List A) → zip {X = B} xs [] ≡ []
no-pairs [] = refl
no-pairs (x ∷ xs) = refl

module _ {w : World} {p n f : ℕ} {q : Process} {x : Socket} (has : HasSocket w p q n f x) (bytes fds : ℕ) (given : first_fit (on_receive x bytes) ≡ None) (none : length x.queue ≡ 0) where
  -- Its own tests are those that are left.
  fits : refusal w p (step.Recv n bytes fds) ≡ None
  fits = after-socket has (λ r look s. on_receive s bytes) ∙ given

  -- The queue is empty.
  empty : x.queue ≡ []
  empty = nil_from_length x.queue none

  -- So nothing is taken.
  none_taken : taken_on w p n bytes ≡ nothing_taken
  none_taken = ap (λ s. take_from s.kind s.queue bytes) (socket-is has) ∙ ap (λ l. take_from x.kind l bytes) empty ∙ by x.kind where
    by : (k : SockType) → take_from k [] bytes ≡ nothing_taken
    by Stream = let end : min bytes 0 ≡ 0 = omega arith in λ i. record { bytes = take (end i) []; attached = if nat_lt 0 (end i) then [] else []; trunc = false; rest = cut (end i) [] }
    by Seqpacket = refl
    by Dgram = refl

  -- And the end is the answer.
  answered_end : answer w p (step.Recv n bytes fds) ≡ reply.End
  answered_end = λ i.
      if nat_eq (length ((ap (λ (s : Socket). s.queue) (socket-is has) ∙ empty) i)) 0
      then reply.End
      else reply.Got (none_taken i).bytes (lowest_free (min (length (none_taken i).attached) fds) (process_at w p)) (none_taken i).trunc (nat_lt (length (lowest_free (min (length (none_taken i).attached) fds) (process_at w p))) (length (none_taken i).attached))

  -- Nothing is left to receive, and nothing changes.
  ended : effect w p (step.Recv n bytes fds) ≡ w
  ended =
      (λ i. install_all (with_queue w (ino-is has.number i) (none_taken i).rest) p (zip (lowest_free (min (length (none_taken i).attached) fds) (process_at w p)) (none_taken i).attached))
      ∙ ap (λ l. install_all (with_queue w f []) p l) (no-pairs (lowest_free (min 0 fds) (process_at w p)))
      ∙ ap (λ l. with_queue w f l) (sym empty) ∙ same-with_queue w f x (file-is w f x has.found)

  -- Nothing is there to be seen, and nothing changes.
  unseen : effect w p (step.Peek n bytes fds) ≡ w
  unseen =
      (λ i. install_all w p (zip (lowest_free (min (length (none_taken i).attached) fds) (process_at w p)) (none_taken i).attached))
      ∙ ap (λ l. install_all w p l) (no-pairs (lowest_free (min 0 fds) (process_at w p)))

  -- So the end is there.
  pub has-end : HasEnd w p n bytes fds
  has-end = record { fits = fits; answered = answered_end; received = ended; peeked = unseen }

-- An engine that shows `old`, and has this inside.
module _ {inside old : Machine} (shown : inside ≡ old) {p n bytes fds : ℕ} (has : HasEnd inside.world p n bytes fds) (sound : IsSound inside.world) (new : StoreView) (world : new.world ≡ inside.world) (pass : new.pass ≡ inside.pass) (since : new.since ≡ inside.since) where
  -- Its world stays settled.
  stays : Settles inside.world new.world
  stays = subst (Settles inside.world) (sym world) (settles_none inside.world sound.settled)

  -- A receive was done.
  pub recv-end : Does old p (step.Recv n bytes fds) reply.End (record { world = new.world; pass = new.pass; last_pass = inside.last_pass; since = new.since })
  recv-end = does shown p (step.Recv n bytes fds) new reply.End inside.world has.fits has.answered has.received stays pass since

  -- A peek was done.
  pub peek-end : Does old p (step.Peek n bytes fds) reply.End (record { world = new.world; pass = new.pass; last_pass = inside.last_pass; since = new.since })
  peek-end = does shown p (step.Peek n bytes fds) new reply.End inside.world has.fits has.answered has.peeked stays pass since
