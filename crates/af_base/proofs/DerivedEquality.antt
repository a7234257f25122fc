-- The derived `==` of steps, events and replies is equality.
use Rattle.std.proofs.Common.{◌≡◌, ℕ, Bool, true, false, ◌&&◌, refl, ap, List, rules}
use Rattle.std.specs.Prelude.{nat_eq}
use Rattle.std.specs.Cmp.Lexicographic.{pointwise}
use Rattle.std.specs.Cmp.{booleans_Decides}
use Rattle.std.proofs.lemmas.Bool.{eqb-true, eq-eqb, false≢true}
use Rattle.std.proofs.lemmas.Bool.Decides.{Decides-eqb}
use Rattle.std.proofs.lemmas.Slice.Eq.{slice_eq-Decides}
use denote.Enum.Bare.{same_true}
use Rattle.af_base.specs.contracts.errno.Errno as errno
use Rattle.af_base.specs.declared.events.Shutdown.TheVariants.{Both, Read, Write}
use Rattle.af_base.specs.declared.events.SockType.TheVariants.{Dgram, Seqpacket, Stream}
use Rattle.af_base.specs.declared.events.Step.{Step}
use Rattle.af_base.specs.declared.events.Step.TheVariants as step
use Rattle.af_base.specs.declared.events.Event.{Event}
use Rattle.af_base.specs.declared.events.Event.TheVariants as event
use Rattle.af_base.specs.declared.events.Reply.{Reply}
use Rattle.af_base.specs.declared.events.Reply.TheVariants as reply
use Rattle.af_base.specs.contracts.events.StepPartialEq.TheImpl as step_eq
use Rattle.af_base.specs.contracts.events.EventPartialEq.TheImpl as event_eq
use Rattle.af_base.specs.contracts.events.ReplyPartialEq.TheImpl as reply_eq

-- Where a conjunction is true, both parts are.
pub both : (a b : Bool) → (a && b) ≡ true → (a ≡ true) × (b ≡ true)
both true b e = (refl, e)
both false b e = absurd (false≢true e)

-- Where both parts are true, a conjunction is.
each : (a b : Bool) → a ≡ true → b ≡ true → (a && b) ≡ true
each true b p q = q
each false b p q = p

-- A number equals itself.
number_itself : (x : ℕ) → nat_eq x x ≡ true
number_itself x = eq-eqb x x refl

-- Byte lists that compare equal are one list.
pub list_same : (xs ys : List ℕ) → pointwise nat_eq xs ys ≡ true → xs ≡ ys
list_same xs ys e = (slice_eq-Decides Decides-eqb xs ys (pointwise nat_eq xs ys) refl).0 e

-- Each list compares equal to itself.
pub list_itself : (xs : List ℕ) → pointwise nat_eq xs xs ≡ true
list_itself xs = (slice_eq-Decides Decides-eqb xs xs (pointwise nat_eq xs xs) refl).1 refl

-- Steps that compare equal are equal.
step_same : (a b : Step) → step_eq.ghosts.eq a b ≡ true → a ≡ b
step_same step.Open step.Open e = refl
step_same (step.Dup x) (step.Dup y) e = ap step.Dup (eqb-true x y e)
step_same (step.Dup2 x z) (step.Dup2 y w) e = let h = both _ _ e in λ i. step.Dup2 (eqb-true x y h.0 i) (eqb-true z w h.1 i)
step_same (step.Close x) (step.Close y) e = ap step.Close (eqb-true x y e)
step_same step.Fork step.Fork e = refl
step_same step.Exit step.Exit e = refl
step_same (step.Pair Stream) (step.Pair Stream) e = refl
step_same (step.Pair Seqpacket) (step.Pair Seqpacket) e = refl
step_same (step.Pair Dgram) (step.Pair Dgram) e = refl
step_same (step.Socket Stream) (step.Socket Stream) e = refl
step_same (step.Socket Seqpacket) (step.Socket Seqpacket) e = refl
step_same (step.Socket Dgram) (step.Socket Dgram) e = refl
step_same (step.Bind x z) (step.Bind y w) e = let h = both _ _ e in λ i. step.Bind (eqb-true x y h.0 i) (list_same z w h.1 i)
step_same (step.Listen x z) (step.Listen y w) e = let h = both _ _ e in λ i. step.Listen (eqb-true x y h.0 i) (eqb-true z w h.1 i)
step_same (step.Connect x z) (step.Connect y w) e = let h = both _ _ e in λ i. step.Connect (eqb-true x y h.0 i) (list_same z w h.1 i)
step_same (step.Accept x) (step.Accept y) e = ap step.Accept (eqb-true x y e)
step_same (step.Send x z t) (step.Send y w u) e =
    let h = both _ _ e in
    let k = both _ _ h.1 in
    λ i. step.Send (eqb-true x y h.0 i) (list_same z w k.0 i) (list_same t u k.1 i)
step_same (step.Recv x z t) (step.Recv y w u) e =
    let h = both _ _ e in
    let k = both _ _ h.1 in
    λ i. step.Recv (eqb-true x y h.0 i) (eqb-true z w k.0 i) (eqb-true t u k.1 i)
step_same (step.Peek x z t) (step.Peek y w u) e =
    let h = both _ _ e in
    let k = both _ _ h.1 in
    λ i. step.Peek (eqb-true x y h.0 i) (eqb-true z w k.0 i) (eqb-true t u k.1 i)
step_same (step.Limit x) (step.Limit y) e = ap step.Limit (eqb-true x y e)
step_same (step.Shutdown x Read) (step.Shutdown y Read) e = ap (λ n. step.Shutdown n Read) (eqb-true x y (both _ _ e).0)
step_same (step.Shutdown x Write) (step.Shutdown y Write) e = ap (λ n. step.Shutdown n Write) (eqb-true x y (both _ _ e).0)
step_same (step.Shutdown x Both) (step.Shutdown y Both) e = ap (λ n. step.Shutdown n Both) (eqb-true x y (both _ _ e).0)
step_same (step.Shutdown x _) (step.Shutdown y _) e = absurd (false≢true (both _ _ e).1)
step_same (step.Unconnect x) (step.Unconnect y) e = ap step.Unconnect (eqb-true x y e)
step_same a b e = absurd (false≢true e)

-- A step compares equal to itself.
step_itself : (a : Step) → step_eq.ghosts.eq a a ≡ true
step_itself step.Open = refl
step_itself (step.Dup x) = number_itself x
step_itself (step.Dup2 x z) = each _ _ (number_itself x) (number_itself z)
step_itself (step.Close x) = number_itself x
step_itself step.Fork = refl
step_itself step.Exit = refl
step_itself (step.Pair Stream) = refl
step_itself (step.Pair Seqpacket) = refl
step_itself (step.Pair Dgram) = refl
step_itself (step.Socket Stream) = refl
step_itself (step.Socket Seqpacket) = refl
step_itself (step.Socket Dgram) = refl
step_itself (step.Bind x z) = each _ _ (number_itself x) (list_itself z)
step_itself (step.Listen x z) = each _ _ (number_itself x) (number_itself z)
step_itself (step.Connect x z) = each _ _ (number_itself x) (list_itself z)
step_itself (step.Accept x) = number_itself x
step_itself (step.Send x z t) = each _ _ (number_itself x) (each _ _ (list_itself z) (list_itself t))
step_itself (step.Recv x z t) = each _ _ (number_itself x) (each _ _ (number_itself z) (number_itself t))
step_itself (step.Peek x z t) = each _ _ (number_itself x) (each _ _ (number_itself z) (number_itself t))
step_itself (step.Limit x) = number_itself x
step_itself (step.Shutdown x Read) = each _ _ (number_itself x) refl
step_itself (step.Shutdown x Write) = each _ _ (number_itself x) refl
step_itself (step.Shutdown x Both) = each _ _ (number_itself x) refl
step_itself (step.Unconnect x) = number_itself x

-- Events that compare equal are equal.
pub event_same : (a b : Event) → event_eq.ghosts.eq a b ≡ true → a ≡ b
event_same (event.Spawn x z t) (event.Spawn y w u) e =
    let h = both _ _ e in
    let k = both _ _ h.1 in
    λ i. event.Spawn (eqb-true x y h.0 i) (eqb-true z w k.0 i) ((booleans_Decides t u).0 k.1 i)
event_same (event.Proc x s) (event.Proc y t) e = let h = both _ _ e in λ i. event.Proc (eqb-true x y h.0 i) (step_same s t h.1 i)
event_same event.Begin event.Begin e = refl
event_same (event.Slice x) (event.Slice y) e = ap event.Slice (eqb-true x y e)
event_same event.Pass event.Pass e = refl
event_same a b e = absurd (false≢true e)

-- An event compares equal to itself.
pub event_itself : (a : Event) → event_eq.ghosts.eq a a ≡ true
event_itself (event.Spawn x z t) = each _ _ (number_itself x) (each _ _ (number_itself z) ((booleans_Decides t t).1 refl))
event_itself (event.Proc x s) = each _ _ (number_itself x) (step_itself s)
event_itself event.Begin = refl
event_itself (event.Slice x) = number_itself x
event_itself event.Pass = refl

-- Replies that compare equal are equal.
pub reply_same : (a b : Reply) → reply_eq.ghosts.eq a b ≡ true → a ≡ b
reply_same (reply.Pid x) (reply.Pid y) e = ap reply.Pid (eqb-true x y e)
reply_same (reply.Fd x) (reply.Fd y) e = ap reply.Fd (eqb-true x y e)
reply_same (reply.Fds x z) (reply.Fds y w) e = let h = both _ _ e in λ i. reply.Fds (eqb-true x y h.0 i) (eqb-true z w h.1 i)
reply_same reply.Ok reply.Ok e = refl
reply_same (reply.Sent x) (reply.Sent y) e = ap reply.Sent (eqb-true x y e)
reply_same (reply.Got x z t u) (reply.Got y w v s) e =
    let h = both _ _ e in
    let k = both _ _ h.1 in
    let j = both _ _ k.1 in
    λ i. reply.Got (list_same x y h.0 i) (list_same z w k.0 i) ((booleans_Decides t v).0 j.0 i) ((booleans_Decides u s).0 j.1 i)
reply_same reply.End reply.End e = refl
reply_same (reply.Started x) (reply.Started y) e = ap reply.Started (eqb-true x y e)
reply_same reply.Working reply.Working e = refl
reply_same (reply.Done x z) (reply.Done y w) e = let h = both _ _ e in λ i. reply.Done (eqb-true x y h.0 i) (eqb-true z w h.1 i)
reply_same (reply.Refused x) (reply.Refused y) e = ap reply.Refused (same_true errno.the_type (search rules) x y e)
reply_same a b e = absurd (false≢true e)

-- A reply compares equal to itself.
pub reply_itself : (a : Reply) → reply_eq.ghosts.eq a a ≡ true
reply_itself (reply.Pid x) = number_itself x
reply_itself (reply.Fd x) = number_itself x
reply_itself (reply.Fds x z) = each _ _ (number_itself x) (number_itself z)
reply_itself reply.Ok = refl
reply_itself (reply.Sent x) = number_itself x
reply_itself (reply.Got x z t u) = each _ _ (list_itself x) (each _ _ (list_itself z) (each _ _ ((booleans_Decides t t).1 refl) ((booleans_Decides u u).1 refl)))
reply_itself reply.End = refl
reply_itself (reply.Started x) = number_itself x
reply_itself reply.Working = refl
reply_itself (reply.Done x z) = each _ _ (number_itself x) (number_itself z)
reply_itself (reply.Refused x) = eq-eqb _ _ refl
