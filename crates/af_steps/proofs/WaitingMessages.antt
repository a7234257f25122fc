-- A receive or a peek where a message waits: the store meets its requirements, and its result.
use Rattle.std.proofs.Common.{◌≡◌, ◌<◌, ◌≤◌, ℕ, List, length, ap, sym, ◌∙◌, subst, true}
use Rattle.std.specs.Prelude.{IfSome, IsTrue, None, Option, Some, if◌then◌else◌, is_none, min, nat_lt, unwrap_or}
use Rattle.std.specs.FinMap as map
use Rattle.std.specs.List.{zip}
use Rattle.std.specs.Option.{option_and_then}
use Rattle.af_base.specs.declared.events.Reply.TheVariants as reply
use Rattle.af_base.specs.declared.events.Step.TheVariants as step
use Rattle.af_base.specs.Changes.{install_all, with_queue}
use Rattle.af_base.specs.Places.{InTable}
use Rattle.af_base.specs.Refusals.{no_socket, process_at, socket_at, socket_on}
use Rattle.af_base.specs.Steps.{effect, got_at, received, taken_on}
use Rattle.af_base.specs.Table.{lowest_free}
use Rattle.af_base.specs.Take.{keeps_borders, take_from}
use Rattle.af_base.specs.World.{Socket, World}
use Rattle.af_collect.specs.Keeping.{NotBegunGarbage}
use Rattle.af_collect.specs.Receiving.{CanReceive, taken_at}
use Rattle.af_collect.specs.StoreView.{StoreView, room_at}
use Rattle.af_desc.specs.FilesView.{received_of}
use Rattle.af_queue.specs.TakenView.{TakenView}
use Rattle.af_steps.specs.Found.{HasMessage}
use Rattle.af_steps.proofs.Numbers.{numbers-below}

-- Once there is room for the numbers, the store can receive.
pub can-receive : {p n bytes fds f : ℕ} {ns : List ℕ} (store new : StoreView) → HasMessage store.world p n bytes fds f ns → ((g : ℕ) → InTable store.world g → NotBegunGarbage store.pass g)
    → new.world ≡ store.world → new.pass ≡ store.pass → (0 < length ns → (process_at store.world p).limit ≤ room_at new p) → CanReceive new f bytes p ns
can-receive {p} {n} {bytes} {fds} {f} {ns} store new has spared world pass room =
    let w = store.world in
    let count = min (length (taken_on w p n bytes).attached) fds in
    let there : (v : World) → v ≡ w → IsTrue (map.contains_key v.processes p) = λ v e. subst (λ (u : World). IsTrue (map.contains_key u.processes p)) (sym e) has.there in
    record {
      some = has.some;
      spared = subst (λ s. NotBegunGarbage s f) (sym pass) (spared f (p, n, has.tabled));
      socket = ap (λ (v : World). is_none (socket_at v f)) world ∙ has.socket;
      there = there new.world world;
      free = (count, has.numbers ∙ ap (λ (v : World). lowest_free count (process_at v p)) (sym world));
      row = numbers-below (process_at w p) ns count (room_at new p) has.numbers room;
    }

-- Where the descriptor is a socket that keeps borders, so is the socket that it refers to.
pub packet-in : {w v : World} {p n bytes fds f : ℕ} {ns : List ℕ}
    → HasMessage w p n bytes fds f ns → v ≡ w → keeps_borders (socket_on w p n).kind ≡ true
    → IfSome (socket_at v f) (λ s. keeps_borders s.kind ≡ true)
packet-in {w} {f = f} has same is =
    subst (λ u. IfSome (socket_at u f) (λ s. keeps_borders s.kind
    ≡ true)) (sym same) (by (socket_at w f)
    (sym (ap (λ o. keeps_borders (unwrap_or (option_and_then (socket_at w) o) no_socket).kind)
    has.tabled) ∙ is)) where
      by : (o : Option Socket) → keeps_borders (unwrap_or o no_socket).kind ≡ true
          → IfSome o (λ s. keeps_borders s.kind ≡ true)
      by None is = tt
      by (Some x) is = is

-- The receive or the peek, in a world that is the same.
module _ {w v : World} {p n bytes fds f : ℕ} {ns ms : List ℕ} (has : HasMessage w p n bytes fds f ns) (same : v ≡ w) (numbers : ms ≡ ns) where
  -- It takes the messages at the head of this queue.
  taken-is : taken_on w p n bytes ≡ taken_at v f bytes
  taken-is = ap (λ o. let x = unwrap_or (option_and_then (socket_at w) o) no_socket in take_from x.kind x.queue bytes) has.tabled ∙ ap (λ u. taken_at u f bytes) (sym same)

  -- It installs files at these numbers.
  got-at : got_at w p n bytes fds ≡ ms
  got-at = sym (numbers ∙ has.numbers)

  -- Its reply.
  pub got-is : (t : TakenView) → t ≡ received_of (socket_at v f) bytes → received w p n bytes fds ≡ reply.Got t.message.bytes ns t.trunc (nat_lt (length ns) (length t.message.attached))
  got-is t is =
      (λ i. if has.waiting i then reply.End else reply.Got (taken-is i).bytes (sym has.numbers i) (taken-is i).trunc (nat_lt (length (sym has.numbers i)) (length (taken-is i).attached)))
      ∙ (λ i. reply.Got (sym is i).message.bytes ns (sym is i).trunc (nat_lt (length ns) (length (sym is i).message.attached)))

  -- The world after a receive.
  pub recv-is : effect w p (step.Recv n bytes fds) ≡ install_all (with_queue v f (taken_at v f bytes).rest) p (zip ms (taken_at v f bytes).attached)
  recv-is = λ i. install_all (with_queue (sym same i) (unwrap_or (has.tabled i) 0) (taken-is i).rest) p (zip (got-at i) (taken-is i).attached)

  -- The world after a peek.
  pub peek-is : effect w p (step.Peek n bytes fds) ≡ install_all v p (zip ms (taken_at v f bytes).attached)
  peek-is = λ i. install_all (sym same i) p (zip (got-at i) (taken-is i).attached)
