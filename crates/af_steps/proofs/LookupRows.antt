-- The rest of an event's row after its look-ups.
use Rattle.std.proofs.Common.{◌≡◌, ◌<◌, ℕ, [], ◌++◌, sym, ap, ◌∙◌, subst, arith}
use Rattle.std.specs.Prelude.{Option, Some, None, IsTrue, is_some, unwrap_or}
use Rattle.std.specs.FinMap as map
use Rattle.std.specs.Option.{option_and_then, option_map_or}
use Rattle.af_base.specs.declared.errno.Errno.{Errno}
use Rattle.af_base.specs.Changes.{with_process}
use Rattle.af_base.specs.Places.{InTable, queue_at, queue_of, table_at}
use Rattle.af_base.specs.Refusals.{RefusalRow, at_socket, first_fit, ino_on, no_process, no_socket, on_number, on_process, on_socket, process_at, socket_at, socket_of, socket_on}
use Rattle.af_base.specs.World.{AsSocket, File, Plain, Process, Socket, World}
use Rattle.af_base.proofs.Lookups.{none_some, some_same}
use Rattle.af_base.proofs.PlaceMoves.{there-table}
use Rattle.af_base.proofs.SoundSteps.{goes-on}
use Rattle.af_collect.specs.Limits.{IsBelowLimit}
use Rattle.af_steps.specs.Found.{HasDescriptor, HasProcess, HasSocket}

-- No socket was found: that refuses each step that asks for one.
pub no-socket : (w : World) (p n : ℕ) (rest : RefusalRow) (e : Errno) → first_fit (on_process (map.get w.processes p) ++ at_socket w p n) ≡ Some e → first_fit (on_process (map.get w.processes p) ++ (at_socket w p n ++ rest)) ≡ Some e
no-socket w p n rest e is = goes-on (on_process (map.get w.processes p) ++ at_socket w p n) rest e is

-- No file was found: that refuses each step that asks for one.
pub no-number : (w : World) (p n : ℕ) (rest : RefusalRow) (e : Errno) → first_fit (on_process (map.get w.processes p) ++ on_number (table_at w p n)) ≡ Some e → first_fit (on_process (map.get w.processes p) ++ (on_number (table_at w p n) ++ rest)) ≡ Some e
no-number w p n rest e is = goes-on (on_process (map.get w.processes p) ++ on_number (table_at w p n)) rest e is

module _ {w : World} {p : ℕ} {q : Process} (has : HasProcess w p q) where
  -- The descriptor of the process refers to it.
  pub is_process : process_at w p ≡ q
  is_process = ap {B = Process} (λ o. unwrap_or o no_process) has.there

  -- The files of descriptors, by their table.
  pub looks : table_at w p ≡ map.get q.table
  looks = λ i n. there-table w p n q has.there i

  -- The rest of a row after the process was found.
  pub after-process : (rest : Process → (ℕ → Option ℕ) → RefusalRow) → first_fit (on_process (map.get w.processes p) ++ rest (process_at w p) (table_at w p)) ≡ first_fit (rest q (map.get q.table))
  after-process rest = λ i. first_fit (on_process (has.there i) ++ rest (is_process i) (looks i))

  -- The world with it changed.
  pub changes : (g : Process → Process) → with_process w p g ≡ record w { processes = map.insert w.processes p (g q) }
  changes g = ap (λ (o : Option Process). record w { processes = option_map_or (λ x. map.insert w.processes p (g x)) o w.processes }) has.there

  -- It is there.
  pub is-there : IsTrue (map.contains_key w.processes p)
  is-there = ap is_some has.there

  -- It is there too in a world with the same processes.
  pub in-same : (v : World) → v.processes ≡ w.processes → HasProcess v p q
  in-same v same = record { there = ap (λ m. map.get m p) same ∙ has.there }

  -- A number below its limit.
  pub below-limit : (n : ℕ) → n < q.limit → IsBelowLimit w p n
  below-limit n low r is = subst (λ (x : Process). n < x.limit) (some_same q r (sym has.there ∙ is)) low

  -- A number that is free in its table.
  pub is-free : (n : ℕ) → map.get q.table n ≡ None → table_at w p n ≡ None
  is-free n free = (λ i. looks i n) ∙ free

  -- A number below its limit, as the world has it.
  pub under-limit : (n : ℕ) → n < q.limit → n < (process_at w p).limit
  under-limit n low = subst (λ (x : Process). n < x.limit) (sym is_process) low

module _ {w : World} {p : ℕ} {q : Process} {n f : ℕ} (has : HasDescriptor w p q n f) where
  -- The descriptor refers to the file.
  pub tabled : table_at w p n ≡ Some f
  tabled = (λ i. looks has.process i n) ∙ has.stands

  -- So a table holds it.
  pub held : InTable w f
  held = (p, n, tabled)

  -- The number gives the file.
  pub ino-is : ino_on w p n ≡ f
  ino-is = ap (λ o. unwrap_or o 0) tabled

  -- The rest of a row after the descriptor was found too.
  pub after-number : (rest : Process → RefusalRow) → first_fit (on_process (map.get w.processes p) ++ (on_number (table_at w p n) ++ rest (process_at w p))) ≡ first_fit (rest q)
  after-number rest = λ i. first_fit (on_process (has.process.there i) ++ (on_number (tabled i) ++ rest (is_process has.process i)))

module _ {w : World} {p : ℕ} {q : Process} {n f : ℕ} {x : Socket} (has : HasSocket w p q n f x) where
  -- The number gives the socket.
  pub socket-is : socket_on w p n ≡ x
  socket-is = ap (λ o. unwrap_or (option_and_then (socket_at w) o) no_socket) (tabled has.number) ∙ ap (λ o. unwrap_or o no_socket) has.found

  -- The rest of a row after the socket was found too.
  pub after-socket : (rest : Process → (ℕ → Option ℕ) → Socket → RefusalRow)
      → first_fit (on_process (map.get w.processes p) ++ (at_socket w p n ++ rest (process_at w p) (table_at w p) (socket_on w p n))) ≡ first_fit (rest q (map.get q.table) x)
  after-socket rest =
      let process = has.number.process in
      let socket : socket_at w (ino_on w p n) ≡ Some x = ap (socket_at w) (ino-is has.number) ∙ has.found in
      λ i. first_fit (on_process (process.there i) ++ (on_number (tabled has.number i) ++ (on_socket (socket i) ++ rest (is_process process i) (looks process i) (socket-is i))))

-- The file of which this is the socket.
pub file-is : (w : World) (s : ℕ) (x : Socket) → socket_at w s ≡ Some x → map.get w.files s ≡ Some (AsSocket x)
file-is w s x = by (map.get w.files s) where
  by : (o : Option File) → option_and_then socket_of o ≡ Some x → o ≡ Some (AsSocket x)
  by None e = absurd (none_some x e)
  by (Some Plain) e = absurd (none_some x e)
  by (Some (AsSocket y)) e = ap (λ z. Some (AsSocket z)) (some_same y x e)

-- And its queue.
pub queue-is : (w : World) (s : ℕ) (x : Socket) → socket_at w s ≡ Some x → queue_at w s ≡ x.queue
queue-is w s x heard = ap (λ o. option_map_or queue_of o []) (file-is w s x heard)
