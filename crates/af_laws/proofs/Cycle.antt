-- The smallest cycle, one event after the other.
use Rattle.std.proofs.Common.{◌≡◌, ◌⊎◌, inl, inr, ℕ, ◌+◌, Bool, true, false, not, ◌&&◌, ◌||◌, List, [], ◌∷◌, ◌++◌, length, refl, sym, ap, ◌∙◌, subst, cond, arith}
use Rattle.std.specs.Prelude.{◌↔◌, Option, Some, None, is_none, is_some, unwrap_or, nat_eq, nat_le, nat_lt, filter}
use Rattle.std.specs.Option.{option_and_then, option_map_or}
use Rattle.std.specs.List.{AllByRecursion, Contains, cons_option, count_by, range_with_len, slice_index_or, sum_by}
use Rattle.std.specs.Ordering.{eq_by_cmp, is_eq, nat_cmp}
use Rattle.std.specs.Cmp.{nat_cmp_total, tied_itself}
use Rattle.std.specs.FinMap as map
use Rattle.std.specs.FinMap.{entries-insert, gets, nat_cmp-IsAntisymmetric, put}
use Rattle.std.proofs.lemmas.Bool.{eq-eqb, eqb-true, false≢true}
use Rattle.af_base.specs.declared.errno.Errno.{Errno}
use Rattle.af_base.specs.declared.errno.Errno.TheVariants.{ESRCH}
use Rattle.af_base.specs.declared.events.Reply.{Reply}
use Rattle.af_base.specs.declared.events.Reply.TheVariants as reply
use Rattle.af_base.specs.declared.events.SockType.TheVariants.{Seqpacket}
use Rattle.af_base.specs.declared.events.State.TheVariants as state
use Rattle.af_base.specs.declared.events.Step.{Step}
use Rattle.af_base.specs.declared.events.Step.TheVariants as step
use Rattle.af_base.specs.declared.limits.TheConstants.{MAX_FILES, MAX_INFLIGHT, MAX_INO, MAX_MESSAGES, MAX_PID, MAX_PROCESSES}
use Rattle.af_base.specs.World.{AsSocket, File, Map, Message, Process, World, empty_world, untold}
use Rattle.af_base.specs.Places.{Holds, InQueue, InTable, attached_in, contents, queue_at, queue_of, table_at}
use Rattle.af_base.specs.Counts.{charge, charged, count_in, tabled, total_of}
use Rattle.af_base.specs.Unheld.{Goes, IsSettled, Settles}
use Rattle.af_base.specs.Reached.{BySocket, ByTable, Garbage, IsGarbageCount, Reached, is_socket}
use Rattle.af_base.specs.Table.{free_numbers}
use Rattle.af_base.specs.Changes.{change_at, file_with, install, push_message, sends_elsewhere, uninstall}
use Rattle.af_base.specs.Refusals.{RefusalRow, first_fit, ino_on, is_deaf, no_process, no_socket, on_peer, peer_of, process_at, refusal, socket_at, socket_of, socket_on, spawn_row, step_row}
use Rattle.af_base.specs.Steps.{Outcome, ProcessStep, SpawnStep, answer, effect, free_at, spawned}
use Rattle.af_base.specs.Pass.{Idle, Machine}
use Rattle.af_base.specs.Run.{Run, fresh}
use Rattle.af_base.proofs.Sums.{total-insert}
use Rattle.af_base.proofs.SoundSteps.{NoneFits, none-fits}
use Rattle.af_base.proofs.SettledWorlds.{none_in, settled_by, settles_none}
use Rattle.af_base.proofs.Lookups.{none_some}
use Rattle.af_laws.proofs.Chains.{same_number}
use Rattle.af_laws.proofs.PlaceCounts.{none_where_untabled}
use Rattle.af_laws.specs.Rows.{IsSmallestCycle, SmallestCycle, cycle_events}

-- A map without entries.
abbrev pub none : {X : Type 0} → Map X
none = map.empty

-- A map of nothing.
pub entries_none : {X : Type 0} → map.entries (none {X = X}) ≡ []
entries_none {X = X} = nothing (map.entries (none {X = X})) (sym (map.len-entries (none {X = X})) ∙ map.len-empty nat_cmp X) where
  nothing : (es : List (ℕ × X)) → length es ≡ 0 → es ≡ []
  nothing [] e = refl
  nothing (x ∷ es) e = absurd (omega (arith, e))

-- A value put in twice, and a value changed where it was put in.
module _ {X : Type 0} (m : Map X) (k : ℕ) (x : X) where
  -- The second value stays.
  insert_twice : (y : X) → map.insert (map.insert m k x) k y ≡ map.insert m k y
  insert_twice y = map.same_map nat_cmp_total nat_cmp-IsAntisymmetric _ _ (λ q.
      map.get-insert nat_cmp_total (map.insert m k x) k y q ∙ ap (cond (eq_by_cmp nat_cmp q k) (Some y)) (map.get-insert nat_cmp_total m k x q) ∙ each (eq_by_cmp nat_cmp q k) (map.get m q) ∙ sym (map.get-insert nat_cmp_total m k y q)) where
        each : (b : Bool) (o : Option X) → cond b (Some y) (cond b (Some x) o) ≡ cond b (Some y) o
        each true o = refl
        each false o = refl

  -- The value put in is found.
  get_there : map.get (map.insert m k x) k ≡ Some x
  get_there = map.get-insert nat_cmp_total m k x k ∙ ap (λ o. cond (is_eq o) (Some x) (map.get m k)) (tied_itself nat_cmp_total k)

  -- It is changed.
  change_there : (g : X → X) → change_at g (map.insert m k x) k ≡ map.insert m k (g x)
  change_there g = ap (λ o. option_map_or (λ y. map.insert (map.insert m k x) k (g y)) o (map.insert m k x)) get_there ∙ insert_twice (g x)

-- The process, and a world with it.
abbrev pub starter : Map ℕ → Process
starter t = record { user = 1000; limit = 16; privileged = false; table = t }

-- A world with process 1, this table and these files.
abbrev pub with_process : Map ℕ → Map File → ℕ → World
with_process t files n = record { processes = map.insert none 1 (starter t); files = files; next_ino = n; next_pid = 2; users = 1000 ∷ [] }

module _ (t : Map ℕ) (files : Map File) (n : ℕ) where
  -- That world.
  abbrev here : World
  here = with_process t files n

  -- Process 1 has this table.
  get_process : map.get here.processes 1 ≡ Some (starter t)
  get_process = get_there none 1 (starter t)

  -- It is found.
  pub process_there : process_at here 1 ≡ starter t
  process_there = ap (λ o. unwrap_or o no_process) get_process

  -- It is not missing.
  pub not_missing : not (map.contains_key here.processes 1) ≡ false
  not_missing = ap (λ o. not (is_some o)) get_process

  -- Its descriptors are those of the table.
  pub table_there : (k : ℕ) → table_at here 1 k ≡ map.get t k
  table_there k = ap (λ o. option_map_or (λ q. map.get q.table k) o None) get_process

  -- A file in a table is in this one.
  pub in_table : (f : ℕ) → InTable here f → (k : ℕ) × (map.get t k ≡ Some f)
  in_table f h = (h.1, by (eq_by_cmp nat_cmp h.0 1) (sym (ap (λ o. option_map_or (λ q. map.get q.table h.1) o None) (map.get-insert nat_cmp_total none 1 (starter t) h.0)) ∙ h.2)) where
    by : (b : Bool) → option_map_or (λ q. map.get q.table h.1) (cond b (Some (starter t)) (map.get (none {X = Process}) h.0)) None ≡ Some f → map.get t h.1 ≡ Some f
    by true e = e
    by false e = absurd (none_some f (sym (ap (λ o. option_map_or (λ q. map.get q.table h.1) o None) (map.get-empty {X = Process} nat_cmp h.0)) ∙ e))

  -- To set a descriptor sets it in the table.
  install_there : (k f : ℕ) → install here 1 k f ≡ with_process (map.insert t k f) files n
  install_there k f = ap (λ ps. record here { processes = ps }) (change_there none 1 (starter t) (λ q. record q { table = map.insert q.table k f }))

  -- To free a descriptor frees it in the table.
  uninstall_there : (k : ℕ) → uninstall here 1 k ≡ with_process (map.remove t k) files n
  uninstall_there k = ap (λ ps. record here { processes = ps }) (change_there none 1 (starter t) (λ q. record q { table = map.remove q.table k }))

-- The two sockets; what waits, waits at the first.
abbrev pub end_of : ℕ → List Message → File
end_of peer q = AsSocket (record no_socket { state = state.Connected peer; queue = q })

-- Two connected sockets, the first with this queue.
abbrev pub ends : List Message → Map File
ends q = map.insert (map.insert none 1 (end_of 2 q)) 2 (end_of 1 [])

module _ (q : List Message) where
  -- They are the only files.
  pub file_at : (f : ℕ) → map.get (ends q) f ≡ cond (eq_by_cmp nat_cmp f 2) (Some (end_of 1 [])) (cond (eq_by_cmp nat_cmp f 1) (Some (end_of 2 q)) None)
  file_at f = simp gets refl

  -- A live file is 1 or 2.
  pub one_or_two : (f : ℕ) → is_some (map.get (ends q) f) ≡ true → (f ≡ 1) ⊎ (f ≡ 2)
  one_or_two f live = by (eq_by_cmp nat_cmp f 2) refl (eq_by_cmp nat_cmp f 1) refl (sym (ap is_some (file_at f)) ∙ live) where
    by : (a : Bool) → eq_by_cmp nat_cmp f 2 ≡ a → (b : Bool) → eq_by_cmp nat_cmp f 1 ≡ b → is_some (cond a (Some (end_of 1 [])) (cond b (Some (end_of 2 q)) None)) ≡ true → (f ≡ 1) ⊎ (f ≡ 2)
    by true d b e h = inr (same_number f 2 d)
    by false d true e h = inl (same_number f 1 e)
    by false d false e h = absurd (false≢true h)

  -- A sum over them has two terms.
  total_ends : (F : File → ℕ) → total_of F (ends q) ≡ F (end_of 2 q) + F (end_of 1 [])
  total_ends F =
      let nothing : total_of F none ≡ 0 = ap (λ es. sum_by (λ e. F e.1) es) entries_none in
      let first = total-insert F none 1 (end_of 2 q) in
      let before_first : option_map_or F (map.get (none {X = File}) 1) 0 ≡ 0 = ap (λ o. option_map_or F o 0) (map.get-empty nat_cmp 1) in
      let second = total-insert F (map.insert none 1 (end_of 2 q)) 2 (end_of 1 []) in
      let absent : map.get (map.insert none 1 (end_of 2 q)) 2 ≡ None = simp gets refl in
      let before_second : option_map_or F (map.get (map.insert none 1 (end_of 2 q)) 2) 0 ≡ 0 = ap (λ o. option_map_or F o 0) absent in
      omega (arith, nothing, first, before_first, second, before_second)

  -- The two are all entries.
  pub entries_ends : map.entries (ends q) ≡ (1, end_of 2 q) ∷ (2, end_of 1 []) ∷ []
  entries_ends =
      entries-insert nat_cmp_total (map.insert none 1 (end_of 2 q)) 2 (end_of 1 [])
      ∙ ap (put nat_cmp 2 (end_of 1 [])) (entries-insert nat_cmp_total none 1 (end_of 2 q) ∙ ap (put nat_cmp 1 (end_of 2 q)) entries_none)

-- The row's tests, none of which fits.
pub none_fits : (row : RefusalRow) → AllByRecursion (λ r. r.0 ≡ false) row → first_fit row ≡ None
none_fits [] h = refl
none_fits (r ∷ row) h = ap (λ b. cond b (Some r.1) (first_fit row)) h.0 ∙ none_fits row h.1

-- A step that is done, and leaves nothing to be freed.
outcome_done : (o : Option Errno) (frugal : Bool) (answer r : Reply) (now old new : World) → o ≡ None → r ≡ answer → now ≡ new → IsSettled new → Outcome o frugal answer now old r new
outcome_done o frugal answer r now old new fits answers leads settled = subst (λ x. Outcome x frugal answer now old r new) (sym fits) (by frugal) where
  settles : Settles now new
  settles = subst (λ x. Settles x new) (sym leads) (settles_none new settled)

  by : (b : Bool) → Outcome None b answer now old r new
  by true = (answers, settles)
  by false = inl (answers, settles)

-- The worlds.
abbrev both_open : Map ℕ
both_open = map.insert (map.insert none 0 1) 1 2

-- The table with the second alone.
abbrev pub one_open : Map ℕ
one_open = map.remove both_open 0

-- The message `hi` with the first socket.
abbrev pub hi : Message
hi = record { bytes = 104 ∷ 105 ∷ []; attached = 1 ∷ []; user = 1000 }

-- The world after the start.
abbrev started : World
started = with_process none none 1

-- The world after the pair is made.
abbrev paired : World
paired = with_process both_open (ends []) 3

-- The world after the send.
abbrev sent : World
sent = with_process both_open (ends (hi ∷ [])) 3

-- The world after the close.
abbrev pub closed : World
closed = with_process one_open (ends (hi ∷ [])) 3

-- A process starts.
started_settled : IsSettled started
started_settled _ (Goes f live no_table hs) = false≢true (sym (ap is_some (map.get-empty {X = File} nat_cmp f)) ∙ live)

-- The process starts.
spawns : SpawnStep empty_world 1000 16 false (reply.Pid 1) started
spawns = outcome_done _ false (reply.Pid 1) (reply.Pid 1) (spawned empty_world 1000 16 false) empty_world started fits refl refl started_settled where
  alone : map.len empty_world.processes ≡ 0
  alone = map.len-empty nat_cmp Process

  fits : first_fit (spawn_row empty_world 16) ≡ None
  fits = none_fits (spawn_row empty_world 16) (refl, (ap (λ n. nat_le MAX_PROCESSES n || nat_lt MAX_PID 1) alone, tt))

-- A pair is made.
all_free : free_numbers (process_at started 1) ≡ range_with_len 0 16
all_free = ap free_numbers (process_there none none 1) ∙ (λ i. filter (λ n. not (is_some (map.get-empty {X = ℕ} nat_cmp n i))) (range_with_len 0 16))

-- With the pair nothing is to be freed.
paired_settled : IsSettled paired
paired_settled = settled_by paired (λ f live. inl (by f (one_or_two [] f live))) where
  open_at : (k f : ℕ) → map.get both_open k ≡ Some f → InTable paired f
  open_at k f e = (1, k, table_there both_open (ends []) 3 k ∙ e)

  by : (f : ℕ) → (f ≡ 1) ⊎ (f ≡ 2) → InTable paired f
  by f (inl e) = subst (InTable paired) (sym e) (open_at 0 1 (simp gets refl))
  by f (inr e) = subst (InTable paired) (sym e) (open_at 1 2 (simp gets refl))

-- The process makes the pair.
pairs : ProcessStep started 1 (step.Pair Seqpacket) (reply.Fds 0 1) paired
pairs = outcome_done _ false (answer started 1 (step.Pair Seqpacket)) (reply.Fds 0 1) (effect started 1 (step.Pair Seqpacket)) started paired fits answers leads paired_settled where
  first : free_at started 1 0 ≡ 0
  first = ap (λ ns. slice_index_or ns 0 0) all_free

  second : free_at started 1 1 ≡ 1
  second = ap (λ ns. slice_index_or ns 1 0) all_free

  no_files : map.len started.files ≡ 0
  no_files = map.len-empty nat_cmp File

  fits : refusal started 1 (step.Pair Seqpacket) ≡ None
  fits = none_fits ((not (map.contains_key started.processes 1), ESRCH) ∷ step_row started 1 (step.Pair Seqpacket)) (not_missing none none 1, (ap (λ ns. nat_lt (length ns) 2) all_free, (ap (λ n. nat_lt MAX_FILES (n + 2) || nat_lt (MAX_INO + 1) (1 + 2)) no_files, tt)))

  answers : reply.Fds 0 1 ≡ answer started 1 (step.Pair Seqpacket)
  answers = λ i. reply.Fds (sym first i) (sym second i)

  leads : effect started 1 (step.Pair Seqpacket) ≡ paired
  leads =
      (λ i. install (install (with_process none (ends []) 3) 1 (first i) 1) 1 (second i) 2)
      ∙ ap (λ w. install w 1 1 2) (install_there none (ends []) 3 0 1)
      ∙ install_there (map.insert none 0 1) (ends []) 3 1 2

-- One end is sent through the other, to itself.
socket_two : socket_on paired 1 1 ≡ record no_socket { state = state.Connected 1 }
socket_two =
    let number : table_at paired 1 1 ≡ Some 2 = table_there both_open (ends []) 3 1 ∙ simp gets refl in
    ap (λ o. unwrap_or (option_and_then (socket_at paired) o) no_socket) number ∙ ap (λ o. unwrap_or (option_and_then socket_of o) no_socket) (file_at [] 2)

-- Descriptor 0 refers to the first socket.
open_zero : table_at paired 1 0 ≡ Some 1
open_zero = table_there both_open (ends []) 3 0 ∙ simp gets refl

-- Descriptor 1 refers to the second.
open_one : table_at paired 1 1 ≡ Some 2
open_one = table_there both_open (ends []) 3 1 ∙ simp gets refl

-- The send of the first socket through the second.
abbrev send_step : Step
send_step = step.Send 1 (104 ∷ 105 ∷ []) (0 ∷ [])

-- The message joins the first socket's queue.
queue_pushed : change_at (file_with (λ x. record x { queue = x.queue ++ hi ∷ [] })) (ends []) 1 ≡ ends (hi ∷ [])
queue_pushed =
    ap (λ o. option_map_or (λ x. map.insert (ends []) 1 (file_with (λ x. record x { queue = x.queue ++ hi ∷ [] }) x)) o (ends [])) (file_at [] 1)
    ∙ map.same_map nat_cmp_total nat_cmp-IsAntisymmetric _ _ (λ q.
    map.get-insert nat_cmp_total (ends []) 1 (end_of 2 (hi ∷ [])) q ∙ ap (cond (eq_by_cmp nat_cmp q 1) (Some (end_of 2 (hi ∷ [])))) (file_at [] q)
    ∙ each q (eq_by_cmp nat_cmp q 1) refl (eq_by_cmp nat_cmp q 2) refl ∙ sym (file_at (hi ∷ []) q)) where
      each : (q : ℕ) (a : Bool) → eq_by_cmp nat_cmp q 1 ≡ a → (b : Bool) → eq_by_cmp nat_cmp q 2 ≡ b
          → cond a (Some (end_of 2 (hi ∷ []))) (cond b (Some (end_of 1 [])) (cond a (Some (end_of 2 [])) None)) ≡ cond b (Some (end_of 1 [])) (cond a (Some (end_of 2 (hi ∷ []))) None)
      each q true d true e = absurd (omega (arith, same_number q 1 d, same_number q 2 e))
      each q true d false e = refl
      each q false d b e = refl

-- After the send nothing is to be freed.
sent_settled : IsSettled sent
sent_settled = settled_by sent (λ f live. inl (by f (one_or_two (hi ∷ []) f live))) where
  open_at : (k f : ℕ) → map.get both_open k ≡ Some f → InTable sent f
  open_at k f e = (1, k, table_there both_open (ends (hi ∷ [])) 3 k ∙ e)

  by : (f : ℕ) → (f ≡ 1) ⊎ (f ≡ 2) → InTable sent f
  by f (inl e) = subst (InTable sent) (sym e) (open_at 0 1 (simp gets refl))
  by f (inr e) = subst (InTable sent) (sym e) (open_at 1 2 (simp gets refl))

-- The process sends it.
sends : ProcessStep paired 1 send_step (reply.Sent 2) sent
sends = outcome_done _ false (answer paired 1 send_step) (reply.Sent 2) (effect paired 1 send_step) paired sent fits refl leads sent_settled where
  user : process_at paired 1 ≡ starter both_open
  user = process_there both_open (ends []) 3

  two : socket_at paired (ino_on paired 1 1) ≡ socket_at paired 2
  two = ap (λ o. socket_at paired (unwrap_or o 0)) open_one

  talks : NoneFits (on_peer (socket_on paired 1 1))
  talks = none-fits (on_peer (socket_on paired 1 1)) (ap (λ s. first_fit (on_peer s)) socket_two)

  is_there : is_none (socket_at paired (peer_of (socket_on paired 1 1).state)) ≡ false
  is_there = ap (λ s. is_none (socket_at paired (peer_of s.state))) socket_two
      ∙ ap (λ o. is_none (option_and_then socket_of o)) (file_at [] 1)

  takes : option_map_or (λ t. sends_elsewhere (ino_on paired 1 1) t.state)
      (socket_at paired (peer_of (socket_on paired 1 1).state)) false ≡ false
  takes =
      ap (λ s. option_map_or (λ t. sends_elsewhere (ino_on paired 1 1) t.state)
      (socket_at paired (peer_of s.state)) false) socket_two
      ∙ ap (λ o. option_map_or (λ t. sends_elsewhere (ino_on paired 1 1) t.state)
      (option_and_then socket_of o) false) (file_at [] 1)

  fits : refusal paired 1 send_step ≡ None
  fits = none_fits ((not (map.contains_key paired.processes 1), ESRCH) ∷ step_row paired 1 send_step) (
    not_missing both_open (ends []) 3,
    (
      ap is_none open_one,
      (
        ap is_none two ∙ ap (λ o. is_none (option_and_then socket_of o)) (file_at [] 2),
        (
          refl,
          (
            refl,
            (
              ap (λ o. is_none o || false) open_zero,
              (
                talks.here,
                (
                  talks.rest.here,
                  (
                    talks.rest.rest.here,
                    (
                      is_there,
                      (
                        takes,
                        (
                          ap (λ q. nat_lt 0 1 && (not q.privileged
                              && nat_lt q.limit (charged paired q.user))) user
                              ∙ ap (λ n. nat_lt 0 1
                              && (not false && nat_lt 16 n))
                              (total_ends [] (λ x. sum_by (charge 1000) (queue_of x))),
                          (
                            ap (λ n. nat_lt MAX_INFLIGHT (n + 1))
                                (total_ends [] (λ x. sum_by (λ m. length m.attached) (queue_of x))),
                            (
                              ap (λ s. is_deaf paired (peer_of s.state)) socket_two
                                  ∙ ap (λ o. option_map_or (λ s. s.ends.no_input)
                                  (option_and_then socket_of o) false) (file_at [] 1),
                              (
                                ap (λ s. nat_le MAX_MESSAGES
                                    (length (queue_at paired (peer_of s.state)))) socket_two
                                    ∙ ap (λ o. nat_le MAX_MESSAGES
                                    (length (option_map_or queue_of o []))) (file_at [] 1),
                                tt,
                              ),
                            ),
                          ),
                        ),
                      ),
                    ),
                  ),
                ),
              ),
            ),
          ),
        ),
      ),
    ),
  )

  leads : effect paired 1 send_step ≡ sent
  leads =
      ap (λ s. push_message paired (peer_of s.state) (record { bytes = 104 ∷ 105 ∷ []; attached = cons_option (table_at paired 1 0) []; user = (process_at paired 1).user })) socket_two
      ∙ ap (λ o. push_message paired 1 (record { bytes = 104 ∷ 105 ∷ []; attached = cons_option o []; user = (process_at paired 1).user })) open_zero
      ∙ ap (λ q. push_message paired 1 (record { bytes = 104 ∷ 105 ∷ []; attached = 1 ∷ []; user = q.user })) user
      ∙ ap (λ fs. record paired { files = fs }) queue_pushed

-- And is closed.
pub number_at : (k : ℕ) → map.get one_open k ≡ cond (eq_by_cmp nat_cmp k 0) None (cond (eq_by_cmp nat_cmp k 1) (Some 2) (cond (eq_by_cmp nat_cmp k 0) (Some 1) None))
number_at k = simp gets refl

-- The first socket is in its own queue.
in_own_queue : InQueue closed 1 1
in_own_queue = subst (λ o. Contains (attached_in (option_map_or queue_of o [])) 1) (sym (file_at (hi ∷ []) 1)) (0, omega arith, refl)

-- The first socket holds itself.
in_own_place : Holds closed 1 1
in_own_place = subst (λ o. Contains (option_map_or contents o []) 1) (sym (file_at (hi ∷ []) 1)) (0, omega arith, refl)

-- The second is in the table.
two_open : InTable closed 2
two_open = (1, 1, table_there one_open (ends (hi ∷ [])) 3 1 ∙ number_at 1)

-- After the close nothing is to be freed.
closed_settled : IsSettled closed
closed_settled = settled_by closed (λ f live. by f (one_or_two (hi ∷ []) f live)) where
  by : (f : ℕ) → (f ≡ 1) ⊎ (f ≡ 2) → InTable closed f ⊎ ((s : ℕ) × Holds closed s f)
  by f (inl e) = inr (1, subst (Holds closed 1) (sym e) in_own_place)
  by f (inr e) = inl (subst (InTable closed) (sym e) two_open)

-- The process closes the first.
closes : ProcessStep sent 1 (step.Close 0) reply.Ok closed
closes = outcome_done _ true reply.Ok reply.Ok (effect sent 1 (step.Close 0)) sent closed fits refl (uninstall_there both_open (ends (hi ∷ [])) 3 0) closed_settled where
  open_at : table_at sent 1 0 ≡ Some 1
  open_at = table_there both_open (ends (hi ∷ [])) 3 0 ∙ simp gets refl

  fits : refusal sent 1 (step.Close 0) ≡ None
  fits = none_fits ((not (map.contains_key sent.processes 1), ESRCH) ∷ step_row sent 1 (step.Close 0)) (not_missing both_open (ends (hi ∷ [])) 3, (ap is_none open_at, tt))

-- The second alone is in the table, and it holds nothing.
pub only_two : (f : ℕ) → InTable closed f → f ≡ 2
only_two f t =
    let at = in_table one_open (ends (hi ∷ [])) 3 f t in
    by (eq_by_cmp nat_cmp at.0 0) (eq_by_cmp nat_cmp at.0 1) (sym (number_at at.0) ∙ at.1) where
      by : (a b : Bool) → cond a None (cond b (Some 2) (cond a (Some 1) None)) ≡ Some f → f ≡ 2
      by true b e = absurd (none_some f e)
      by false true e = sym (ap (λ o. unwrap_or o 0) e)
      by false false e = absurd (none_some f e)

-- No file but the second is reachable.
only_two_reached : (f : ℕ) → Reached closed f → f ≡ 2
only_two_reached _ (ByTable f t) = only_two f t
only_two_reached _ (BySocket s f r h) =
    let two : Holds closed 2 f = subst (λ q. Holds closed q f) (only_two_reached s r) h in
    absurd (none_in f (subst (λ o. Contains (option_map_or contents o []) f) (file_at (hi ∷ []) 2) two))

-- The first is garbage.
pub one_is_garbage : Garbage closed 1
one_is_garbage = (ap is_some (file_at (hi ∷ []) 1), λ r. omega (arith, only_two_reached 1 r))

-- The second is reachable.
two_is_reached : Reached closed 2
two_is_reached = ByTable 2 two_open

-- The first is the only garbage.
pub only_one : (f : ℕ) → (nat_eq 1 f ≡ true) ↔ Garbage closed f
only_one f = (
  λ e. subst (Garbage closed) (eqb-true 1 f e) one_is_garbage,
  λ g. elim (one_or_two (hi ∷ []) f g.0) [
    | inl e ↦ eq-eqb 1 f (sym e)
    | inr e ↦ absurd (g.1 (subst (Reached closed) (sym e) two_is_reached))
  ],
)

-- One socket is garbage.
pub one_counted : IsGarbageCount closed 1
one_counted = (nat_eq 1, only_one, sym (ap (count_by (λ e. is_socket e.1 && nat_eq 1 e.0)) (entries_ends (hi ∷ []))))

-- The world is as the law says.
facts : IsSmallestCycle closed
facts = record {
  live = simp gets refl;
  in_own_queue = in_own_queue;
  one_place =
      let untabled : tabled closed 1 ≡ 0 = (none_where_untabled closed 1).1 (λ t. omega (arith, only_two 1 t)) in
      omega (arith, untabled, total_ends (hi ∷ []) (λ x. count_in 1 (contents x)));
  in_flight = total_ends (hi ∷ []) (λ x. count_in 1 (attached_in (queue_of x)));
  charge = total_ends (hi ∷ []) (λ x. sum_by (charge 1000) (queue_of x));
  garbage = one_is_garbage;
  counted = one_counted;
  reached = two_is_reached;
}

-- A machine that has this world and has made no pass.
abbrev pub machine : World → Machine
machine w = record { world = w; pass = Idle; last_pass = 0; since = untold }

-- The events lead there.
pub cycle_runs : Run fresh cycle_events (machine closed)
cycle_runs = (machine started, (spawns, (refl, refl, refl)), (machine paired, (pairs, (refl, refl, refl)), (machine sent, (sends, (refl, refl, refl)), (machine closed, (closes, (refl, refl, refl)), refl))))

pub smallest_cycle : SmallestCycle
smallest_cycle = (machine closed, cycle_runs, facts)
