-- A whole pass over the smallest cycle.
use Rattle.std.proofs.Common.{◌≡◌, inl, ℕ, Bool, true, false, not, ◌&&◌, [], ◌∷◌, ◌++◌, refl, sym, ap, ◌∙◌, subst, cond, arith}
use Rattle.std.specs.Prelude.{Option, Some, None, is_none, is_some, option_map, unwrap_or, nat_eq, if◌then◌else◌}
use Rattle.std.specs.Option.{option_and_then, option_map_or}
use Rattle.std.specs.List.{Contains, count_by, sum_by}
use Rattle.std.specs.Ordering.{eq_by_cmp, nat_cmp}
use Rattle.std.specs.Cmp.{nat_cmp_total}
use Rattle.std.specs.FinMap as map
use Rattle.std.specs.FinMap.{entries-insert, gets, nat_cmp-IsAntisymmetric, put}
use Rattle.std.proofs.lemmas.Bool.{false≢true}
use Rattle.af_base.specs.declared.errno.Errno.TheVariants.{EBADF, EINVAL, EMSGSIZE, ENOTSOCK, EPIPE, ESRCH}
use Rattle.af_base.specs.declared.events.Reply.TheVariants as reply
use Rattle.af_base.specs.declared.events.State.TheVariants as state
use Rattle.af_base.specs.declared.events.Step.{Step}
use Rattle.af_base.specs.declared.events.Step.TheVariants as step
use Rattle.af_base.specs.World.{AsSocket, File, IsLive, Map, World, untold}
use Rattle.af_base.specs.Places.{Holds, InTable, contents, queue_at, queue_of, table_at}
use Rattle.af_base.specs.Counts.{charge, charged, total, total_of}
use Rattle.af_base.specs.Unheld.{IsSettled, Settles, file_without, map_entries, without}
use Rattle.af_base.specs.Reached.{ByTable, IsGarbageCount, is_socket}
use Rattle.af_base.specs.Refusals.{RefusalRow, first_fit, ino_on, is_deaf, no_socket, on_charge, on_input, on_peer, on_room, on_target, peer_of, process_at, refusal, socket_at, socket_of, socket_on}
use Rattle.af_base.specs.Steps.{Outcome, ProcessStep, answer, effect}
use Rattle.af_base.specs.Pass.{Idle, Machine, PassesWhole, Purges, emptied, empty_file}
use Rattle.af_base.proofs.Sums.{total-insert}
use Rattle.af_base.proofs.SettledWorlds.{get-without, none_in, settled_by, settles_first, settles_none}
use Rattle.af_laws.proofs.Chains.{same_number}
use Rattle.af_base.proofs.SoundSteps.{goes-on, passes-on}
use Rattle.af_laws.proofs.Cycle.{closed, cycle_runs, end_of, ends, entries_ends, entries_none, file_at, hi, machine, none, none_fits, not_missing, number_at, one_counted, one_open, only_one, only_two, table_there, with_process}
use Rattle.af_laws.specs.Rows.{CycleIsCollected, IsCollected}

-- The first socket's queue emptied, and then the first socket gone.
abbrev drained : World
drained = with_process one_open (ends []) 3

-- The second socket, whose peer was freed.
abbrev last : File
last = AsSocket (record no_socket { state = state.HungUp })

-- The second socket alone.
abbrev alone : Map File
alone = map.insert none 2 last

-- The world after the pass.
abbrev collected : World
collected = with_process one_open alone 3

-- It is the only file.
alone_at : (f : ℕ) → map.get alone f ≡ cond (eq_by_cmp nat_cmp f 2) (Some last) None
alone_at f = simp gets refl

-- The queue is emptied.
turned_round : map.insert (map.insert none 2 (end_of 1 [])) 1 (end_of 2 []) ≡ ends []
turned_round = map.same_map nat_cmp_total nat_cmp-IsAntisymmetric _ _ (λ q. at q ∙ each q (eq_by_cmp nat_cmp q 1) refl (eq_by_cmp nat_cmp q 2) refl ∙ sym (file_at [] q)) where
  at : (q : ℕ) → map.get (map.insert (map.insert none 2 (end_of 1 [])) 1 (end_of 2 [])) q ≡ cond (eq_by_cmp nat_cmp q 1) (Some (end_of 2 [])) (cond (eq_by_cmp nat_cmp q 2) (Some (end_of 1 [])) None)
  at q = simp gets refl

  each : (q : ℕ) (a : Bool) → eq_by_cmp nat_cmp q 1 ≡ a → (b : Bool) → eq_by_cmp nat_cmp q 2 ≡ b
      → cond a (Some (end_of 2 [])) (cond b (Some (end_of 1 [])) None) ≡ cond b (Some (end_of 1 [])) (cond a (Some (end_of 2 [])) None)
  each q true d true e = absurd (omega (arith, same_number q 1 d, same_number q 2 e))
  each q true d false e = refl
  each q false d b e = refl

-- The world with the first emptied is the drained one.
emptied_closed : emptied (nat_eq 1) closed ≡ drained
emptied_closed = ap (λ es. record closed { files = map_entries (λ f x. if nat_eq 1 f then empty_file x else x) es }) (entries_ends (hi ∷ [])) ∙ ap (λ fs. record closed { files = fs }) turned_round

-- Then nothing holds the first socket.
no_table : ¬ (InTable drained 1)
no_table t = omega (arith, only_two 1 t)

-- Then nothing holds the first.
no_holder : (s : ℕ) → ¬ (Holds drained s 1)
no_holder s h = by (eq_by_cmp nat_cmp s 2) (eq_by_cmp nat_cmp s 1) (subst (λ o. Contains (option_map_or contents o []) 1) (file_at [] s) h) where
  by : (a b : Bool) → Contains (option_map_or contents (cond a (Some (end_of 1 [])) (cond b (Some (end_of 2 [])) None)) []) 1 → ⊥
  by true b h = none_in 1 h
  by false true h = none_in 1 h
  by false false h = none_in 1 h

-- And it is freed, and the other hangs up.
first_gone : without (nat_eq 1) drained ≡ collected
first_gone = ap (λ fs. record collected { files = fs }) (map.same_map nat_cmp_total nat_cmp-IsAntisymmetric _ _ (λ q.
    get-without (nat_eq 1) drained q ∙ ap (λ o. cond (not (nat_eq 1 q)) (option_map (file_without (nat_eq 1)) o) None) (file_at [] q)
    ∙ each q (eq_by_cmp nat_cmp q 2) refl (eq_by_cmp nat_cmp q 1) refl ∙ sym (alone_at q))) where
      nothing : (c : Bool) → cond {A = Option File} c None None ≡ None
      nothing true = refl
      nothing false = refl

      each : (q : ℕ) (a : Bool) → eq_by_cmp nat_cmp q 2 ≡ a → (b : Bool) → eq_by_cmp nat_cmp q 1 ≡ b
          → cond (not (nat_eq 1 q)) (option_map (file_without (nat_eq 1)) (cond a (Some (end_of 1 [])) (cond b (Some (end_of 2 [])) None))) None ≡ cond a (Some last) None
      each q true d b e = ap (λ k. cond (not (nat_eq 1 k)) (Some last) None) (same_number q 2 d)
      each q false d true e = ap (λ k. cond (not (nat_eq 1 k)) (option_map (file_without (nat_eq 1)) (Some (end_of 2 []))) None) (same_number q 1 e)
      each q false d false e = nothing (not (nat_eq 1 q))

-- Descriptor 1 refers to the second.
open_one : table_at collected 1 1 ≡ Some 2
open_one = table_there one_open alone 3 1 ∙ number_at 1

-- A live file is the second.
only_last : (f : ℕ) → IsLive collected f → f ≡ 2
only_last f live = by (eq_by_cmp nat_cmp f 2) refl (sym (ap is_some (alone_at f)) ∙ live) where
  by : (a : Bool) → eq_by_cmp nat_cmp f 2 ≡ a → is_some (cond a (Some last) None) ≡ true → f ≡ 2
  by true e l = same_number f 2 e
  by false e l = absurd (false≢true l)

-- It is in a table.
two_in_table : (f : ℕ) → IsLive collected f → InTable collected f
two_in_table f live = subst (InTable collected) (sym (only_last f live)) (1, 1, open_one)

-- Nothing is to be freed.
collected_settled : IsSettled collected
collected_settled = settled_by collected (λ f live. inl (two_in_table f live))

-- The pass purges the first.
purged : Purges (nat_eq 1) closed collected
purged =
    let rest : Settles (without (nat_eq 1) drained) collected = subst (λ w. Settles w collected) (sym first_gone) (settles_none collected collected_settled) in
    subst (λ w. Settles w collected) (sym emptied_closed) (settles_first drained 1 (ap is_some (file_at [] 1)) no_table no_holder collected rest)

-- Nothing is garbage, nor charged.
none_counted : IsGarbageCount collected 0
none_counted = (λ f. false, λ f. (λ e. absurd (false≢true e), λ g. absurd (g.1 (ByTable f (two_in_table f g.0)))), sym (ap (count_by (λ e. is_socket e.1 && false)) entries)) where
  entries : map.entries alone ≡ (2, last) ∷ []
  entries = entries-insert nat_cmp_total none 2 last ∙ ap (put nat_cmp 2 last) entries_none

-- The user is charged nothing.
none_charged : charged collected 1000 ≡ 0
none_charged =
    let F : File → ℕ = λ x. sum_by (charge 1000) (queue_of x) in
    let nothing : total_of F none ≡ 0 = ap (λ es. sum_by (λ e. F e.1) es) entries_none in
    let before : option_map_or F (map.get (none {X = File}) 2) 0 ≡ 0 = ap (λ o. option_map_or F o 0) (map.get-empty nat_cmp 2) in
    omega (arith, nothing, before, total-insert F none 2 last)

-- A send to it is refused.
abbrev send_step : Step
send_step = step.Send 1 (120 ∷ []) []

-- The tests that pass, and those that are not read.
abbrev before : RefusalRow
before =
    (not (map.contains_key collected.processes 1), ESRCH) ∷ (is_none (table_at collected 1 1), EBADF) ∷ (is_none (socket_at collected (ino_on collected 1 1)), ENOTSOCK)
    ∷ (false, EINVAL) ∷ (false, EMSGSIZE) ∷ (false, EBADF) ∷ []

-- The tests of a send behind that of the peer.
abbrev later : RefusalRow
later =
    let q = process_at collected 1 in
    let s = socket_on collected 1 1 in
    on_target (ino_on collected 1 1) (socket_at collected (peer_of s.state))
    ++ on_charge (charged collected q.user) (total collected) q.limit q.privileged 0
    ++ on_input (is_deaf collected (peer_of s.state))
    ++ on_room (queue_at collected (peer_of s.state))

-- A send by the second is EPIPE.
hung_up : ProcessStep collected 1 send_step (reply.Refused EPIPE) collected
hung_up = subst (λ o. Outcome o false (answer collected 1 send_step) (effect collected 1 send_step) collected (reply.Refused EPIPE) collected) (sym refused) (refl, refl) where
  socket : socket_on collected 1 1 ≡ record no_socket { state = state.HungUp }
  socket = ap (λ o. unwrap_or (option_and_then (socket_at collected) o) no_socket) open_one ∙ ap (λ o. unwrap_or (option_and_then socket_of o) no_socket) (alone_at 2)

  is_socket_two : is_none (socket_at collected (ino_on collected 1 1)) ≡ false
  is_socket_two = ap (λ o. is_none (socket_at collected (unwrap_or o 0))) open_one ∙ ap (λ o. is_none (option_and_then socket_of o)) (alone_at 2)

  refused : refusal collected 1 send_step ≡ Some EPIPE
  refused =
      passes-on before (on_peer (socket_on collected 1 1) ++ later) (none_fits before (not_missing one_open alone 3, (ap is_none open_one, (is_socket_two, (refl, (refl, (refl, tt)))))))
      ∙ goes-on (on_peer (socket_on collected 1 1)) later EPIPE (ap (λ s. first_fit (on_peer s)) socket)

-- The world is as the law says.
facts : IsCollected collected
facts = record {
  live = simp gets refl;
  gone = λ l. omega (arith, only_last 1 l);
  charge = none_charged;
  counted = none_counted;
  hung_up = hung_up;
}

-- The machine after the pass.
abbrev after : Machine
after = record { world = collected; pass = Idle; last_pass = 1; since = untold }

-- A whole pass leads there, and counts one.
passes : PassesWhole Idle (machine closed) (reply.Done 1 1) after
passes = (record { test = nat_eq 1; is_garbage = only_one; purged = purged; count = 1; counted = one_counted; answered = refl }, refl, refl, refl)

pub cycle_is_collected : CycleIsCollected
cycle_is_collected = (machine closed, after, cycle_runs, passes, facts)
