-- The user who is charged for a send that is not refused.
use Rattle.std.proofs.Common.{◌≡◌, ℕ, ◌+◌, false, not, ◌||◌, List, [], ◌∷◌, length, refl, sym, ap, ◌∙◌, cond, arith}
use Rattle.std.specs.Prelude.{Option, Some, None, is_none, filter_map, nat_eq}
use Rattle.std.specs.List.{cons_option, list_any}
use Rattle.std.specs.FinMap as map
use Rattle.std.proofs.lemmas.Bool.{false≢true}
use Rattle.af_base.specs.declared.errno.Errno.TheVariants.{ESRCH}
use Rattle.af_base.specs.declared.events.Step.TheVariants as step
use Rattle.af_base.specs.World.{Message, World}
use Rattle.af_base.specs.Places.{table_at}
use Rattle.af_base.specs.Counts.{charged}
use Rattle.af_base.specs.Refusals.{peer_of, process_at, socket_on, step_row}
use Rattle.af_base.proofs.SoundSteps.{none-fits, target-there}
use Rattle.af_laws.proofs.PlaceCounts.{charged-push}
use Rattle.af_laws.specs.Stepping.{SendIsChargedToItsSender}

-- There are as many files as descriptors, if each is open.
attached-all : (w : World) (p : ℕ) (ns : List ℕ) → list_any (λ m. is_none (table_at w p m)) ns ≡ false → length (filter_map (table_at w p) ns) ≡ length ns
attached-all w p [] none = refl
attached-all w p (n ∷ ns) none = by (table_at w p n) none (λ k. attached-all w p ns k) where
  by : (o : Option ℕ) → (is_none o || list_any (λ m. is_none (table_at w p m)) ns) ≡ false → (list_any (λ m. is_none (table_at w p m)) ns ≡ false → length (filter_map (table_at w p) ns) ≡ length ns) → length (cons_option o (filter_map (table_at w p) ns)) ≡ length (n ∷ ns)
  by None e rest = absurd (false≢true (sym e))
  by (Some g) e rest = let same = rest e in omega (arith, same)

pub send_is_charged_to_its_sender : SendIsChargedToItsSender
send_is_charged_to_its_sender w p n u bytes attach whole fits =
    let row = none-fits ((not (map.contains_key w.processes p), ESRCH) ∷ step_row w p (step.Send n bytes attach)) fits in
    let given = row.rest in
    let tabled = given.rest.rest.rest.rest in
    let s = socket_on w p n in
    let peer = target-there w (peer_of s.state) tabled.rest.rest.rest.rest.here in
    let sent : Message = record { bytes = bytes; attached = filter_map (table_at w p) attach; user = (process_at w p).user } in
    charged-push w (peer_of s.state) u sent peer.0 peer.1 ∙ ap (λ k. charged w u + cond (nat_eq u (process_at w p).user) k 0) (attached-all w p attach tabled.here)
