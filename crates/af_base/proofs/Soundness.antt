-- The world is sound at first, and what settles stays sound.
use Rattle.std.proofs.Common.{◌≡◌, ℕ, inl, inr, refl, sym, ap, ◌∙◌, subst, arith, length}
use Rattle.std.specs.Prelude.{None, is_some}
use Rattle.std.specs.Option.{option_map_or}
use Rattle.std.specs.List.{sum_by}
use Rattle.std.specs.Ordering.{nat_cmp}
use Rattle.std.specs.FinMap as map
use Rattle.std.proofs.lemmas.Bool.{cases_Bool, false≢true}
use Rattle.af_base.specs.declared.events.State.TheVariants as state
use Rattle.af_base.specs.World.{AsSocket, File, Process, World, empty_world}
use Rattle.af_base.specs.Places.{backlog_of, queue_of}
use Rattle.af_base.specs.Counts.{count_in}
use Rattle.af_base.specs.Unheld.{Goes, IsSettled, Settles, Unheld, without}
use Rattle.af_base.specs.Whole.{IsSound, IsWhole, IsWithin, state_of}
use Rattle.af_base.proofs.NewFiles.{total-empty}
use Rattle.af_base.proofs.Lookups.{none_some}
use Rattle.af_base.proofs.PlaceMoves.{holds-there, table-there}
use Rattle.af_base.proofs.SocketNames.{named-there}
use Rattle.af_base.proofs.SettledWorlds.{live-without, stays, to_without}
use Rattle.af_base.proofs.StaysWhole.{not_connected, whole-settles}
use Rattle.af_base.proofs.TypedFiles.{AreTyped, targets-typed, types-typed}
use Rattle.af_base.proofs.StaysWithin.{within-settles}

-- A world that was settled by definition is settled.
pub settled-settles : (old new : World) → Settles old new → IsSettled new
settled-settles old new s = subst IsSettled (sym s.2) none where
  before : (f : ℕ) → Unheld (without s.0 old) f → Unheld old f
  before _ (Goes f l no_table hs) = Goes f (stays _ _ (sym (live-without s.0 old f) ∙ l)).1 no_table (λ q h. elim (cases_Bool (s.0 q)) [
    | inl e ↦ (s.1 q).0 e
    | inr e ↦ before q (hs q (to_without s.0 old q f e h))
  ])

  none : IsSettled (without s.0 old)
  none _ (Goes f l no_table hs) = false≢true (sym (stays _ _ (sym (live-without s.0 old f) ∙ l)).0 ∙ (s.1 f).1 (before f (Goes f l no_table hs)))

-- A whole world within the limits, settled, is sound.
pub sound-settles : (old new : World) → Settles old new → IsWhole old → IsWithin old → IsSound new
sound-settles old new s whole within = record { whole = whole-settles old new s whole; within = within-settles old new s within; settled = settled-settles old new s }

-- There is no file at first.
no_file : (f : ℕ) → map.get empty_world.files f ≡ None
no_file f = map.get-empty nat_cmp f

-- There is no process at first.
no_process : (p : ℕ) → map.get empty_world.processes p ≡ None
no_process p = map.get-empty nat_cmp p

-- The world is whole at first.
fresh_whole : IsWhole empty_world
fresh_whole = record {
  tables_live = λ f t. let at = table-there empty_world t.0 t.1 f t.2 in absurd (none_some at.0 (sym (no_process t.0) ∙ at.1));
  queues_live = λ s f h. let at = holds-there empty_world s f h in absurd (none_some at.0 (sym (no_file s) ∙ at.1));
  files_numbered = λ f l. absurd (false≢true (sym (ap is_some (no_file f)) ∙ l));
  processes_numbered = λ p l. absurd (false≢true (sym (ap is_some (no_process p)) ∙ l));
  files_begin = λ f l. absurd (false≢true (sym (ap is_some (no_file f)) ∙ l));
  next_ino = omega arith;
  next_pid = omega arith;
  peers = λ f p e. not_connected state.Idle p refl (sym (ap (λ o. option_map_or state_of o state.Idle) (no_file f)) ∙ e);
  targets = targets-typed empty_world typed;
  types = types-typed empty_world typed;
  names = λ f g name e d. let at = named-there empty_world f name e in absurd (none_some at.0 (sym (no_file f) ∙ at.1));
  embryos = λ f. omega (arith, total-empty (λ x. count_in f (backlog_of x)));
} where
  typed : AreTyped empty_world
  typed f x is = absurd (none_some x (sym (no_file f) ∙ is))

-- The world is within the limits at first.
fresh_within : IsWithin empty_world
fresh_within = record {
  process_count = let none = map.len-empty nat_cmp Process in omega (arith, none);
  file_count = let none = map.len-empty nat_cmp File in omega (arith, none);
  flying = omega (arith, total-empty (λ x. sum_by (λ m. length m.attached) (queue_of x)));
  pids = omega arith;
  inos = omega arith;
  processes = λ p q is. absurd (none_some q (sym (no_process p) ∙ is));
  sockets = λ f s is. absurd (none_some (AsSocket s) (sym (no_file f) ∙ is));
}

-- The world is sound at first.
pub fresh_sound : IsSound empty_world
fresh_sound = record {
  whole = fresh_whole;
  within = fresh_within;
  settled = λ f u. by f u;
} where
  by : (f : ℕ) → Unheld empty_world f → ⊥
  by _ (Goes f l no_table hs) = false≢true (sym (ap is_some (no_file f)) ∙ l)
