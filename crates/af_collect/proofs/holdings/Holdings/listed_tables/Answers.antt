use Rattle.std.proofs.Common.{rules, ◌≡◌, ◌≤◌, ◌+◌, ◌++◌, ◌∷◌, drop, length, map, sym, ap, ◌∙◌, subst, arith, add-one}
use Rattle.std.specs.Prelude.{unwrap_or}
use Rattle.std.specs.List.{All, sum_by}
use Rattle.std.specs.FinMap as finmap
use Rattle.std.proofs.Math.Seq.{drop-cons}
use Rattle.std.proofs.lemmas.List.{drop_all}
use Rattle.std.proofs.lemmas.List.Elements.{All-push}
use Rattle.std.proofs.lemmas.List.Sums.{sum_by_push}
use Rattle.std.proofs.lemmas.Map.Entries.{length-keys_of}
use Rattle.af_base.specs.Bare.{bare_process}
use Rattle.af_base.specs.Listing.{IsRisingTable, process_of}
use Rattle.af_base.specs.Refusals.{no_process}
use Rattle.af_base.specs.declared.limits.TheConstants.{MAX_PROCESSES}
use Rattle.af_collect.specs.HoldingsView.{HoldingsView}
use Rattle.af_base.proofs.GrowingLists.{made_all, made_more}
use Rattle.af_base.proofs.PlainLists.{changed, entry, keyed-changed, keys-rise, looked, looked_entries}
use Rattle.af_collect.proofs.holdings.Holdings.listed_tables.Goals as goal

-- The pids are those of the world.
pids_are : (c : goal.After-deref-pid-items) → c.deref-pid-items.result.now ≡ finmap.keys c.args.self.now.world.processes
pids_are c = c.deref-pid-items.ensures.value ∙ c.in_ok-pids.ensures.all ∙ ap (λ s. finmap.keys s.world.processes) c.self.view_is

pub loop-pid-init : goal.loop-pid-init
loop-pid-init c =
    let processes = c.args.self.now.world.processes in
    let count : length c.deref-pid-items.result.now ≤ MAX_PROCESSES = omega (arith, ap length (pids_are c), length-keys_of (finmap.entries processes), finmap.len-entries processes, (subst (λ (s : HoldingsView). finmap.len s.world.processes ≤ MAX_PROCESSES) c.self.view_is c.self.invariant.within.process_count)) in
    record {
      so_far = ap (λ ts. map (entry (λ t. t.pid) process_of) ts ++ map (looked bare_process no_process processes) c.deref-pid-items.result.now) c.new-tables.ensures.items;
      rising = search rules;
      few = omega (arith, count, ap (sum_by (λ t. length t.numbers.items)) c.new-tables.ensures.items);
    }

pub loop-pid-preserved : goal.loop-pid-preserved
loop-pid-preserved c =
    let processes = c.args.self.now.world.processes in
    let pids = c.deref-pid-items.result.now in
    let n = c.loop-pid.pid-index in
    let xs = c.loop-pid.tables.items in
    let x = c.in_ok-list_table.field-0 in
    let rest = drop (n + 1) pids in
    let pid = c.pid-item.result in
    let step : drop n pids ≡ pid ∷ rest = drop-cons pids n pid c.loop-pid-test.true ∙ (λ i. sym c.pid-item.is i ∷ drop (sym (add-one n) i) pids) in
    let listed = c.in_ok-list_table.ensures in
    let value : process_of x ≡ bare_process (unwrap_or (finmap.get processes pid) no_process) = listed.shown ∙ ap (λ s. bare_process (unwrap_or (finmap.get s.world.processes pid) no_process)) c.self.view_is in
    let same : entry (λ t. t.pid) process_of x ≡ looked bare_process no_process processes pid = λ i. (listed.pid i, value i) in
    let before = ap (λ ps. map (entry (λ t. t.pid) process_of) xs ++ map (looked bare_process no_process processes) ps) (sym step) ∙ c.loop-pid.invariant.so_far in
    record {
      so_far =
          ap (λ ts. map (entry (λ t. t.pid) process_of) ts ++ map (looked bare_process no_process processes) rest) c.in_ok-push.ensures.items
          ∙ made_more (entry (λ t. t.pid) process_of) (looked bare_process no_process processes) xs x pid rest (map (looked bare_process no_process processes) pids) same before;
      rising = subst (All IsRisingTable) (sym c.in_ok-push.ensures.items) (All-push IsRisingTable xs x c.loop-pid.invariant.rising listed.rising);
      few = omega (
        arith,
        c.loop-pid.invariant.few,
        listed.few,
        ap length step,
        ap (sum_by (λ t. length t.numbers.items)) c.in_ok-push.ensures.items,
        sum_by_push (λ t. length t.numbers.items) xs x,
      );
    }

-- All entries are listed.
all_listed : (c : goal.After-drop-branch-2) → map (entry (λ t. t.pid) process_of) c.loop-pid.tables.items ≡ map (changed bare_process) (finmap.entries c.args.self.now.world.processes)
all_listed c =
    let processes = c.args.self.now.world.processes in
    let pids = c.deref-pid-items.result.now in
    let same : pids ≡ finmap.keys processes = c.deref-pid-items.ensures.value ∙ c.in_ok-pids.ensures.all ∙ ap (λ s. finmap.keys s.world.processes) c.self.view_is in
    made_all (entry (λ t. t.pid) process_of) (looked bare_process no_process processes) c.loop-pid.tables.items (drop c.loop-pid.pid-index pids) (map (looked bare_process no_process processes) pids) (drop_all c.loop-pid.pid-index pids c.loop-pid-test.false) c.loop-pid.invariant.so_far
    ∙ ap (map (looked bare_process no_process processes)) same
    ∙ looked_entries bare_process no_process processes

pub returns-clause-shown : goal.returns-clause-shown
returns-clause-shown c = keyed-changed (λ t. t.pid) process_of bare_process c.loop-pid.tables.items c.args.self.now.world.processes (all_listed c)

pub returns-clause-ordered : goal.returns-clause-ordered
returns-clause-ordered c = record {
  pids = keys-rise (λ t. t.pid) process_of bare_process c.loop-pid.tables.items c.args.self.now.world.processes (all_listed c);
  numbers = c.loop-pid.invariant.rising;
  few = omega (arith, c.loop-pid.invariant.few);
}
