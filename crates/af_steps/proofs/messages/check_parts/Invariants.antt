-- The numbers looked at so far are open. Their files are in the list, if it has room for all.
use Rattle.std.proofs.Common.{◌≡◌, ◌≤◌, [], false, true, length, take, filter_map}
use Rattle.std.specs.Prelude.{is_none}
use Rattle.std.specs.FinMap as map
use Rattle.std.specs.List.{list_any}
use Rattle.af_steps.proofs.messages.check_parts.Given as goal

abbrev pub invariant-loop-fd : goal.invariant-loop-fd
invariant-loop-fd l = record {
  open_so_far : list_any (λ n. is_none (map.get l.process.process.table n)) (take l.fd-index l.attach) ≡ false;
  files : l.has_room ≡ true → l.files.items ≡ filter_map (map.get l.process.process.table) (take l.fd-index l.attach);
  none : l.has_room ≡ false → l.files.items ≡ [];
  few : length l.files.items ≤ l.fd-index;
  room : l.has_room ≡ true → length l.attach ≤ l.files.capacity;
}
