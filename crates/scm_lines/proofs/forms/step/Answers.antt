-- One case for each verb: a search in all at once gives up.
use Rattle.std.proofs.Common.{rules}
use Rattle.scm_lines.proofs.forms.step.Goals.{in-Open, in-Dup, in-Dup2, in-Close, in-Fork, in-Exit, in-Pair, in-Socket, in-Listen, in-Accept, in-Recv, in-Peek, in-Limit, in-Shutdown, in-Unconnect}
use Rattle.scm_lines.proofs.forms.step.Goals as goal

pub returns-clause-read : goal.returns-clause-read
returns-clause-read c = elim c.match-verb.branch [
  | in-Open w ↦ search rules
  | in-Dup w ↦ search rules
  | in-Dup2 w ↦ search rules
  | in-Close w ↦ search rules
  | in-Fork w ↦ search rules
  | in-Exit w ↦ search rules
  | in-Pair w ↦ search rules
  | in-Socket w ↦ search rules
  | in-Listen w ↦ search rules
  | in-Accept w ↦ search rules
  | in-Recv w ↦ search rules
  | in-Peek w ↦ search rules
  | in-Limit w ↦ search rules
  | in-Shutdown w ↦ search rules
  | in-Unconnect w ↦ search rules
]
