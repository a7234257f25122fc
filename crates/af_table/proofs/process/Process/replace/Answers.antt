use Rattle.std.proofs.Common.{arith}
use Rattle.af_table.proofs.Tables.{table_installs, table_reads}
use Rattle.af_table.proofs.process.Process.replace.Goals as goal

pub returns-then-is_open-clause-value : goal.returns-then-is_open-clause-value
returns-then-is_open-clause-value c = grind (arith, table_reads)

pub returns-then-is_open-clause-installed : goal.returns-then-is_open-clause-installed
returns-then-is_open-clause-installed c = grind (arith, table_installs)

pub returns-clause-value : goal.returns-clause-value
returns-clause-value c = grind (arith, table_reads)

pub returns-clause-installed : goal.returns-clause-installed
returns-clause-installed c = grind (arith, table_installs)
