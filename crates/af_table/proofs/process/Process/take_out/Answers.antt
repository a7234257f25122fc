use Rattle.std.proofs.Common.{arith}
use Rattle.af_table.proofs.Tables.{table_frees, table_reads}
use Rattle.af_table.proofs.process.Process.take_out.Goals as goal

pub returns-in_err-was-clause-taken : goal.returns-in_err-was-clause-taken
returns-in_err-was-clause-taken c = grind (arith, table_frees)

pub index_mut-requires : goal.index_mut-requires
index_mut-requires c = grind (arith, table_reads)

pub returns-clause-taken : goal.returns-clause-taken
returns-clause-taken c = grind (arith, table_frees)
