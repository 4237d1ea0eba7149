-- The parts of the reply have room in 64 bits.
use Rattle.table.specs.Words.{table}
use Rattle.table_dense.proofs.DensePromisesProof.{promises}
use Rattle.residues.proofs.residues_solve_dense.Goals as goal

pub pack-requires : goal.pack-requires
pack-requires c = let a = c.args in rw c.solve_dense.ensures.result_value ((promises a.p a.n (table a.r a.s a.table.now) a.column.now a.square.now a.res.now).packs)
