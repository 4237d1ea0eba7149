-- The parts of the reply have room in 64 bits.
use Rattle.table.specs.Words.{table}
use Rattle.table_kernel.proofs.KernelPromisesProof.{promises}
use Rattle.residues.proofs.residues_kernel_check.Goals as goal

pub pack-requires : goal.pack-requires
pack-requires c = let a = c.args in rw c.kernel_check.ensures ((promises.check a.p a.n (table a.r a.s a.table.now) a.k a.column.now).packs)
