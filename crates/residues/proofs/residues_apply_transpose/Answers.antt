-- The parts of the reply have room in 64 bits.
use Rattle.table.specs.Words.{table}
use Rattle.table.proofs.PackedProof.{replies}
use Rattle.residues.proofs.residues_apply_transpose.Goals as goal

pub pack-requires : goal.pack-requires
pack-requires c = let a = c.args in rw c.apply_transpose.ensures.result_value ((replies a.p a.n (table a.r a.s a.table.now)).apply a.column.now a.res.now)
