-- The parts of the reply have room in 64 bits.
use Rattle.table.specs.Words.{table}
use Rattle.table.proofs.PackedProof.{replies}
use Rattle.residues.proofs.residues_product.Goals as goal

pub pack-requires : goal.pack-requires
pack-requires c = let a = c.args in rw c.product.ensures.result_value ((replies a.p a.n (table a.r1 a.s1 a.first.now)).product (table a.r2 a.s2 a.second.now) a.res.now)
