-- The parts of the reply have room in 64 bits.
use Rattle.std.proofs.Common.{[]}
use Rattle.table.specs.Words.{table}
use Rattle.table.proofs.PackedProof.{replies}
use Rattle.residues.proofs.residues_read_file.Goals as goal

pub pack-requires : goal.pack-requires
pack-requires c = let a = c.args in rw c.read.ensures.result_value ((replies 0 0 (table 0 0 [])).read a.file.now a.res.now)
