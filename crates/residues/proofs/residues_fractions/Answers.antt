-- The parts of the reply have room in 64 bits.
use Rattle.call_fractions.proofs.FractionPromisesProof.{promises}
use Rattle.residues.proofs.residues_fractions.Goals as goal

pub pack-requires : goal.pack-requires
pack-requires c = let a = c.args in rw c.fractions.ensures.result_value ((promises a.p a.q a.n a.first.now a.second.now a.numerators.now a.denominators.now).packs)
