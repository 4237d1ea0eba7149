-- `lister::list` meets its contract.
use Rattle.std.proofs.Common.{arith}
use Rattle.lister.proofs.ReadGood.{read_head, read_good}
use Rattle.lister.proofs.list.Goals as goal

pub word-n-requires : goal.word-n-requires
word-n-requires g c = omega (arith, read_head _ _ _ c.in-Ok.ensures.result_value)

pub word-r-requires : goal.word-r-requires
word-r-requires g c = omega (arith, read_head _ _ _ c.in-Ok.ensures.result_value)

pub word-s-requires : goal.word-s-requires
word-s-requires g c = omega (arith, read_head _ _ _ c.in-Ok.ensures.result_value)

pub show_table-requires : goal.show_table-requires
show_table-requires g c =
    read_good _ _ _ c.in-Ok.ensures.result_value _ _ _ _ c.word-n.ensures c.word-r.ensures c.word-s.ensures c.read.ensures.res_after
