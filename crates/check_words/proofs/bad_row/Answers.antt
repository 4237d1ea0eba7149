-- `check_words::bad_row` meets its contract.
use Rattle.std.proofs.Common.{arith}
use Rattle.check_numbers.specs.CheckLaws.{between}
use Rattle.check_words.proofs.bad_row.Goals as goal

pub returns : goal.returns
returns g c w h =
    between _ _ _ _ _ w c.requires.0 c.if-k-eq0.false c.if-k-n.false _
    (c.bad_given.ensures w (λ i x l. h i x (omega (arith, l)))) c.row_width.ensures.0
