-- `row_join::put_line` meets its contract.
use Rattle.std.proofs.Common.{◌-◌, arith}
use Rattle.row_join.specs.Pairs.{block_in, outer_words}
use Rattle.row_join.specs.PairLaws.{upper_line, lower_line, line_by_one}
use Rattle.row_join.proofs.put_line.Goals as goal

pub returns-then-i-n : goal.returns-then-i-n
returns-then-i-n c = let a = c.args in
    upper_line _ _ _ a.i (block_in a.row1.now a.h1) (outer_words a.m.p a.outer a.row1.now a.h1 a.row2.now a.h2) (block_in a.row2.now a.h2) _
    (omega arith) _ c.if-i-n.true c.copy_words.ensures c.put_scaled.ensures (line_by_one a.row1.now a.h1 a.i)

pub returns-else-i-n : goal.returns-else-i-n
returns-else-i-n c = let a = c.args in
    lower_line _ _ _ a.i (block_in a.row1.now a.h1) (outer_words a.m.p a.outer a.row1.now a.h1 a.row2.now a.h2) (block_in a.row2.now a.h2) _
    (omega arith) _ c.if-i-n.false c.zero_words.ensures c.copy_words-else-i-n.ensures (line_by_one a.row2.now a.h2 (a.i - a.h1.order))
