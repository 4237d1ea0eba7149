-- `row_join::put_corners` meets its contract.
use Rattle.std.proofs.Common.{refl, zero-mul, arith}
use Rattle.lists.specs.Writing.{put_none}
use Rattle.row_words.specs.PutLaws.{put_line_lem}
use Rattle.row_join.specs.Pairs.{joined_block}
use Rattle.row_join.proofs.put_corners.Goals as goal

pub loop-i-init : goal.loop-i-init
loop-i-init c = rw (zero-mul _) (put_none _ _ _)

pub loop-i-preserved : goal.loop-i-preserved
loop-i-preserved c = let s = c.args in
    put_line_lem (joined_block s.m.p s.outer s.row1.now s.h1 s.row2.now s.h2) _ _ s.at c.loop-i.i _ _ (omega arith) c.loop-i.invariant refl
    c.put_line.ensures (λ j. refl)
