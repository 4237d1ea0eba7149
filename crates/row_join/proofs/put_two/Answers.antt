-- `row_join::put_two` meets its contract.
use Rattle.std.proofs.Common.{arith}
use Rattle.row_words.specs.PutLaws.{put_used}
use Rattle.row_join.specs.PairLaws.{put_join, by_one}
use Rattle.row_join.proofs.put_two.Goals as goal

pub returns-then-used : goal.returns-then-used
returns-then-used c = let a = c.args in
    put_used _ _ _ _ c.if-used.true
    (put_join a.at a.n a.k _ _ _ _ _ (omega arith) c.copy_words.ensures c.copy_words-then-used.ensures (by_one a.x.now a.a) (by_one a.y.now a.e))
