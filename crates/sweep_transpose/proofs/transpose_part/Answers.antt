-- `sweep_transpose::transpose_part` meets its contract.
use Rattle.std.proofs.Common.{◌&&◌, refl, ◌+◌, ◌*◌, arith}
use Rattle.row_words.specs.PutLaws.{put_half_lem}
use Rattle.row_words.specs.RowLaws.{as_copied, as_row, as_column}
use Rattle.sweep_transpose.proofs.transpose_part.Goals as goal

pub returns : goal.returns
returns c pre d l e =
    let a = c.args in
    put_half_lem a.first a.last a.o _ _ _ pre d _ _ _ _ _ _ _ _ l e c.put_block.ensures c.put_block-2.ensures c.put_block-3.ensures refl refl
    (as_row a.o 1 a.first a.row.now (a.from + a.o + a.o * a.o))
    (as_copied a.o a.o 1 a.o (a.last && a.first) a.row.now (a.from + a.o) (λ i j. j * a.o + i) (λ i j _ _. omega arith))
    (as_column a.o a.o a.last a.row.now a.from)
