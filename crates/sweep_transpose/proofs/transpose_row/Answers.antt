-- `sweep_transpose::transpose_row` meets its contract.
use Rattle.std.proofs.Common.{◌∙◌, ◌+◌, ◌*◌, arith, get_or}
use Rattle.row_words.specs.PutLaws.{two_parts}
use Rattle.row_words.specs.Rows.{transposed_row}
use Rattle.row_words.specs.RowLaws.{length_half}
use Rattle.sweep_transpose.proofs.transpose_row.Goals as goal

pub returns : goal.returns
unfolding transposed_row
returns c =
    let a = c.args in
    two_parts (get_or a.row.now 0 0) a.out.now _ _ (1 + c.part_width-upper.result) (2 * a.s + a.s * a.s) (2 * a.r + a.r * a.r) (length_half _ _ _ _ _ _)
    (omega arith) (omega arith)
    c.transpose_part.ensures c.transpose_part-2.ensures
    ∙ rw c.part_width-lower.ensures.0
