use Rattle.std.proofs.Common.{◌≡◌, ◌++◌, ◌*◌, drop}
use Rattle.lists.specs.Lists.{rows_of}
use Rattle.row_words.specs.Rows.{transposed_row}
use Rattle.row_words.specs.RowLaws.{row_at}
use Rattle.sweep_transpose.proofs.transpose.Given as goal

abbrev pub invariant-loop-k : goal.invariant-loop-k
invariant-loop-k l = l.res ≡ rows_of l.k (λ k. transposed_row l.n l.r l.s k (row_at l.w l.t k)) ++ drop (l.k * l.w) l.initial.res
