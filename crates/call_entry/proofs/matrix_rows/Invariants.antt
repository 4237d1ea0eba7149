use Rattle.std.proofs.Common.{◌≡◌, ◌++◌, ◌*◌, drop}
use Rattle.lists.specs.Lists.{rows_of}
use Rattle.call_entry.specs.MatrixLaws.{row_of}
use Rattle.call_entry.proofs.matrix_rows.Given as goal

abbrev pub invariant-loop-i : goal.invariant-loop-i
invariant-loop-i l = l.res ≡ rows_of l.i (row_of l.m.p l.n l.r l.s l.t) ++ drop (l.i * l.n) l.initial.res
