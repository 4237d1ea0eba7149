use Rattle.std.proofs.Common.{◌≡◌, ◌++◌, ◌*◌, drop}
use Rattle.lists.specs.Lists.{rows_of}
use Rattle.table.specs.RowFile.{met}
use Rattle.call_file.specs.ReadLaws.{met_row}
use Rattle.call_file.proofs.read_rows.Given as goal

abbrev pub invariant-loop-k : goal.invariant-loop-k
invariant-loop-k l = record {
  here : l.m ≡ met l.f l.k;
  rows : l.res ≡ rows_of l.k (met_row l.f l.n l.r l.s) ++ drop (l.k * l.w) l.initial.res;
}
