use Rattle.std.proofs.Common.{[], ◌++◌, ◌*◌, ◌≤◌, eqb, get_or}
use Rattle.algebra.specs.Generators.{pick}
use Rattle.lists.specs.Lists.{rows_of}
use Rattle.table.specs.Lister.{text, decimal}
use Rattle.listing.specs.Lines.{Puts}
use Rattle.listing.proofs.row_line.Given as goal

abbrev pub invariant-loop-j : goal.invariant-loop-j
invariant-loop-j l = record {
  put : Puts 0 (rows_of l.j (λ j. pick (eqb j 0) [] (text " ") ++ decimal (get_or l.row j 0))) l.initial.out l.out l.at;
  short : l.at ≤ 11 * l.j;
}
