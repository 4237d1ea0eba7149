use Rattle.std.proofs.Common.{◌≡◌, ℕ, ◌++◌, ◌*◌, ◌<◌, drop}
use Rattle.lists.specs.Lists.{rows_of}
use Rattle.table.specs.Words.{table, first_bad_of}
use Rattle.call_file.specs.WriteLaws.{record_of}
use Rattle.call_file.proofs.write_rows.Given as goal

abbrev pub invariant-loop-k : goal.invariant-loop-k
invariant-loop-k l = (p : ℕ) → 0 < p → first_bad_of p l.n (table l.r l.s l.t) ≡ 0
    → l.out ≡ rows_of l.k (record_of p l.n l.r l.s l.t) ++ drop (l.k * l.size) l.initial.out
