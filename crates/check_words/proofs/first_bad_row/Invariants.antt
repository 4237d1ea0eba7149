use Rattle.std.proofs.Common.{Bool, ◌≡◌, List, ℕ, ◌-◌}
use Rattle.lists.specs.Lists.{first_of}
use Rattle.table.specs.Words.{table, table_word, bad_row_of}
use Rattle.check_words.proofs.first_bad_row.Given as goal

abbrev pub F : ℕ → ℕ → ℕ → ℕ → List ℕ → ℕ → Bool
F p n r s t k = bad_row_of p n r s k (table_word (table r s t) k)

abbrev pub invariant-loop-k : goal.invariant-loop-k
invariant-loop-k l = first_of l.n (F l.p l.n l.r l.s l.t) 0 ≡ first_of (l.n - l.k) (F l.p l.n l.r l.s l.t) l.k
