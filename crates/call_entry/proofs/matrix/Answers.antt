-- `call_entry::matrix` meets its contract: what the checks have shown.
use Rattle.std.proofs.Common.{refl, arith, ◌*◌, ◌≤◌, length}
use Rattle.field.specs.Residue.{prime_pos}
use Rattle.table.specs.Words.{table}
use Rattle.table.specs.Replies.{accept}
use Rattle.table.specs.Calls.{matrix_checks, matrix_reply}
use Rattle.check_numbers.specs.CheckLaws.{accepts}
use Rattle.check_numbers.specs.Passed.{Good, matrix_passed}
use Rattle.call_entry.proofs.matrix.Goals.{In_ok-check_matrix}
use Rattle.call_entry.proofs.matrix.Goals as goal

passed : (c : In_ok-check_matrix) → let a = c.args in Good a.p a.n (table a.r a.s a.table.now) × (a.n * a.n ≤ length a.res.now)
unfolding matrix_reply
passed c = let a = c.args in let A = table a.r a.s a.table.now in
    matrix_passed a.p a.n A a.res.now (accepts (matrix_checks a.p a.n A a.res.now) (accept 0) refl (c.in_ok-check_matrix.ensures a.res.now refl))

pub new-m-requires : goal.new-m-requires
new-m-requires c = let g = (passed (goal.at.new-m-requires c).In_ok-check_matrix).0 in (prime_pos _ g.prime, omega (arith, g.limit))

pub matrix_rows-requires : goal.matrix_rows-requires
matrix_rows-requires c = let q = passed (goal.at.matrix_rows-requires c).In_ok-check_matrix in (rw c.new-m.ensures q.0, q.1)
