-- `call_solve::solve` meets its contract: what the checks have shown.
use Rattle.std.proofs.Common.{Ok, refl}
use Rattle.table.specs.Words.{table}
use Rattle.table.specs.Replies.{accept}
use Rattle.table.specs.Calls.{solve_earlier, solve_reply}
use Rattle.check_numbers.specs.CheckLaws.{answered}
use Rattle.check_numbers.specs.Passed.{solve_passed}
use Rattle.call_solve.specs.PivotCall.{PivotCall}
use Rattle.call_solve.specs.PivotCallLaws.{solve_call, early_clear, pivot_prime, pivot_good, column_reads}
use Rattle.call_solve.proofs.solve.Goals.{In_ok-check_solve}
use Rattle.call_solve.proofs.solve.Goals as goal

-- the checks before the pivots have passed
checked : (c : In_ok-check_solve) → let a = c.args in let A = table a.r a.s a.table.now in
    PivotCall a.p a.n A (solve_earlier a.p a.n A a.column.now a.work.now a.res.now) (solve_reply a.p a.n A a.column.now a.work.now a.res.now) (accept 0)
checked c = let a = c.args in let A = table a.r a.s a.table.now in
    solve_call a.p a.n A a.column.now a.work.now a.res.now _
    (answered (solve_earlier a.p a.n A a.column.now a.work.now a.res.now) (Ok tt) (c.in_ok-check_solve.ensures a.work.now a.res.now refl refl))

pub new-m-requires : goal.new-m-requires
new-m-requires c = pivot_prime (checked (goal.at.new-m-requires c).In_ok-check_solve) refl

pub solve-requires : goal.solve-requires
solve-requires c = let a = c.args in let A = table a.r a.s a.table.now in
    let k = checked (goal.at.solve-requires c).In_ok-check_solve in
    let z = solve_passed a.p a.n A a.column.now a.work.now a.res.now (early_clear k refl) in
    (pivot_good k refl _ c.new-m.ensures, column_reads a.n A a.column.now a.work.now a.res.now _ a.p c.new-m.ensures z.2 z.5, z.3, z.4, z.1)
