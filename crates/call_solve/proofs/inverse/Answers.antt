-- `call_solve::inverse` meets its contract: what the checks have shown.
use Rattle.std.proofs.Common.{Ok, refl, rules}
use Rattle.table.specs.Words.{table}
use Rattle.table.specs.Replies.{accept}
use Rattle.table.specs.Calls.{inverse_earlier, inverse_reply}
use Rattle.check_numbers.specs.CheckLaws.{answered}
use Rattle.check_numbers.specs.Passed.{inverse_passed}
use Rattle.call_solve.specs.PivotCall.{PivotCall}
use Rattle.call_solve.specs.PivotCallLaws.{inverse_call, early_clear, pivot_prime, pivot_good}
use Rattle.call_solve.proofs.inverse.Goals.{In_ok-check_table}
use Rattle.call_solve.proofs.inverse.Goals as goal

-- the checks before the pivots have passed
checked : (c : In_ok-check_table) → let a = c.args in let A = table a.r a.s a.table.now in
    PivotCall a.p a.n A (inverse_earlier a.p a.n A a.res.now) (inverse_reply a.p a.n A a.res.now) (accept 0)
checked c = let a = c.args in let A = table a.r a.s a.table.now in
    inverse_call a.p a.n A a.res.now _ (answered (inverse_earlier a.p a.n A a.res.now) (Ok tt) (c.in_ok-check_table.ensures a.res.now refl))

pub new-m-requires : goal.new-m-requires
new-m-requires c = pivot_prime (checked (goal.at.new-m-requires c).In_ok-check_table) refl

pub first_zero-requires : goal.first_zero-requires
first_zero-requires c = let g = pivot_good (checked (goal.at.first_zero-requires c).In_ok-check_table) refl _ c.new-m.ensures in (g, g.most)

pub inverse-requires : goal.inverse-requires
inverse-requires c = let a = c.args in
    let k = checked (goal.at.inverse-requires c).In_ok-check_table in (
      pivot_good k refl _ c.new-m.ensures,
      search rules,
      (inverse_passed a.p a.n (table a.r a.s a.table.now) a.res.now (early_clear k refl)).1,
    )
