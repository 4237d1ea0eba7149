-- `call_dense::solve_dense` meets its contract.
use Rattle.std.specs.Prelude.{Ok, Err}
use Rattle.std.proofs.Common.{arith, refl, ap, ◌∙◌, not}
use borrow.Author.Tests.{not-true, not-false}
use Rattle.table.specs.Words.{table}
use Rattle.table.specs.Replies.{accept}
use Rattle.check_numbers.specs.CheckLaws.{answered, square_fits}
use Rattle.check_steps.specs.StepLaws.{refuses, handed}
use Rattle.call_dense.specs.DenseLaws.{Checked, good_system, stopped, fits, ready, solved, singular}
use Rattle.call_dense.proofs.solve_dense.Goals.{In_ok-check_system}
use Rattle.call_dense.proofs.solve_dense.Goals as goal

pub overflow_mul-need : goal.overflow_mul-need
overflow_mul-need c = omega (arith, square_fits c.args.n (omega arith))

-- the checks before the square is in use pass
checked : (c : In_ok-check_system) → let a = c.args in Checked a.p a.n (table a.r a.s a.table.now) a.column.now a.square.now a.res.now (accept 0)
checked c = let a = c.args in record { is = answered _ (Ok tt) (c.in_ok-check_system.ensures a.square.now a.res.now refl refl) }

pub returns-in_err-check_system : goal.returns-in_err-check_system
returns-in_err-check_system c = let a = c.args in
    let no : Checked a.p a.n (table a.r a.s a.table.now) a.column.now a.square.now a.res.now _ = record {
      is = answered _ (Err c.in_err-check_system.field-0.0) (c.in_err-check_system.ensures a.square.now a.res.now refl refl);
    } in
    let parts = stopped no (refuses c.in_err-check_system.field-0.0) in record {
      result_value = handed _ _ c.from_residual.ensures.1 ∙ parts.0;
      square_after = parts.1.0;
      res_after = parts.1.1;
    }

pub new-m-requires : goal.new-m-requires
new-m-requires c = fits (checked (goal.at.new-m-requires c).In_ok-check_system) refl

pub solve_words-found-requires : goal.solve_words-found-requires
solve_words-found-requires c =
    let z = ready (checked (goal.at.solve_words-found-requires c).In_ok-check_system) refl c.new-m.ensures in
    (good_system _ _ _ z.0 z.1, z.0.3, z.2.0, z.2.1, z.3, z.4)

pub returns-then-not-found : goal.returns-then-not-found
returns-then-not-found c =
    let u = c.solve_words-found.ensures in
    let f = not-true _ (ap not c.if-not-found.true) in
    let parts = singular (checked (goal.at.returns-then-not-found c).In_ok-check_system) refl c.new-m.ensures u.square_after u.value f refl (u.res_after.1 f) in
    record {
      result_value = parts.0;
      square_after = parts.1.0;
      res_after = parts.1.1;
    }

pub returns : goal.returns
returns c =
    let u = c.solve_words-found.ensures in
    let f = not-false _ (ap not c.if-not-found.false) in
    let parts = solved (checked (goal.at.returns c).In_ok-check_system) refl c.new-m.ensures u.square_after u.value f (u.res_after.0 f) in record {
      result_value = parts.0;
      square_after = parts.1.0;
      res_after = parts.1.1;
    }
