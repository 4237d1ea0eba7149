-- `call_kernel::kernel` meets its contract.
use Rattle.std.specs.Prelude.{Ok, Err, suc, ◌+◌}
use Rattle.std.proofs.Common.{◌≡◌, refl, ◌∙◌, arith, ap}
use Rattle.table.specs.Words.{table}
use Rattle.table.specs.Replies.{accept}
use Rattle.check_numbers.specs.CheckLaws.{answered}
use Rattle.check_steps.specs.StepLaws.{refuses, handed}
use Rattle.call_kernel.specs.KernelLaws.{Checked, stopped, loan, fits, ready, regular, written}
use Rattle.call_kernel.proofs.kernel.Goals.{In_ok-check_result}
use Rattle.call_kernel.proofs.kernel.Goals as goal

-- the checks before the pivots pass
checked : (c : In_ok-check_result) → let a = c.args in Checked a.p a.n (table a.r a.s a.table.now) a.res.now (accept 0)
checked c = record { is = answered _ (Ok tt) (c.in_ok-check_result.ensures c.args.res.now refl) }

pub returns-in_err-check_result : goal.returns-in_err-check_result
returns-in_err-check_result c = let a = c.args in
    let no : Checked a.p a.n (table a.r a.s a.table.now) a.res.now _ = record {
      is = answered _ (Err c.in_err-check_result.field-0.0) (c.in_err-check_result.ensures a.res.now refl);
    } in
    let parts = stopped no (refuses c.in_err-check_result.field-0.0) in record {
      result_value = handed _ _ c.from_residual.ensures.1 ∙ parts.0;
      res_after = parts.1;
    }

pub new-m-requires : goal.new-m-requires
new-m-requires c = fits (checked (goal.at.new-m-requires c).In_ok-check_result) refl

pub kernel-requires : goal.kernel-requires
kernel-requires c = let k = checked (goal.at.kernel-requires c).In_ok-check_result in (ready k refl c.new-m.ensures, (loan k refl).2)

pub returns-in-Some : goal.returns-in-Some
returns-in-Some c =
    let next : c.in-Some.k + 1 ≡ suc c.in-Some.k = omega arith in
    let at = checked (goal.at.returns-in-Some c).In_ok-check_result in
    let parts = written at refl c.new-m.ensures c.in-Some.ensures.row c.in-Some.ensures.left (omega arith) refl in record {
      result_value = ap accept next ∙ parts.0;
      res_after = parts.1;
    }

pub returns-in-None : goal.returns-in-None
returns-in-None c =
    let parts = regular (checked (goal.at.returns-in-None c).In_ok-check_result) refl c.new-m.ensures c.in-None.ensures.row c.in-None.ensures.left refl refl in
    record {
      result_value = parts.0;
      res_after = parts.1;
    }
