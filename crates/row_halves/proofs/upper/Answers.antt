-- `row_halves::upper` meets its contract.
use Rattle.std.proofs.Common.{arith}
use Rattle.check_numbers.specs.CheckLaws.{square_le}
use Rattle.row_halves.proofs.upper.Goals as goal

pub overflow_mul-at-2 : goal.overflow_mul-at-2
overflow_mul-at-2 c = omega (arith, square_le c.args.r (omega arith))

pub overflow_add-at-2 : goal.overflow_add-at-2
overflow_add-at-2 c = omega (arith, square_le c.args.r (omega arith))

pub overflow_add-result : goal.overflow_add-result
overflow_add-result c = omega (arith, square_le c.args.r (omega arith))

pub overflow_add-result-2 : goal.overflow_add-result-2
overflow_add-result-2 c = omega (arith, square_le c.args.r (omega arith))

pub overflow_mul-result : goal.overflow_mul-result
overflow_mul-result c = omega (arith, square_le c.args.s (omega arith))

pub overflow_add-result-3 : goal.overflow_add-result-3
overflow_add-result-3 c = omega (arith, square_le c.args.r (omega arith), square_le c.args.s (omega arith))
