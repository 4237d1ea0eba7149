-- `row_halves::lower` meets its contract.
use Rattle.std.proofs.Common.{arith}
use Rattle.check_numbers.specs.CheckLaws.{square_le}
use Rattle.row_halves.proofs.lower.Goals as goal

pub overflow_mul-result : goal.overflow_mul-result
overflow_mul-result c = omega (arith, square_le c.args.r (omega arith))

pub overflow_add-result-3 : goal.overflow_add-result-3
overflow_add-result-3 c = omega (arith, square_le c.args.r (omega arith))
