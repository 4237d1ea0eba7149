-- `listing::put_decimal` meets its contract: the proof of its cycle of calls. The measure is the number.
use Rattle.std.proofs.Common.{◌/◌, arith}
use Rattle.listing.specs.LineLaws.{puts_one, puts_then, puts_same, decimal_one, decimal_next, decimal_nine}
use Rattle.listing.proofs.+put_decimal.Goals as goal

pub returns-then-x-lt10 : goal.returns-then-x-lt10
returns-then-x-lt10 t c = (puts_same (puts_one _ _ _ (omega arith)) (decimal_one _ c.if-x-lt10.true), omega arith)

pub bounds-out-end : goal.bounds-out-end
bounds-out-end t c = omega (arith, c.put_decimal-end.ensures.0.ends, decimal_nine (c.args.x / 10) (omega (arith, c.ranges.x)))

pub returns : goal.returns
returns t c = let e = c.put_decimal-end.ensures in let n = decimal_nine (c.args.x / 10) (omega (arith, c.ranges.x)) in (
  puts_same (puts_then _ _ _ e.0 (puts_one _ _ _ (omega (arith, e.0.ends, n)))) (decimal_next c.args.x c.if-x-lt10.false (omega (arith, c.ranges.x))),
  omega (arith, e.0.ends, n),
)
