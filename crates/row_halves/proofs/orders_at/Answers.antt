-- `row_halves::orders_at` meets its contract.
use Rattle.std.proofs.Common.{refl}
use Rattle.row_halves.specs.RowOf.{gap_after}
use Rattle.row_halves.proofs.orders_at.Goals as goal

pub returns : goal.returns
returns c = let a = c.args in
    rw (
      c.gap_order-lower.ensures.0,
      gap_after a.n a.r a.k c.gap_order-lower2.ensures.0,
      c.gap_order-upper.ensures.0,
      gap_after a.n a.s a.k c.gap_order-upper2.ensures.0,
    ) refl
