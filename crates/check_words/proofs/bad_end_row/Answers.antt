-- `check_words::bad_end_row` meets its contract.
use Rattle.std.proofs.Common.{ℕ, ◌≤◌, mul-le-mul, arith}
use Rattle.check_numbers.specs.CheckLaws.{end_row}
use Rattle.table.specs.Words.{width}
use Rattle.check_words.specs.Given.{Gives}
use Rattle.check_words.proofs.bad_end_row.Goals as goal

pub returns : goal.returns
returns g c w h =
    let less : (m : ℕ) → m ≤ width c.args.r c.args.s → Gives (goal.F-post g c.args.word.now) m w = λ m q i x l. h i x (omega arith) in
    end_row _ _ _ _ _ w c.gap_order-lower.ensures.0 c.gap_order-lower2.ensures.0 c.gap_order-upper.ensures.0 c.gap_order-upper2.ensures.0
    (c.bad_given-d.ensures w (less _ (omega arith)))
    (c.bad_given.ensures w (less _ (omega arith)))
    (c.bad_given-2.ensures w (less _ (omega (arith, mul-le-mul c.gap_order-lower2.ensures.1 c.gap_order-lower.ensures.1))))
    (c.bad_given-3.ensures w (less _ (omega arith)))
    (c.bad_given-4.ensures w (less _ (omega arith)))
    (c.bad_given-5.ensures w (less _ (omega (arith, mul-le-mul c.gap_order-upper.ensures.1 c.gap_order-upper2.ensures.1))))
    (c.bad_given-6.ensures w (less _ (omega arith)))
