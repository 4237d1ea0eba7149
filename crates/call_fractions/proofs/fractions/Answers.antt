-- `call_fractions::fractions` meets its contract.
use Rattle.std.specs.Prelude.{Ok, Err, suc, ◌+◌, ◌≡◌}
use Rattle.std.proofs.Common.{refl, ap, sym, ◌∙◌, arith}
use Rattle.lists.specs.Lists.{counted}
use Rattle.table.specs.Replies.{accept}
use Rattle.check_numbers.specs.Replied.{refused}
use Rattle.check_numbers.specs.CheckLaws.{answered}
use Rattle.check_steps.specs.StepLaws.{refuses, handed}
use Rattle.call_fractions.specs.FractionCall.{first_without_of}
use Rattle.call_fractions.proofs.FractionCallLaws.{Good, Checked, good, stopped, without, within}
use Rattle.call_fractions.proofs.fractions.Goals.{In_err-check_fractions, In_ok-check_fractions, After-first_without}
use Rattle.call_fractions.proofs.fractions.Goals as goal

-- an earlier check refuses
failed : (c : In_err-check_fractions) → let a = c.args in
    Checked a.p a.q a.n a.x.now a.y.now a.numerators.now a.denominators.now (refused c.in_err-check_fractions.field-0.0)
failed c = record { is = answered _ (Err c.in_err-check_fractions.field-0.0) (c.in_err-check_fractions.ensures _ _ refl refl) }

-- or none does, and what they have shown
passed : (c : In_ok-check_fractions) → let a = c.args in Checked a.p a.q a.n a.x.now a.y.now a.numerators.now a.denominators.now (accept 0)
passed c = record { is = answered _ (Ok tt) (c.in_ok-check_fractions.ensures _ _ refl refl) }

shown : (c : In_ok-check_fractions) → let a = c.args in Good a.p a.q a.n a.x.now a.y.now a.numerators.now a.denominators.now
shown c = good (passed c) refl

pub returns-in_err-check_fractions : goal.returns-in_err-check_fractions
returns-in_err-check_fractions c =
    let parts = stopped (failed (goal.at.returns-in_err-check_fractions c).In_err-check_fractions) (refuses c.in_err-check_fractions.field-0.0) in record {
      result_value = handed _ _ c.from_residual.ensures.1 ∙ parts.0;
      numerators_after = parts.1.0;
      denominators_after = parts.1.1;
    }

pub new-k-requires : goal.new-k-requires
new-k-requires c = let g = shown (goal.at.new-k-requires c).In_ok-check_fractions in
    (g.first, g.second, g.apart, omega (arith, g.limit), omega (arith, g.limit_second))

pub first_without-requires : goal.first_without-requires
first_without-requires c = let g = shown (goal.at.first_without-requires c).In_ok-check_fractions in let k = c.new-k.ensures in
    (g.long_x, g.long_y, rw k.0 g.words_x, rw k.1 g.words_y)

-- the first place without a fraction
place_is : (c : After-first_without) → let a = c.args in counted c.first_without.result ≡ first_without_of a.p a.q a.n a.x.now a.y.now
place_is c = let k = c.new-k.ensures in rw (k.0, k.1) at c.first_without.ensures.0

pub returns-in-Some : goal.returns-in-Some
returns-in-Some c =
    let next : c.in-Some.i + 1 ≡ suc c.in-Some.i = omega arith in
    let v = next ∙ sym (ap counted c.in-Some.is) ∙ place_is (goal.at.returns-in-Some c).After-first_without in
    let parts = without (passed (goal.at.returns-in-Some c).In_ok-check_fractions) refl (c.in-Some.i + 1) v (omega arith) in record {
      result_value = parts.0;
      numerators_after = parts.1.0;
      denominators_after = parts.1.1;
    }

pub put_fractions-requires : goal.put_fractions-requires
put_fractions-requires c = let g = shown (goal.at.put_fractions-requires c).In_ok-check_fractions in let k = c.new-k.ensures in record {
  words = (g.long_x, g.long_y, rw k.0 g.words_x, rw k.1 g.words_y);
  room = (g.room_n, g.room_d);
}

pub returns : goal.returns
returns c =
    let k = c.new-k.ensures in
    let w = c.put_fractions.ensures in
    let v = sym (ap counted c.in_default.is) ∙ place_is (goal.at.returns c).After-first_without in
    let parts = within (passed (goal.at.returns c).In_ok-check_fractions) refl 0 v (omega arith)
    (rw (k.0, k.1) at w.numerators_after) (rw (k.0, k.1) at w.denominators_after) in record {
      result_value = parts.0;
      numerators_after = parts.1.0;
      denominators_after = parts.1.1;
    }
