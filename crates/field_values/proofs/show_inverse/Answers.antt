-- `field_values::show_inverse` meets its contract.
use Rattle.std.proofs.Common.{arith, sym, ◌∙◌}
use Rattle.field.specs.PrimeTest.{is_prime_lem}
use Rattle.field_values.proofs.show_inverse.Goals as goal

pub inverse-i-requires : goal.inverse-i-requires
inverse-i-requires g c =
    let prime = is_prime_lem _ (sym c.is_prime.ensures ∙ c.if-not-is_prime.false) in
    let p = c.new-m.ensures in
    (rw p prime, omega (arith, c.if-a-eq0.false), rw p (omega (arith, c.if-a-p.false)))
