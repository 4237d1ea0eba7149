use Rattle.std.proofs.Common.{◌≡◌, List, ◌++◌, ℕ, ℤ, drop, get_or}
use Rattle.lists.specs.Lists.{tabulate}
use Rattle.field_fractions.specs.Fraction.{numerator, denominator}
use Rattle.call_fractions.proofs.put_fractions.Given as goal

-- the fractions of two columns
abbrev pub numerator_at : ℕ → ℕ → List ℕ → List ℕ → ℕ → ℤ
numerator_at p q x y j = numerator p q (get_or x j 0) (get_or y j 0)

abbrev pub denominator_at : ℕ → ℕ → List ℕ → List ℕ → ℕ → ℕ
denominator_at p q x y j = denominator p q (get_or x j 0) (get_or y j 0)

abbrev pub invariant-loop-i : goal.invariant-loop-i
invariant-loop-i l = record {
  numerators : l.numerators ≡ tabulate l.i (numerator_at l.k.p l.k.modulus.p l.x l.y) ++ drop l.i l.initial.numerators;
  denominators : l.denominators ≡ tabulate l.i (denominator_at l.k.p l.k.modulus.p l.x l.y) ++ drop l.i l.initial.denominators;
}
