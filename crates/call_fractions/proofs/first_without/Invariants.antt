use Rattle.std.proofs.Common.{Bool, ◌≡◌, List, ℕ, ◌-◌, eqb, get_or}
use Rattle.lists.specs.Lists.{first_of}
use Rattle.field_fractions.specs.Fraction.{denominator}
use Rattle.call_fractions.proofs.first_without.Given as goal

-- place k has no fraction
abbrev pub F : ℕ → ℕ → List ℕ → List ℕ → ℕ → Bool
F p q x y k = eqb (denominator p q (get_or x k 0) (get_or y k 0)) 0

abbrev pub invariant-loop-i : goal.invariant-loop-i
invariant-loop-i l = first_of l.n (F l.k.p l.k.modulus.p l.x l.y) 0 ≡ first_of (l.n - l.i) (F l.k.p l.k.modulus.p l.x l.y) l.i
