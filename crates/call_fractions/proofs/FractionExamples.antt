-- Replies of the call and what it leaves, computed by the checker: under 5 and 7, with one word of surplus in each buffer.
use Rattle.std.specs.Prelude.{List, [], ◌∷◌, ◌≡◌, refl, ℕ, ℤ, pos, negsuc}
use Rattle.field.specs.PrimeTest.{is_prime_of, divided}
use Rattle.lists.specs.Lists.{some, first_of}
use Rattle.table.specs.Words.{first_bad_place_of}
use Rattle.table.specs.Replies.{Reply, answer, accept, refuse}
use Rattle.field_fractions.specs.Fraction.{bound_up_to, bound, is_fraction, fraction_place, numerator, denominator}
use Rattle.call_fractions.specs.FractionCall.{numerators_w, denominators_w, first_without_of, fractions_reply, numerators_after_of, denominators_after_of}

-- the residues of 3 / 2, - 1 / 2 and - 4; and 1 under 5 with 6 under 7, which have no fraction
abbrev x : List ℕ
x = 4 ∷ 2 ∷ 1 ∷ 1 ∷ []

abbrev y : List ℕ
y = 5 ∷ 3 ∷ 3 ∷ 6 ∷ []

-- lent for the fractions
abbrev ns : List ℤ
ns = negsuc 7 ∷ negsuc 7 ∷ negsuc 7 ∷ negsuc 7 ∷ []

abbrev ds : List ℕ
ds = 8 ∷ 8 ∷ 8 ∷ 8 ∷ []

abbrev replies : ℕ → ℕ → ℕ → List ℕ → List ℕ → Reply
replies P Q N x y = fractions_reply P Q N x y ns ds

-- three fractions: the fourth word is kept
accepted : (replies 5 7 3 x y ≡ accept 0) × (numerators_after_of 5 7 3 x y ns ds ≡ pos 3 ∷ negsuc 0 ∷ negsuc 3 ∷ negsuc 7 ∷ [])
    × (denominators_after_of 5 7 3 x y ns ds ≡ 2 ∷ 2 ∷ 1 ∷ 8 ∷ [])
unfolding divided is_prime_of some first_of first_bad_place_of answer bound_up_to bound is_fraction fraction_place numerator denominator numerators_w denominators_w
    first_without_of fractions_reply numerators_after_of denominators_after_of
accepted = (refl, refl, refl)

-- the fourth place has none: nothing is written
without : (replies 5 7 4 x y ≡ refuse 12 0 4) × (numerators_after_of 5 7 4 x y ns ds ≡ ns) × (denominators_after_of 5 7 4 x y ns ds ≡ ds)
unfolding divided is_prime_of some first_of first_bad_place_of answer bound_up_to bound is_fraction fraction_place numerator denominator numerators_w denominators_w
    first_without_of fractions_reply numerators_after_of denominators_after_of
without = (refl, refl, refl)

-- 4 is no prime, though it is equal to itself; equal primes come before N; a short column before a short result; 7 is not below 5
refused : (replies 4 4 3 x y ≡ refuse 1 0 0) × (replies 7 4 3 x y ≡ refuse 1 0 0) × (replies 7 7 0 x y ≡ refuse 11 0 0) × (replies 5 7 0 x y ≡ refuse 2 0 0)
    × (replies 5 7 5 x y ≡ refuse 4 1 0) × (replies 5 7 5 (0 ∷ x) y ≡ refuse 4 2 0) × (replies 5 7 5 (0 ∷ x) (0 ∷ y) ≡ refuse 4 4 0)
    × (fractions_reply 5 7 5 (0 ∷ x) (0 ∷ y) (pos 0 ∷ ns) ds ≡ refuse 4 5 0) × (replies 5 7 2 y x ≡ refuse 5 1 1)
    × (replies 7 5 3 x (4 ∷ 5 ∷ 6 ∷ []) ≡ refuse 5 2 2)
unfolding divided is_prime_of some first_of first_bad_place_of answer bound_up_to bound is_fraction fraction_place numerator denominator first_without_of fractions_reply
refused = (refl, refl, refl, refl, refl, refl, refl, refl, refl, refl)
