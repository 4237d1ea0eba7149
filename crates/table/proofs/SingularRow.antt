-- The row that the pivot sweep yields is that of the least singular leading corner.
use Rattle.std.specs.Prelude.{◌↔◌, ◌≡◌, refl}
use Rattle.std.proofs.Math.Path.{sym, ap}
use Rattle.std.proofs.Common.{◌∙◌, arith}
use Prim.Native.Nat.{ℕ, zero, suc, ◌<◌, ◌≤◌}
use Rattle.std.proofs.Math.Dec.{eqb}
use borrow.Author.Tests.{eqb-true, eqb-false, eq-eqb, ne_eqb}
use Rattle.algebra.specs.Ring.{Ring}
use Rattle.algebra.specs.Matrix.{Singular, LeastSingular}
use Rattle.algebra.specs.Generators.{pivots}
use Rattle.algebra.proofs.SingularCorner as Corner
use Rattle.field.specs.Prime.{Prime}
use Rattle.field.specs.Residue.{residues, val, val_inj, field, prime_pos}
use Rattle.field.specs.Bridge.{val_zero}
use Rattle.lists.specs.ListLaws.{found, none, none_first, first_is}
use Rattle.table.specs.Words.{Table, gap, gens, matrix_of}
use Rattle.table.specs.Results.{pivot_w, first_zero_of}

module _ (P N : ℕ) (A : Table) (prime : Prime P) where
  abbrev K : Ring
  K = residues P

  abbrev r : ℕ → ℕ
  r = gap N A.lower

  abbrev s : ℕ → ℕ
  s = gap N A.upper

  -- a pivot is zero where its word is 0
  is_zero : (k : ℕ) → pivot_w P N A k ≡ 0 → pivots r s (gens P N A) k ≡ K.zero
  unfolding pivot_w
  is_zero k e = val_inj P _ _ (e ∙ sym (val_zero P (prime_pos P prime)))

  zero_is : (k : ℕ) → pivots r s (gens P N A) k ≡ K.zero → pivot_w P N A k ≡ 0
  unfolding pivot_w
  zero_is k e = ap (val P) e ∙ val_zero P (prime_pos P prime)

  -- the sweep yields row k, from 1, or none
  first_zero_lem : (k : ℕ) → first_zero_of P N A ≡ suc k → (k < N) × Corner.FirstZero r s (gens P N A) k
  unfolding first_zero_of
  first_zero_lem k e = let w = found N (λ k. eqb (pivot_w P N A k) 0) 0 k e in
      (omega (arith, w.1), (is_zero k (eqb-true (pivot_w P N A k) 0 w.2), λ j l z. eqb-false (pivot_w P N A j) 0 (w.3 j (omega arith) l) (zero_is j z)))

  zero_first : (k : ℕ) → k < N → Corner.FirstZero r s (gens P N A) k → first_zero_of P N A ≡ suc k
  unfolding first_zero_of
  zero_first k h z = first_is N (λ k. eqb (pivot_w P N A k) 0) 0 k (omega arith) (omega arith) (eq-eqb _ 0 (zero_is k z.0))
      (λ j a l. ne_eqb _ 0 (λ e. z.1 j l (is_zero j e)))

  pub regular : first_zero_of P N A ≡ 0 → Corner.Regular r s (gens P N A) N
  unfolding first_zero_of
  regular e k h z = eqb-false (pivot_w P N A k) 0 (none N (λ k. eqb (pivot_w P N A k) 0) 0 e k (omega arith) (omega arith)) (zero_is k z)

  regular_is : Corner.Regular r s (gens P N A) N → first_zero_of P N A ≡ 0
  unfolding first_zero_of
  regular_is ok = none_first N (λ k. eqb (pivot_w P N A k) 0) 0 (λ k a b. ne_eqb _ 0 (λ e. ok k (omega arith) (is_zero k e)))

  -- the row is that of the least singular corner, and the other way
  pub least_singular : (k : ℕ) → first_zero_of P N A ≡ k → 0 < k → LeastSingular K N (matrix_of P N A) k
  unfolding matrix_of
  least_singular zero e p = absurd (omega arith)
  least_singular (suc k) e p = let z = first_zero_lem k e in Corner.least_singular (field P prime) r s (gens P N A) N k z.0 z.1

  pub singular_first : (k : ℕ) → LeastSingular K N (matrix_of P N A) k → first_zero_of P N A ≡ k
  unfolding matrix_of
  singular_first zero z = absurd (omega (arith, z.from))
  singular_first (suc k) z = zero_first k z.upto (Corner.singular_first (field P prime) r s (gens P N A) N k z)

  -- no leading corner is singular exactly where no pivot is zero
  pub regular_none : first_zero_of P N A ≡ 0 → (j : ℕ) → j ≤ N → Singular K (matrix_of P N A) j → ⊥
  unfolding matrix_of
  regular_none e j h z = Corner.regular_corner (field P prime) r s (gens P N A) N j h (regular e) z

  pub none_regular : ((j : ℕ) → j ≤ N → Singular K (matrix_of P N A) j → ⊥) → first_zero_of P N A ≡ 0
  unfolding matrix_of
  none_regular n = regular_is (Corner.corners_regular (field P prime) r s (gens P N A) N n)

-- where the least singular corners of two tables are the same, so is the row of the first zero pivot
pub same_first_zero : (P N : ℕ) (A B : Table) → Prime P
    → ((k : ℕ) → LeastSingular (residues P) N (matrix_of P N A) k ↔ LeastSingular (residues P) N (matrix_of P N B) k)
    → first_zero_of P N A ≡ first_zero_of P N B
same_first_zero P N A B prime same = go (first_zero_of P N A) (first_zero_of P N B) refl refl
  where
    go : (a b : ℕ) → first_zero_of P N A ≡ a → first_zero_of P N B ≡ b → a ≡ b
    go zero zero e f = refl
    go (suc a) b e f = sym (singular_first P N B prime (suc a) ((same (suc a)).0 (least_singular P N A prime (suc a) e (omega arith)))) ∙ f
    go zero (suc b) e f = sym e ∙ singular_first P N A prime (suc b) ((same (suc b)).1 (least_singular P N B prime (suc b) f (omega arith)))
