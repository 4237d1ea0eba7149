-- A leading corner is singular exactly from the first zero pivot on: no corner before it is, and the one that ends at its row is.
-- The transposed table's least singular corner is the table's.
use Rattle.std.specs.Prelude.{◌≢◌, ◌↔◌, ◌⊎◌, ◌≡◌, ℕ, zero, suc, ◌<◌, ◌≤◌}
use Rattle.std.proofs.Common.{inl, inr, sym, ◌∙◌, arith}
use Rattle.std.proofs.Math.Decide.{dec_lt, ℕ_discrete}
use Rattle.algebra.specs.Ring.{Ring, Field}
use Rattle.algebra.specs.SumLaws.{dot_zeros}
use Rattle.algebra.specs.Matrix.{Singular, LeastSingular}
use Rattle.algebra.specs.Generators.{Gens, entry_of, transpose_g, pivots, kernel_g}
use Rattle.algebra.proofs.TransposeTable.{transpose_pivots}
use Rattle.algebra.proofs.InverseTable.{one_to_one}
use Rattle.algebra.proofs.KernelTable.{kernel_last, kernel_sent}

-- the pivots of the first n rows are not zero; and row k has the first zero pivot
abbrev pub Regular : {K : Ring} → (ℕ → ℕ) → (ℕ → ℕ) → (ℕ → Gens K) → ℕ → Type 0
Regular {K} r s c n = (k : ℕ) → k < n → pivots r s c k ≢ K.zero

abbrev pub FirstZero : {K : Ring} → (ℕ → ℕ) → (ℕ → ℕ) → (ℕ → Gens K) → ℕ → Type 0
FirstZero {K} r s c k = (pivots r s c k ≡ K.zero) × Regular r s c k

module _ {K : Ring} (F : Field K) (r s : ℕ → ℕ) (c : ℕ → Gens K) where
  -- where the first n pivots are not zero, no leading corner up to n is singular
  pub regular_corner : (n j : ℕ) → j ≤ n → Regular r s c n → Singular K (entry_of r s c) j → ⊥
  regular_corner n j h ok z = z.1.2 (one_to_one F r s c j (λ k l. ok k (omega arith)) z.0 (λ k. K.zero)
      (λ k l. z.2 k l ∙ sym (dot_zeros K j _)) z.1.0 z.1.1)

  -- at the first zero pivot the corner sends a column whose last word is 1 to zeros
  pub corner_singular : (k : ℕ) → FirstZero r s c k → Singular K (entry_of r s c) (suc k)
  corner_singular k z = (
    kernel_g r s c k,
    (k, omega arith, λ e. F.one_ne_zero (sym (kernel_last r s c k) ∙ e)),
    kernel_sent F r s c k z.1 z.0,
  )

  -- one of the first n pivots is zero, or none is
  search_zero : (n : ℕ) → Regular r s c n ⊎ ((k : ℕ) × (k < n) × FirstZero r s c k)
  search_zero zero = inl (λ k h. absurd (omega arith))
  search_zero (suc n) = go (search_zero n) (K.dec (pivots r s c n) K.zero)
    where
      more : Regular r s c n → pivots r s c n ≢ K.zero → Regular r s c (suc n)
      more ok z k h = at (ℕ_discrete k n)
        where
          at : Dec (k ≡ n) → pivots r s c k ≢ K.zero
          at (yes e) = rw e z
          at (no e) = ok k (omega arith)

      go : Regular r s c n ⊎ ((k : ℕ) × (k < n) × FirstZero r s c k) → Dec (pivots r s c n ≡ K.zero)
          → Regular r s c (suc n) ⊎ ((k : ℕ) × (k < suc n) × FirstZero r s c k)
      go (inr y) d = inr (y.0, omega (arith, y.1), y.2)
      go (inl ok) (yes e) = inr (n, omega arith, (e, ok))
      go (inl ok) (no z) = inl (more ok z)

  pub least_singular : (N k : ℕ) → k < N → FirstZero r s c k → LeastSingular K N (entry_of r s c) (suc k)
  least_singular N k h z = record { from = omega arith; upto = h; singular = corner_singular k z; least = λ j l y. regular_corner k j (omega arith) z.1 y }

  pub singular_first : (N k : ℕ) → LeastSingular K N (entry_of r s c) (suc k) → FirstZero r s c k
  singular_first N k y = go (search_zero (suc k))
    where
      at : (m : ℕ) → m < suc k → FirstZero r s c m → Dec (m < k) → FirstZero r s c k
      at m h z (yes l) = absurd (y.least (suc m) (omega arith) (corner_singular m z))
      at m h z (no n) = let e : m ≡ k = omega arith in rw e at z

      go : Regular r s c (suc k) ⊎ ((m : ℕ) × (m < suc k) × FirstZero r s c m) → FirstZero r s c k
      go (inl ok) = absurd (regular_corner (suc k) (suc k) (omega arith) ok y.singular)
      go (inr z) = at z.0 z.1 z.2 (dec_lt z.0 k)

  -- no pivot is zero exactly where no leading corner is singular
  pub corners_regular : (N : ℕ) → ((j : ℕ) → j ≤ N → Singular K (entry_of r s c) j → ⊥) → Regular r s c N
  corners_regular N none = go (search_zero N)
    where
      go : Regular r s c N ⊎ ((k : ℕ) × (k < N) × FirstZero r s c k) → Regular r s c N
      go (inl ok) = ok
      go (inr z) = absurd (none (suc z.0) z.1 (corner_singular z.0 z.2))

-- The transposed table has the least singular corner where the table has it; transposed twice, it is the table again.
least_transposed : {K : Ring} (F : Field K) (r s : ℕ → ℕ) (c : ℕ → Gens K) (N k : ℕ)
    → LeastSingular K N (entry_of r s c) k → LeastSingular K N (entry_of s r (λ k. transpose_g (c k))) k
least_transposed F r s c N zero y = absurd (omega (arith, y.from))
least_transposed F r s c N (suc k) y =
    let z = singular_first F r s c N k y in
    least_singular F s r (λ k. transpose_g (c k)) N k y.upto
    (transpose_pivots r s c k ∙ z.0, λ j l e. z.1 j l (sym (transpose_pivots r s c j) ∙ e))

pub transpose_least : {K : Ring} (F : Field K) (r s : ℕ → ℕ) (c : ℕ → Gens K) (N k : ℕ)
    → LeastSingular K N (entry_of r s c) k ↔ LeastSingular K N (entry_of s r (λ k. transpose_g (c k))) k
transpose_least F r s c N k = (least_transposed F r s c N k, least_transposed F s r (λ k. transpose_g (c k)) N k)
