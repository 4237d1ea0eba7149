-- Rows that agree within the blocks stand for one matrix; a leading corner goes by the orders of the gaps within it.
use Rattle.std.specs.Prelude.{◌≡◌}
use Rattle.std.proofs.Math.Path.{refl, ap₂}
use Prim.Native.Nat.{ℕ, zero, suc, ◌<◌, ◌+◌, ◌-◌}
use native.Mathlib.Omega.{arith}
use Rattle.std.proofs.Math.Decide.{dec_lt}
use borrow.Author.Tests.{lt-ltb, le-ltb}
use Rattle.algebra.specs.Ring.{Ring}
use Rattle.algebra.specs.Sums.{act, dot}
use Rattle.algebra.specs.Matrix.{Same}
use Rattle.algebra.specs.Generators.{Gens, below, above, entry_of}
use Rattle.algebra.specs.Kinds.{d_word, p_row, a_block, q_column, g_row, b_block, h_column, Agree}
use Rattle.algebra.specs.SumLaws.{sum_ext}

module _ {K : Ring} (N : ℕ) (r s : ℕ → ℕ) (c c' : ℕ → Gens K) (A : Agree N r s c c') where
  dots : (n : ℕ) (u u' v v' : ℕ → K.car) → ((j : ℕ) → j < n → u j ≡ u' j) → ((j : ℕ) → j < n → v j ≡ v' j) → dot K n u v ≡ dot K n u' v'
  dots n u u' v v' e f = sum_ext K n _ _ (λ j h. ap₂ K.mul (e j h) (f j h))

  below_same : (n j m : ℕ) → m ≡ suc (n + j) → m < N → (i : ℕ) → i < r m → below r s c n j i ≡ below r s c' n j i
  unfolding below
  below_same zero j m e h i l = let f : m ≡ suc j = omega arith in A j (omega arith) q_column i 0 (rw f at l) (omega arith)
  below_same (suc n) j m e h i l =
      let f : m ≡ suc (suc n + j) = omega arith in
      dots (r (suc n + j)) _ _ _ _ (λ k g. A (suc n + j) (omega arith) a_block i k (rw f at l) g)
      (λ k g. below_same n j (suc n + j) (omega arith) (omega arith) k g)

  above_same : (n i : ℕ) → 0 < i → n + i < N → (k : ℕ) → k < s i → above r s c n i k ≡ above r s c' n i k
  unfolding above
  above_same zero i p h k l = A i (omega arith) h_column k 0 l (omega arith)
  above_same (suc n) i p h k l = dots (s (suc i)) _ _ _ _ (λ j g. A i (omega arith) b_block k j l g)
      (λ j g. above_same n (suc i) (omega arith) (omega arith) j g)

  pub entries_agree : Same K N (entry_of r s c) (entry_of r s c')
  unfolding entry_of
  entries_agree i j hi hj = go (dec_lt j i) (dec_lt i j)
    where
      go : Dec (j < i) → Dec (i < j) → entry_of r s c i j ≡ entry_of r s c' i j
      go (yes l) m = rw (lt-ltb j i l) (dots (r i) _ _ _ _ (λ k g. A i hi p_row 0 k (omega arith) g) (λ k g. below_same (i - suc j) j i (omega arith) hi k g))
      go (no n) (yes l) = rw (lt-ltb i j l, le-ltb j i (omega arith))
          (dots (s (suc i)) _ _ _ _ (λ k g. A i hi g_row 0 k (omega arith) g) (λ k g. above_same (j - suc i) (suc i) (omega arith) (omega arith) k g))
      go (no n) (no m) = rw (le-ltb j i (omega arith), le-ltb i j (omega arith)) (A i hi d_word 0 0 (omega arith) (omega arith))

-- The entries of the first k rows and columns.
module _ {K : Ring} (k : ℕ) (r r' s s' : ℕ → ℕ) (c : ℕ → Gens K)
    (er : (m : ℕ) → 0 < m → m < k → r m ≡ r' m) (es : (m : ℕ) → 0 < m → m < k → s m ≡ s' m) where
  below_gaps : (n j : ℕ) → n + j < k → below r s c n j ≡ below r' s' c n j
  unfolding below
  below_gaps zero j h = refl
  below_gaps (suc n) j h =
      ap₂ (λ (o : ℕ) (v : ℕ → K.car). act K o (c (suc n + j)).a v) (er (suc n + j) (omega arith) (omega arith)) (below_gaps n j (omega arith))

  above_gaps : (n i : ℕ) → n + i < k → above r s c n i ≡ above r' s' c n i
  unfolding above
  above_gaps zero i h = refl
  above_gaps (suc n) i h = ap₂ (λ (o : ℕ) (v : ℕ → K.car). act K o (c i).b v) (es (suc i) (omega arith) (omega arith)) (above_gaps n (suc i) (omega arith))

  pub corner_agrees : Same K k (entry_of r s c) (entry_of r' s' c)
  unfolding entry_of
  corner_agrees i j hi hj = go (dec_lt j i) (dec_lt i j)
    where
      go : Dec (j < i) → Dec (i < j) → entry_of r s c i j ≡ entry_of r' s' c i j
      go (yes l) m = rw (lt-ltb j i l)
          (ap₂ (λ (o : ℕ) (v : ℕ → K.car). dot K o (c i).p v) (er i (omega arith) hi) (below_gaps (i - suc j) j (omega arith)))
      go (no n) (yes l) = rw (lt-ltb i j l, le-ltb j i (omega arith))
          (ap₂ (λ (o : ℕ) (v : ℕ → K.car). dot K o (c i).g v) (es (suc i) (omega arith) (omega arith)) (above_gaps (j - suc i) (suc i) (omega arith)))
      go (no n) (no m) = rw (le-ltb j i (omega arith), le-ltb i j (omega arith)) refl
