-- Solving by the two sweeps.
use Rattle.std.specs.Prelude.{◌≢◌, ◌≡◌, ℕ, suc, ◌<◌, ◌-◌}
use Rattle.std.proofs.Math.Path.{refl, sym}
use native.Mathlib.Omega.{arith}
use Rattle.algebra.specs.Ring.{Ring, Field}
use Rattle.algebra.specs.Sums.{act}
use Rattle.algebra.specs.Coord.{self, vecs, cols, ray}
use Rattle.algebra.specs.Pivot.{Factor}
use Rattle.algebra.specs.Solve.{solved}
use Rattle.algebra.specs.Matrix.{sends}
use Rattle.algebra.specs.Generators.{Gens, fs, pivots, vs, ys, entry_of, ahead, behind, solved_g}
use Rattle.algebra.proofs.Rows.{table_of, row_of, map_of, word_map, row_map, col_map, sends_run}
use Rattle.algebra.proofs.InverseTable.{is_factor, all_pivots, f_start}

module _ {K : Ring} (F : Field K) (r s : ℕ → ℕ) (c : ℕ → Gens K) (N : ℕ) (ok : (k : ℕ) → k < N → pivots r s c k ≢ K.zero) where
  pub factors : (k : ℕ) → k < N → Factor (table_of r s c k) (word_map (pivots r s c k)) (row_map (s (suc k)) (vs r s c k)) (col_map (ys r s c k))
      (map_of (s k) (fs r s c k)) (map_of (s (suc k)) (fs r s c (suc k)))
  unfolding fs pivots vs ys
  factors k h = is_factor (r k) (s k) (s (suc k)) (c k) (fs r s c k) (K.inv (pivots r s c k)) (F.mul_inv _ (ok k h))

  -- the table sends the solution to the given column
  pub solution : (y : ℕ → K.car) (k : ℕ) → k < N → sends K N (entry_of r s c) (solved_g r s c y N) k ≡ y k
  unfolding self vecs row_of row_map col_map map_of word_map cols ray ahead behind solved_g
  solution y k h = sym (sends_run r s c N (solved_g r s c y N) y
      (solved N (table_of r s c) (λ k. word_map (pivots r s c k)) (λ k. word_map (K.inv (pivots r s c k))) (λ k. row_map (s (suc k)) (vs r s c k))
      (λ k. col_map (ys r s c k))
      (λ k. map_of (s k) (fs r s c k)) (f_start F r s c N ok) factors (λ k h. (all_pivots F r s c N ok k h).mi) y (ahead r s c y)
      (λ k. behind r s c y (N - k) k) (solved_g r s c y N)
      refl end (λ k h. refl) (λ k h. refl) back) k h)
    where
      end : behind r s c y (N - N) N ≡ λ i. K.zero
      end = let e : N - N ≡ 0 = omega arith in rw e refl

      back : (k : ℕ) → k < N → behind r s c y (N - k) k ≡ λ i. K.add (act K (s (suc k)) (c k).b (behind r s c y (N - suc k) (suc k)) i)
          (K.mul ((c k).h i) (solved_g r s c y N k))
      back k h = let e : N - k ≡ suc (N - suc k) = omega arith in rw e refl
