-- The theory of sweeps in statements. Each proof only cites the file that holds it: this page is for reading.
use Rattle.std.specs.Prelude.{◌↔◌, ◌≡◌, refl, ℕ, suc, ◌+◌, ◌<◌, ◌≤◌}
use Rattle.std.proofs.Common.{sym, ◌∙◌, ap}
use Rattle.algebra.specs.Ring.{Ring, Field}
use Rattle.algebra.specs.Sums.{act}
use Rattle.algebra.specs.RingLaws.{mul_one}
use Rattle.algebra.specs.RingSolver.{quotes, ring₄}
use Rattle.algebra.specs.Matrix.{column_of, sends, plus_m, times_m, identity, Same, Singular, LeastSingular}
use Rattle.algebra.specs.Generators.{Gens, entry_of, multiple_g, transpose_g, sums_g, products_g, pivots, pivot_g, row_g, v_g, y_g, f_g}
use Rattle.algebra.specs.Generators.{inverses_g, solved_g, kernel_g, sent_g}
use Rattle.algebra.specs.Kinds.{Agree}
use Rattle.algebra.specs.Linear.{Mod, Hom, total}
use Rattle.algebra.specs.Run.{Row, Run}
use Rattle.algebra.specs.Entry.{send, run, same, entry, entries}
use Rattle.algebra.specs.Chain as Chain
use Rattle.algebra.specs.Product.{product, table}
use Rattle.algebra.specs.Pivot.{Pivot, solve, invert}
use Rattle.algebra.proofs.Agree.{entries_agree, corner_agrees}
use Rattle.algebra.proofs.ApplyTable.{swept}
use Rattle.algebra.proofs.ProductTable.{product_matrix}
use Rattle.algebra.proofs.SumTable.{sum_matrix, multiple_matrix}
use Rattle.algebra.proofs.TransposeTable.{transpose_matrix, transpose_pivots}
use Rattle.algebra.proofs.InverseTable.{table_inverse, inverse_table, one_to_one}
use Rattle.algebra.proofs.SolveTable.{solution}
use Rattle.algebra.proofs.KernelTable.{kernel_last, kernel_sent, kernel_only}
use Rattle.algebra.proofs.SingularCorner.{Regular, FirstZero, regular_corner, corners_regular, least_singular, singular_first, transpose_least}

-- I. Over maps between any modules: I and O hold the words of columns, L and U the lower and the upper states. A row is seven maps, a run of N rows is
-- an input x, an output y and a state at every gap, bound by the three equations of each row (Run.antt).
module _ {K : Ring} {I O L U : Mod K} (N : ℕ) (r : ℕ → Row I O L U) (x : ℕ → I.car) where
  -- Every input has a run,
  pub run_exists : Run N r x (send r x N)
  run_exists = run r x N

  -- its output is unique,
  pub run_unique : (y y' : ℕ → O.car) → Run N r x y → Run N r x y' → (k : ℕ) → k < N → y k ≡ y' k
  run_unique y y' R R' = same N r x y y' R R'

  -- and it is the sum of the entries times the input.
  pub run_entries : Run N r x (λ i. total O N (λ j. entry r i j (x j)))
  run_entries = entries N r x

-- The entries are those of formula (1.3): d; p a … a q; g b … b h (low_chain and up_chain are the chains).
module _ {K : Ring} {I O L U : Mod K} (r : ℕ → Row I O L U) (t : I.car) where
  pub entry_diagonal : (i : ℕ) → entry r i i t ≡ (r i).d.fn t
  entry_diagonal i = Chain.entry_same r i t

  pub entry_below_lem : (n j : ℕ) → entry r (suc n + j) j t ≡ (r (suc n + j)).p.fn (Chain.low_chain r n j t)
  entry_below_lem n j = Chain.entry_below_lem r n j t

  pub entry_above_lem : (n i : ℕ) → entry r i (suc n + i) t ≡ (r i).g.fn (Chain.up_chain r n (suc i) t)
  entry_above_lem n i = Chain.entry_above_lem r n i t

-- A run of the product table on x is a run of the right factor on x, and of the left factor on what that gives.
module _ {K : Ring} {I J O L1 U1 L2 U2 : Mod K} (N : ℕ) (r1 : ℕ → Row J O L1 U1) (r2 : ℕ → Row I J L2 U2) (X : ℕ → Hom U2 L1) (Y : ℕ → Hom L2 U1)
    (X0 : (u : U2.car) → (X 0).fn u ≡ L1.zero) (YN : (l : L2.car) → (Y N).fn l ≡ U1.zero)
    (eX : (k : ℕ) → k < N → (u : U2.car) → (X (suc k)).fn u ≡ L1.plus ((r1 k).a.fn ((X k).fn ((r2 k).b.fn u))) ((r1 k).q.fn ((r2 k).g.fn u)))
    (eY : (k : ℕ) → k < N → (l : L2.car) → (Y k).fn l ≡ U1.plus ((r1 k).b.fn ((Y (suc k)).fn ((r2 k).a.fn l))) ((r1 k).h.fn ((r2 k).p.fn l))) where
  pub product_run : (x : ℕ → I.car) (z : ℕ → O.car) → Run N (table N r1 r2 X Y X0 YN eX eY) x z → (y : ℕ → J.car) × Run N r2 x y × Run N r1 y z
  product_run = product N r1 r2 X Y X0 YN eX eY

-- With a pivot that has an inverse in every row (the record Pivot states the scope's equations of m, v, y, f, e, t, u, z): the table takes x to c
-- exactly where the inverse table takes c to x.
module _ {K : Ring} {I O L U : Mod K} (N : ℕ) (r : ℕ → Row I O L U) (s : ℕ → Row O I L U) (m : ℕ → Hom I O) (i : ℕ → Hom O I) (f : ℕ → Hom U L)
    (z : ℕ → Hom L U)
    (f0 : (u : U.car) → (f 0).fn u ≡ L.zero) (zN : (l : L.car) → (z N).fn l ≡ U.zero)
    (P : (k : ℕ) → k < N → Pivot (r k) (s k) (m k) (i k) (f k) (f (suc k)) (z k) (z (suc k))) where
  pub inverse_run : (x : ℕ → I.car) (c : ℕ → O.car) → Run N r x c ↔ Run N s c x
  inverse_run x c = (invert N r s m i f z f0 zN P x c, solve N r s m i f z f0 zN P x c)

-- II. Over generators, with an order for each gap: r k below the diagonal and s k above it at gap k. The matrix is `entry_of`, formula (1.3) in plain sums.
-- The first k rows are a table of the leading k by k corner: nothing below depends on N but the number of rows.
module _ {K : Ring} (r s : ℕ → ℕ) (c : ℕ → Gens K) where
  -- What the two sweeps of apply give is what the matrix sends.
  pub apply_sends : (x : ℕ → K.car) (N k : ℕ) → k < N → sent_g r s c x N k ≡ sends K N (entry_of r s c) x k
  apply_sends = swept r s c

  pub transpose_stands : (i j : ℕ) → entry_of s r (λ k. transpose_g (c k)) i j ≡ entry_of r s c j i
  transpose_stands = transpose_matrix r s c

  pub transpose_keeps_pivots : (k : ℕ) → pivots s r (λ k. transpose_g (c k)) k ≡ pivots r s c k
  transpose_keeps_pivots = transpose_pivots r s c

  pub multiple_stands : (t : K.car) (i j : ℕ) → entry_of r s (λ k. multiple_g t (c k)) i j ≡ K.mul t (entry_of r s c i j)
  multiple_stands t = multiple_matrix t r s c

  -- Rows that agree within their blocks stand for one matrix.
  pub only_used_count : (N : ℕ) (c' : ℕ → Gens K) → Agree N r s c c' → Same K N (entry_of r s c) (entry_of r s c')
  only_used_count N c' = entries_agree N r s c c'

  -- The leading k by k corner goes by the orders of the gaps between its rows alone.
  pub corner_stands : (k : ℕ) (r' s' : ℕ → ℕ) → ((m : ℕ) → 0 < m → m < k → r m ≡ r' m) → ((m : ℕ) → 0 < m → m < k → s m ≡ s' m)
      → Same K k (entry_of r s c) (entry_of r' s' c)
  corner_stands k r' s' = corner_agrees k r r' s s' c

module _ {K : Ring} (r1 s1 r2 s2 : ℕ → ℕ) (c1 c2 : ℕ → Gens K) (N : ℕ) where
  pub sum_stands : Same K N (entry_of (λ k. r1 k + r2 k) (λ k. s1 k + s2 k) (sums_g r1 s1 r2 s2 c1 c2)) (plus_m K (entry_of r1 s1 c1) (entry_of r2 s2 c2))
  sum_stands = sum_matrix r1 s1 r2 s2 c1 c2 N

  pub product_stands : Same K N (entry_of (λ k. r1 k + r2 k) (λ k. s1 k + s2 k) (products_g r1 s1 r2 s2 c1 c2 N))
      (times_m K N (entry_of r1 s1 c1) (entry_of r2 s2 c2))
  product_stands = product_matrix r1 s1 r2 s2 c1 c2 N

-- The scope's own f, a f b + m y v, is the one used. (Its e, t, u and z stand in Generators.antt as it prints them.)
module _ {K : Ring} (r s : ℕ) (c : Gens K) (f : ℕ → ℕ → K.car) (i : K.car) where
  pub f_as_printed : K.mul (pivot_g r s c f) i ≡ K.one → (k j : ℕ)
      → f_g r s c f i k j ≡ K.add (act K r c.a (act K s f (column_of c.b j)) k) (K.mul (pivot_g r s c f) (K.mul (y_g r s c f i k) (v_g r s c f i j)))
  f_as_printed e k j =
      ap (K.add _) (sym (turn (pivot_g r s c f) (y_g r s c f i k) i (row_g r s c f j) ∙ ap (λ t. K.mul (K.mul (y_g r s c f i k) (row_g r s c f j)) t) e
      ∙ mul_one K _))
    where
      turn : (m y i w : K.car) → K.mul m (K.mul y (K.mul i w)) ≡ K.mul (K.mul y w) (K.mul m i)
      turn m y i w = ring₄ K m y i w (search quotes) (search quotes) refl

-- Over a field, where the first N pivots are not zero:
module _ {K : Ring} (F : Field K) (r s : ℕ → ℕ) (c : ℕ → Gens K) (N : ℕ) (ok : Regular r s c N) where
  -- the table sends the solution to the given column,
  pub solve_exists : (y : ℕ → K.car) (k : ℕ) → k < N → sends K N (entry_of r s c) (solved_g r s c y N) k ≡ y k
  solve_exists = solution F r s c N ok

  -- and no two columns to one;
  pub solve_unique : (x x' : ℕ → K.car) → ((k : ℕ) → k < N → sends K N (entry_of r s c) x k ≡ sends K N (entry_of r s c) x' k) → (k : ℕ) → k < N → x k ≡ x' k
  solve_unique = one_to_one F r s c N ok

  -- the inverse table stands for the inverse, on either side.
  pub inverse_right : Same K N (times_m K N (entry_of r s c) (entry_of r s (inverses_g r s c N))) (identity K)
  inverse_right = table_inverse F r s c N ok

  pub inverse_left : Same K N (times_m K N (entry_of r s (inverses_g r s c N)) (entry_of r s c)) (identity K)
  inverse_left = inverse_table F r s c N ok

-- The first zero pivot is in row k exactly where the leading corner that ends at row k is singular and no smaller one is;
-- no pivot is zero exactly where no leading corner is singular.
module _ {K : Ring} (F : Field K) (r s : ℕ → ℕ) (c : ℕ → Gens K) (N : ℕ) where
  pub singular_at_first_zero : (k : ℕ) → k < N → FirstZero r s c k ↔ LeastSingular K N (entry_of r s c) (suc k)
  singular_at_first_zero k h = (least_singular F r s c N k h, singular_first F r s c N k)

  pub regular_corners : Regular r s c N ↔ ((j : ℕ) → j ≤ N → Singular K (entry_of r s c) j → ⊥)
  regular_corners = ((λ ok j h. regular_corner F r s c N j h ok), corners_regular F r s c N)

  -- There the column of the zero pivot has a 1 at row k, the corner sends it to zeros, and it is the only such column.
  pub kernel_shows : (k : ℕ) → FirstZero r s c k
      → (kernel_g r s c k k ≡ K.one) × ((i : ℕ) → i < suc k → sends K (suc k) (entry_of r s c) (kernel_g r s c k) i ≡ K.zero)
  kernel_shows k z = (kernel_last r s c k, kernel_sent F r s c k z.1 z.0)

  pub kernel_unique : (k : ℕ) → FirstZero r s c k → (x : ℕ → K.car) → x k ≡ K.one
      → ((i : ℕ) → i < suc k → sends K (suc k) (entry_of r s c) x i ≡ K.zero) → (i : ℕ) → i < suc k → x i ≡ kernel_g r s c k i
  kernel_unique k z x e f = kernel_only F r s c k z.1 z.0 x (kernel_g r s c k) (e ∙ sym (kernel_last r s c k))
      (λ i h. f i h ∙ sym (kernel_sent F r s c k z.1 z.0 i h))

  -- The transposed table's least singular corner is the table's.
  pub transpose_singular : (k : ℕ) → LeastSingular K N (entry_of r s c) k ↔ LeastSingular K N (entry_of s r (λ k. transpose_g (c k))) k
  transpose_singular = transpose_least F r s c N
