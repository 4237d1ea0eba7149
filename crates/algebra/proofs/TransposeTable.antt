-- The transposed table stands for the transposed matrix, and has the same pivots.
use Rattle.std.specs.Prelude.{◌≡◌}
use Rattle.std.proofs.Math.Path.{refl, ap, ap₂, fun_ext}
use Rattle.std.proofs.Common.{sym, ◌∙◌}
use Prim.Native.Nat.{ℕ, zero, suc, ◌<◌, ◌+◌, ◌-◌}
use native.Mathlib.Omega.{arith}
use Rattle.std.proofs.Math.Decide.{dec_lt}
use borrow.Author.Tests.{lt-ltb, le-ltb}
use Rattle.algebra.specs.Ring.{Ring}
use Rattle.algebra.specs.Sums.{act, dot, minus}
use Rattle.algebra.specs.Matrix.{column_of}
use Rattle.algebra.specs.Generators.{Gens, below, above, entry_of, transpose_g, pivot_g, row_g, column_g, f_g, fs, pivots}
use Rattle.algebra.specs.SumLaws.{dot_swap, dot_comm}

module _ {K : Ring} (r s : ℕ → ℕ) (c : ℕ → Gens K) where
  -- b(i) … b(i + n − 1) w
  up : ℕ → ℕ → (ℕ → K.car) → ℕ → K.car
  up zero i w = w
  up (suc n) i w = act K (s (suc i)) (c i).b (up n (suc i) w)

  above_up : (n i : ℕ) → above r s c n i ≡ up n i (c (n + i)).h
  unfolding above up
  above_up zero i = let e : 0 + i ≡ i = omega arith in ap (λ (k : ℕ). (c k).h) (sym e)
  above_up (suc n) i = let e : n + suc i ≡ suc n + i = omega arith in
      ap (act K (s (suc i)) (c i).b) (above_up n (suc i) ∙ ap (λ (k : ℕ). up n (suc i) (c k).h) e)

  up_last : (n i : ℕ) (w : ℕ → K.car) → up (suc n) i w ≡ up n i (act K (s (suc (n + i))) (c (n + i)).b w)
  unfolding up
  up_last zero i w = let e : 0 + i ≡ i = omega arith in ap (λ (k : ℕ). act K (s (suc k)) (c k).b w) (sym e)
  up_last (suc n) i w = let e : n + suc i ≡ suc n + i = omega arith in
      ap (act K (s (suc i)) (c i).b) (up_last n (suc i) w ∙ ap (λ (k : ℕ). up n (suc i) (act K (s (suc k)) (c k).b w)) e)

  -- g(j) b(j + 1) … b(j + n) w, from either end
  flipped : (n j m : ℕ) → m ≡ suc (n + j) → (w : ℕ → K.car) → dot K (s m) (below s r (λ k. transpose_g (c k)) n j) w
      ≡ dot K (s (suc j)) (c j).g (up n (suc j) w)
  unfolding below up
  flipped zero j m e w = let f : m ≡ suc j = omega arith in rw f
  flipped (suc n) j m e w =
      let f : suc (n + suc j) ≡ m = omega arith in
      let g : n + suc j ≡ suc n + j = omega arith in
      dot_swap K (s m) (s (suc n + j)) (c (suc n + j)).b (below s r (λ k. transpose_g (c k)) n j) w
      ∙ flipped n j (suc n + j) (omega arith) (λ l. dot K (s m) ((c (suc n + j)).b l) w)
      ∙ ap (dot K (s (suc j)) (c j).g) (sym (up_last n (suc j) w ∙ ap₂ (λ (x y : ℕ). up n (suc j) (act K (s x) (c y).b w)) f g))

module _ {K : Ring} (r s : ℕ → ℕ) (c : ℕ → Gens K) where
  lower_is : (i j : ℕ) → j < i → dot K (s i) (c i).h (below s r (λ k. transpose_g (c k)) (i - suc j) j)
      ≡ dot K (s (suc j)) (c j).g (above r s c (i - suc j) (suc j))
  lower_is i j l =
      let e : (i - suc j) + suc j ≡ i = omega arith in
      dot_comm K (s i) _ _ ∙ flipped r s c (i - suc j) j i (omega arith) (c i).h
      ∙ ap (dot K (s (suc j)) (c j).g) (ap (λ (k : ℕ). up r s c (i - suc j) (suc j) (c k).h) (sym e) ∙ sym (above_up r s c (i - suc j) (suc j)))

  below_case : (i j : ℕ) → j < i → entry_of s r (λ k. transpose_g (c k)) i j ≡ entry_of r s c j i
  unfolding entry_of
  below_case i j l = rw (lt-ltb j i l, le-ltb i j (omega arith)) (lower_is i j l)

module _ {K : Ring} (r s : ℕ → ℕ) (c : ℕ → Gens K) where
  diagonal : (i j : ℕ) → i ≡ j → entry_of s r (λ k. transpose_g (c k)) i j ≡ entry_of r s c j i
  unfolding entry_of
  diagonal i j e = rw (le-ltb j i (omega arith), le-ltb i j (omega arith)) (ap (λ (k : ℕ). (c k).d) e)

  pub transpose_matrix : (i j : ℕ) → entry_of s r (λ k. transpose_g (c k)) i j ≡ entry_of r s c j i
  transpose_matrix i j = go (dec_lt j i) (dec_lt i j)
    where
      go : Dec (j < i) → Dec (i < j) → entry_of s r (λ k. transpose_g (c k)) i j ≡ entry_of r s c j i
      go (yes l) m = below_case r s c i j l
      go (no n) (yes l) = sym (below_case s r (λ k. transpose_g (c k)) j i l)
      go (no n) (no m) = diagonal i j (omega arith)

-- The pivots of the transposed table: f transposes, g − p f b and q − a f h change places, m stays. First u f w, from either end:
dot_transposed : (K : Ring) (n m : ℕ) (f : ℕ → ℕ → K.car) (u w : ℕ → K.car) → dot K m w (act K n (λ i j. f j i) u) ≡ dot K n u (act K m f w)
dot_transposed K n m f u w = dot_comm K m w (act K n (λ i j. f j i) u) ∙ dot_swap K m n f u w

module _ {K : Ring} (r s : ℕ) (c : Gens K) (f : ℕ → ℕ → K.car) where
  transpose_pivot : pivot_g s r (transpose_g c) (λ i j. f j i) ≡ pivot_g r s c f
  transpose_pivot = ap (minus K c.d) (dot_transposed K r s f c.p c.h)

  transpose_row_lem : (j : ℕ) → row_g s r (transpose_g c) (λ i j. f j i) j ≡ column_g r s c f j
  transpose_row_lem j = ap (minus K (c.q j)) (dot_transposed K r s f (c.a j) c.h)

  transpose_column : (j : ℕ) → column_g s r (transpose_g c) (λ i j. f j i) j ≡ row_g r s c f j
  transpose_column j = ap (minus K (c.g j)) (dot_transposed K r s f c.p (column_of c.b j))

  -- with i for 1/m
  transpose_next : (i : K.car) (k j : ℕ) → f_g s r (transpose_g c) (λ i j. f j i) i k j ≡ f_g r s c f i j k
  transpose_next i k j =
      ap₂ K.add (dot_transposed K r s f (c.a j) (column_of c.b k))
      (ap₂ (λ x y. K.mul (K.mul x i) y) (transpose_column k) (transpose_row_lem j) ∙ swap (row_g r s c f k) i (column_g r s c f j))
    where
      swap : (x i y : K.car) → K.mul (K.mul x i) y ≡ K.mul (K.mul y i) x
      swap x i y = K.mul_comm (K.mul x i) y ∙ ap (K.mul y) (K.mul_comm x i) ∙ sym (K.mul_assoc y i x)

module _ {K : Ring} (r s : ℕ → ℕ) (c : ℕ → Gens K) where
  abbrev c_t : ℕ → Gens K
  c_t k = transpose_g (c k)

  transpose_f : (k : ℕ) → fs s r c_t k ≡ λ i j. fs r s c k j i
  unfolding fs
  transpose_f zero = refl
  transpose_f (suc k) = fun_ext (λ i. fun_ext (λ j.
      ap (λ f. f_g (s k) (r k) (c_t k) f (K.inv (pivot_g (s k) (r k) (c_t k) f)) i j) (transpose_f k)
      ∙ ap (λ m. f_g (s k) (r k) (c_t k) (λ i j. fs r s c k j i) (K.inv m) i j) (transpose_pivot (r k) (s k) (c k) (fs r s c k))
      ∙ transpose_next (r k) (s k) (c k) (fs r s c k) (K.inv (pivot_g (r k) (s k) (c k) (fs r s c k))) i j))

  pub transpose_pivots : (k : ℕ) → pivots s r c_t k ≡ pivots r s c k
  unfolding pivots
  transpose_pivots k = ap (pivot_g (s k) (r k) (c_t k)) (transpose_f k) ∙ transpose_pivot (r k) (s k) (c k) (fs r s c k)
