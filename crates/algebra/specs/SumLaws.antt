-- Finite sums in a ring.
use Rattle.std.specs.Prelude.{◌≢◌, ◌≡◌}
use Rattle.std.proofs.Math.Path.{sym, ap, fun_ext}
use Rattle.std.proofs.Common.{◌∙◌}
use Prim.Native.Nat.{ℕ, zero, suc, ◌<◌}
use Rattle.algebra.specs.Ring.{Ring}
use Rattle.algebra.specs.Sums.{dot, fold, sum_to}
use Rattle.algebra.specs.RingLaws.{add_mul, mul_zero, zero_mul}
use Rattle.algebra.specs.Totals.{total_ext, total_op, total_add, total_zero, total_single}
use Rattle.algebra.specs.Coord.{self}

module _ (K : Ring) where
  open K use {car, add as ◌⊕◌, mul as ◌⊗◌, mul_add_lem, mul_assoc, mul_comm}

  infixl 65 ◌⊕◌
  infixl 70 ◌⊗◌
  pub sum_ext : (n : ℕ) (f g : ℕ → car) → ((k : ℕ) → k < n → f k ≡ g k) → sum_to K n f ≡ sum_to K n g
  unfolding self
  sum_ext = total_ext (self K)

  pub sum_add : (n : ℕ) (f g : ℕ → car) → sum_to K n (λ j. f j ⊕ g j) ≡ sum_to K n f ⊕ sum_to K n g
  unfolding self
  sum_add = total_add (self K)

  pub sum_zero : (n : ℕ) → sum_to K n (λ j. K.zero) ≡ K.zero
  unfolding self
  sum_zero = total_zero (self K)

  -- a sum in which one term alone is not zero
  pub sum_single : (n k : ℕ) (f : ℕ → car) → k < n → ((j : ℕ) → j < n → j ≢ k → f j ≡ K.zero) → sum_to K n f ≡ f k
  unfolding self
  sum_single = total_single (self K)

  -- scaling, from either side
  pub mul_sum : (t : car) (n : ℕ) (f : ℕ → car) → t ⊗ sum_to K n f ≡ sum_to K n (λ j. t ⊗ f j)
  unfolding self
  mul_sum t = total_op (self K) (self K) (λ x. t ⊗ x) (mul_zero K t) (mul_add_lem t)

  pub sum_mul : (n : ℕ) (f : ℕ → car) (t : car) → sum_to K n f ⊗ t ≡ sum_to K n (λ j. f j ⊗ t)
  unfolding self
  sum_mul n f t = total_op (self K) (self K) (λ x. x ⊗ t) (zero_mul K t) (λ x y. add_mul K x y t) n f

  -- two sums exchanged
  pub sum_swap : (n m : ℕ) (f : ℕ → ℕ → car) → sum_to K n (λ i. sum_to K m (λ j. f i j)) ≡ sum_to K m (λ j. sum_to K n (λ i. f i j))
  unfolding fold
  sum_swap zero m f = sym (sum_zero m)
  sum_swap (suc n) m f = ap (λ t. t ⊕ sum_to K m (f n)) (sum_swap n m f) ∙ sym (sum_add m (λ j. sum_to K n (λ i. f i j)) (f n))

  pub dot_zeros : (n : ℕ) (u : ℕ → car) → dot K n u (λ i. K.zero) ≡ K.zero
  dot_zeros n u = sum_ext n _ _ (λ j h. mul_zero K (u j)) ∙ sum_zero n

  pub dot_comm : (n : ℕ) (u v : ℕ → car) → dot K n u v ≡ dot K n v u
  dot_comm n u v = ap (sum_to K n) (fun_ext (λ j. mul_comm (u j) (v j)))

  pub dot_scale : (t : car) (n : ℕ) (u v : ℕ → car) → dot K n (λ j. t ⊗ u j) v ≡ t ⊗ dot K n u v
  dot_scale t n u v = ap (sum_to K n) (fun_ext (λ j. mul_assoc t (u j) (v j))) ∙ sym (mul_sum t n (λ j. u j ⊗ v j))

  -- a row times a block, and the block times a column
  pub dot_swap : (n m : ℕ) (A : ℕ → ℕ → car) (u w : ℕ → car) → dot K n (λ i. dot K m (λ l. A l i) u) w ≡ dot K m u (λ l. dot K n (A l) w)
  dot_swap n m A u w =
      ap (sum_to K n) (fun_ext (λ i. sum_mul m (λ l. A l i ⊗ u l) (w i)))
      ∙ sum_swap n m (λ i l. A l i ⊗ u l ⊗ w i)
      ∙ ap (sum_to K m) (fun_ext (λ l. ap (sum_to K n) (fun_ext (λ i. ap (λ t. t ⊗ w i) (mul_comm (A l i) (u l)) ∙ mul_assoc (u l) (A l i) (w i)))
      ∙ sym (mul_sum (u l) n (λ i. A l i ⊗ w i))))
