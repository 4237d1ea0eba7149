-- The algebra of matrices: a product sends as its factors do, products are associative and distribute over sums; identity, inverses, transposes.
use Rattle.std.specs.Prelude.{◌≢◌, ◌≡◌}
use Rattle.std.proofs.Math.Path.{refl, fun_ext}
use Rattle.std.proofs.Common.{sym, ◌∙◌, ap, ap₂, arith}
use Prim.Native.Nat.{ℕ, zero, suc, ◌<◌, ◌≤◌}
use Rattle.algebra.specs.Ring.{Ring}
use Rattle.algebra.specs.Sums.{sum_to}
use Rattle.algebra.specs.RingLaws.{add_mul, mul_one, mul_zero, zero_mul}
use Rattle.algebra.specs.SumLaws.{sum_ext, sum_add, sum_single, mul_sum, sum_mul, sum_swap}
use Rattle.algebra.specs.Matrix.{Matrix, sends, plus_m, times_m, identity, Same, Singular, LeastSingular}

module _ (K : Ring) where
  open K use {car, mul as ◌⊗◌}

  infixl 70 ◌⊗◌
  -- the product sends a column where the right factor and then the left send it
  pub sends_times : (N : ℕ) (A B : Matrix K) (x : ℕ → car) (i : ℕ) → sends K N (times_m K N A B) x i ≡ sends K N A (sends K N B x) i
  sends_times N A B x i =
      ap (sum_to K N) (fun_ext (λ j. sum_mul K N (λ k. A i k ⊗ B k j) (x j) ∙ ap (sum_to K N) (fun_ext (λ k. K.mul_assoc (A i k) (B k j) (x j)))))
      ∙ sum_swap K N N (λ j k. A i k ⊗ (B k j ⊗ x j))
      ∙ ap (sum_to K N) (fun_ext (λ k. sym (mul_sum K (A i k) N (λ j. B k j ⊗ x j))))

  pub times_assoc : (N : ℕ) (A B C : Matrix K) (i j : ℕ) → times_m K N (times_m K N A B) C i j ≡ times_m K N A (times_m K N B C) i j
  times_assoc N A B C i j = sends_times N A B (λ k. C k j) i

  pub times_plus_lem : (N : ℕ) (A B C : Matrix K) (i j : ℕ) → times_m K N A (plus_m K B C) i j ≡ plus_m K (times_m K N A B) (times_m K N A C) i j
  times_plus_lem N A B C i j = ap (sum_to K N) (fun_ext (λ k. K.mul_add_lem (A i k) (B k j) (C k j))) ∙ sum_add K N _ _

  pub plus_times : (N : ℕ) (A B C : Matrix K) (i j : ℕ) → times_m K N (plus_m K A B) C i j ≡ plus_m K (times_m K N A C) (times_m K N B C) i j
  plus_times N A B C i j = ap (sum_to K N) (fun_ext (λ k. add_mul K (A i k) (B i k) (C k j))) ∙ sum_add K N _ _

  -- equal factors give equal products
  pub times_same : (N : ℕ) (A A' B B' : Matrix K) → Same K N A A' → Same K N B B' → Same K N (times_m K N A B) (times_m K N A' B')
  times_same N A A' B B' e f i j hi hj = sum_ext K N _ _ (λ k h. ap₂ ◌⊗◌ (e i k hi h) (f k j h hj))

  pub sends_same : (N : ℕ) (A A' : Matrix K) (x x' : ℕ → car) → Same K N A A' → ((k : ℕ) → k < N → x k ≡ x' k) → (i : ℕ) → i < N
      → sends K N A x i ≡ sends K N A' x' i
  sends_same N A A' x x' e f i hi = sum_ext K N _ _ (λ k h. ap₂ ◌⊗◌ (e i k hi h) (f k h))

  -- the entries of the identity, and a product with it
  identity_same : (i : ℕ) → identity K i i ≡ K.one
  unfolding identity
  identity_same zero = refl
  identity_same (suc i) = identity_same i

  identity_other : (i j : ℕ) → i ≢ j → identity K i j ≡ K.zero
  unfolding identity
  identity_other zero zero n = absurd (n refl)
  identity_other zero (suc j) n = refl
  identity_other (suc i) zero n = refl
  identity_other (suc i) (suc j) n = identity_other i j (λ e. n (ap suc e))

  times_identity : (N : ℕ) (A : Matrix K) → Same K N (times_m K N A (identity K)) A
  times_identity N A i j hi hj = sum_single K N j _ hj (λ k h n. ap (λ t. A i k ⊗ t) (identity_other k j n) ∙ mul_zero K (A i k))
      ∙ ap (λ t. A i j ⊗ t) (identity_same j) ∙ mul_one K (A i j)

  identity_times : (N : ℕ) (A : Matrix K) → Same K N (times_m K N (identity K) A) A
  identity_times N A i j hi hj = sum_single K N i _ hi (λ k h n. ap (λ t. t ⊗ A k j) (identity_other i k (λ e. n (sym e))) ∙ zero_mul K (A k j))
      ∙ ap (λ t. t ⊗ A i j) (identity_same i) ∙ K.one_mul (A i j)

  -- a left inverse and a right inverse of A are one matrix: L is L (A R), which is (L A) R, which is R
  pub one_inverse : (N : ℕ) (L A R : Matrix K) → Same K N (times_m K N L A) (identity K) → Same K N (times_m K N A R) (identity K) → Same K N L R
  one_inverse N L A R left right i j hi hj =
      sym (times_identity N L i j hi hj)
      ∙ sym (times_same N L L (times_m K N A R) (identity K) (λ i j hi hj. refl) right i j hi hj)
      ∙ sym (times_assoc N L A R i j)
      ∙ times_same N (times_m K N L A) (identity K) R R left (λ i j hi hj. refl) i j hi hj
      ∙ identity_times N R i j hi hj

  -- right inverses A' of A and B' of B make the right inverse B' A' of A B: A B (B' A') is A ((B B') A'), which is A A'
  pub product_inverse : (N : ℕ) (A A' B B' : Matrix K) → Same K N (times_m K N A A') (identity K) → Same K N (times_m K N B B') (identity K)
      → Same K N (times_m K N (times_m K N A B) (times_m K N B' A')) (identity K)
  product_inverse N A A' B B' e f i j hi hj =
      times_assoc N A B (times_m K N B' A') i j
      ∙ times_same N A A (times_m K N B (times_m K N B' A')) A' (λ i j hi hj. refl) inner i j hi hj
      ∙ e i j hi hj
    where
      inner : Same K N (times_m K N B (times_m K N B' A')) A'
      inner i j hi hj =
          sym (times_assoc N B B' A' i j)
          ∙ times_same N (times_m K N B B') (identity K) A' A' f (λ i j hi hj. refl) i j hi hj
          ∙ identity_times N A' i j hi hj

  -- the transposed product is the product of the transposed factors in reverse
  pub transpose_times : (N : ℕ) (A B : Matrix K) (i j : ℕ) → times_m K N A B j i ≡ times_m K N (λ i j. B j i) (λ i j. A j i) i j
  transpose_times N A B i j = ap (sum_to K N) (fun_ext (λ k. K.mul_comm (A j k) (B k i)))

  -- equal matrices have the same least singular corner
  corner_same : (N : ℕ) (A B : Matrix K) → Same K N A B → (k : ℕ) → k ≤ N → Singular K A k → Singular K B k
  corner_same N A B e k h z =
      (z.0, z.1, λ i l. sym (sends_same k A B z.0 z.0 (λ i j hi hj. e i j (omega arith) (omega arith)) (λ j m. refl) i l) ∙ z.2 i l)

  pub least_same : (N : ℕ) (A B : Matrix K) → Same K N A B → (k : ℕ) → LeastSingular K N A k → LeastSingular K N B k
  least_same N A B e k z = record {
    from = z.from;
    upto = z.upto;
    singular = corner_same N A B e k z.upto z.singular;
    least = λ j l y. z.least j l (corner_same N B A (λ i j hi hj. sym (e i j hi hj)) j (omega (arith, z.upto)) y);
  }
