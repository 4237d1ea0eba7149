-- One step: a column solves a system whose pivot is not zero exactly where all but its first word solve the system that is left, and its first
-- word is substituted from them.
use Rattle.std.specs.Prelude.{◌≢◌, ◌≡◌, List, [], ◌∷◌}
use Rattle.std.proofs.Math.Path.{refl, sym, ap}
use Rattle.std.proofs.Common.{◌∙◌, arith}
use Prim.Native.Nat.{ℕ, zero, suc, ◌<◌}
use Rattle.algebra.specs.Ring.{Ring, Field}
use Rattle.algebra.specs.Sums.{fold, sum_to, dot, minus}
use Rattle.algebra.specs.Matrix.{Matrix, sends}
use Rattle.algebra.specs.RingSolver.{Quote, q_v, solve, quotes, ring₂}
use Rattle.algebra_elimination.specs.Elimination.{lowered, reduced, substituted}

-- a sum by its first term
pub sum_first : (K : Ring) (n : ℕ) (f : ℕ → K.car) → sum_to K (suc n) f ≡ K.add (f 0) (sum_to K n (λ j. f (suc j)))
unfolding fold
sum_first K zero f = K.add_comm K.zero (f 0)
sum_first K (suc n) f = ap (λ (t : K.car). K.add t (f (suc n))) (sum_first K n f) ∙ K.add_assoc (f 0) (sum_to K n (λ j. f (suc j))) (f (suc n))

module _ (K : Ring) where
  open K use {car, one, add as ◌⊕◌, mul as ◌⊗◌, neg, inv}

  infixl 65 ◌⊕◌
  infixl 70 ◌⊗◌
  -- a row less a multiple of another, times a column
  less_step : (T S b w t u x : car) → T ⊕ neg (b ⊗ (w ⊗ S)) ⊕ (t ⊕ neg (b ⊗ (w ⊗ u))) ⊗ x ≡ T ⊕ t ⊗ x ⊕ neg (b ⊗ (w ⊗ (S ⊕ u ⊗ x)))
  less_step T S b w t u x =
      let Q : car → Type 0 = Quote K (T ∷ S ∷ b ∷ w ∷ t ∷ u ∷ x ∷ []) in
      let q0 : Q T = q_v 0 in let q1 : Q S = q_v 1 in let q2 : Q b = q_v 2 in let q3 : Q w = q_v 3 in
      let q4 : Q t = q_v 4 in let q5 : Q u = q_v 5 in let q6 : Q x = q_v 6 in
      solve {K = K} {ρ = T ∷ S ∷ b ∷ w ∷ t ∷ u ∷ x ∷ []} (search quotes depth 9) (search quotes depth 9) refl

  dot_less : (b w : car) (t u x : ℕ → car) (n : ℕ) → sum_to K n (λ j. minus K (t j) (b ⊗ (w ⊗ u j)) ⊗ x j) ≡ minus K (dot K n t x) (b ⊗ (w ⊗ dot K n u x))
  unfolding fold
  dot_less b w t u x zero = ring₂ K b w (search quotes) (search quotes) refl
  dot_less b w t u x (suc n) =
      ap (λ (y : car). y ⊕ minus K (t n) (b ⊗ (w ⊗ u n)) ⊗ x n) (dot_less b w t u x n)
      ∙ less_step (dot K n t x) (dot K n u x) b w (t n) (u n) (x n)

  -- The equations a x + S ≡ c and b x + T ≡ d, where w is the inverse of a: x is w (c − S), and T − b w S ≡ d − b w c.
  module _ (a w : car) (unit : a ⊗ w ≡ one) (b x S T : car) where
    abbrev ρ : List car
    ρ = a ∷ w ∷ b ∷ x ∷ S ∷ T ∷ []

    first_there : (c : car) → a ⊗ x ⊕ S ≡ c → x ≡ w ⊗ minus K c S
    first_there c e = sym (rw (← e) (near ∙ ap (λ (u : car). u ⊗ x) unit ∙ K.one_mul x))
      where
        near : w ⊗ (a ⊗ x ⊕ S ⊕ neg S) ≡ a ⊗ w ⊗ x
        near = let Q : car → Type 0 = Quote K ρ in
            let q0 : Q a = q_v 0 in let q1 : Q w = q_v 1 in let q3 : Q x = q_v 3 in let q4 : Q S = q_v 4 in
            solve {K = K} {ρ = ρ} (search quotes depth 9) (search quotes depth 9) refl

    rest_there : (c d : car) → a ⊗ x ⊕ S ≡ c → b ⊗ x ⊕ T ≡ d → minus K T (b ⊗ (w ⊗ S)) ≡ minus K d (b ⊗ (w ⊗ c))
    rest_there c d e f = sym (rw (← e, ← f) (near ∙ ap (λ (u : car). T ⊕ neg (b ⊗ (w ⊗ S)) ⊕ (b ⊗ x ⊕ neg (u ⊗ (b ⊗ x)))) unit ∙ far))
      where
        near : b ⊗ x ⊕ T ⊕ neg (b ⊗ (w ⊗ (a ⊗ x ⊕ S))) ≡ T ⊕ neg (b ⊗ (w ⊗ S)) ⊕ (b ⊗ x ⊕ neg (a ⊗ w ⊗ (b ⊗ x)))
        near = let Q : car → Type 0 = Quote K ρ in
            let q0 : Q a = q_v 0 in let q1 : Q w = q_v 1 in let q2 : Q b = q_v 2 in let q3 : Q x = q_v 3 in let q4 : Q S = q_v 4 in let q5 : Q T = q_v 5 in
            solve {K = K} {ρ = ρ} (search quotes depth 9) (search quotes depth 9) refl

        far : T ⊕ neg (b ⊗ (w ⊗ S)) ⊕ (b ⊗ x ⊕ neg (one ⊗ (b ⊗ x))) ≡ T ⊕ neg (b ⊗ (w ⊗ S))
        far = let Q : car → Type 0 = Quote K ρ in
            let q1 : Q w = q_v 1 in let q2 : Q b = q_v 2 in let q3 : Q x = q_v 3 in let q4 : Q S = q_v 4 in let q5 : Q T = q_v 5 in
            solve {K = K} {ρ = ρ} (search quotes depth 9) (search quotes depth 9) refl

    first_back : (c : car) → x ≡ w ⊗ minus K c S → a ⊗ x ⊕ S ≡ c
    first_back c e = rw e (near ∙ ap (λ (u : car). u ⊗ (c ⊕ neg S) ⊕ S) unit ∙ far)
      where
        near : a ⊗ (w ⊗ (c ⊕ neg S)) ⊕ S ≡ a ⊗ w ⊗ (c ⊕ neg S) ⊕ S
        near = ap (λ (u : car). u ⊕ S) (sym (K.mul_assoc a w (c ⊕ neg S)))

        far : one ⊗ (c ⊕ neg S) ⊕ S ≡ c
        far = ring₂ K c S (search quotes depth 9) (search quotes depth 9) refl

    rest_back : (c d : car) → x ≡ w ⊗ minus K c S → minus K T (b ⊗ (w ⊗ S)) ≡ minus K d (b ⊗ (w ⊗ c)) → b ⊗ x ⊕ T ≡ d
    rest_back c d e f = ap (λ (u : car). b ⊗ u ⊕ T) e ∙ near ∙ ap (λ (u : car). u ⊕ b ⊗ (w ⊗ c)) f ∙ far
      where
        near : b ⊗ (w ⊗ (c ⊕ neg S)) ⊕ T ≡ T ⊕ neg (b ⊗ (w ⊗ S)) ⊕ b ⊗ (w ⊗ c)
        near = let Q : car → Type 0 = Quote K (c ∷ w ∷ b ∷ S ∷ T ∷ []) in
            let q0 : Q c = q_v 0 in let q1 : Q w = q_v 1 in let q2 : Q b = q_v 2 in let q3 : Q S = q_v 3 in let q4 : Q T = q_v 4 in
            solve {K = K} {ρ = c ∷ w ∷ b ∷ S ∷ T ∷ []} (search quotes depth 9) (search quotes depth 9) refl

        far : d ⊕ neg (b ⊗ (w ⊗ c)) ⊕ b ⊗ (w ⊗ c) ≡ d
        far = let Q : car → Type 0 = Quote K (c ∷ w ∷ b ∷ d ∷ []) in
            let q0 : Q c = q_v 0 in let q1 : Q w = q_v 1 in let q2 : Q b = q_v 2 in let q3 : Q d = q_v 3 in
            solve {K = K} {ρ = c ∷ w ∷ b ∷ d ∷ []} (search quotes depth 9) (search quotes depth 9) refl

-- the step, for a system of size n + 1 whose word (0, 0) is not zero
module _ {K : Ring} (F : Field K) (n : ℕ) (A : Matrix K) (c x : ℕ → K.car) (nz : A 0 0 ≢ K.zero) where
  abbrev rest : ℕ → K.car
  rest j = x (suc j)

  -- row i without its first word, times the column without its first
  abbrev tail : ℕ → K.car
  tail i = dot K n (λ j. A i (suc j)) rest

  split : (i : ℕ) → sends K (suc n) A x i ≡ K.add (K.mul (A i 0) (x 0)) (tail i)
  split i = sum_first K n (λ j. K.mul (A i j) (x j))

  left : (i : ℕ) → sends K n (reduced K A) rest i ≡ minus K (tail (suc i)) (K.mul (A (suc i) 0) (K.mul (K.inv (A 0 0)) (tail 0)))
  unfolding reduced lowered
  left i = dot_less K (A (suc i) 0) (K.inv (A 0 0)) (λ j. A (suc i) (suc j)) (λ j. A 0 (suc j)) rest n

  abbrev w : K.car
  w = K.inv (A 0 0)

  unit : K.mul (A 0 0) w ≡ K.one
  unit = F.mul_inv (A 0 0) nz

  pub step_there : ((i : ℕ) → i < suc n → sends K (suc n) A x i ≡ c i)
      → (x 0 ≡ substituted K n (A 0) (c 0) rest) × ((i : ℕ) → i < n → sends K n (reduced K A) rest i ≡ lowered K A c i)
  unfolding substituted lowered
  step_there e =
      let f = sym (split 0) ∙ e 0 (omega arith) in (
        first_there K (A 0 0) w unit (A 0 0) (x 0) (tail 0) (tail 0) (c 0) f,
        λ i h.
            let g = sym (split (suc i)) ∙ e (suc i) (omega arith) in
            left i ∙ rest_there K (A 0 0) w unit (A (suc i) 0) (x 0) (tail 0) (tail (suc i)) (c 0) (c (suc i)) f g,
      )

  pub step_back : x 0 ≡ substituted K n (A 0) (c 0) rest → ((i : ℕ) → i < n → sends K n (reduced K A) rest i ≡ lowered K A c i)
      → (i : ℕ) → i < suc n → sends K (suc n) A x i ≡ c i
  unfolding substituted lowered
  step_back e f zero h = split 0 ∙ first_back K (A 0 0) w unit (A 0 0) (x 0) (tail 0) (tail 0) (c 0) e
  step_back e f (suc i) h =
      split (suc i)
      ∙ rest_back K (A 0 0) w unit (A (suc i) 0) (x 0) (tail 0) (tail (suc i)) (c 0) (c (suc i)) e (sym (left i) ∙ f i (omega arith))
