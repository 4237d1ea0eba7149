-- Elimination: a nonsingular matrix sends the solution to the given column and no other column there; where a step finds no pivot the matrix is singular.
use Rattle.std.specs.Prelude.{Bool, ◌&&◌, ◌↔◌, ◌≡◌, eqb}
use Rattle.std.proofs.Math.Bool.{true, false}
use Rattle.std.proofs.Math.Path.{refl, ap, ap₂}
use Rattle.std.proofs.Common.{sym, ◌∙◌, arith}
use Prim.Native.Nat.{ℕ, zero, suc, ◌<◌}
use Rattle.algebra.specs.Ring.{Ring, Field}
use Rattle.algebra.specs.Sums.{sum_to, minus}
use Rattle.algebra.specs.RingLaws.{mul_zero, mul_one}
use Rattle.algebra.specs.SumLaws.{sum_ext, dot_zeros}
use Rattle.algebra.specs.Matrix.{Matrix, sends, Singular}
use Rattle.algebra.specs.Generators.{pick}
use Rattle.lists.specs.ListLaws.{clash}
use Rattle.algebra_elimination.specs.Elimination.{exchange, before, nonzero, pivot_row_of, lowered, reduced, pivoted, nonsingular, substituted, solution}
use Rattle.algebra_elimination.proofs.ExchangeLaws.{exchange_twice, nonzero_true, row_below, no_pivot}
use Rattle.algebra_elimination.proofs.StepLaws.{sum_first, step_there, step_back}

and_true : (a b : Bool) → (a && b) ≡ true → (a ≡ true) × (b ≡ true)
and_true true b e = (refl, e)
and_true false b e = clash (sym e)

module _ (K : Ring) where
  -- the column x solves the system: A sends it to c
  abbrev pub Solves : ℕ → Matrix K → (ℕ → K.car) → (ℕ → K.car) → Type 0
  Solves n A c x = (i : ℕ) → i < n → sends K n A x i ≡ c i

  -- rows exchanged are the same equations
  module _ (n t : ℕ) (A : Matrix K) (c x : ℕ → K.car) (h : t < n) where
    exchange_solves : Solves n A c x → Solves n (exchange t A) (exchange t c) x
    unfolding exchange
    exchange_solves e zero l = e t h
    exchange_solves e (suc i) l = go (eqb (suc i) t)
      where
        go : (b : Bool) → sum_to K n (λ j. K.mul (pick b (A 0) (A (suc i)) j) (x j)) ≡ pick b (c 0) (c (suc i))
        go true = e 0 (omega arith)
        go false = e (suc i) l

  solves_exchange : (n t : ℕ) (A : Matrix K) (c x : ℕ → K.car) → t < n → Solves n (exchange t A) (exchange t c) x → Solves n A c x
  solves_exchange n t A c x h e i l =
      sym (ap (λ (r : ℕ → K.car). sum_to K n (λ j. K.mul (r j) (x j))) (exchange_twice t A i))
      ∙ exchange_solves n t (exchange t A) (exchange t c) x h e i l ∙ exchange_twice t c i

  -- the column of zeros stays one
  exchange_same : {X : Type 0} (t : ℕ) (v : X) (i : ℕ) → exchange t (λ k. v) i ≡ v
  unfolding exchange
  exchange_same t v zero = refl
  exchange_same t v (suc i) = go (eqb (suc i) t)
    where
      go : (b : Bool) → pick b v v ≡ v
      go true = refl
      go false = refl

  lowered_zeros : (t : ℕ) (A : Matrix K) (i : ℕ) → lowered K A (exchange t (λ k. K.zero)) i ≡ K.zero
  unfolding lowered
  lowered_zeros t A i =
      ap₂ (λ (u v : K.car). minus K u (K.mul (A (suc i) 0) (K.mul (K.inv (A 0 0)) v))) (exchange_same t K.zero (suc i)) (exchange_same t K.zero 0)
      ∙ ap (λ (u : K.car). minus K K.zero u) (ap (K.mul (A (suc i) 0)) (mul_zero K (K.inv (A 0 0))) ∙ mul_zero K (A (suc i) 0)) ∙ K.add_neg K.zero

module _ {K : Ring} (F : Field K) where
  -- one step of elimination, exchange and all
  module _ (n : ℕ) (A : Matrix K) (c x : ℕ → K.car) (ok : nonzero K (pivoted K (suc n) A 0 0) ≡ true) where
    abbrev t : ℕ
    t = pivot_row_of K (suc n) A

    abbrev B : Matrix K
    B = pivoted K (suc n) A

    abbrev e : ℕ → K.car
    e = exchange t c

    eliminate : Solves K (suc n) A c x → (x 0 ≡ substituted K n (B 0) (e 0) (λ j. x (suc j))) × Solves K n (reduced K B) (lowered K B e) (λ j. x (suc j))
    eliminate s = step_there F n B e x (nonzero_true K (B 0 0) ok) (exchange_solves K (suc n) t A c x (row_below K n A) s)

    restore : x 0 ≡ substituted K n (B 0) (e 0) (λ j. x (suc j)) → Solves K n (reduced K B) (lowered K B e) (λ j. x (suc j)) → Solves K (suc n) A c x
    restore f s = solves_exchange K (suc n) t A c x (row_below K n A) (step_back F n B e x (nonzero_true K (B 0 0) ok) f s)

  -- A nonsingular matrix sends the solution to the given column,
  pub solution_solves : (n : ℕ) (A : Matrix K) (c : ℕ → K.car) → nonsingular K n A ≡ true → Solves K n A c (solution K n A c)
  unfolding nonsingular solution before
  solution_solves zero A c r = λ i h. absurd (omega arith)
  solution_solves (suc n) A c r =
      let B = pivoted K (suc n) A in
      let z = and_true (nonzero K (B 0 0)) (nonsingular K n (reduced K B)) r in
      let others = solution_solves n (reduced K B) (lowered K B (exchange (pivot_row_of K (suc n) A) c)) z.1 in
      restore n A c (solution K (suc n) A c) z.0 refl others

  -- and no other column there.
  pub solution_only : (n : ℕ) (A : Matrix K) (c : ℕ → K.car) → nonsingular K n A ≡ true → (x : ℕ → K.car) → Solves K n A c x
      → (i : ℕ) → i < n → x i ≡ solution K n A c i
  unfolding nonsingular solution before substituted
  solution_only zero A c r x s i h = absurd (omega arith)
  solution_only (suc n) A c r x s i h =
      let z : (nonzero K (B₀ 0 0) ≡ true) × (nonsingular K n (reduced K B₀) ≡ true) = and_true _ _ r in
      let w = eliminate n A c x z.0 s in
      go w.0 (solution_only n (reduced K B₀) (lowered K B₀ e₀) z.1 (λ j. x (suc j)) w.1) i h
    where
      B₀ : Matrix K
      B₀ = pivoted K (suc n) A

      e₀ : ℕ → K.car
      e₀ = exchange (pivot_row_of K (suc n) A) c

      go : x 0 ≡ substituted K n (B₀ 0) (e₀ 0) (λ j. x (suc j)) → ((j : ℕ) → j < n → x (suc j) ≡ solution K (suc n) A c (suc j))
          → (i : ℕ) → i < suc n → x i ≡ solution K (suc n) A c i
      go e others zero h = e ∙ ap (λ (s : K.car). K.mul (K.inv (B₀ 0 0)) (minus K (e₀ 0) s))
          (sum_ext K n _ _ (λ j l. ap (K.mul (B₀ 0 (suc j))) (others j l)))
      go e others (suc j) h = others j (omega arith)

  -- zeros are sent to zeros
  sends_zeros : (n : ℕ) (A : Matrix K) (i : ℕ) → sends K n A (λ j. K.zero) i ≡ K.zero
  sends_zeros n A i = dot_zeros K n (A i)

  with_pivots_not_singular : (n : ℕ) (A : Matrix K) → nonsingular K n A ≡ true → Singular K A n → ⊥
  with_pivots_not_singular n A r s =
      s.1.2 (solution_only n A (λ i. K.zero) r s.0 s.2 s.1.0 s.1.1
      ∙ sym (solution_only n A (λ i. K.zero) r (λ j. K.zero) (λ i h. sends_zeros n A i) s.1.0 s.1.1))

  -- A matrix with a step that finds no pivot sends some column, not all zeros, to zeros:
  without_pivot_singular : (n : ℕ) (A : Matrix K) → nonsingular K n A ≡ false → Singular K A n
  unfolding nonsingular before
  without_pivot_singular zero A r = clash r
  without_pivot_singular (suc n) A r = go (nonzero K (B₀ 0 0)) refl r (λ q. without_pivot_singular n (reduced K B₀) q)
    where
      B₀ : Matrix K
      B₀ = pivoted K (suc n) A

      others_zero : (i : ℕ) → sum_to K n (λ j. K.mul (A i (suc j)) K.zero) ≡ K.zero
      others_zero i = dot_zeros K n (λ j. A i (suc j))

      none : nonzero K (B₀ 0 0) ≡ false → Singular K A (suc n)
      none q = (
        before K.one (λ j. K.zero),
        (0, omega arith, F.one_ne_zero),
        λ i h. sum_first K n _ ∙ ap₂ K.add (mul_one K (A i 0) ∙ no_pivot K (suc n) A q i h) (others_zero i) ∙ K.add_zero K.zero,
      )

      more : nonzero K (B₀ 0 0) ≡ true → Singular K (reduced K B₀) n → Singular K A (suc n)
      more q s =
          let e : ℕ → K.car = exchange (pivot_row_of K (suc n) A) (λ i. K.zero) in
          let x : ℕ → K.car = before (substituted K n (B₀ 0) (e 0) s.0) s.0 in (
            x,
            (suc s.1.0, omega (arith, s.1.1), s.1.2),
            restore n A (λ i. K.zero) x q refl (λ i h. s.2 i h ∙ sym (lowered_zeros K (pivot_row_of K (suc n) A) B₀ i)),
          )

      go : (b : Bool) → nonzero K (B₀ 0 0) ≡ b → (b && nonsingular K n (reduced K B₀)) ≡ false
          → (nonsingular K n (reduced K B₀) ≡ false → Singular K (reduced K B₀) n) → Singular K A (suc n)
      go true q r ih = more q (ih r)
      go false q r ih = none q

  -- so every pivot is found exactly where the matrix is not singular.
  pub nonsingular_exactly : (n : ℕ) (A : Matrix K) → (nonsingular K n A ≡ false) ↔ Singular K A n
  nonsingular_exactly n A = (without_pivot_singular n A, λ s. back (nonsingular K n A) refl s)
    where
      back : (b : Bool) → nonsingular K n A ≡ b → Singular K A n → b ≡ false
      back true q s = absurd (with_pivots_not_singular n A q s)
      back false q s = refl
