-- Sums in a module.
use Rattle.std.specs.Prelude.{◌≢◌, ◌≡◌}
use Rattle.std.proofs.Math.Path.{refl, sym, ap, ap₂}
use Rattle.std.proofs.Common.{◌∙◌, arith}
use Prim.Native.Nat.{ℕ, zero, suc, ◌<◌}
use Rattle.std.proofs.Math.Decide.{ℕ_discrete}
use Rattle.algebra.specs.Ring.{Ring}
use Rattle.algebra.specs.Sums.{fold}
use Rattle.algebra.specs.Linear.{Mod, total, ac, p_zero, zero_p}

module _ {K : Ring} where
  pub total_ext : (A : Mod K) (n : ℕ) (f g : ℕ → A.car) → ((k : ℕ) → k < n → f k ≡ g k) → total A n f ≡ total A n g
  unfolding fold
  total_ext A zero f g e = refl
  total_ext A (suc n) f g e = ap₂ A.plus (total_ext A n f g (λ k h. e k (omega arith))) (e n (omega arith))

  -- what passes through sums of two passes through sums
  pub total_op : (A B : Mod K) (φ : A.car → B.car) → φ A.zero ≡ B.zero → ((x y : A.car) → φ (A.plus x y) ≡ B.plus (φ x) (φ y))
      → (n : ℕ) (f : ℕ → A.car) → φ (total A n f) ≡ total B n (λ j. φ (f j))
  unfolding fold
  total_op A B φ e0 e zero f = e0
  total_op A B φ e0 e (suc n) f = e _ _ ∙ ap (λ t. B.plus t (φ (f n))) (total_op A B φ e0 e n f)

  swap4 : (A : Mod K) (a b c d : A.car) → A.plus (A.plus a b) (A.plus c d) ≡ A.plus (A.plus a c) (A.plus b d)
  swap4 A a b c d = simp ac

  pub total_add : (A : Mod K) (n : ℕ) (f g : ℕ → A.car) → total A n (λ j. A.plus (f j) (g j)) ≡ A.plus (total A n f) (total A n g)
  unfolding fold
  total_add A zero f g = sym (A.add_zero _)
  total_add A (suc n) f g = ap (λ t. A.plus t (A.plus (f n) (g n))) (total_add A n f g) ∙ swap4 A _ _ _ _

  pub total_zero : (A : Mod K) (n : ℕ) → total A n (λ j. A.zero) ≡ A.zero
  unfolding fold
  total_zero A zero = refl
  total_zero A (suc n) = A.add_zero _ ∙ total_zero A n

  -- a sum with one non-zero term
  pub total_single : (A : Mod K) (n k : ℕ) (f : ℕ → A.car) → k < n → ((j : ℕ) → j < n → j ≢ k → f j ≡ A.zero) → total A n f ≡ f k
  unfolding fold
  total_single A zero k f h e = absurd (omega arith)
  total_single A (suc n) k f h e = go (ℕ_discrete n k) (λ l. total_single A n k f l (λ j m. e j (omega arith)))
    where
      go : Dec (n ≡ k) → (k < n → total A n f ≡ f k) → A.plus (total A n f) (f n) ≡ f k
      go (yes z) ih = ap₂ A.plus (total_ext A n f _ (λ j l. e j (omega arith) (λ w. omega arith)) ∙ total_zero A n) (ap f z) ∙ zero_p A (f k)
      go (no z) ih = ap₂ A.plus (ih (omega arith)) (e n (omega arith) z) ∙ p_zero A (f k)
