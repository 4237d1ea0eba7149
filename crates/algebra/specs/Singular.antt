-- A zero pivot: the corner sends a column that goes back from it to zeros.
use Rattle.std.specs.Prelude.{◌≡◌, refl, ◌⊎◌}
use Rattle.std.proofs.Math.Path.{sym}
use Rattle.std.proofs.Common.{◌∙◌, ap, eq-or-lt_of_le, inl, inr}
use Prim.Native.Nat.{ℕ, zero, suc, ◌<◌, ◌≤◌}
use native.Mathlib.Omega.{arith}
use Rattle.algebra.specs.Ring.{Ring}
use Rattle.algebra.specs.Linear.{Mod, Hom, p_zero, zero_p, m_zero, lin}
use Rattle.algebra.specs.Pivot.{Factor}
use Rattle.algebra.specs.Run.{Row, Run, value}
use Rattle.algebra.specs.Entry.{lower}

module _ {K : Ring} {I O L U : Mod K} (r : Row I O L U) (m : Hom I O) (v : Hom U I) (y : Hom O L) (f f' : Hom U L) (F : Factor r m v y f f')
    (x : I.car) (β : L.car) (γ γ' : U.car) (eγ : γ ≡ U.plus (r.b.fn γ') (r.h.fn x)) where
  pub factor_low : L.plus (L.plus (r.a.fn β) (r.q.fn x)) (f'.fn γ') ≡ L.plus (r.a.fn (L.plus β (f.fn γ))) (y.fn (m.fn (I.plus x (v.fn γ'))))
  factor_low = simp (eγ, lin, F.e_q, F.e_f)

  pub factor_out : value r x β γ' ≡ O.plus (r.p.fn (L.plus β (f.fn γ))) (m.fn (I.plus x (v.fn γ')))
  factor_out = simp (value, eγ, lin, F.e_d, F.e_g)

-- A zero pivot at row n, the first. A column x goes back from any word at row n: before it, x + v γ is zero, and γ ← b γ + h x. The corner sends it to zeros.
module _ {K : Ring} {I O L U : Mod K} (n : ℕ) (r : ℕ → Row I O L U) (m : ℕ → Hom I O) (v : ℕ → Hom U I) (y : ℕ → Hom O L) (f : ℕ → Hom U L)
    (f0 : (u : U.car) → (f 0).fn u ≡ L.zero)
    (F : (k : ℕ) → k < n → Factor (r k) (m k) (v k) (y k) (f k) (f (suc k)))
    (stop : (t : I.car) → (r n).d.fn t ≡ (r n).p.fn ((f n).fn ((r n).h.fn t)))
    (x : ℕ → I.car) (γ : ℕ → U.car) (γN : γ (suc n) ≡ U.zero)
    (x_law : (k : ℕ) → k < n → I.plus (x k) ((v k).fn (γ (suc k))) ≡ I.zero)
    (γ-law : (k : ℕ) → k < suc n → γ k ≡ U.plus ((r k).b.fn (γ (suc k))) ((r k).h.fn (x k))) where
  quiet : (k : ℕ) → k ≤ n → L.plus (lower r x k) ((f k).fn (γ k)) ≡ L.zero
  unfolding lower
  quiet zero h = simp (f0, p_zero)
  quiet (suc k) h = factor_low (r k) (m k) (v k) (y k) (f k) (f (suc k)) (F k h) (x k) (lower r x k) (γ k) (γ (suc k)) (γ-law k (omega arith))
      ∙ rw (quiet k (omega arith), x_law k h) (simp (m_zero, p_zero))

  pub sent_to_zeros : Run (suc n) r x (λ k. O.zero)
  unfolding lower
  sent_to_zeros = record { lo = lower r x; up = γ; lo0 = refl; up_n = γN; step = λ k h. record { low = refl; upp = γ-law k h; out = go k h (eq-or-lt_of_le h) } }
    where
      go : (k : ℕ) → k < suc n → (suc k ≡ suc n) ⊎ (suc k < suc n) → O.zero ≡ value (r k) (x k) (lower r x k) (γ (suc k))
      go k h (inr l) = let l' : k < n = omega arith in
          sym (factor_out (r k) (m k) (v k) (y k) (f k) (f (suc k)) (F k l') (x k) (lower r x k) (γ k) (γ (suc k)) (γ-law k h)
          ∙ rw (quiet k (omega arith), x_law k l') (simp (m_zero, p_zero)))
      go k h (inl e) = let e' : k ≡ n = omega arith in rw e' (sym last)
        where
          g : γ n ≡ (r n).h.fn (x n)
          g = γ-law n (omega arith) ∙ rw γN (simp (m_zero, zero_p))

          last : value (r n) (x n) (lower r x n) (γ (suc n)) ≡ O.zero
          last = rw γN (simp (value, m_zero, p_zero, stop)
              (sym ((r n).p.add _ _) ∙ ap (r n).p.fn (rw g at (quiet n (omega arith))) ∙ m_zero (r n).p))
