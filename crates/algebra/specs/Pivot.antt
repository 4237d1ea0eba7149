-- Pivots and the inverse, both ways, with no recursion and no subtraction.
use Rattle.std.specs.Prelude.{◌≡◌, refl, ℕ, suc, ◌<◌}
use Rattle.std.proofs.Common.{sym, ◌∙◌, ap}
use Rattle.algebra.specs.Ring.{Ring}
use Rattle.algebra.specs.Linear.{Mod, Hom, p_left, p_zero, zero_p, neg_p, sub_p, gap, neg_zero, m_zero, lin, cancel}
use Rattle.algebra.specs.Run.{Row, Step, Run, value}

-- What the pivot m, the row v and the column y are of a row, with f before the row and f' after it.
pub record Factor {K : Ring} {I O L U : Mod K} (r : Row I O L U) (m : Hom I O) (v : Hom U I) (y : Hom O L) (f f' : Hom U L) : Type 0 where
  pub e_d : (x : I.car) → r.d.fn x ≡ O.plus (m.fn x) (r.p.fn (f.fn (r.h.fn x)))
  pub e_g : (u : U.car) → r.g.fn u ≡ O.plus (m.fn (v.fn u)) (r.p.fn (f.fn (r.b.fn u)))
  pub e_q : (x : I.car) → r.q.fn x ≡ L.plus (y.fn (m.fn x)) (r.a.fn (f.fn (r.h.fn x)))
  pub e_f : (u : U.car) → f'.fn u ≡ L.plus (r.a.fn (f.fn (r.b.fn u))) (y.fn (m.fn (v.fn u)))

-- Row r, its inverse s (s.g is v, s.q is y), pivot m with inverse i, f before the row and f' after it, z before and z' after.
pub record Pivot {K : Ring} {I O L U : Mod K} (r : Row I O L U) (s : Row O I L U) (m : Hom I O) (i : Hom O I) (f f' : Hom U L) (z z' : Hom L U) : Type 0 where
  pub factor : Factor r m s.g s.q f f'
  pub im : (x : I.car) → i.fn (m.fn x) ≡ x
  pub mi : (o : O.car) → m.fn (i.fn o) ≡ o
  pub e_a : (l : L.car) → r.a.fn l ≡ L.plus (s.a.fn l) (s.q.fn (r.p.fn l))
  pub e_b : (u : U.car) → r.b.fn u ≡ U.plus (s.b.fn u) (r.h.fn (s.g.fn u))
  pub e_e : (o : O.car) → s.d.fn o ≡ I.plus (i.fn o) (s.g.fn (z'.fn (s.q.fn o)))
  pub b_t : (l : L.car) → I.plus (s.p.fn l) (s.d.fn (r.p.fn l)) ≡ s.g.fn (z'.fn (r.a.fn l))
  pub b_u : (o : O.car) → U.plus (s.h.fn o) (r.h.fn (s.d.fn o)) ≡ r.b.fn (z'.fn (s.q.fn o))
  pub b_z : (l : L.car) → U.plus (z.fn l) (U.plus (s.h.fn (r.p.fn l)) (U.plus (r.h.fn (s.d.fn (r.p.fn l))) (r.h.fn (s.p.fn l))))
      ≡ r.b.fn (z'.fn (r.a.fn l))

-- The same three with the inverse's a and b.
module _ {K : Ring} {I O L U : Mod K} (r : Row I O L U) (s : Row O I L U) (m : Hom I O) (i : Hom O I) (f f' : Hom U L) (z z' : Hom L U)
    (P : Pivot r s m i f f' z z') where
  e_t : (l : L.car) → s.g.fn (z'.fn (s.a.fn l)) ≡ I.plus (s.p.fn l) (i.fn (r.p.fn l))
  e_t l = cancel I (s.g.fn (z'.fn (s.q.fn (r.p.fn l)))) _ _ (sym (simp (lin, P.e_e, P.e_a) (simp (lin, P.e_e, P.e_a) at (P.b_t l))))

  e_u : (o : O.car) → s.b.fn (z'.fn (s.q.fn o)) ≡ U.plus (s.h.fn o) (r.h.fn (i.fn o))
  e_u o = cancel U (r.h.fn (s.g.fn (z'.fn (s.q.fn o)))) _ _ (sym (simp lin (simp (lin, P.e_e, P.e_b) at (P.b_u o))))

  e_z : (l : L.car) → z.fn l ≡ U.plus (s.b.fn (z'.fn (s.a.fn l))) (r.h.fn (i.fn (r.p.fn l)))
  e_z l = cancel U (U.plus (s.h.fn (r.p.fn l)) (U.plus (r.h.fn (s.d.fn (r.p.fn l))) (r.h.fn (s.p.fn l)))) _ _
      (P.b_z l ∙ simp (lin, P.e_a, P.e_b, P.e_e, e_t, e_u))

module _ {K : Ring} {I O L U : Mod K} (r : Row I O L U) (s : Row O I L U) (m : Hom I O) (i : Hom O I) (f f' : Hom U L) (z z' : Hom L U)
    (P : Pivot r s m i f f' z z')
    (x : I.car) (c : O.car) (β β' ρ ρ' : L.car) (γ γ' σ σ' : U.car)
    (eγ : U.plus γ (U.plus σ (z.fn ρ)) ≡ U.zero) (eγ' : U.plus γ' (U.plus σ' (z'.fn ρ')) ≡ U.zero)
    (eβ : L.plus β (f.fn γ) ≡ ρ) (eβ' : L.plus β' (f'.fn γ') ≡ ρ') where
  -- x + v γ' + i p ρ = i c, in terms of the inverse's run
  half : ρ' ≡ L.plus (s.a.fn ρ) (s.q.fn c) → I.plus (value s c ρ σ') (I.plus (s.g.fn γ') (i.fn (r.p.fn ρ))) ≡ i.fn c
  half e1 = all ∙ ap (λ t. I.plus (s.g.fn t) (i.fn c)) eγ' ∙ simp (m_zero, zero_p)
    where
      all : I.plus (value s c ρ σ') (I.plus (s.g.fn γ') (i.fn (r.p.fn ρ)))
          ≡ I.plus (s.g.fn (U.plus γ' (U.plus σ' (z'.fn ρ')))) (i.fn c)
      all = simp (e1, lin, P.e_e, e_t r s m i f f' z z' P)

  whole : ρ' ≡ L.plus (s.a.fn ρ) (s.q.fn c) → x ≡ value s c ρ σ'
      → U.plus (U.plus (r.b.fn γ') (r.h.fn x)) (U.plus (U.plus (s.b.fn σ') (s.h.fn c)) (z.fn ρ)) ≡ U.zero
  whole e1 e3 = all ∙ ap r.b.fn eγ' ∙ m_zero r.b
    where
      all : U.plus (U.plus (r.b.fn γ') (r.h.fn x)) (U.plus (U.plus (s.b.fn σ') (s.h.fn c)) (z.fn ρ))
          ≡ r.b.fn (U.plus γ' (U.plus σ' (z'.fn ρ')))
      all = simp (e1, e3, lin, P.e_b, P.e_e, e_t r s m i f f' z z' P, e_u r s m i f f' z z' P, e_z r s m i f f' z z' P)

  -- From a step of the table to a step of the inverse.
  module _ (T : Step r x c β β' γ γ') where
    pivot : c ≡ O.plus (r.p.fn ρ) (m.fn (I.plus x (s.g.fn γ')))
    pivot = simp (T.out, ← eβ, T.upp, lin, P.factor.e_d, P.factor.e_g)

    down : ρ' ≡ L.plus (s.a.fn ρ) (s.q.fn c)
    down = simp (← eβ', ← eβ, pivot, T.low, T.upp, lin, P.factor.e_q, P.factor.e_f, P.e_a)

    given : x ≡ value s c ρ σ'
    given = cancel I (I.plus (s.g.fn γ') (i.fn (r.p.fn ρ))) _ _ (sym (half down ∙ simp (pivot, lin, P.im)))

    pub there : Step s c x ρ ρ' σ σ'
    there = record {
      low = down;
      upp = cancel U (U.plus γ (z.fn ρ)) _ _ (p_left U _ _ _ ∙ eγ ∙ sym (whole down given) ∙ simp (T.upp, lin));
      out = given;
    }

  -- And back.
  module _ (S : Step s c x ρ ρ' σ σ') where
    up_back : γ ≡ U.plus (r.b.fn γ') (r.h.fn x)
    up_back = cancel U (U.plus σ (z.fn ρ)) _ _ (eγ ∙ sym (rw S.upp (whole S.low S.out)))

    pivot_back : c ≡ O.plus (r.p.fn ρ) (m.fn (I.plus x (s.g.fn γ')))
    pivot_back = sym (simp lin (simp (lin, P.mi) at (ap m.fn (rw (← S.out) at (half S.low)))))

    pub back : Step r x c β β' γ γ'
    back = record {
      low = cancel L (f'.fn γ') _ _ (eβ' ∙ S.low ∙ simp (pivot_back, ← eβ, up_back, lin, P.factor.e_q, P.factor.e_f, P.e_a));
      upp = up_back;
      out = pivot_back ∙ simp (← eβ, up_back, lin, P.factor.e_d, P.factor.e_g);
    }

-- The runs: table on x gives c, if and only if inverse on c gives x.
module _ {K : Ring} {I O L U : Mod K} (N : ℕ) (r : ℕ → Row I O L U) (s : ℕ → Row O I L U) (m : ℕ → Hom I O) (i : ℕ → Hom O I) (f : ℕ → Hom U L)
    (z : ℕ → Hom L U)
    (f0 : (u : U.car) → (f 0).fn u ≡ L.zero) (zN : (l : L.car) → (z N).fn l ≡ U.zero)
    (P : (k : ℕ) → k < N → Pivot (r k) (s k) (m k) (i k) (f k) (f (suc k)) (z k) (z (suc k)))
    (x : ℕ → I.car) (c : ℕ → O.car) where
  pub solve : Run N s c x → Run N r x c
  solve S =
      let γ : ℕ → U.car = λ k. U.neg (U.plus (S.up k) ((z k).fn (S.lo k))) in
      let β : ℕ → L.car = λ k. L.plus (S.lo k) (L.neg ((f k).fn (γ k))) in
      record {
        lo = β;
        up = γ;
        lo0 = simp (f0, S.lo0, neg_zero, p_zero);
        up_n = simp (zN, S.up_n, neg_zero, p_zero);
        step = λ k h. back (r k) (s k) (m k) (i k) (f k) (f (suc k)) (z k) (z (suc k)) (P k h) (x k) (c k) (β k) (β (suc k)) (S.lo k) (S.lo (suc k))
            (γ k) (γ (suc k)) (S.up k) (S.up (suc k)) (neg_p U _) (neg_p U _) (sub_p L _ _) (sub_p L _ _) (S.step k h);
      }

  pub invert : Run N r x c → Run N s c x
  invert T =
      let ρ : ℕ → L.car = λ k. L.plus (T.lo k) ((f k).fn (T.up k)) in
      let σ : ℕ → U.car = λ k. U.plus (U.neg (T.up k)) (U.neg ((z k).fn (ρ k))) in
      record {
        lo = ρ;
        up = σ;
        lo0 = simp (f0, T.lo0, p_zero);
        up_n = simp (zN, T.up_n, neg_zero, p_zero);
        step = λ k h. there (r k) (s k) (m k) (i k) (f k) (f (suc k)) (z k) (z (suc k)) (P k h) (x k) (c k) (T.lo k) (T.lo (suc k)) (ρ k) (ρ (suc k))
            (T.up k) (T.up (suc k)) (σ k) (σ (suc k)) (gap U _ _) (gap U _ _) refl refl (T.step k h);
      }
