-- The product of two tables: its run on a column is the right factor's run, then the left's.
use Rattle.std.specs.Prelude.{◌≡◌, refl, ℕ, suc, ◌<◌}
use Rattle.std.proofs.Common.{◌∙◌, ap}
use Rattle.algebra.specs.Ring.{Ring}
use Rattle.algebra.specs.Linear.{Mod, Hom, total, p_zero, lin, comp, sum, pair, both, left, right}
use Rattle.algebra.specs.Totals.{total_ext}
use Rattle.algebra.specs.Entry.{same, entry, unit, U_run, entries}
use Rattle.algebra.specs.Run.{Row, Step, Run, value}

module _ {K : Ring} {I J O L1 U1 L2 U2 : Mod K} where
  abbrev pub prod_row : Row J O L1 U1 → Row I J L2 U2 → Hom U2 L1 → Hom L2 U1 → Row I O (pair L1 L2) (pair U1 U2)
  prod_row r1 r2 X Y = record {
    d = sum (comp r1.p (comp X r2.h)) (sum (comp r1.d r2.d) (comp r1.g (comp Y r2.q)));
    p = sum (comp r1.p (left L1 L2)) (comp (sum (comp r1.g (comp Y r2.a)) (comp r1.d r2.p)) (right L1 L2));
    a = both (sum (comp r1.a (left L1 L2)) (comp r1.q (comp r2.p (right L1 L2)))) (comp r2.a (right L1 L2));
    q = both (sum (comp r1.a (comp X r2.h)) (comp r1.q r2.d)) r2.q;
    g = sum (comp r1.g (left U1 U2)) (comp (sum (comp r1.p (comp X r2.b)) (comp r1.d r2.g)) (right U1 U2));
    b = both (sum (comp r1.b (left U1 U2)) (comp r1.h (comp r2.g (right U1 U2)))) (comp r2.b (right U1 U2));
    h = both (sum (comp r1.b (comp Y r2.q)) (comp r1.h r2.d)) r2.h;
  }

  -- X is before the row, X' after it, Y after it, Y' before it.
  module _ (r1 : Row J O L1 U1) (r2 : Row I J L2 U2) (X X' : Hom U2 L1) (Y Y' : Hom L2 U1)
      (eX : (u : U2.car) → X'.fn u ≡ L1.plus (r1.a.fn (X.fn (r2.b.fn u))) (r1.q.fn (r2.g.fn u)))
      (eY : (l : L2.car) → Y'.fn l ≡ U1.plus (r1.b.fn (Y.fn (r2.a.fn l))) (r1.h.fn (r2.p.fn l))) where
    pub inner : (x : I.car) (z : O.car) (lo lo' : L1.car × L2.car) (up up' : U1.car × U2.car)
        → Step (prod_row r1 r2 X Y) x z lo lo' up up' → Step r2 x (value r2 x lo.1 up'.1) lo.1 lo'.1 up.1 up'.1
    inner x z lo lo' up up' s = record { low = ap (λ t. t.1) s.low; upp = ap (λ t. t.1) s.upp; out = refl }

    raw : (x : I.car) (z : O.car) (α α' : L1.car) (β β' : L2.car) (δ δ' : U1.car) (γ γ' : U2.car)
        → Step r2 x (value r2 x β γ') β β' γ γ'
        → α' ≡ L1.plus (L1.plus (r1.a.fn α) (r1.q.fn (r2.p.fn β))) (L1.plus (r1.a.fn (X.fn (r2.h.fn x))) (r1.q.fn (r2.d.fn x)))
        → δ ≡ U1.plus (U1.plus (r1.b.fn δ') (r1.h.fn (r2.g.fn γ'))) (U1.plus (r1.b.fn (Y.fn (r2.q.fn x))) (r1.h.fn (r2.d.fn x)))
        → z ≡ O.plus (O.plus (r1.p.fn α) (O.plus (r1.g.fn (Y.fn (r2.a.fn β))) (r1.d.fn (r2.p.fn β))))
        (O.plus (O.plus (r1.p.fn (X.fn (r2.h.fn x))) (O.plus (r1.d.fn (r2.d.fn x)) (r1.g.fn (Y.fn (r2.q.fn x)))))
        (O.plus (r1.g.fn δ') (O.plus (r1.p.fn (X.fn (r2.b.fn γ'))) (r1.d.fn (r2.g.fn γ')))))
        → Step r1 (value r2 x β γ') z (L1.plus α (X.fn γ)) (L1.plus α' (X'.fn γ')) (U1.plus δ (Y'.fn β)) (U1.plus δ' (Y.fn β'))
    raw x z α α' β β' δ δ' γ γ' n l u o = record {
      low = simp (l, n.upp, lin, eX);
      upp = simp (u, n.low, lin, eY);
      out = simp (o, n.low, n.upp, lin);
    }

    pub outer : (x : I.car) (z : O.car) (lo lo' : L1.car × L2.car) (up up' : U1.car × U2.car)
        → Step (prod_row r1 r2 X Y) x z lo lo' up up'
        → Step r1 (value r2 x lo.1 up'.1) z (L1.plus lo.0 (X.fn up.1)) (L1.plus lo'.0 (X'.fn up'.1))
        (U1.plus up.0 (Y'.fn lo.1)) (U1.plus up'.0 (Y.fn lo'.1))
    outer x z lo lo' up up' s = raw x z lo.0 lo'.0 lo.1 lo'.1 up.0 up'.0 up.1 up'.1
        (inner x z lo lo' up up' s) (ap (λ t. t.0) s.low) (ap (λ t. t.0) s.upp) s.out

  -- The product's run on x is a run of table 2 on x, and of table 1 on what that gives.
  module _ (N : ℕ) (r1 : ℕ → Row J O L1 U1) (r2 : ℕ → Row I J L2 U2) (X : ℕ → Hom U2 L1) (Y : ℕ → Hom L2 U1)
      (X0 : (u : U2.car) → (X 0).fn u ≡ L1.zero) (YN : (l : L2.car) → (Y N).fn l ≡ U1.zero)
      (eX : (k : ℕ) → k < N → (u : U2.car) → (X (suc k)).fn u ≡ L1.plus ((r1 k).a.fn ((X k).fn ((r2 k).b.fn u))) ((r1 k).q.fn ((r2 k).g.fn u)))
      (eY : (k : ℕ) → k < N → (l : L2.car) → (Y k).fn l ≡ U1.plus ((r1 k).b.fn ((Y (suc k)).fn ((r2 k).a.fn l))) ((r1 k).h.fn ((r2 k).p.fn l))) where
    abbrev pub table : ℕ → Row I O (pair L1 L2) (pair U1 U2)
    table k = prod_row (r1 k) (r2 k) (X k) (Y (suc k))

    pub product : (x : ℕ → I.car) (z : ℕ → O.car) → Run N table x z → (y : ℕ → J.car) × Run N r2 x y × Run N r1 y z
    product x z R = (
      (λ k. value (r2 k) (x k) (R.lo k).1 (R.up (suc k)).1),
      record {
        lo = λ k. (R.lo k).1;
        up = λ k. (R.up k).1;
        lo0 = ap (λ t. t.1) R.lo0;
        up_n = ap (λ t. t.1) R.up_n;
        step = λ k h. inner (r1 k) (r2 k) (X k) (X (suc k)) (Y (suc k)) (Y k) (eX k h) (eY k h)
            (x k) (z k) (R.lo k) (R.lo (suc k)) (R.up k) (R.up (suc k)) (R.step k h);
      },
      record {
        lo = λ k. L1.plus (R.lo k).0 ((X k).fn (R.up k).1);
        up = λ k. U1.plus (R.up k).0 ((Y k).fn (R.lo k).1);
        lo0 = simp (X0, R.lo0, p_zero);
        up_n = simp (YN, R.up_n, p_zero);
        step = λ k h. outer (r1 k) (r2 k) (X k) (X (suc k)) (Y (suc k)) (Y k) (eX k h) (eY k h)
            (x k) (z k) (R.lo k) (R.lo (suc k)) (R.up k) (R.up (suc k)) (R.step k h);
      },
    )

    pub product_entry : (i j : ℕ) → i < N → j < N → (t : I.car) → entry table i j t ≡ total O N (λ k. entry r1 i k (entry r2 k j t))
    product_entry i j hi hj t =
        let p = product (unit I j t) _ (U_run N table j t hj) in
        same N r1 p.0 _ _ p.2 (entries N r1 p.0) i hi
        ∙ total_ext O N _ _ (λ k hk. ap (entry r1 i k) (same N r2 (unit I j t) _ _ p.1 (U_run N r2 j t hj) k hk))
