-- The product and the sum of two tables of generators stand for the product and the sum of their matrices.
use Rattle.std.specs.Prelude.{◌≡◌}
use Rattle.std.proofs.Math.Path.{refl, sym, ap, fun_ext}
use Rattle.std.proofs.Common.{◌∙◌}
use Prim.Native.Nat.{ℕ, zero, suc, ◌<◌, ◌+◌, ◌-◌}
use native.Mathlib.Omega.{arith}
use Rattle.algebra.specs.Ring.{Ring}
use Rattle.algebra.specs.Sums.{join}
use Rattle.algebra.specs.Linear.{Mod, Hom, comp, same_map}
use Rattle.algebra.specs.Coord.{self, vecs, cols, ray, two_cols, two_ray, cols_zero}
use Rattle.algebra.specs.RingLaws.{mul_one}
use Rattle.algebra.proofs.Join.{join_one, glue, cols_join, glue_ray, block}
use Rattle.algebra.specs.Totals.{total_ext}
use Rattle.algebra.specs.Product.{product_entry}
use Rattle.algebra.specs.Product.{prod_row}
use Rattle.algebra.specs.Carry.{Carry, carry_entry}
use Rattle.algebra.specs.Matrix.{column_of, times_m, Same}
use Rattle.algebra.specs.Generators.{Gens, product_g, products_g, x_states, y_states, entry_of}
use Rattle.algebra.proofs.Rows.{table_of, row_of, map_of, entry_is}

-- the block of `corners`, by its columns, times two columns one above the other
pub corner : (K : Ring) (n m1 m2 : ℕ) (u : ℕ → (vecs K).car) (A : Mod K) (f : Hom A (vecs K)) (e : ℕ → A.car) (v : ℕ → (vecs K).car)
    (w : (vecs K).car × (vecs K).car)
    → (cols {A = vecs K} (m1 + m2) (unfold vecs in λ j i. join m1 (λ l. join n (u l) (λ k. K.zero) i) (λ l. join n (f.fn (e l)) (v l) i) j)).fn
    ((glue K m1).fn w)
    ≡ (glue K n).fn ((vecs K).plus ((cols {A = vecs K} m1 u).fn w.0) (f.fn ((cols {A = A} m2 e).fn w.1)), (cols {A = vecs K} m2 v).fn w.1)
unfolding vecs glue
corner K n m1 m2 u A f e v w =
    ap (λ (c : ℕ → (vecs K).car). (cols {A = vecs K} (m1 + m2) c).fn ((glue K m1).fn w))
    (fun_ext (λ j. fun_ext (λ i. join_one (λ (t : ℕ → K.car). t i) m1 _ _ j)))
    ∙ cols_join K (vecs K) m1 m2 _ _ w ∙ block K n m1 m2 u A f e v w

module _ {K : Ring} (r1 s1 r2 s2 : ℕ → ℕ) (c1 c2 : ℕ → Gens K) where
  pub is_product : (k : ℕ) (X Y : ℕ → ℕ → K.car)
      → Carry (glue K (r1 k)) (glue K (r1 (suc k))) (glue K (s1 k)) (glue K (s1 (suc k)))
      (prod_row (table_of r1 s1 c1 k) (table_of r2 s2 c2 k) (map_of (s2 k) X) (map_of (r2 (suc k)) Y))
      (row_of (r1 k + r2 k) (s1 (suc k) + s2 (suc k)) (product_g r1 s1 r2 s2 c1 c2 k X Y))
  unfolding self vecs cols ray row_of map_of glue join
  is_product k X Y = record {
    cd = λ x. two_ray (comp p1 XH) (same_map (self K)) (c2 k).h _ _ refl x
        ∙ ap ((self K).plus (p1.fn (XH.fn ((ray {A = vecs K} (c2 k).h).fn x)))) (two_ray (ray (c1 k).d) (comp g1 YH) (c2 k).d (c2 k).q _ refl x);
    cp = λ l. cols_join K (self K) (r1 k) (r2 k) _ _ l ∙ ap ((self K).plus (p1.fn l.0))
        (two_cols (comp g1 YH) (ray (c1 k).d) (r2 k) (column_of (c2 k).a) (c2 k).p _ (λ j. refl) l.1);
    ca = λ l. corner K (r1 (suc k)) (r1 k) (r2 k) (column_of (c1 k).a) (self K) (ray (c1 k).q) (c2 k).p (column_of (c2 k).a) l;
    cq = λ x. glue_ray K (r1 (suc k)) _ _ x ∙ ap (λ t. (glue K (r1 (suc k))).fn (t, (ray {A = vecs K} (c2 k).q).fn x))
        (two_ray (comp a1 XH) (ray (c1 k).q) (c2 k).h (c2 k).d _ refl x);
    cg = λ u. cols_join K (self K) (s1 (suc k)) (s2 (suc k)) _ _ u ∙ ap ((self K).plus (g1.fn u.0))
        (two_cols (comp p1 XH) (ray (c1 k).d) (s2 (suc k)) (column_of (c2 k).b) (c2 k).g _ (λ j. refl) u.1);
    cb = λ u. corner K (s1 k) (s1 (suc k)) (s2 (suc k)) (column_of (c1 k).b) (self K) (ray (c1 k).h) (c2 k).g (column_of (c2 k).b) u;
    ch = λ x. glue_ray K (s1 k) _ _ x ∙ ap (λ t. (glue K (s1 k)).fn (t, (ray {A = vecs K} (c2 k).h).fn x))
        (two_ray (comp b1 YH) (ray (c1 k).h) (c2 k).q (c2 k).d _ refl x);
  }
    where
      p1 : Hom (vecs K) (self K)
      p1 = cols (r1 k) (c1 k).p

      g1 : Hom (vecs K) (self K)
      g1 = cols (s1 (suc k)) (c1 k).g

      a1 : Hom (vecs K) (vecs K)
      a1 = cols (r1 k) (column_of (c1 k).a)

      b1 : Hom (vecs K) (vecs K)
      b1 = cols (s1 (suc k)) (column_of (c1 k).b)

      XH : Hom (vecs K) (vecs K)
      XH = cols (s2 k) (column_of X)

      YH : Hom (vecs K) (vecs K)
      YH = cols (r2 (suc k)) (column_of Y)

  X_start : (u : (vecs K).car) → (map_of {K = K} (s2 0) (x_states r1 s1 r2 s2 c1 c2 0)).fn u ≡ (vecs K).zero
  unfolding x_states map_of vecs
  X_start u = cols_zero (vecs K) (s2 0) u

  Y_end : (N : ℕ) (l : (vecs K).car) → (map_of {K = K} (r2 N) (y_states r1 s1 r2 s2 c1 c2 (N - N) N)).fn l ≡ (vecs K).zero
  unfolding y_states map_of vecs
  Y_end N l = let e : N - N ≡ 0 = omega arith in rw e (cols_zero (vecs K) (r2 N) l)

  X_step : (k : ℕ) (u : (vecs K).car) → (map_of {K = K} (s2 (suc k)) (x_states r1 s1 r2 s2 c1 c2 (suc k))).fn u
      ≡ (vecs K).plus ((table_of r1 s1 c1 k).a.fn ((map_of {K = K} (s2 k) (x_states r1 s1 r2 s2 c1 c2 k)).fn ((table_of r2 s2 c2 k).b.fn u)))
      ((table_of r1 s1 c1 k).q.fn ((table_of r2 s2 c2 k).g.fn u))
  unfolding x_states map_of vecs self cols ray row_of
  X_step k u = two_cols (comp (table_of r1 s1 c1 k).a (map_of {K = K} (s2 k) (x_states r1 s1 r2 s2 c1 c2 k))) (table_of r1 s1 c1 k).q (s2 (suc k))
      (column_of (c2 k).b) (c2 k).g
      (column_of (x_states r1 s1 r2 s2 c1 c2 (suc k))) (λ j. refl) u

  Y_step : (N k : ℕ) → k < N → (l : (vecs K).car) → (map_of {K = K} (r2 k) (y_states r1 s1 r2 s2 c1 c2 (N - k) k)).fn l
      ≡ (vecs K).plus ((table_of r1 s1 c1 k).b.fn ((map_of {K = K} (r2 (suc k)) (y_states r1 s1 r2 s2 c1 c2 (N - suc k) (suc k))).fn ((table_of r2 s2 c2 k).a.fn l)))
      ((table_of r1 s1 c1 k).h.fn ((table_of r2 s2 c2 k).p.fn l))
  unfolding y_states map_of vecs self cols ray row_of
  Y_step N k h l = let e : N - k ≡ suc (N - suc k) = omega arith in
      rw e (two_cols (comp (table_of r1 s1 c1 k).b (map_of {K = K} (r2 (suc k)) (y_states r1 s1 r2 s2 c1 c2 (N - suc k) (suc k)))) (table_of r1 s1 c1 k).h (r2 k)
      (column_of (c2 k).a) (c2 k).p
      (column_of (y_states r1 s1 r2 s2 c1 c2 (suc (N - suc k)) k)) (λ j. refl) l)

  pub product_matrix : (N : ℕ) → Same K N (entry_of (λ k. r1 k + r2 k) (λ k. s1 k + s2 k) (products_g r1 s1 r2 s2 c1 c2 N))
      (times_m K N (entry_of r1 s1 c1) (entry_of r2 s2 c2))
  unfolding self products_g
  product_matrix N i j hi hj =
      sym (mul_one K _) ∙ sym (entry_is (λ k. r1 k + r2 k) (λ k. s1 k + s2 k) (products_g r1 s1 r2 s2 c1 c2 N) i j K.one)
      ∙ carry_entry (λ k. glue K (r1 k)) (λ k. glue K (s1 k)) N _ (table_of (λ k. r1 k + r2 k) (λ k. s1 k + s2 k) (products_g r1 s1 r2 s2 c1 c2 N))
      (λ k h. is_product k (x_states r1 s1 r2 s2 c1 c2 k) (y_states r1 s1 r2 s2 c1 c2 (N - suc k) (suc k))) i j hi hj K.one
      ∙ product_entry N (table_of r1 s1 c1) (table_of r2 s2 c2) (λ k. map_of (s2 k) (x_states r1 s1 r2 s2 c1 c2 k)) (λ k. map_of (r2 k) (y_states r1 s1 r2 s2 c1 c2 (N - k) k))
      X_start (Y_end N) (λ k h. X_step k) (Y_step N) i j hi hj K.one
      ∙ total_ext (self K) N _ _ (λ k h. entry_is r1 s1 c1 i k _ ∙ ap (K.mul (entry_of r1 s1 c1 i k)) (entry_is r2 s2 c2 k j K.one ∙ mul_one K _))
