-- The inverse of a table of generators: with no zero pivot, its matrix times the table's is the identity, on either side.
use Rattle.std.specs.Prelude.{◌≢◌, ◌≡◌, refl}
use Rattle.std.proofs.Math.Path.{sym, ap, subst, fun_ext}
use Rattle.std.proofs.Common.{◌∙◌}
use Prim.Native.Nat.{ℕ, zero, suc, ◌<◌, ◌-◌}
use native.Mathlib.Omega.{arith}
use Rattle.algebra.specs.Ring.{Ring, Field}
use Rattle.algebra.specs.Linear.{Mod, Hom, comp, same_map, sub_p, sub_via}
use Rattle.algebra.specs.Run.{Run}
use Rattle.algebra.specs.Coord.{self, vecs, cols, ray, f_cols, f_ray, two_cols, two_ray, Recip, ray_there, ray_back, ray_over, cols_zero}
use Rattle.algebra.specs.RingLaws.{mul_one}
use Rattle.algebra.specs.Pivot.{Pivot, Factor}
use Rattle.algebra.specs.Matrix.{column_of, sends, times_m, identity, Same}
use Rattle.algebra.specs.Generators.{Gens, pivot_g, v_g, y_g, f_g, e_g, z_g, inverse_g, fs, pivots, vs, ys, zs, inverses_g, entry_of}
use Rattle.algebra.specs.Entry.{unit, U_run, same, run_out}
use Rattle.algebra.specs.Pivot.{solve, invert}
use Rattle.algebra.proofs.Rows.{table_of, entry_is, run_sends, sends_run, row_of, map_of, word_map, row_map, col_map}

-- x − a − b − c + (a + (b + c)) is x
sub3 : {K : Ring} (A : Mod K) (x a b c : A.car)
    → A.plus (A.plus (A.plus (A.plus x (A.neg a)) (A.neg b)) (A.neg c)) (A.plus a (A.plus b c)) ≡ x
sub3 A x a b c =
    ap (A.plus _) (A.comm a _ ∙ A.assoc b c a ∙ A.comm b _ ∙ A.assoc c a b) ∙ sym (A.assoc _ _ _)
    ∙ ap (λ t. A.plus t (A.plus a b)) (sub_p A _ c)
    ∙ ap (A.plus _) (A.comm a b) ∙ sym (A.assoc _ _ _) ∙ ap (λ t. A.plus t a) (sub_p A _ b) ∙ sub_p A x a

module _ {K : Ring} (r s s' : ℕ) (c : Gens K) (f : ℕ → ℕ → K.car) (i : K.car) (e : K.mul (pivot_g r s c f) i ≡ K.one) where
  pub is_factor : Factor (row_of r s' c) (word_map (pivot_g r s c f)) (row_map s' (v_g r s c f i)) (col_map (y_g r s c f i)) (map_of s f) (map_of s' (f_g r s c f i))
  unfolding self vecs cols ray row_of map_of word_map row_map col_map Recip
  is_factor = record {
    e_d = two_ray (same_map (self K)) (comp p F) (pivot_g r s c f) c.h c.d (sub_p (self K) _ _);
    e_g = two_cols (ray (pivot_g r s c f)) (comp p F) s' (v_g r s c f i) (column_of c.b) c.g
        (λ j. sub_via (self K) (c.g j) _ _ (ray_there K (pivot_g r s c f) i e _));
    e_q = two_ray (ray (y_g r s c f i)) (comp a F) (pivot_g r s c f) c.h c.q (sub_via (vecs K) c.q _ _ (ray_over K (pivot_g r s c f) i e (vecs K) _));
    e_f = two_cols (comp a F) (comp (ray (y_g r s c f i)) (ray (pivot_g r s c f))) s' (column_of c.b) (v_g r s c f i) (column_of (f_g r s c f i))
        (λ j. ap (λ t. (vecs K).plus (a.fn (F.fn (column_of c.b j))) ((ray {A = vecs K} (y_g r s c f i)).fn t)) (ray_there K (pivot_g r s c f) i e _));
  }
    where
      p : Hom (vecs K) (self K)
      p = cols r c.p

      a : Hom (vecs K) (vecs K)
      a = cols r (column_of c.a)

      F : Hom (vecs K) (vecs K)
      F = cols s (column_of f)

  module _ (r' : ℕ) (z : ℕ → ℕ → K.car) where
    pub is_pivot_lem : Pivot (row_of r s' c) (row_of r s' (inverse_g r' s' c i (v_g r s c f i) (y_g r s c f i) z)) (word_map (pivot_g r s c f)) (word_map i)
        (map_of s f) (map_of s' (f_g r s c f i)) (map_of r (z_g r' s' c i (v_g r s c f i) (y_g r s c f i) z)) (map_of r' z)
    unfolding self vecs cols ray row_of map_of word_map row_map col_map Recip
    is_pivot_lem = record {
      factor = is_factor;
      im = ray_back K (pivot_g r s c f) i e;
      mi = ray_there K (pivot_g r s c f) i e;
      e_a = two_cols (same_map (vecs K)) (ray y) r (column_of inv.a) c.p (column_of c.a) (λ j. sub_p (vecs K) _ _);
      e_b = two_cols (same_map (vecs K)) (ray c.h) s' (column_of inv.b) v (column_of c.b) (λ j. sub_p (vecs K) _ _);
      e_e = two_ray (same_map (self K)) (comp W Z) i y inv.d refl;
      b_t = λ l. sym (f_cols (comp W Z) r (column_of c.a) l ∙ two_cols (same_map (self K)) (ray inv.d) r inv.p c.p _ (λ j. sub_p (self K) _ _) l);
      b_u = λ o. sym (f_ray (comp B Z) y o ∙ two_ray (same_map (vecs K)) (ray c.h) inv.h inv.d _ (sub_p (vecs K) _ _) o);
      b_z = λ l. sym (f_cols (comp B Z) r (column_of c.a) l
          ∙ two_cols (same_map (vecs K)) (same_map (vecs K)) r (column_of z₀) rest _ (λ j. sub3 (vecs K) _ _ _ _) l
          ∙ ap ((vecs K).plus ((cols {A = vecs K} r (column_of z₀)).fn l)) (two_cols H' (same_map (vecs K)) r c.p last rest (λ j. refl) l
          ∙ ap ((vecs K).plus (H'.fn (p.fn l))) (two_cols (comp H E) H r c.p inv.p last (λ j. refl) l)));
    }
      where
        v : ℕ → K.car
        v = v_g r s c f i

        y : ℕ → K.car
        y = y_g r s c f i

        inv : Gens K
        inv = inverse_g r' s' c i v y z

        z₀ : ℕ → ℕ → K.car
        z₀ = z_g r' s' c i v y z

        W : Hom (vecs K) (self K)
        W = cols s' v

        Z : Hom (vecs K) (vecs K)
        Z = cols r' (column_of z)

        B : Hom (vecs K) (vecs K)
        B = cols s' (column_of c.b)

        p : Hom (vecs K) (self K)
        p = cols r c.p

        E : Hom (self K) (self K)
        E = ray inv.d

        H : Hom (self K) (vecs K)
        H = ray c.h

        H' : Hom (self K) (vecs K)
        H' = ray inv.h

        last : ℕ → (vecs K).car
        last j k = K.add (K.mul (c.h k) (K.mul inv.d (c.p j))) (K.mul (c.h k) (inv.p j))

        rest : ℕ → (vecs K).car
        rest j k = K.add (K.mul (inv.h k) (c.p j)) (last j k)

pub unit_is : (K : Ring) (i j : ℕ) → unit (self K) j (unfold self in K.one) i ≡ unfold self in identity K i j
unfolding unit identity self
unit_is K zero zero = refl
unit_is K zero (suc j) = refl
unit_is K (suc i) zero = refl
unit_is K (suc i) (suc j) = unit_is K i j

module _ {K : Ring} (F : Field K) (r s : ℕ → ℕ) (c : ℕ → Gens K) (N : ℕ) (ok : (k : ℕ) → k < N → pivots r s c k ≢ K.zero) where
  pub all_pivots : (k : ℕ) → k < N → Pivot (table_of r s c k) (table_of r s (inverses_g r s c N) k) (word_map (pivots r s c k)) (word_map (K.inv (pivots r s c k)))
      (map_of (s k) (fs r s c k)) (map_of (s (suc k)) (fs r s c (suc k))) (map_of (r k) (zs r s c (N - k) k)) (map_of (r (suc k)) (zs r s c (N - suc k) (suc k)))
  unfolding fs pivots vs ys zs inverses_g
  all_pivots k h = let e : N - k ≡ suc (N - suc k) = omega arith in
      rw e (is_pivot_lem (r k) (s k) (s (suc k)) (c k) (fs r s c k) (K.inv (pivots r s c k)) (F.mul_inv _ (ok k h)) (r (suc k)) (zs r s c (N - suc k) (suc k)))

  pub f_start : (u : (vecs K).car) → (map_of {K = K} (s 0) (fs r s c 0)).fn u ≡ (vecs K).zero
  unfolding fs map_of vecs
  f_start u = cols_zero (vecs K) (s 0) u

  pub z_end : (l : (vecs K).car) → (map_of {K = K} (r N) (zs r s c (N - N) N)).fn l ≡ (vecs K).zero
  unfolding zs map_of vecs
  z_end l = let e : N - N ≡ 0 = omega arith in rw e (cols_zero (vecs K) (r N) l)

  -- x goes to y by the table where y goes to x by the inverse, and the other way
  module _ (x y : ℕ → (self K).car) where
    pub run_back : Run N (table_of r s (inverses_g r s c N)) y x → Run N (table_of r s c) x y
    run_back = solve N (table_of r s c) (table_of r s (inverses_g r s c N)) (λ k. word_map (pivots r s c k)) (λ k. word_map (K.inv (pivots r s c k)))
        (λ k. map_of (s k) (fs r s c k)) (λ k. map_of (r k) (zs r s c (N - k) k)) f_start z_end all_pivots x y

    pub run_there : Run N (table_of r s c) x y → Run N (table_of r s (inverses_g r s c N)) y x
    run_there = invert N (table_of r s c) (table_of r s (inverses_g r s c N)) (λ k. word_map (pivots r s c k)) (λ k. word_map (K.inv (pivots r s c k)))
        (λ k. map_of (s k) (fs r s c k)) (λ k. map_of (r k) (zs r s c (N - k) k)) f_start z_end all_pivots x y

  -- the column j of a table's matrix is what the unit column j is sent to
  column : (c' : ℕ → Gens K) (j : ℕ) → j < N → Run N (table_of r s c') (unit (self K) j (unfold self in K.one)) (unfold self in λ i. entry_of r s c' i j)
  unfolding self
  column c' j h = subst (λ y. Run N (table_of r s c') (unit (self K) j K.one) y) (fun_ext (λ i. entry_is r s c' i j K.one ∙ mul_one K _))
      (U_run N (table_of r s c') j K.one h)

  pub table_inverse : Same K N (times_m K N (entry_of r s c) (entry_of r s (inverses_g r s c N))) (identity K)
  unfolding self
  table_inverse i j hi hj = sym (sends_run r s c N _ _ (run_back _ _ (column (inverses_g r s c N) j hj)) i hi) ∙ unit_is K i j

  pub inverse_table : Same K N (times_m K N (entry_of r s (inverses_g r s c N)) (entry_of r s c)) (identity K)
  unfolding self
  inverse_table i j hi hj = sym (sends_run r s (inverses_g r s c N) N _ _ (run_there _ _ (column c j hj)) i hi) ∙ unit_is K i j

  -- no two columns are sent to one
  pub one_to_one : (x x' : ℕ → K.car) → ((k : ℕ) → k < N → sends K N (entry_of r s c) x k ≡ sends K N (entry_of r s c) x' k)
      → (k : ℕ) → k < N → x k ≡ x' k
  unfolding self
  one_to_one x x' e k h = same N (table_of r s (inverses_g r s c N)) _ x x' (run_there x _ (run_sends r s c N x))
      (run_there x' _ (run_out N (table_of r s c) x' _ _ e (run_sends r s c N x'))) k h
