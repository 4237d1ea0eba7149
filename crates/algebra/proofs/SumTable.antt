-- The sum of two tables of generators, and the multiple of one.
use Rattle.std.specs.Prelude.{◌≡◌, ltb, Bool}
use Rattle.std.proofs.Math.Path.{refl, sym, ap, ap₂}
use Rattle.std.proofs.Common.{◌∙◌}
use Prim.Native.Nat.{ℕ, zero, suc, ◌<◌, ◌+◌, ◌-◌}
use Rattle.std.proofs.Math.Bool.{true, false}
use Rattle.algebra.specs.Ring.{Ring}
use Rattle.algebra.specs.Sums.{act, dot, join}
use Rattle.algebra.specs.Linear.{Mod, Hom, ac, comp, sum, pair, both, left, right, same_map, nil_map, p_zero}
use Rattle.algebra.specs.Run.{Row, Run, value}
use Rattle.algebra.specs.Entry.{unit, U_run, entry, same}
use Rattle.algebra.specs.Coord.{self, vecs, cols, ray, two_ray}
use Rattle.algebra.specs.RingLaws.{mul_one}
use Rattle.algebra.specs.SumLaws.{dot_scale}
use Rattle.algebra.proofs.Join.{glue, cols_join, glue_ray}
use Rattle.algebra.specs.Carry.{Carry, carry_entry}
use Rattle.algebra.specs.Matrix.{column_of, plus_m, Same}
use Rattle.algebra.specs.Generators.{Gens, pick, multiple_g, below, above, entry_of, sums_g}
use Rattle.algebra.proofs.Rows.{table_of, row_of, map_of, entry_is}
use Rattle.algebra.proofs.ProductTable.{corner}

module _ {K : Ring} {I O L1 U1 L2 U2 : Mod K} where
  abbrev sum_row_of : Row I O L1 U1 → Row I O L2 U2 → Row I O (pair L1 L2) (pair U1 U2)
  sum_row_of r1 r2 = record {
    d = sum r1.d r2.d;
    p = sum (comp r1.p (left L1 L2)) (comp r2.p (right L1 L2));
    a = both (comp r1.a (left L1 L2)) (comp r2.a (right L1 L2));
    q = both r1.q r2.q;
    g = sum (comp r1.g (left U1 U2)) (comp r2.g (right U1 U2));
    b = both (comp r1.b (left U1 U2)) (comp r2.b (right U1 U2));
    h = both r1.h r2.h;
  }

  module _ (N : ℕ) (r1 : ℕ → Row I O L1 U1) (r2 : ℕ → Row I O L2 U2) where
    sum_run : (x : ℕ → I.car) (y1 y2 : ℕ → O.car) → Run N r1 x y1 → Run N r2 x y2 → Run N (λ k. sum_row_of (r1 k) (r2 k)) x (λ k. O.plus (y1 k) (y2 k))
    sum_run x y1 y2 R1 R2 = record {
      lo = λ k. (R1.lo k, R2.lo k);
      up = λ k. (R1.up k, R2.up k);
      lo0 = λ i. (R1.lo0 i, R2.lo0 i);
      up_n = λ i. (R1.up_n i, R2.up_n i);
      step = λ k h. record {
        low = λ i. ((R1.step k h).low i, (R2.step k h).low i);
        upp = λ i. ((R1.step k h).upp i, (R2.step k h).upp i);
        out = simp ((R1.step k h).out, (R2.step k h).out, value, ac);
      };
    }

    sum_entry : (i j : ℕ) → i < N → j < N → (t : I.car) → entry (λ k. sum_row_of (r1 k) (r2 k)) i j t ≡ O.plus (entry r1 i j t) (entry r2 i j t)
    sum_entry i j hi hj t = same N (λ k. sum_row_of (r1 k) (r2 k)) (unit I j t) _ _ (U_run N _ j t hj)
        (sum_run (unit I j t) _ _ (U_run N r1 j t hj) (U_run N r2 j t hj)) i hi

module _ {K : Ring} (r1 s1 r2 s2 : ℕ → ℕ) (c1 c2 : ℕ → Gens K) where
  none : Hom (vecs K) (vecs K)
  none = nil_map (vecs K) (vecs K)

  is_sum : (k : ℕ) → Carry (glue K (r1 k)) (glue K (r1 (suc k))) (glue K (s1 k)) (glue K (s1 (suc k)))
      (sum_row_of (table_of r1 s1 c1 k) (table_of r2 s2 c2 k)) (table_of (λ k. r1 k + r2 k) (λ k. s1 k + s2 k) (sums_g r1 s1 r2 s2 c1 c2) k)
  unfolding self vecs cols ray row_of map_of glue join sums_g none
  is_sum k = record {
    cd = λ x. two_ray (same_map (self K)) (same_map (self K)) (c1 k).d (c2 k).d _ refl x;
    cp = λ l. cols_join K (self K) (r1 k) (r2 k) _ _ l;
    ca = λ l. corner K (r1 (suc k)) (r1 k) (r2 k) (column_of (c1 k).a) (vecs K) none (column_of (c2 k).a) (column_of (c2 k).a) l
        ∙ ap (λ t. (glue K (r1 (suc k))).fn (t, (cols {A = vecs K} (r2 k) (column_of (c2 k).a)).fn l.1)) (p_zero (vecs K) _);
    cq = λ x. glue_ray K (r1 (suc k)) _ _ x;
    cg = λ u. cols_join K (self K) (s1 (suc k)) (s2 (suc k)) _ _ u;
    cb = λ u. corner K (s1 k) (s1 (suc k)) (s2 (suc k)) (column_of (c1 k).b) (vecs K) none (column_of (c2 k).b) (column_of (c2 k).b) u
        ∙ ap (λ t. (glue K (s1 k)).fn (t, (cols {A = vecs K} (s2 (suc k)) (column_of (c2 k).b)).fn u.1)) (p_zero (vecs K) _);
    ch = λ x. glue_ray K (s1 k) _ _ x;
  }

  pub sum_matrix : (N : ℕ) → Same K N (entry_of (λ k. r1 k + r2 k) (λ k. s1 k + s2 k) (sums_g r1 s1 r2 s2 c1 c2)) (plus_m K (entry_of r1 s1 c1) (entry_of r2 s2 c2))
  unfolding self
  sum_matrix N i j hi hj =
      sym (mul_one K _) ∙ sym (entry_is (λ k. r1 k + r2 k) (λ k. s1 k + s2 k) (sums_g r1 s1 r2 s2 c1 c2) i j K.one)
      ∙ carry_entry (λ k. glue K (r1 k)) (λ k. glue K (s1 k)) N _ (table_of (λ k. r1 k + r2 k) (λ k. s1 k + s2 k) (sums_g r1 s1 r2 s2 c1 c2))
      (λ k h. is_sum k) i j hi hj K.one
      ∙ sum_entry N (table_of r1 s1 c1) (table_of r2 s2 c2) i j hi hj K.one
      ∙ ap₂ K.add (entry_is r1 s1 c1 i j K.one ∙ mul_one K _) (entry_is r2 s2 c2 i j K.one ∙ mul_one K _)

-- The multiple by t.
module _ {K : Ring} (t : K.car) (r s : ℕ → ℕ) (c : ℕ → Gens K) where
  below_kept : (n j : ℕ) → below r s (λ k. multiple_g t (c k)) n j ≡ below r s c n j
  unfolding below
  below_kept zero j = refl
  below_kept (suc n) j = ap (act K (r (suc n + j)) (c (suc n + j)).a) (below_kept n j)

  above_kept : (n i : ℕ) → above r s (λ k. multiple_g t (c k)) n i ≡ above r s c n i
  unfolding above
  above_kept zero i = refl
  above_kept (suc n) i = ap (act K (s (suc i)) (c i).b) (above_kept n (suc i))

  pub multiple_matrix : (i j : ℕ) → entry_of r s (λ k. multiple_g t (c k)) i j ≡ K.mul t (entry_of r s c i j)
  unfolding entry_of
  multiple_matrix i j = go (ltb j i) (ltb i j)
    where
      go : (x y : Bool) → pick x (dot K (r i) (λ k. K.mul t ((c i).p k)) (below r s (λ k. multiple_g t (c k)) (i - suc j) j))
          (pick y (dot K (s (suc i)) (λ k. K.mul t ((c i).g k)) (above r s (λ k. multiple_g t (c k)) (j - suc i) (suc i))) (K.mul t (c i).d))
          ≡ K.mul t (pick x (dot K (r i) (c i).p (below r s c (i - suc j) j))
          (pick y (dot K (s (suc i)) (c i).g (above r s c (j - suc i) (suc i))) (c i).d))
      go true y = ap (dot K (r i) (λ k. K.mul t ((c i).p k))) (below_kept (i - suc j) j) ∙ dot_scale K t (r i) (c i).p _
      go false true = ap (dot K (s (suc i)) (λ k. K.mul t ((c i).g k))) (above_kept (j - suc i) (suc i)) ∙ dot_scale K t (s (suc i)) (c i).g _
      go false false = refl
