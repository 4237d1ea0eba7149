-- States side by side.
use Rattle.std.specs.Prelude.{◌≡◌, refl}
use Rattle.std.proofs.Math.Path.{sym, ap, ap₂, fun_ext}
use Rattle.std.proofs.Common.{◌∙◌}
use Prim.Native.Nat.{ℕ, zero, suc, ◌<◌, ◌+◌}
use native.Mathlib.Omega.{arith}
use Rattle.algebra.specs.Ring.{Ring}
use Rattle.algebra.specs.Sums.{fold, join}
use Rattle.algebra.specs.Linear.{Mod, Hom, total, comp, pair, both, same_map, nil_map, p_zero, zero_p}
use Rattle.algebra.specs.Totals.{total_ext}
use Rattle.algebra.specs.Coord.{self, vecs, cols, ray, f_cols, two_cols}

pub join_two : {A B C : Type 0} (op : A → B → C) (n : ℕ) (u v : ℕ → A) (u' v' : ℕ → B) (i : ℕ)
    → join n (λ k. op (u k) (u' k)) (λ k. op (v k) (v' k)) i ≡ op (join n u v i) (join n u' v' i)
unfolding join
join_two op zero u v u' v' i = refl
join_two op (suc n) u v u' v' zero = refl
join_two op (suc n) u v u' v' (suc i) = join_two op n (λ k. u (suc k)) v (λ k. u' (suc k)) v' i

pub join_one : {A B : Type 0} (op : A → B) (n : ℕ) (u v : ℕ → A) (i : ℕ) → join n (λ k. op (u k)) (λ k. op (v k)) i ≡ op (join n u v i)
unfolding join
join_one op zero u v i = refl
join_one op (suc n) u v zero = refl
join_one op (suc n) u v (suc i) = join_one op n (λ k. u (suc k)) v i

pub join_left : {A : Type 0} (n : ℕ) (u v : ℕ → A) (i : ℕ) → i < n → join n u v i ≡ u i
unfolding join
join_left zero u v i h = absurd (omega arith)
join_left (suc n) u v zero h = refl
join_left (suc n) u v (suc i) h = join_left n (λ k. u (suc k)) v i (omega arith)

pub join_right : {A : Type 0} (n : ℕ) (u v : ℕ → A) (i : ℕ) → join n u v (n + i) ≡ v i
unfolding join
join_right zero u v i = let e : 0 + i ≡ i = omega arith in rw e refl
join_right (suc n) u v i = let e : suc n + i ≡ suc (n + i) = omega arith in rw e (join_right n (λ k. u (suc k)) v i)

module _ (K : Ring) where
  total_join : (A : Mod K) (m n : ℕ) (c d : ℕ → A.car) → total A (m + n) (join m c d) ≡ A.plus (total A m c) (total A n d)
  unfolding fold
  total_join A m zero c d = let e : m + 0 ≡ m = omega arith in rw e (total_ext A m _ _ (λ k h. join_left m c d k h) ∙ sym (A.add_zero _))
  total_join A m (suc n) c d = let e : m + suc n ≡ suc (m + n) = omega arith in
      rw e (ap₂ A.plus (total_join A m n c d) (join_right m c d n) ∙ A.assoc _ _ _)

  unfoldable pub glue : ℕ → Hom (pair (vecs K) (vecs K)) (vecs K)
  unfolding vecs
  glue n = record {
    fn = λ w. join n w.0 w.1;
    add = λ w w'. fun_ext (λ i. join_two K.add n w.0 w.1 w'.0 w'.1 i);
    scale = λ t w. fun_ext (λ i. join_one (λ x. K.mul x t) n w.0 w.1 i);
  }

  pub cols_join : (A : Mod K) (m n : ℕ) (c d : ℕ → A.car) (w : (vecs K).car × (vecs K).car)
      → (cols {A = A} (m + n) (join m c d)).fn ((glue m).fn w) ≡ A.plus ((cols {A = A} m c).fn w.0) ((cols {A = A} n d).fn w.1)
  unfolding cols glue vecs
  cols_join A m n c d w = A.many_is (m + n) _ ∙ ap (total A (m + n)) (fun_ext (λ j. sym (join_two A.smul m w.0 w.1 c d j))) ∙ total_join A m n _ _
      ∙ sym (ap₂ A.plus (A.many_is m _) (A.many_is n _))

  pub glue_ray : (n : ℕ) (c d : (vecs K).car) (t : (self K).car) → (ray {A = vecs K} ((glue n).fn (c, d))).fn t
      ≡ (glue n).fn ((ray {A = vecs K} c).fn t, (ray {A = vecs K} d).fn t)
  unfolding ray self
  glue_ray n c d t = sym ((glue n).scale t (c, d))

  module _ (n : ℕ) where
    inl : Hom (vecs K) (vecs K)
    inl = comp (glue n) (both (same_map (vecs K)) (nil_map (vecs K) (vecs K)))

    inr : Hom (vecs K) (vecs K)
    inr = comp (glue n) (both (nil_map (vecs K) (vecs K)) (same_map (vecs K)))

    glue_split : (u v : (vecs K).car) → (glue n).fn (u, v) ≡ (vecs K).plus (inl.fn u) (inr.fn v)
    unfolding inl inr
    glue_split u v = sym (sym ((glue n).add (u, (vecs K).zero) ((vecs K).zero, v)) ∙ ap (glue n).fn (λ i. (p_zero (vecs K) u i, zero_p (vecs K) v i)))

    -- c at upper left with m1 columns, f e at upper right and d at lower right with m2 columns
    pub block : (m1 m2 : ℕ) (c : ℕ → (vecs K).car) (A : Mod K) (f : Hom A (vecs K)) (e : ℕ → A.car) (d : ℕ → (vecs K).car) (w : (vecs K).car × (vecs K).car)
        → (vecs K).plus ((cols {A = vecs K} m1 (λ j. (glue n).fn (c j, (vecs K).zero))).fn w.0)
        ((cols {A = vecs K} m2 (λ j. (glue n).fn (f.fn (e j), d j))).fn w.1)
        ≡ (glue n).fn ((vecs K).plus ((cols {A = vecs K} m1 c).fn w.0) (f.fn ((cols {A = A} m2 e).fn w.1)), (cols {A = vecs K} m2 d).fn w.1)
    unfolding inl inr
    block m1 m2 c A f e d w =
        ap₂ (vecs K).plus (sym (f_cols inl m1 c w.0))
        (two_cols (comp inl f) inr m2 e d (λ j. (glue n).fn (f.fn (e j), d j)) (λ j. sym (glue_split _ _)) w.1)
        ∙ sym ((vecs K).assoc _ _ _) ∙ ap (λ t. (vecs K).plus t (inr.fn ((cols {A = vecs K} m2 d).fn w.1))) (sym (inl.add _ _)) ∙ sym (glue_split _ _)
