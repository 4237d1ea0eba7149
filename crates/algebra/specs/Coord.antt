-- Coordinates: sums, a row times a column, a block times a column; and the maps that they are.
use Rattle.std.specs.Prelude.{◌≡◌}
use Rattle.std.proofs.Math.Path.{refl, sym, ap, fun_ext}
use Rattle.std.proofs.Common.{◌∙◌, ap₂}
use Prim.Native.Nat.{ℕ, zero, suc}
use Rattle.algebra.specs.Ring.{Ring}
use Rattle.algebra.specs.Sums.{fold, sum_to}
use Rattle.algebra.specs.RingLaws.{add_mul, mul_one}
use Rattle.algebra.specs.Linear.{Mod, Hom, total, m_zero, s_zero}
use Rattle.algebra.specs.Totals.{total_op, total_add, total_zero}

module _ (K : Ring) where
  pub mul_swap : (t u x : K.car) → K.mul x (K.mul t u) ≡ K.mul (K.mul x u) t
  mul_swap t u x = ap (K.mul x) (K.mul_comm t u) ∙ sym (K.mul_assoc x u t)

  -- the ring as a module over itself, and columns without end
  unfoldable pub self : Mod K
  self = record {
    car = K.car;
    zero = K.zero;
    plus = K.add;
    neg = K.neg;
    smul = λ t x. K.mul x t;
    assoc = K.add_assoc;
    comm = K.add_comm;
    add_zero = K.add_zero;
    add_neg = K.add_neg;
    smul_add = λ t x y. add_mul K x y t;
    add_smul = λ t u x. K.mul_add_lem x t u;
    mul_smul = mul_swap;
    one_smul = mul_one K;
    many = sum_to K;
    many_is = λ n f. refl;
  }

  pub pointwise : (n : ℕ) (f : ℕ → ℕ → K.car) (i : ℕ) → sum_to K n (λ j. f j i) ≡ fold (λ (k : ℕ). K.zero) (λ u v k. K.add (u k) (v k)) n f i
  unfolding fold
  pointwise zero f i = refl
  pointwise (suc n) f i = ap (λ t. K.add t (f n i)) (pointwise n f i)

  unfoldable pub vecs : Mod K
  vecs = record {
    car = ℕ → K.car;
    zero = λ i. K.zero;
    plus = λ u v i. K.add (u i) (v i);
    neg = λ u i. K.neg (u i);
    smul = λ t u i. K.mul (u i) t;
    assoc = λ x y z. fun_ext (λ i. K.add_assoc (x i) (y i) (z i));
    comm = λ x y. fun_ext (λ i. K.add_comm (x i) (y i));
    add_zero = λ x. fun_ext (λ i. K.add_zero (x i));
    add_neg = λ x. fun_ext (λ i. K.add_neg (x i));
    smul_add = λ t x y. fun_ext (λ i. add_mul K (x i) (y i) t);
    add_smul = λ t u x. fun_ext (λ i. K.mul_add_lem (x i) t u);
    mul_smul = λ t u x. fun_ext (λ i. mul_swap t u (x i));
    one_smul = λ x. fun_ext (λ i. mul_one K (x i));
    many = λ n f i. sum_to K n (λ j. f j i);
    many_is = λ n f. fun_ext (pointwise n f);
  }

module _ {K : Ring} where
  pub many_op : (A B : Mod K) (φ : A.car → B.car) → φ A.zero ≡ B.zero → ((x y : A.car) → φ (A.plus x y) ≡ B.plus (φ x) (φ y))
      → (n : ℕ) (f : ℕ → A.car) → φ (A.many n f) ≡ B.many n (λ j. φ (f j))
  many_op A B φ e0 e n f = ap φ (A.many_is n f) ∙ total_op A B φ e0 e n f ∙ sym (B.many_is n _)

  pub many_add : (A : Mod K) (n : ℕ) (f g : ℕ → A.car) → A.many n (λ j. A.plus (f j) (g j)) ≡ A.plus (A.many n f) (A.many n g)
  many_add A n f g = A.many_is n _ ∙ total_add A n f g ∙ sym (ap₂ A.plus (A.many_is n f) (A.many_is n g))

  -- the map whose n columns are c: into `vecs`, the block with these columns times v; into `self`, the row c times v
  unfoldable pub cols : {A : Mod K} → ℕ → (ℕ → A.car) → Hom (vecs K) A
  unfolding vecs
  cols {A} n c = record {
    fn = λ v. A.many n (λ j. A.smul (v j) (c j));
    add = λ v w. ap (A.many n) (fun_ext (λ j. A.add_smul (v j) (w j) (c j))) ∙ many_add A n _ _;
    scale = λ t v. ap (A.many n) (fun_ext (λ j. ap (λ u. A.smul u (c j)) (K.mul_comm (v j) t) ∙ A.mul_smul t (v j) (c j)))
        ∙ sym (many_op A A (A.smul t) (s_zero A t) (A.smul_add t) n _);
  }

  unfoldable pub ray : {A : Mod K} → A.car → Hom (self K) A
  unfolding self
  ray {A} c = record { fn = λ t. A.smul t c; add = λ t u. A.add_smul t u c; scale = λ t u. ap (λ v. A.smul v c) (K.mul_comm u t) ∙ A.mul_smul t u c }

  pub f_cols : {A B : Mod K} (f : Hom A B) (n : ℕ) (c : ℕ → A.car) (v : (vecs K).car) → f.fn ((cols {A = A} n c).fn v) ≡ (cols {A = B} n (λ j. f.fn (c j))).fn v
  unfolding cols vecs
  f_cols {A} {B} f n c v = many_op A B f.fn (m_zero f) f.add n _ ∙ ap (B.many n) (fun_ext (λ j. f.scale (v j) (c j)))

  pub f_ray : {A B : Mod K} (f : Hom A B) (c : A.car) (t : (self K).car) → f.fn ((ray {A = A} c).fn t) ≡ (ray {A = B} (f.fn c)).fn t
  unfolding ray self
  f_ray f c t = f.scale t c

  add_cols : (A : Mod K) (n : ℕ) (c d : ℕ → A.car) (v : (vecs K).car)
      → A.plus ((cols {A = A} n c).fn v) ((cols {A = A} n d).fn v) ≡ (cols {A = A} n (λ j. A.plus (c j) (d j))).fn v
  unfolding cols vecs
  add_cols A n c d v = sym (many_add A n _ _) ∙ ap (A.many n) (fun_ext (λ j. sym (A.smul_add (v j) (c j) (d j))))

  add_ray : (A : Mod K) (c d : A.car) (t : (self K).car) → A.plus ((ray {A = A} c).fn t) ((ray {A = A} d).fn t) ≡ (ray {A = A} (A.plus c d)).fn t
  unfolding ray self
  add_ray A c d t = sym (A.smul_add t c d)

-- i is one over m
unfoldable pub Recip : (K : Ring) → (self K).car → (self K).car → Type 0
unfolding self
Recip K m i = K.mul m i ≡ K.one

module _ (K : Ring) (m i : (self K).car) (e : Recip K m i) where
  pub ray_there : (w : (self K).car) → (ray {A = self K} m).fn ((ray {A = self K} i).fn w) ≡ w
  unfolding ray self Recip
  ray_there w = sym (K.mul_assoc m i w) ∙ ap (λ t. K.mul t w) e ∙ K.one_mul w

  pub ray_back : (w : (self K).car) → (ray {A = self K} i).fn ((ray {A = self K} m).fn w) ≡ w
  unfolding ray self Recip
  ray_back w = sym (K.mul_assoc i m w) ∙ ap (λ t. K.mul t w) (K.mul_comm i m ∙ e) ∙ K.one_mul w

  pub ray_over : (A : Mod K) (w : A.car) → (ray {A = A} ((ray {A = A} w).fn i)).fn m ≡ w
  unfolding ray self Recip
  ray_over A w = sym (A.mul_smul m i w) ∙ ap (λ t. A.smul t w) e ∙ A.one_smul w

module _ {K : Ring} {A B D : Mod K} (f : Hom A D) (g : Hom B D) where
  pub two_cols : (n : ℕ) (c : ℕ → A.car) (d : ℕ → B.car) (e : ℕ → D.car) → ((j : ℕ) → D.plus (f.fn (c j)) (g.fn (d j)) ≡ e j)
      → (v : (vecs K).car) → (cols {A = D} n e).fn v ≡ D.plus (f.fn ((cols {A = A} n c).fn v)) (g.fn ((cols {A = B} n d).fn v))
  two_cols n c d e h v = sym (ap₂ D.plus (f_cols f n c v) (f_cols g n d v) ∙ add_cols D n _ _ v ∙ ap (λ t. (cols {A = D} n t).fn v) (fun_ext h))

  pub two_ray : (c : A.car) (d : B.car) (e : D.car) → D.plus (f.fn c) (g.fn d) ≡ e
      → (t : (self K).car) → (ray {A = D} e).fn t ≡ D.plus (f.fn ((ray {A = A} c).fn t)) (g.fn ((ray {A = B} d).fn t))
  two_ray c d e h t = sym (ap₂ D.plus (f_ray f c t) (f_ray g d t) ∙ add_ray D _ _ t ∙ ap (λ u. (ray {A = D} u).fn t) h)

pub cols_zero : {K : Ring} (A : Mod K) (n : ℕ) (v : (vecs K).car) → (cols {A = A} n (λ j. A.zero)).fn v ≡ A.zero
unfolding cols vecs
cols_zero A n v = A.many_is n _ ∙ ap (total A n) (fun_ext (λ j. s_zero A (v j))) ∙ total_zero A n

pub ray_zero : (K : Ring) (A : Mod K) (t : (self K).car) → (ray {A = A} A.zero).fn t ≡ A.zero
unfolding ray self
ray_zero K A t = s_zero A t
