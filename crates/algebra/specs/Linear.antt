-- Modules over a ring, the maps between them, and the rules for `simp`.
use Rattle.std.specs.Prelude.{◌≡◌, refl, ℕ}
use Rattle.std.proofs.Common.{sym, ◌∙◌, ap}
use Rattle.algebra.specs.Ring.{Ring}
use Rattle.algebra.specs.Sums.{fold}

pub record Mod (K : Ring) : Type 1 where
  pub car : Type 0
  pub zero : car
  pub plus : car → car → car
  pub neg : car → car
  pub smul : K.car → car → car
  pub assoc : (x y z : car) → plus (plus x y) z ≡ plus x (plus y z)
  pub comm : (x y : car) → plus x y ≡ plus y x
  pub add_zero : (x : car) → plus x zero ≡ x
  pub add_neg : (x : car) → plus x (neg x) ≡ zero
  pub smul_add : (t : K.car) (x y : car) → smul t (plus x y) ≡ plus (smul t x) (smul t y)
  pub add_smul : (t u : K.car) (x : car) → smul (K.add t u) x ≡ plus (smul t x) (smul u x)
  pub mul_smul : (t u : K.car) (x : car) → smul (K.mul t u) x ≡ smul t (smul u x)
  pub one_smul : (x : car) → smul K.one x ≡ x
  pub many : ℕ → (ℕ → car) → car
  pub many_is : (n : ℕ) (f : ℕ → car) → many n f ≡ fold zero plus n f

pub record Hom {K : Ring} (A B : Mod K) : Type 0 where
  pub fn : A.car → B.car
  pub add : (x y : A.car) → fn (A.plus x y) ≡ B.plus (fn x) (fn y)
  pub scale : (t : K.car) (x : A.car) → fn (A.smul t x) ≡ B.smul t (fn x)

abbrev pub total : {K : Ring} (A : Mod K) → ℕ → (ℕ → A.car) → A.car
total A = fold A.zero A.plus

pub p_assoc : {K : Ring} (A : Mod K) (x y z : A.car) → A.plus (A.plus x y) z ≡ A.plus x (A.plus y z)
p_assoc A = A.assoc

pub p_comm : {K : Ring} (A : Mod K) (x y : A.car) → A.plus x y ≡ A.plus y x
p_comm A = A.comm

pub p_zero : {K : Ring} (A : Mod K) (x : A.car) → A.plus x A.zero ≡ x
p_zero A = A.add_zero

pub p_left : {K : Ring} (A : Mod K) (x y z : A.car) → A.plus x (A.plus y z) ≡ A.plus y (A.plus x z)
p_left A x y z = sym (A.assoc x y z) ∙ ap (λ u. A.plus u z) (A.comm x y) ∙ A.assoc y x z

pub m_add : {K : Ring} {A B : Mod K} (f : Hom A B) (x y : A.car) → f.fn (A.plus x y) ≡ B.plus (f.fn x) (f.fn y)
m_add f = f.add

pub m_scale : {K : Ring} {A B : Mod K} (f : Hom A B) (t : K.car) (x : A.car) → f.fn (A.smul t x) ≡ B.smul t (f.fn x)
m_scale f = f.scale

pub s_add : {K : Ring} (A : Mod K) (t : K.car) (x y : A.car) → A.smul t (A.plus x y) ≡ A.plus (A.smul t x) (A.smul t y)
s_add A = A.smul_add

pub ruleset ac = (p_assoc, p_comm, p_left)

pub ruleset lin = (m_add, p_assoc, p_comm, p_left)

-- Maps out of maps.
abbrev pub comp : {K : Ring} {A B C : Mod K} → Hom B C → Hom A B → Hom A C
comp f g = record { fn = λ x. f.fn (g.fn x); add = λ x y. simp m_add; scale = λ t x. simp m_scale }

abbrev pub sum : {K : Ring} {A B : Mod K} → Hom A B → Hom A B → Hom A B
sum {B = B} f g = record { fn = λ x. B.plus (f.fn x) (g.fn x); add = λ x y. simp lin; scale = λ t x. simp (m_scale, s_add) }

abbrev pub pair : {K : Ring} → Mod K → Mod K → Mod K
pair A B = record {
  car = A.car × B.car;
  zero = (A.zero, B.zero);
  plus = λ x y. (A.plus x.0 y.0, B.plus x.1 y.1);
  neg = λ x. (A.neg x.0, B.neg x.1);
  assoc = λ x y z. λ i. (A.assoc x.0 y.0 z.0 i, B.assoc x.1 y.1 z.1 i);
  comm = λ x y. λ i. (A.comm x.0 y.0 i, B.comm x.1 y.1 i);
  add_zero = λ x. λ i. (A.add_zero x.0 i, B.add_zero x.1 i);
  add_neg = λ x. λ i. (A.add_neg x.0 i, B.add_neg x.1 i);
  smul = λ t x. (A.smul t x.0, B.smul t x.1);
  smul_add = λ t x y. λ i. (A.smul_add t x.0 y.0 i, B.smul_add t x.1 y.1 i);
  add_smul = λ t u x. λ i. (A.add_smul t u x.0 i, B.add_smul t u x.1 i);
  mul_smul = λ t u x. λ i. (A.mul_smul t u x.0 i, B.mul_smul t u x.1 i);
  one_smul = λ x. λ i. (A.one_smul x.0 i, B.one_smul x.1 i);
  many = fold (A.zero, B.zero) (λ x y. (A.plus x.0 y.0, B.plus x.1 y.1));
  many_is = λ n f. refl;
}

abbrev pub both : {K : Ring} {A B C : Mod K} → Hom A B → Hom A C → Hom A (pair B C)
both f g = record { fn = λ x. (f.fn x, g.fn x); add = λ x y. λ i. (f.add x y i, g.add x y i); scale = λ t x. λ i. (f.scale t x i, g.scale t x i) }

abbrev pub left : {K : Ring} (A B : Mod K) → Hom (pair A B) A
left A B = record { fn = λ x. x.0; add = λ x y. refl; scale = λ t x. refl }

abbrev pub right : {K : Ring} (A B : Mod K) → Hom (pair A B) B
right A B = record { fn = λ x. x.1; add = λ x y. refl; scale = λ t x. refl }

pub cancel : {K : Ring} (A : Mod K) (z x y : A.car) → A.plus x z ≡ A.plus y z → x ≡ y
cancel A z x y e = back x ∙ ap (λ t. A.plus t (A.neg z)) e ∙ sym (back y)
  where
    back : (t : A.car) → t ≡ A.plus (A.plus t z) (A.neg z)
    back t = sym (A.assoc t z (A.neg z) ∙ ap (A.plus t) (A.add_neg z) ∙ A.add_zero t)

pub m_zero : {K : Ring} {A B : Mod K} (f : Hom A B) → f.fn A.zero ≡ B.zero
m_zero {A} {B} f = cancel B (f.fn A.zero) _ _ (sym (f.add _ _) ∙ ap f.fn (A.add_zero _) ∙ sym (A_zero (f.fn A.zero)))
  where
    A_zero : (x : B.car) → B.plus B.zero x ≡ x
    A_zero x = B.comm _ _ ∙ B.add_zero x

pub zero_p : {K : Ring} (A : Mod K) (x : A.car) → A.plus A.zero x ≡ x
zero_p A x = A.comm _ _ ∙ A.add_zero x

pub neg_p : {K : Ring} (A : Mod K) (x : A.car) → A.plus (A.neg x) x ≡ A.zero
neg_p A x = A.comm _ _ ∙ A.add_neg x

-- x − z + z
pub sub_p : {K : Ring} (A : Mod K) (x z : A.car) → A.plus (A.plus x (A.neg z)) z ≡ x
sub_p A x z = A.assoc _ _ _ ∙ ap (A.plus x) (neg_p A z) ∙ A.add_zero x

pub neg_zero : {K : Ring} (A : Mod K) → A.neg A.zero ≡ A.zero
neg_zero A = sym (zero_p A _) ∙ A.add_neg A.zero

pub gap : {K : Ring} (A : Mod K) (x w : A.car) → A.plus x (A.plus (A.plus (A.neg x) (A.neg w)) w) ≡ A.zero
gap A x w = ap (A.plus x) (sub_p A (A.neg x) w) ∙ A.add_neg x

pub neg_add : {K : Ring} (A : Mod K) (x y : A.car) → A.neg (A.plus x y) ≡ A.plus (A.neg x) (A.neg y)
neg_add A x y = cancel A (A.plus x y) _ _ (neg_p A _ ∙ sym all)
  where
    all : A.plus (A.plus (A.neg x) (A.neg y)) (A.plus x y) ≡ A.zero
    all = ap (A.plus _) (A.comm x y) ∙ A.assoc _ _ _ ∙ ap (A.plus (A.neg x)) (sym (A.assoc _ _ _) ∙ ap (λ t. A.plus t x) (neg_p A y)
        ∙ zero_p A x) ∙ neg_p A x

pub s_zero : {K : Ring} (A : Mod K) (t : K.car) → A.smul t A.zero ≡ A.zero
s_zero A t = cancel A (A.smul t A.zero) _ _ (sym (A.smul_add t _ _) ∙ ap (A.smul t) (A.add_zero _) ∙ sym (zero_p A _))

pub s_neg : {K : Ring} (A : Mod K) (t : K.car) (x : A.car) → A.smul t (A.neg x) ≡ A.neg (A.smul t x)
s_neg A t x = cancel A (A.smul t x) _ _ (sym (A.smul_add t _ _) ∙ ap (A.smul t) (neg_p A x) ∙ s_zero A t ∙ sym (neg_p A _))

abbrev pub minus : {K : Ring} {A B : Mod K} → Hom A B → Hom A B
minus {B = B} f = record {
  fn = λ x. B.neg (f.fn x);
  add = λ x y. ap B.neg (f.add x y) ∙ neg_add B _ _;
  scale = λ t x. ap B.neg (f.scale t x)
      ∙ sym (s_neg B t _);
}

abbrev pub same_map : {K : Ring} (A : Mod K) → Hom A A
same_map A = record { fn = λ x. x; add = λ x y. refl; scale = λ t x. refl }

abbrev pub nil_map : {K : Ring} (A B : Mod K) → Hom A B
nil_map A B = record { fn = λ x. B.zero; add = λ x y. sym (B.add_zero _); scale = λ t x. sym (s_zero B t) }

pub drop_p : {K : Ring} (A : Mod K) (a b w : A.car) → A.plus (A.plus a (A.neg w)) (A.plus b w) ≡ A.plus a b
drop_p A a b w = ap (A.plus _) (A.comm b w) ∙ A.assoc _ _ _ ∙ ap (A.plus a) (sym (A.assoc _ _ _) ∙ ap (λ t. A.plus t b) (neg_p A w) ∙ zero_p A b)

pub sub_via : {K : Ring} (A : Mod K) (x z w : A.car) → w ≡ A.plus x (A.neg z) → A.plus w z ≡ x
sub_via A x z w e = ap (λ t. A.plus t z) e ∙ sub_p A x z
