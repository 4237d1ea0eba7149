-- What holds in every commutative ring, and in every field.
use Rattle.std.specs.Prelude.{◌≢◌, ◌≡◌}
use mathlib.Core.HLevel.{hedberg}
use Rattle.std.proofs.Common.{sym, ap₂, ◌∙◌}
use Rattle.algebra.specs.Ring.{Ring, Field}

module _ (K : Ring) where
  open K use {car, zero, one, add as ◌⊕◌, mul as ◌⊗◌, neg, add_assoc, add_comm, add_zero, add_neg, mul_assoc, mul_comm, mul_add_lem}

  infixl 65 ◌⊕◌
  infixl 70 ◌⊗◌
  -- equality is decided, so the ring's elements form a set
  pub is_set : IsSet car
  is_set = hedberg K.dec

  pub add_left_comm : (x y z : car) → x ⊕ (y ⊕ z) ≡ y ⊕ (x ⊕ z)
  add_left_comm x y z = rw (← add_assoc, add_comm x y, add_assoc)

  pub mul_left_comm : (x y z : car) → x ⊗ (y ⊗ z) ≡ y ⊗ (x ⊗ z)
  mul_left_comm x y z = rw (← mul_assoc, mul_comm x y, mul_assoc)

  pub zero_add : (x : car) → zero ⊕ x ≡ x
  zero_add x = rw (add_comm, add_zero)

  pub mul_one : (x : car) → x ⊗ one ≡ x
  mul_one x = mul_comm x one ∙ K.one_mul x

  pub add_mul : (x y t : car) → (x ⊕ y) ⊗ t ≡ x ⊗ t ⊕ y ⊗ t
  add_mul x y t = mul_comm (x ⊕ y) t ∙ mul_add_lem t x y ∙ ap₂ ◌⊕◌ (mul_comm t x) (mul_comm t y)

  pub neg_add : (x : car) → neg x ⊕ x ≡ zero
  neg_add x = rw (add_comm, add_neg)

  neg_add_left : (x y : car) → neg x ⊕ (x ⊕ y) ≡ y
  neg_add_left x y = rw (← add_assoc, neg_add, zero_add)

  pub add_cancel : (x y z : car) → x ⊕ y ≡ x ⊕ z → y ≡ z
  add_cancel x y z e = sym (neg_add_left x y) ∙ rw e (neg_add_left x z)

  -- the negative is the only one
  pub neg_unique : (x y : car) → x ⊕ y ≡ zero → y ≡ neg x
  neg_unique x y e = add_cancel x y (neg x) (e ∙ sym (add_neg x))

  pub mul_zero : (x : car) → x ⊗ zero ≡ zero
  mul_zero x = add_cancel (x ⊗ zero) (x ⊗ zero) zero (rw (← mul_add_lem, add_zero, add_zero))

  pub zero_mul : (x : car) → zero ⊗ x ≡ zero
  zero_mul x = rw (mul_comm, mul_zero)

  pub mul_neg : (x y : car) → x ⊗ neg y ≡ neg (x ⊗ y)
  mul_neg x y = neg_unique (x ⊗ y) (x ⊗ neg y) (rw (← mul_add_lem, add_neg, mul_zero))

  pub neg_mul : (x y : car) → neg x ⊗ y ≡ neg (x ⊗ y)
  neg_mul x y = rw (mul_comm (neg x) y, mul_neg, mul_comm y x)

  pub neg_neg : (x : car) → neg (neg x) ≡ x
  neg_neg x = sym (neg_unique (neg x) x (neg_add x))

  pub neg_zero : neg zero ≡ zero
  neg_zero = sym (neg_unique zero zero (add_zero zero))

  pub neg_sum : (x y : car) → neg (x ⊕ y) ≡ neg x ⊕ neg y
  neg_sum x y = sym (neg_unique (x ⊕ y) (neg x ⊕ neg y) (rw (add_comm (neg x) (neg y), add_assoc, ← add_assoc y (neg y) (neg x), add_neg y, zero_add, add_neg)))

module _ {K : Ring} (F : Field K) where
  open K use {car, zero, one, mul as ◌⊗◌, inv, mul_assoc, mul_comm}

  infixl 70 ◌⊗◌
  pub mul_cancel : (x y z : car) → x ≢ zero → x ⊗ y ≡ x ⊗ z → y ≡ z
  mul_cancel x y z n e = sym (back y) ∙ rw e (back z)
    where
      back : (t : car) → inv x ⊗ (x ⊗ t) ≡ t
      back t = rw (← mul_assoc, mul_comm (inv x) x, F.mul_inv x n) (K.one_mul t)

  -- the inverse is the only one
  pub inv_unique : (x y : car) → x ⊗ y ≡ one → y ≡ inv x
  inv_unique x y e = mul_cancel x y (inv x) n (e ∙ sym (F.mul_inv x n))
    where
      n : x ≢ zero
      n z = F.one_ne_zero (sym e ∙ rw z (zero_mul K y))
