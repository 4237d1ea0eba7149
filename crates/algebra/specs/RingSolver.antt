-- A solver for commutative rings, by reflection: both sides of an equation are brought to sums of sorted products and compared by computing.
use Rattle.std.specs.Prelude.{◌≡◌}
use Rattle.std.proofs.Math.Path.{refl, sym, ap, ap₂}
use Rattle.std.proofs.Common.{◌∙◌}
use mathlib.Core.List.{List, [], ◌∷◌}
use Prim.Native.Nat.{ℕ, zero, suc, compare, Ordering}
use Rattle.algebra.specs.Ring.{Ring}
use Rattle.algebra.specs.RingLaws.{add_left_comm, mul_left_comm, zero_add, mul_one, add_mul, mul_zero, zero_mul, mul_neg, neg_mul, neg_neg, neg_zero}
use Rattle.algebra.specs.RingLaws.{neg_sum}

infixl 65 ◌⊞◌
infixl 70 ◌⊠◌
pub data Expr : Type 0 where
  v : ℕ → Expr
  O I : Expr
  ◌⊞◌ ◌⊠◌ : Expr → Expr → Expr
  ⊟ : Expr → Expr

abbrev pub Mono : Type 0
Mono = List ℕ

abbrev pub Poly : Type 0
Poly = List Mono

abbrev choose : {A : Type 0} → Ordering → A → A → A
choose Ordering.lt a b = a
choose Ordering.eq a b = a
choose Ordering.gt a b = b

abbrev pub then : Ordering → Ordering → Ordering
then Ordering.lt o = Ordering.lt
then Ordering.eq o = o
then Ordering.gt o = Ordering.gt

abbrev pub cmp_m : Mono → Mono → Ordering
cmp_m [] [] = Ordering.eq
cmp_m [] (y ∷ n) = Ordering.lt
cmp_m (x ∷ m) [] = Ordering.gt
cmp_m (x ∷ m) (y ∷ n) = then (compare x y) (cmp_m m n)

abbrev pub ins_m : ℕ → Mono → Mono
ins_m x [] = x ∷ []
ins_m x (y ∷ m) = choose (compare x y) (x ∷ y ∷ m) (y ∷ ins_m x m)

abbrev pub mul_m : Mono → Mono → Mono
mul_m [] n = n
mul_m (x ∷ m) n = ins_m x (mul_m m n)

abbrev pub ins_p : Mono → Poly → Poly
ins_p m [] = m ∷ []
ins_p m (n ∷ p) = choose (cmp_m m n) (m ∷ n ∷ p) (n ∷ ins_p m p)

abbrev pub add_p : Poly → Poly → Poly
add_p [] q = q
add_p (m ∷ p) q = ins_p m (add_p p q)

abbrev pub scale_p : Mono → Poly → Poly
scale_p m [] = []
scale_p m (n ∷ q) = ins_p (mul_m m n) (scale_p m q)

abbrev pub mul_p : Poly → Poly → Poly
mul_p [] q = []
mul_p (m ∷ p) q = add_p (scale_p m q) (mul_p p q)

-- what is added, and what is taken away
abbrev mutual
  pub plus : Expr → Poly
  plus (v k) = (k ∷ []) ∷ []
  plus O = []
  plus I = [] ∷ []
  plus (a ⊞ b) = add_p (plus a) (plus b)
  plus (a ⊠ b) = add_p (mul_p (plus a) (plus b)) (mul_p (less a) (less b))
  plus (⊟ a) = less a

  pub less : Expr → Poly
  less (v k) = []
  less O = []
  less I = []
  less (a ⊞ b) = add_p (less a) (less b)
  less (a ⊠ b) = add_p (mul_p (plus a) (less b)) (mul_p (less a) (plus b))
  less (⊟ a) = plus a

choose_at : {A B : Type 0} (f : A → B) (o : Ordering) (a b : A) (z : B) → f a ≡ z → f b ≡ z → f (choose o a b) ≡ z
choose_at f Ordering.lt a b z p q = p
choose_at f Ordering.eq a b z p q = p
choose_at f Ordering.gt a b z p q = q

module _ (K : Ring) where
  open K use {car, add as ◌⊕◌, mul as ◌⊗◌, neg, zero as 𝟘, one as 𝟙, add_assoc, add_comm, add_zero, add_neg, mul_assoc, mul_comm, mul_add_lem}

  infixl 65 ◌⊕◌
  infixl 70 ◌⊗◌
  abbrev pub at : List car → ℕ → car
  at [] k = 𝟘
  at (x ∷ ρ) zero = x
  at (x ∷ ρ) (suc k) = at ρ k

  abbrev pub eval : List car → Expr → car
  eval ρ (v k) = at ρ k
  eval ρ O = 𝟘
  eval ρ I = 𝟙
  eval ρ (a ⊞ b) = eval ρ a ⊕ eval ρ b
  eval ρ (a ⊠ b) = eval ρ a ⊗ eval ρ b
  eval ρ (⊟ a) = neg (eval ρ a)

  eval_m : List car → Mono → car
  eval_m ρ [] = 𝟙
  eval_m ρ (x ∷ m) = at ρ x ⊗ eval_m ρ m

  eval_p : List car → Poly → car
  eval_p ρ [] = 𝟘
  eval_p ρ (m ∷ p) = eval_m ρ m ⊕ eval_p ρ p

  module _ (ρ : List car) where
    ins_m_is : (x : ℕ) (m : Mono) → eval_m ρ (ins_m x m) ≡ at ρ x ⊗ eval_m ρ m
    unfolding eval_m
    ins_m_is x [] = refl
    ins_m_is x (y ∷ m) =
        choose_at (eval_m ρ) (compare x y) (x ∷ y ∷ m) (y ∷ ins_m x m) (at ρ x ⊗ (at ρ y ⊗ eval_m ρ m)) refl
        (ap (λ (z : car). at ρ y ⊗ z) (ins_m_is x m) ∙ mul_left_comm K (at ρ y) (at ρ x) (eval_m ρ m))

    mul_m_is : (m n : Mono) → eval_m ρ (mul_m m n) ≡ eval_m ρ m ⊗ eval_m ρ n
    unfolding eval_m
    mul_m_is [] n = sym (K.one_mul (eval_m ρ n))
    mul_m_is (x ∷ m) n =
        ins_m_is x (mul_m m n) ∙ ap (λ (z : car). at ρ x ⊗ z) (mul_m_is m n) ∙ sym (mul_assoc (at ρ x) (eval_m ρ m) (eval_m ρ n))

    ins_p_is : (m : Mono) (p : Poly) → eval_p ρ (ins_p m p) ≡ eval_m ρ m ⊕ eval_p ρ p
    unfolding eval_p
    ins_p_is m [] = refl
    ins_p_is m (n ∷ p) =
        choose_at (eval_p ρ) (cmp_m m n) (m ∷ n ∷ p) (n ∷ ins_p m p) (eval_m ρ m ⊕ (eval_m ρ n ⊕ eval_p ρ p)) refl
        (ap (λ (z : car). eval_m ρ n ⊕ z) (ins_p_is m p) ∙ add_left_comm K (eval_m ρ n) (eval_m ρ m) (eval_p ρ p))

    add_p_is : (p q : Poly) → eval_p ρ (add_p p q) ≡ eval_p ρ p ⊕ eval_p ρ q
    unfolding eval_p
    add_p_is [] q = sym (zero_add K (eval_p ρ q))
    add_p_is (m ∷ p) q =
        ins_p_is m (add_p p q) ∙ ap (λ (z : car). eval_m ρ m ⊕ z) (add_p_is p q) ∙ sym (add_assoc (eval_m ρ m) (eval_p ρ p) (eval_p ρ q))

    scale_p_is : (m : Mono) (q : Poly) → eval_p ρ (scale_p m q) ≡ eval_m ρ m ⊗ eval_p ρ q
    unfolding eval_p
    scale_p_is m [] = sym (mul_zero K (eval_m ρ m))
    scale_p_is m (n ∷ q) =
        ins_p_is (mul_m m n) (scale_p m q) ∙ ap₂ ◌⊕◌ (mul_m_is m n) (scale_p_is m q) ∙ sym (mul_add_lem (eval_m ρ m) (eval_m ρ n) (eval_p ρ q))

    mul_p_is : (p q : Poly) → eval_p ρ (mul_p p q) ≡ eval_p ρ p ⊗ eval_p ρ q
    unfolding eval_p
    mul_p_is [] q = sym (zero_mul K (eval_p ρ q))
    mul_p_is (m ∷ p) q =
        add_p_is (scale_p m q) (mul_p p q) ∙ ap₂ ◌⊕◌ (scale_p_is m q) (mul_p_is p q) ∙ sym (add_mul K (eval_m ρ m) (eval_p ρ p) (eval_p ρ q))

    add_parts : (a b c d : car) → (a ⊕ neg b) ⊕ (c ⊕ neg d) ≡ (a ⊕ c) ⊕ neg (b ⊕ d)
    add_parts a b c d = simp (neg_sum K, add_assoc, add_comm, add_left_comm K)

    mul_parts : (a b c d : car) → (a ⊕ neg b) ⊗ (c ⊕ neg d) ≡ (a ⊗ c ⊕ b ⊗ d) ⊕ neg (a ⊗ d ⊕ b ⊗ c)
    mul_parts a b c d = simp (mul_add_lem, add_mul K, mul_neg K, neg_mul K, neg_neg K, neg_sum K, add_assoc, add_comm, add_left_comm K)

    parts : (e : Expr) → eval ρ e ≡ eval_p ρ (plus e) ⊕ neg (eval_p ρ (less e))
    unfolding eval_p eval_m
    parts (v k) = sym (simp (neg_zero K, add_zero, mul_one K))
    parts O = sym (simp (neg_zero K, add_zero))
    parts I = sym (simp (neg_zero K, add_zero))
    parts (a ⊞ b) =
        ap₂ ◌⊕◌ (parts a) (parts b)
        ∙ add_parts (eval_p ρ (plus a)) (eval_p ρ (less a)) (eval_p ρ (plus b)) (eval_p ρ (less b))
        ∙ sym (ap₂ (λ (x y : car). x ⊕ neg y) (add_p_is (plus a) (plus b)) (add_p_is (less a) (less b)))
    parts (a ⊠ b) =
        ap₂ ◌⊗◌ (parts a) (parts b)
        ∙ mul_parts (eval_p ρ (plus a)) (eval_p ρ (less a)) (eval_p ρ (plus b)) (eval_p ρ (less b))
        ∙ sym
        (ap₂ (λ (x y : car). x ⊕ neg y)
        (add_p_is (mul_p (plus a) (plus b)) (mul_p (less a) (less b)) ∙ ap₂ ◌⊕◌ (mul_p_is (plus a) (plus b)) (mul_p_is (less a) (less b)))
        (add_p_is (mul_p (plus a) (less b)) (mul_p (less a) (plus b)) ∙ ap₂ ◌⊕◌ (mul_p_is (plus a) (less b)) (mul_p_is (less a) (plus b))))
    parts (⊟ a) =
        ap neg (parts a)
        ∙ simp (neg_sum K, neg_neg K) (add_comm (neg (eval_p ρ (plus a))) (eval_p ρ (less a)))

    cross : (x y z w : car) → x ⊕ w ≡ y ⊕ z → x ⊕ neg z ≡ y ⊕ neg w
    cross x y z w e = sym (drop x w z) ∙ ap (λ (t : car). t ⊕ neg w ⊕ neg z) e ∙ rw (add_assoc, add_comm (neg w) (neg z), ← add_assoc) (drop y z w)
      where
        drop : (x w z : car) → x ⊕ w ⊕ neg w ⊕ neg z ≡ x ⊕ neg z
        drop x w z = rw (add_assoc x w (neg w), add_neg, add_zero)

    -- a and b come to one normal form
    pub ring : (a b : Expr) → add_p (plus a) (less b) ≡ add_p (plus b) (less a) → eval ρ a ≡ eval ρ b
    ring a b e =
        parts a
        ∙ cross (eval_p ρ (plus a)) (eval_p ρ (plus b)) (eval_p ρ (less a)) (eval_p ρ (less b))
        (sym (add_p_is (plus a) (less b)) ∙ ap (eval_p ρ) e ∙ add_p_is (plus b) (less a))
        ∙ sym (parts b)

-- a term x in quotation marks: of atoms that stand in ρ. `search quotes` finds it.
pub data Quote (K : Ring) (ρ : List K.car) : K.car → Type 0 where
  q_v : (k : ℕ) → Quote K ρ (at K ρ k)
  q_0 : Quote K ρ K.zero
  q_1 : Quote K ρ K.one
  q_+ : {x y : K.car} → Quote K ρ x → Quote K ρ y → Quote K ρ (K.add x y)
  q_* : {x y : K.car} → Quote K ρ x → Quote K ρ y → Quote K ρ (K.mul x y)
  q_n : {x : K.car} → Quote K ρ x → Quote K ρ (K.neg x)

pub ruleset quotes = (q_0, q_1, q_+, q_*, q_n)

module _ {K : Ring} {ρ : List K.car} where
  abbrev pub expr : {x : K.car} → Quote K ρ x → Expr
  expr (q_v k) = v k
  expr q_0 = O
  expr q_1 = I
  expr (q_+ a b) = expr a ⊞ expr b
  expr (q_* a b) = expr a ⊠ expr b
  expr (q_n a) = ⊟ (expr a)

  quoted : {x : K.car} (q : Quote K ρ x) → eval K ρ (expr q) ≡ x
  quoted (q_v k) = refl
  quoted q_0 = refl
  quoted q_1 = refl
  quoted (q_+ a b) = ap₂ K.add (quoted a) (quoted b)
  quoted (q_* a b) = ap₂ K.mul (quoted a) (quoted b)
  quoted (q_n a) = ap K.neg (quoted a)

  -- both sides come to one normal form
  abbrev pub Same : {x y : K.car} → Quote K ρ x → Quote K ρ y → Type 0
  Same p q = add_p (plus (expr p)) (less (expr q)) ≡ add_p (plus (expr q)) (less (expr p))

  pub solve : {x y : K.car} (p : Quote K ρ x) (q : Quote K ρ y) → Same p q → x ≡ y
  solve p q e = sym (quoted p) ∙ ring K ρ (expr p) (expr q) e ∙ quoted q

-- `ring₂ K a b (search quotes) (search quotes) refl` proves an equation of a and b
module _ (K : Ring) where
  open K use {car}

  pub ring₁ : (a : car) {x y : car} → (let Q = Quote K (a ∷ []) in
      (p : Q a → Q x) (q : Q a → Q y) → Same (p (q_v 0)) (q (q_v 0)) → x ≡ y)
  ring₁ a p q e = solve (p (q_v 0)) (q (q_v 0)) e

  pub ring₂ : (a b : car) {x y : car} → (let Q = Quote K (a ∷ b ∷ []) in
      (p : Q a → Q b → Q x) (q : Q a → Q b → Q y) → Same (p (q_v 0) (q_v 1)) (q (q_v 0) (q_v 1)) → x ≡ y)
  ring₂ a b p q e = solve (p (q_v 0) (q_v 1)) (q (q_v 0) (q_v 1)) e

  pub ring₄ : (a b c d : car) {x y : car} → (let Q = Quote K (a ∷ b ∷ c ∷ d ∷ []) in
      (p : Q a → Q b → Q c → Q d → Q x) (q : Q a → Q b → Q c → Q d → Q y)
      → Same (p (q_v 0) (q_v 1) (q_v 2) (q_v 3)) (q (q_v 0) (q_v 1) (q_v 2) (q_v 3)) → x ≡ y)
  ring₄ a b c d p q e = solve (p (q_v 0) (q_v 1) (q_v 2) (q_v 3)) (q (q_v 0) (q_v 1) (q_v 2) (q_v 3)) e
